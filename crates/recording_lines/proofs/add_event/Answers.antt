-- `recording_lines::add_event` meets its contract. Assumes nothing.
use Rattle.std.proofs.Common.{sym, ◌∙◌, arith}
use Rattle.text_values.specs.Numbers.{when_number}
use Rattle.text_values.proofs.Readings.{decimal_bound}
use Rattle.recording_lines.specs.Lines.{add_event}
use Rattle.recording_lines.proofs.add_event.Goals as goal

pub returns-in_err-read_decimal-clause-meaning : goal.returns-in_err-read_decimal-clause-meaning
unfolding add_event when_number
returns-in_err-read_decimal-clause-meaning c =
    let none = sym c.read_decimal.ensures ∙ c.in_err-read_decimal.was in
    rw c.from_residual-in_err-read_decimal.ensures (rw none at (c.in_ok-address.ensures add_event))

pub overflow_cast-result : goal.overflow_cast-result
overflow_cast-result c = omega (arith, decimal_bound 65535 _ _ (sym c.read_decimal.ensures ∙ c.in_ok-read_decimal.was))

pub returns-clause-meaning : goal.returns-clause-meaning
unfolding add_event when_number
returns-clause-meaning c =
    let asn = sym c.read_decimal.ensures ∙ c.in_ok-read_decimal.was in
    rw asn at (c.in_ok-address.ensures add_event)
