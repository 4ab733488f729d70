-- `recording_lines::tick_event` meets its contract. Assumes nothing.
use Rattle.std.proofs.Common.{sym, ◌∙◌}
use borrow.Author.Tests.{eq-eqb, ne_eqb}
use Rattle.text_values.specs.Numbers.{when_number}
use Rattle.recording_lines.specs.Lines.{tick_event}
use Rattle.recording_lines.proofs.tick_event.Goals as goal

pub returns-in_err-count-clause-meaning : goal.returns-in_err-count-clause-meaning
unfolding tick_event when_number
returns-in_err-count-clause-meaning c =
    let none = sym c.read_decimal.ensures ∙ c.in_err-count.was in
    rw c.from_residual-in_err-count.ensures (rw none at (c.in_ok-address.ensures tick_event))

pub returns-then-count-eq0-clause-meaning : goal.returns-then-count-eq0-clause-meaning
unfolding tick_event when_number
returns-then-count-eq0-clause-meaning c =
    let count = sym c.read_decimal.ensures ∙ c.in_ok-count.was in
    rw (count, eq-eqb _ _ c.if-count-eq0.true) at (c.in_ok-address.ensures tick_event)

pub returns-clause-meaning : goal.returns-clause-meaning
unfolding tick_event when_number
returns-clause-meaning c =
    let count = sym c.read_decimal.ensures ∙ c.in_ok-count.was in
    rw (count, ne_eqb _ _ c.if-count-eq0.false) at (c.in_ok-address.ensures tick_event)
