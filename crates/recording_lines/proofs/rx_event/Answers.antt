-- `recording_lines::rx_event` meets its contract. Assumes nothing.
use Rattle.std.proofs.Common.{sym, ◌∙◌}
use borrow.Author.Tests.{le-leb, lt-leb}
use Rattle.recording_lines.specs.Lines.{rx_event}
use Rattle.recording_lines.proofs.rx_event.Goals as goal
use Rattle.recording_lines.proofs.rx_event.Goals.{then-digits-gt4098-via-then-digits-gt4098, then-digits-gt4098-via-else-digits-gt4098+then-not-is_hex}

pub returns-then-digits-gt4098-clause-meaning : goal.returns-then-digits-gt4098-clause-meaning
unfolding rx_event
returns-then-digits-gt4098-clause-meaning c = elim c.then-digits-gt4098.branch [
  | then-digits-gt4098-via-then-digits-gt4098 w ↦ rw (lt-leb _ _ w.if-digits-gt4098.true) at (c.in_ok-address.ensures rx_event)
  | then-digits-gt4098-via-else-digits-gt4098+then-not-is_hex w ↦
      rw (le-leb _ _ w.if-digits-gt4098.false, sym w.is_hex.ensures ∙ w.if-not-is_hex.true) at (c.in_ok-address.ensures rx_event)
]

pub returns-clause-meaning : goal.returns-clause-meaning
unfolding rx_event
returns-clause-meaning c =
    rw (le-leb _ _ c.if-digits-gt4098.false, sym c.is_hex.ensures ∙ c.if-not-is_hex.false) at (c.in_ok-address.ensures rx_event)
