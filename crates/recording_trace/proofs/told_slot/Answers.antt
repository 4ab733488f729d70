-- `recording_trace::told_slot` meets its contract. Assumes nothing.
use borrow.Author.Tests.{eq-eqb, ne_eqb}
use Rattle.recording_trace.specs.Trace.{told_slot}
use Rattle.recording_trace.proofs.told_slot.Goals as goal

pub returns-then-left-eq0 : goal.returns-then-left-eq0
unfolding told_slot
returns-then-left-eq0 c = rw (eq-eqb _ _ c.if-left-eq0.true)

pub returns : goal.returns
unfolding told_slot
returns c = rw (ne_eqb _ _ c.if-left-eq0.false)
