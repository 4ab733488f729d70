-- `recording_trace::is_passed_over` meets its contract. Assumes nothing.
use Rattle.recording_trace.specs.Trace.{is_passed_over}
use Rattle.recording_trace.specs.Steps.{happened_in}
use Rattle.recording_trace.proofs.is_passed_over.Goals as goal

pub returns-then-t : goal.returns-then-t
unfolding is_passed_over
returns-then-t c = λ received. rw c.if-t.true

pub returns-then-not-is_tick : goal.returns-then-not-is_tick
unfolding is_passed_over happened_in
returns-then-not-is_tick c = λ received. rw (c.if-t.false, ← c.is_tick.ensures, c.if-not-is_tick.true)

pub returns : goal.returns
unfolding is_passed_over happened_in
returns c = λ received. rw (c.if-t.false, ← c.is_tick.ensures, c.if-not-is_tick.false) (c.is_quiet_tick.ensures received)
