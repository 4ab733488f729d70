-- `recording_trace::is_unchanged` meets its contract. Assumes nothing.
use borrow.Author.Tests.{eq-eqb, ne_eqb}
use Rattle.recording_trace.specs.Trace.{is_unchanged}
use Rattle.recording_trace.proofs.is_unchanged.Goals as goal

pub returns-then-from : goal.returns-then-from
unfolding is_unchanged
returns-then-from c = rw (← c.from.ensures, ← c.from-2.ensures, ne_eqb _ _ c.if-from.true)

pub returns-then-found-left : goal.returns-then-found-left
unfolding is_unchanged
returns-then-found-left c = rw (← c.from.ensures, ← c.from-2.ensures, eq-eqb _ _ c.if-from.false, ne_eqb _ _ c.if-found-left.true)

pub returns : goal.returns
unfolding is_unchanged
returns c = rw (← c.from.ensures, ← c.from-2.ensures, eq-eqb _ _ c.if-from.false, eq-eqb _ _ c.if-found-left.false)
