-- `recording_course::rest_of` meets its contract. Assumes nothing.
use Rattle.recording_course.proofs.Laws.{rest_none, rest_some}
use Rattle.recording_course.proofs.rest_of.Goals as goal

pub returns-then-end-from : goal.returns-then-end-from
returns-then-end-from c = let a = c.args in rest_none a.from a.to a.piece.now _ c.min-end.ensures c.if-end-from.true

pub returns : goal.returns
returns c = let a = c.args in rest_some a.from a.to a.piece.now _ c.min-end.ensures
