-- `update_rows::put_each` meets its contract: what is left to store leaves the same as the whole. Assumes nothing.
use Rattle.update_rows.proofs.Laws.{done, stored, turn_room, turn_stored}
use native.Mathlib.Omega.{arith}
use Rattle.update_rows.proofs.put_each.Goals as goal

pub put-put-requires : goal.put-put-requires
put-put-requires g c = turn_room c.loop-element.invariant (omega arith)

pub loop-element-preserved : goal.loop-element-preserved
loop-element-preserved g c = turn_stored c.loop-element.invariant _ (omega arith) _ _ c.put-put.ensures

pub returns : goal.returns
returns g c = stored _ _ _ _ _ (done c.loop-element.invariant (omega arith))
