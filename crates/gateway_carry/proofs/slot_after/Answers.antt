-- `gateway_carry::slot_after` meets its contract. Assumes nothing.
use Rattle.gateway_carry.proofs.Rows.{slot_is}
use Rattle.gateway_carry.proofs.slot_after.Goals as goal

pub returns : goal.returns
returns c = slot_is _ _ _ c.count_after.ensures
