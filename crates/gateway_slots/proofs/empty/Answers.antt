use Rattle.gateway_slots.specs.Calls.{free_slots, empty_state}
use Rattle.gateway_slots.proofs.empty.Goals as goal

pub returns : goal.returns
unfolding empty_state free_slots
returns c = rw c.free_slot-slots.ensures
