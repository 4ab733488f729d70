use Rattle.gateway_state.specs.Slots.{free_slot}
use Rattle.gateway_state.proofs.free_slot.Goals as goal

pub returns : goal.returns
unfolding free_slot
returns c = c.new_slot.ensures
