use Rattle.gateway_state.proofs.new_slot.Goals as goal

pub returns : goal.returns
returns c = rw (c.idle.ensures, c.none.ensures)
