use Rattle.gateway_slots.proofs.add.Goals as goal

pub returns-in-Ok : goal.returns-in-Ok
returns-in-Ok c = rw (c.carried_out.ensures, c.with_slot.ensures, c.new_slot.ensures) (rw c.in-Ok.is at c.place_for.ensures)

pub returns-in-Err : goal.returns-in-Err
returns-in-Err c = rw (c.refused.ensures, c.from.ensures) (rw c.in-Err.is at c.place_for.ensures)
