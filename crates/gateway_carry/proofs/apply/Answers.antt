use native.Mathlib.Omega.{arith}
use mathlib.Core.Path.{refl}
use Rattle.gateway_state.specs.Slots.{with_slot}
use Rattle.gateway_carry.specs.Asked.{ruling_of}
use Rattle.gateway_carry.proofs.Carrying.{carried}
use Rattle.gateway_carry.proofs.apply.Goals as goal

pub offset_bounds-st-i : goal.offset_bounds-st-i
offset_bounds-st-i c = omega (arith, c.requires.i_bound.0)

pub bounds-st-i : goal.bounds-st-i
bounds-st-i c = omega (arith, c.requires.i_bound.0)

pub returns-clause-value : goal.returns-clause-value
unfolding ruling_of with_slot
returns-clause-value c = carried c.args.st c.args.i (ruling_of c.args.v _) _ _ _ _ _ c.send-lengths.ensures.value (c.slot_after.ensures _ c.requires.home_value.1) refl

pub returns-clause-table_after : goal.returns-clause-table_after
unfolding ruling_of with_slot
returns-clause-table_after c = c.change_rows.ensures _

pub returns-clause-buffer_after : goal.returns-clause-buffer_after
unfolding ruling_of with_slot
returns-clause-buffer_after c = c.send-lengths.ensures.buffer_after
