-- `listing::put_slot` meets its contract: nothing of a free slot, else its head and its rows. Assumes nothing.
use Rattle.listing.proofs.Laws.{part_long, head_room, rows_room, slot_done, free_written}
use Rattle.gateway_state.specs.Slots.{free_slot, slot_at}
use Rattle.gateway_state.specs.Places.{row_counts, place}
use Rattle.gateway_state.proofs.Theorems.{formed_slot}
use Rattle.neighbour.specs.Record.{idle}
use native.Mathlib.Omega.{arith}
use Rattle.listing.proofs.put_slot.Goals as goal

pub returns-then-slot-eq0 : goal.returns-then-slot-eq0
unfolding slot_at free_slot idle
returns-then-slot-eq0 c = free_written c.args.st c.args.i c.args.table.now _ c.if-slot-eq0.true

pub overflow_add-to : goal.overflow_add-to
unfolding slot_at free_slot idle place
overflow_add-to c = omega (arith, c.place-from.ensures (row_counts c.args.st), (formed_slot c.args.st c.args.i c.requires.st_value.0).1.few, c.requires.st_value.1, c.requires.st_value.2)

pub offset_bounds-table-from : goal.offset_bounds-table-from
unfolding slot_at free_slot idle place
offset_bounds-table-from c = omega (arith, c.place-from.ensures (row_counts c.args.st), (formed_slot c.args.st c.args.i c.requires.st_value.0).1.few, c.requires.st_value.1, c.requires.st_value.2)

pub slice_bounds-rows-end : goal.slice_bounds-rows-end
unfolding slot_at free_slot idle place
slice_bounds-rows-end c = omega (arith, c.place-from.ensures (row_counts c.args.st), (formed_slot c.args.st c.args.i c.requires.st_value.0).1.few, c.requires.st_value.1, c.requires.st_value.2)

pub put_head-requires-clause-i_bound : goal.put_head-requires-clause-i_bound
unfolding slot_at free_slot idle
put_head-requires-clause-i_bound c = (omega (arith, c.requires.st_value.1), part_long c.args.st c.args.i c.args.table.now (formed_slot c.args.st c.args.i c.requires.st_value.0).1.few c.place-from.result (c.place-from.ensures (row_counts c.args.st)))

pub put_head-requires-clause-rows_in_bounds : goal.put_head-requires-clause-rows_in_bounds
unfolding slot_at free_slot idle
put_head-requires-clause-rows_in_bounds c = head_room c.args.st c.args.i c.args.table.now (formed_slot c.args.st c.args.i c.requires.st_value.0).1.few c.place-from.result (c.place-from.ensures (row_counts c.args.st)) c.if-slot-eq0.false c.args.out.now c.requires.room

pub put_rows-requires : goal.put_rows-requires
unfolding slot_at free_slot idle
put_rows-requires c = rows_room c.args.st c.args.i c.args.table.now (formed_slot c.args.st c.args.i c.requires.st_value.0).1.few c.place-from.result (c.place-from.ensures (row_counts c.args.st)) c.if-slot-eq0.false c.args.out.now c.requires.room c.put_head.ensures

pub returns : goal.returns
unfolding slot_at free_slot idle
returns c = slot_done c.args.st c.args.i c.args.table.now (formed_slot c.args.st c.args.i c.requires.st_value.0).1.few c.place-from.result (c.place-from.ensures (row_counts c.args.st)) c.if-slot-eq0.false c.args.out.now c.requires.room c.put_head.ensures c.put_rows.ensures
