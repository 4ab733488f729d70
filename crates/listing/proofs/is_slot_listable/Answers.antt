-- `listing::is_slot_listable` meets its contract. Assumes nothing.
use Rattle.listing.proofs.Laws.{used_listable, free_listable}
use Rattle.gateway_state.specs.Slots.{free_slot, slot_at}
use Rattle.gateway_state.specs.Places.{row_counts, place}
use Rattle.gateway_state.proofs.Theorems.{formed_slot}
use Rattle.neighbour.specs.Record.{idle}
use mathlib.Core.Path.{sym, ◌∙◌}
use native.Mathlib.Omega.{arith}
use Rattle.listing.proofs.is_slot_listable.Goals as goal

pub returns-then-slot-eq0 : goal.returns-then-slot-eq0
unfolding slot_at free_slot idle
returns-then-slot-eq0 c = sym (free_listable c.args.st c.args.i c.args.table.now c.if-slot-eq0.true)

pub overflow_add-end : goal.overflow_add-end
unfolding slot_at free_slot idle place
overflow_add-end c = omega (arith, c.place-start.ensures (row_counts c.args.st), (formed_slot c.args.st c.args.i c.requires.0).1.few, c.requires.1, c.requires.2)

pub offset_bounds-table-start : goal.offset_bounds-table-start
unfolding slot_at free_slot idle place
offset_bounds-table-start c = omega (arith, c.place-start.ensures (row_counts c.args.st), (formed_slot c.args.st c.args.i c.requires.0).1.few, c.requires.1, c.requires.2)

pub slice_bounds-are_rows_marked-end : goal.slice_bounds-are_rows_marked-end
unfolding slot_at free_slot idle place
slice_bounds-are_rows_marked-end c = omega (arith, c.place-start.ensures (row_counts c.args.st), (formed_slot c.args.st c.args.i c.requires.0).1.few, c.requires.1, c.requires.2)

pub returns : goal.returns
unfolding slot_at free_slot idle
returns c = c.are_rows_marked.ensures ∙ used_listable c.args.st c.args.i c.args.table.now (formed_slot c.args.st c.args.i c.requires.0).1.few c.place-start.result (c.place-start.ensures (row_counts c.args.st)) c.if-slot-eq0.false
