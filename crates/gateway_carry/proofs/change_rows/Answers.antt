-- `gateway_carry::change_rows` meets its contract, effect by effect. Assumes nothing.
use native.Mathlib.Omega.{arith}
use Rattle.gateway_carry.proofs.Rows.{place_room, change_keep, change_clear, change_asked, change_replace}
use Rattle.gateway_carry.proofs.change_rows.Goals as goal

pub overflow_add-end : goal.overflow_add-end
overflow_add-end c = omega (arith, place_room _ _ c.requires.i_bound.0 c.place-start.ensures, c.requires.i_bound.1)

pub offset_bounds-table-start : goal.offset_bounds-table-start
offset_bounds-table-start c = omega (arith, place_room _ _ c.requires.i_bound.0 c.place-start.ensures, c.requires.i_bound.1)

pub slice_bounds-clear-end : goal.slice_bounds-clear-end
slice_bounds-clear-end c = omega (arith, place_room _ _ c.requires.i_bound.0 c.place-start.ensures, c.requires.i_bound.1)

pub offset_bounds-table-start-in-Replace : goal.offset_bounds-table-start-in-Replace
offset_bounds-table-start-in-Replace c = omega (arith, place_room _ _ c.requires.i_bound.0 c.place-start.ensures, c.requires.i_bound.1)

pub slice_bounds-store_rows-end : goal.slice_bounds-store_rows-end
slice_bounds-store_rows-end c = omega (arith, place_room _ _ c.requires.i_bound.0 c.place-start.ensures, c.requires.i_bound.1)

pub store_rows-requires : goal.store_rows-requires
store_rows-requires c = change_asked _ _ c.requires.i_bound.0 c.requires.i_bound.1 _ c.place-start.ensures _ _ _ _ c.in-Replace.is c.requires.message_value

pub returns-in-Keep : goal.returns-in-Keep
returns-in-Keep c = change_keep _ _ c.requires.i_bound.0 c.requires.i_bound.1 _ c.place-start.ensures _ _ c.in-Keep.is

pub returns-in-Clear : goal.returns-in-Clear
returns-in-Clear c = change_clear _ _ c.requires.i_bound.0 c.requires.i_bound.1 _ c.place-start.ensures _ _ c.in-Clear.is _ c.clear.ensures

pub returns-in-Replace : goal.returns-in-Replace
returns-in-Replace c = change_replace _ _ c.requires.i_bound.0 c.requires.i_bound.1 _ c.place-start.ensures _ _ _ _ c.in-Replace.is c.requires.message_value _ c.store_rows.ensures
