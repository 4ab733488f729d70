use Rattle.std.proofs.Common.{rules, arith, refl, ◌+◌, ◌≤◌, length}
use Rattle.update_writing.specs.Blocks.{group_octets, groups_octets}
use Rattle.update_writing.proofs.Loops.{block_size, block_written, runs_start, runs_done, some_left, none_left, front_within, front_room, front_counted, front_turn, behind_less}
use Rattle.update_writing.proofs.write_block.Goals as goal

pub write_host-host-requires : goal.write_host-host-requires
write_host-host-requires g c =
    let s = block_size g.R.LentRow.as_row c.index-rows-0.result c.args.net c.args.rows.now c.requires.in_bounds.0 in
    rw (c.gateway.ensures, c.index-rows-0.is) (omega (arith, s))

pub overflow_add-end : goal.overflow_add-end
overflow_add-end g c =
    let s = rw (← c.index-rows-0.is, ← c.gateway.ensures) at (block_size g.R.LentRow.as_row c.index-rows-0.result c.args.net c.args.rows.now c.requires.in_bounds.0) in
    let h : c.write_host-host.result + 1 ≤ length c.args.out.now = omega (arith, s) in
    search rules

pub loop-rest-init : goal.loop-rest-init
unfolding groups_octets
loop-rest-init g c =
    let s = rw (← c.index-rows-0.is, ← c.gateway.ensures) at (block_size g.R.LentRow.as_row c.index-rows-0.result c.args.net c.args.rows.now c.requires.in_bounds.0) in
    runs_start g.R.LentRow.as_row (λ row. row.third) group_octets c.args.rows.now (c.write_host-host.result + 1) c.write_host-host.new.out
    (omega (arith, s, c.write_host-host.auto.out))

pub write_group-group-requires-clause-rows_in_bounds : goal.write_group-group-requires-clause-rows_in_bounds
write_group-group-requires-clause-rows_in_bounds g c = front_room g.R.LentRow.as_row c.loop-rest.invariant _ refl (some_left _ _ c.is_empty.ensures c.loop-rest-test.true)

pub overflow_add-count : goal.overflow_add-count
overflow_add-count g c = search (rules, front_counted g.R.LentRow.as_row c.loop-rest.invariant _ refl (some_left _ _ c.is_empty.ensures c.loop-rest-test.true))

pub offset_bounds-rest-group : goal.offset_bounds-rest-group
offset_bounds-rest-group g c = front_within g.R.LentRow.as_row c.loop-rest.invariant _ c.write_group-group.ensures.rows_value (some_left _ _ c.is_empty.ensures c.loop-rest-test.true)

pub slice_bounds-rest-count : goal.slice_bounds-rest-count
slice_bounds-rest-count g c = front_within g.R.LentRow.as_row c.loop-rest.invariant _ c.write_group-group.ensures.rows_value (some_left _ _ c.is_empty.ensures c.loop-rest-test.true)

pub slice_bounds-rest-start : goal.slice_bounds-rest-start
slice_bounds-rest-start g c = omega (arith, front_within g.R.LentRow.as_row c.loop-rest.invariant _ c.write_group-group.ensures.rows_value (some_left _ _ c.is_empty.ensures c.loop-rest-test.true))

pub loop-rest-smaller : goal.loop-rest-smaller
loop-rest-smaller g c = behind_less g.R.LentRow.as_row c.loop-rest.invariant _ c.write_group-group.ensures.rows_value (some_left _ _ c.is_empty.ensures c.loop-rest-test.true)

pub loop-rest-preserved : goal.loop-rest-preserved
loop-rest-preserved g c = front_turn g.R.LentRow.as_row c.loop-rest.invariant _ c.write_group-group.ensures.rows_value (some_left _ _ c.is_empty.ensures c.loop-rest-test.true) c.write_group-group.ensures.written

pub returns : goal.returns
unfolding groups_octets
returns g c =
    let d = runs_done g.R.LentRow.as_row c.loop-rest.invariant (none_left _ _ c.is_empty.ensures c.loop-rest-test.false) in
    block_written g.R.LentRow.as_row c.index-rows-0.result c.args.net c.args.rows.now c.requires.in_bounds.0 c.args.at c.args.out.now c.write_host-host.new.out c.loop-rest.out
    c.write_host-host.result c.loop-rest.end c.loop-rest.count (rw (c.gateway.ensures, c.index-rows-0.is) at c.write_host-host.ensures) d.0 d.1
