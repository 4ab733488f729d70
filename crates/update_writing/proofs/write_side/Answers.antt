use Rattle.std.proofs.Common.{rules, arith}
use Rattle.update_writing.specs.Blocks.{block_octets, side_octets}
use Rattle.update_writing.proofs.Loops.{runs_start, runs_done, next_run, run_most, run_room, run_counted, later_less, run_turn}
use Rattle.update_writing.proofs.write_side.Goals as goal

pub loop-block-init : goal.loop-block-init
unfolding side_octets
loop-block-init g c = runs_start g.R.LentRow.as_row (λ row. row.gateway) (block_octets c.args.net) c.args.rows.now c.args.at c.args.out.now c.requires.rows_in_bounds

pub write_block-end-requires-clause-in_bounds : goal.write_block-end-requires-clause-in_bounds
write_block-end-requires-clause-in_bounds g c =
    let n = next_run g.R.LentRow.as_row (λ row. row.gateway) c.chunk_by.ensures.rest c.in-Some.ensures.steps (λ a r h k. search rules) in
    (n.some, omega (arith, run_most g.R.LentRow.as_row c.loop-block.invariant n))

pub write_block-end-requires-clause-rows_in_bounds : goal.write_block-end-requires-clause-rows_in_bounds
write_block-end-requires-clause-rows_in_bounds g c =
    let n = next_run g.R.LentRow.as_row (λ row. row.gateway) c.chunk_by.ensures.rest c.in-Some.ensures.steps (λ a r h k. search rules) in
    run_room g.R.LentRow.as_row c.loop-block.invariant n

pub overflow_add-count : goal.overflow_add-count
overflow_add-count g c =
    let n = next_run g.R.LentRow.as_row (λ row. row.gateway) c.chunk_by.ensures.rest c.in-Some.ensures.steps (λ a r h k. search rules) in
    search (rules, run_counted g.R.LentRow.as_row c.loop-block.invariant n)

pub loop-block-smaller : goal.loop-block-smaller
loop-block-smaller g c =
    let n = next_run g.R.LentRow.as_row (λ row. row.gateway) c.chunk_by.ensures.rest c.in-Some.ensures.steps (λ a r h k. search rules) in
    later_less g.R.LentRow.as_row c.loop-block.invariant n

pub loop-block-preserved : goal.loop-block-preserved
loop-block-preserved g c =
    let n = next_run g.R.LentRow.as_row (λ row. row.gateway) c.chunk_by.ensures.rest c.in-Some.ensures.steps (λ a r h k. search rules) in
    run_turn g.R.LentRow.as_row c.loop-block.invariant n c.write_block-end.ensures

pub returns-clause-written : goal.returns-clause-written
unfolding side_octets
returns-clause-written g c = (runs_done g.R.LentRow.as_row c.loop-block.invariant (rw c.chunk_by.ensures.rest at c.in_default.ensures.steps.0)).0

pub returns-clause-count_value : goal.returns-clause-count_value
returns-clause-count_value g c = (runs_done g.R.LentRow.as_row c.loop-block.invariant (rw c.chunk_by.ensures.rest at c.in_default.ensures.steps.0)).1
