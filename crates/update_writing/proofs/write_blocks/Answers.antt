use Rattle.std.proofs.Common.{arith, map}
use Rattle.std.proofs.lemmas.List.{length-map}
use Rattle.octets.proofs.Storing.{written_append}
use Rattle.update_writing.specs.Blocks.{side_rows, side_octets, blocks_written, internal_blocks, external_blocks}
use Rattle.update_writing.proofs.Runs.{sides_within}
use Rattle.update_writing.proofs.Order.{rows_ordered, sides}
use Rattle.update_writing.proofs.write_blocks.Goals as goal

pub internal_rows-requires : goal.internal_rows-requires
internal_rows-requires g c = rows_ordered g.R.LentRow.as_row c.args.net c.args.rows.now c.requires.net_value.1

pub split_at-requires : goal.split_at-requires
split_at-requires g c = omega (arith, c.internal_rows.ensures, sides_within (map g.R.LentRow.as_row c.args.rows.now), length-map c.args.rows.now g.R.LentRow.as_row)

pub write_side-internal-requires-clause-rows_len_bound : goal.write_side-internal-requires-clause-rows_len_bound
write_side-internal-requires-clause-rows_len_bound g c =
    let s = sides g.R.LentRow.as_row c.args.net c.args.rows.now c.split_at.result.0.now c.split_at.result.1.now c.internal_rows.result c.requires.net_value.0 c.requires.net_value.1 c.internal_rows.ensures c.split_at.ensures.front c.split_at.ensures.back in
    omega (arith, s.whole, s.most)

pub write_side-internal-requires-clause-rows_in_bounds : goal.write_side-internal-requires-clause-rows_in_bounds
write_side-internal-requires-clause-rows_in_bounds g c =
    let s = sides g.R.LentRow.as_row c.args.net c.args.rows.now c.split_at.result.0.now c.split_at.result.1.now c.internal_rows.result c.requires.net_value.0 c.requires.net_value.1 c.internal_rows.ensures c.split_at.ensures.front c.split_at.ensures.back in
    omega (arith, s.room, c.requires.rows_in_bounds)

pub write_side-external-requires-clause-rows_len_bound : goal.write_side-external-requires-clause-rows_len_bound
write_side-external-requires-clause-rows_len_bound g c =
    let s = sides g.R.LentRow.as_row c.args.net c.args.rows.now c.split_at.result.0.now c.split_at.result.1.now c.internal_rows.result c.requires.net_value.0 c.requires.net_value.1 c.internal_rows.ensures c.split_at.ensures.front c.split_at.ensures.back in
    omega (arith, s.whole, s.most)

pub write_side-external-requires-clause-rows_in_bounds : goal.write_side-external-requires-clause-rows_in_bounds
write_side-external-requires-clause-rows_in_bounds g c =
    let s = sides g.R.LentRow.as_row c.args.net c.args.rows.now c.split_at.result.0.now c.split_at.result.1.now c.internal_rows.result c.requires.net_value.0 c.requires.net_value.1 c.internal_rows.ensures c.split_at.ensures.front c.split_at.ensures.back in
    omega (arith, s.room, c.requires.rows_in_bounds, c.write_side-internal.ensures.written.after, c.write_side-internal.auto.out)

pub returns-clause-out_after : goal.returns-clause-out_after
unfolding blocks_written
returns-clause-out_after g c =
    let s = sides g.R.LentRow.as_row c.args.net c.args.rows.now c.split_at.result.0.now c.split_at.result.1.now c.internal_rows.result c.requires.net_value.0 c.requires.net_value.1 c.internal_rows.ensures c.split_at.ensures.front c.split_at.ensures.back in
    (written_append (side_octets c.args.net (side_rows 0 (map g.R.LentRow.as_row c.args.rows.now))) (side_octets c.args.net (side_rows 1 (map g.R.LentRow.as_row c.args.rows.now))) (rw s.first at c.write_side-internal.ensures.written) (rw s.second at c.write_side-external.ensures.written)).list

pub returns-clause-end_value : goal.returns-clause-end_value
unfolding blocks_written
returns-clause-end_value g c =
    let s = sides g.R.LentRow.as_row c.args.net c.args.rows.now c.split_at.result.0.now c.split_at.result.1.now c.internal_rows.result c.requires.net_value.0 c.requires.net_value.1 c.internal_rows.ensures c.split_at.ensures.front c.split_at.ensures.back in
    (written_append (side_octets c.args.net (side_rows 0 (map g.R.LentRow.as_row c.args.rows.now))) (side_octets c.args.net (side_rows 1 (map g.R.LentRow.as_row c.args.rows.now))) (rw s.first at c.write_side-internal.ensures.written) (rw s.second at c.write_side-external.ensures.written)).after

pub returns-clause-internal_value : goal.returns-clause-internal_value
unfolding internal_blocks
returns-clause-internal_value g c =
    let s = sides g.R.LentRow.as_row c.args.net c.args.rows.now c.split_at.result.0.now c.split_at.result.1.now c.internal_rows.result c.requires.net_value.0 c.requires.net_value.1 c.internal_rows.ensures c.split_at.ensures.front c.split_at.ensures.back in
    rw s.first at c.write_side-internal.ensures.count_value

pub returns-clause-external_value : goal.returns-clause-external_value
unfolding external_blocks
returns-clause-external_value g c =
    let s = sides g.R.LentRow.as_row c.args.net c.args.rows.now c.split_at.result.0.now c.split_at.result.1.now c.internal_rows.result c.requires.net_value.0 c.requires.net_value.1 c.internal_rows.ensures c.split_at.ensures.front c.split_at.ensures.back in
    rw s.second at c.write_side-external.ensures.count_value
