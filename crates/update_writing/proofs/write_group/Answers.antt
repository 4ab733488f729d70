use Rattle.std.proofs.Common.{arith, length-set, sym, ◌∙◌}
use Rattle.update_writing.proofs.Loops.{run_agrees, group_size, group_most, group_written}
use Rattle.update_writing.proofs.write_group.Goals as goal

pub bounds-out-at : goal.bounds-out-at
bounds-out-at g c = omega (arith, group_size g.R.LentRow.as_row c.index-rows-0.result c.args.rows.now c.requires.in_bounds.0, c.requires.rows_in_bounds)

pub write_nets-group-requires : goal.write_nets-group-requires
write_nets-group-requires g c =
    rw (c.third-third.ensures, c.index-rows-0.is)
    (simp length-set (omega (arith, group_size g.R.LentRow.as_row c.index-rows-0.result c.args.rows.now c.requires.in_bounds.0, c.requires.rows_in_bounds)))

pub overflow_cast-out-2 : goal.overflow_cast-out-2
overflow_cast-out-2 g c =
    let n = rw (c.third-third.ensures, c.index-rows-0.is) at c.write_nets-group.ensures.rows_value in
    omega (arith, n, run_agrees g.R.LentRow.as_row c.index-rows-0.result c.args.rows.now c.requires.in_bounds.0, group_most g.R.LentRow.as_row c.index-rows-0.result c.args.rows.now c.requires.in_bounds.0, c.requires.in_bounds.1)

pub bounds-out-at-2 : goal.bounds-out-at-2
bounds-out-at-2 g c =
    omega (arith, group_size g.R.LentRow.as_row c.index-rows-0.result c.args.rows.now c.requires.in_bounds.0, c.requires.rows_in_bounds, simp length-set at c.write_nets-group.auto.out)

pub returns-clause-written : goal.returns-clause-written
returns-clause-written g c =
    let w = rw (c.third-third.ensures, c.index-rows-0.is) at c.write_nets-group.ensures.written in
    let n = rw (c.third-third.ensures, c.index-rows-0.is) at c.write_nets-group.ensures.rows_value in
    group_written g.R.LentRow.as_row c.index-rows-0.result c.args.rows.now c.requires.in_bounds.0 c.args.at c.args.out.now c.write_nets-group.new.out c.write_nets-group.result.end c.write_nets-group.result.rows w n

pub returns-clause-rows_value : goal.returns-clause-rows_value
returns-clause-rows_value g c =
    let n = rw (c.third-third.ensures, c.index-rows-0.is) at c.write_nets-group.ensures.rows_value in
    n ∙ sym (run_agrees g.R.LentRow.as_row c.index-rows-0.result c.args.rows.now c.requires.in_bounds.0)
