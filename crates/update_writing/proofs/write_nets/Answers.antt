use Rattle.std.proofs.Common.{◌∙◌, sym}
use Rattle.update_writing.proofs.Loops.{nets_start, nets_stop, nets_room, nets_turn, nets_done}
use Rattle.update_writing.proofs.write_nets.Goals as goal

pub loop-row-init : goal.loop-row-init
loop-row-init g c = nets_start g.R.LentRow.as_row c.args.third c.args.rows.now c.args.at c.args.out.now c.requires

pub returns-then-third : goal.returns-then-third
returns-then-third g c =
    let n = nets_stop g.R.LentRow.as_row c.loop-row.invariant c.row-item.result c.row-item.is c.loop-row-test.true (rw c.third.ensures at c.if-third.true) in
    record { written = n.0; rows_value = n.1 }

pub write_net-end-requires : goal.write_net-end-requires
write_net-end-requires g c =
    rw c.net.ensures (nets_room g.R.LentRow.as_row c.loop-row.invariant c.row-item.result c.row-item.is c.loop-row-test.true (sym c.third.ensures ∙ c.if-third.false))

pub loop-row-preserved : goal.loop-row-preserved
loop-row-preserved g c =
    nets_turn g.R.LentRow.as_row c.loop-row.invariant c.row-item.result c.row-item.is c.loop-row-test.true (sym c.third.ensures ∙ c.if-third.false) (rw c.net.ensures at c.write_net-end.ensures)

pub returns : goal.returns
returns g c = let n = nets_done g.R.LentRow.as_row c.loop-row.invariant c.loop-row-test.false in record { written = n.0; rows_value = n.1 }
