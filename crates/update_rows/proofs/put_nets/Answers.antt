-- `update_rows::put_nets` meets its contract: what is left to store leaves the same as the whole. Assumes nothing.
use Rattle.checks.proofs.Laws.{part_from_lem}
use Rattle.update_rows.proofs.Laws.{fin, stored, done, net_some, net_fits, net_room, turn_net}
use mathlib.Core.Path.{sym, ap, ◌∙◌}
use native.Mathlib.Omega.{arith}
use Rattle.update_rows.proofs.put_nets.Goals as goal

pub net_at-net-requires : goal.net_at-net-requires
net_at-net-requires g c = (net_some _ _ c.args.t.now c.loop-net.i c.loop-net.invariant.1 (omega arith), net_fits _ _ c.args.t.now c.loop-net.i c.loop-net.invariant.1 (omega arith))

pub put_row-requires : goal.put_row-requires
put_row-requires g c = net_room _ _ c.args.t.now c.loop-net.i c.loop-net.invariant.1 (omega arith)

pub overflow_add-i : goal.overflow_add-i
overflow_add-i g c = omega (arith, c.net_at-net.ensures.width, net_fits _ _ c.args.t.now c.loop-net.i c.loop-net.invariant.1 (omega arith))

pub overflow_add-at : goal.overflow_add-at
overflow_add-at g c = omega (arith, net_room _ _ c.args.t.now c.loop-net.i c.loop-net.invariant.1 (omega arith), g.met.U.TableUnit.few c.loop-net.part, c.well_formed.0)

pub loop-net-preserved : goal.loop-net-preserved
loop-net-preserved g c = (
  omega (arith, c.net_at-net.ensures.width, net_fits _ _ c.args.t.now c.loop-net.i c.loop-net.invariant.1 (omega arith)),
  turn_net _ _ c.args.t.now c.loop-net.i c.loop-net.invariant.1 (omega arith) _ _ _ c.net_at-net.ensures.width c.net_at-net.ensures.number c.put_row.ensures _ (omega arith),
)

pub returns : goal.returns
returns g c = stored _ _ _ _ _ (done c.loop-net.invariant.1 (omega arith) ∙ ap (fin (g.U.TableUnit.numbers c.loop-net.part) c.loop-net.at) (sym (part_from_lem c.loop-net.i c.args.t.now)))
