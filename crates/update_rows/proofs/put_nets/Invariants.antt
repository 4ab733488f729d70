-- `update_rows::put_nets` meets its contract: what is left to store leaves the same as the whole. Assumes nothing.
use Rattle.update_rows.proofs.Laws.{Doing, final}
use Rattle.update_walk.specs.Body.{many, net_row}
use lib.ListN.{length, drop}
use Prim.Native.Nat.{◌≤◌, ◌-◌}
use Rattle.update_rows.proofs.put_nets.Given as goal

abbrev pub invariant-loop-net : goal.invariant-loop-net
invariant-loop-net g l =
    (l.i ≤ length l.t)
    × Doing (final (many (net_row l.gateway l.third) l.count l.t) l.fn.at (g.U.TableUnit.numbers l.initial.part)) (length (g.U.TableUnit.numbers l.initial.part)) (net_row l.gateway l.third) (l.count - l._net) (drop l.i l.t) l.at (g.U.TableUnit.numbers l.part)
