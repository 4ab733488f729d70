-- `update_walk::skip_nets` meets its contract: what is left to skip comes to the same as the whole. Assumes nothing.
use Rattle.update_walk.proofs.Turns.{Passing}
use Rattle.update_walk.specs.Body.{many, net_row}
use Prim.Native.Nat.{ℕ, ◌-◌}
use Rattle.update_walk.proofs.skip_nets.Given as goal

abbrev pub invariant-loop-net : goal.invariant-loop-net
invariant-loop-net l = (gateway third : ℕ) → Passing (many (net_row gateway third) l.count l.t) l._net (net_row gateway third) (l.count - l._net) l.t l.i
