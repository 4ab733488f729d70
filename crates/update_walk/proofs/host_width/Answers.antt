-- `update_walk::host_width` meets its contract: four less the net's width. Assumes nothing.
use Rattle.update_walk.proofs.Laws.{width_small}
use Rattle.update_walk.specs.Body.{host_width}
use Rattle.nets.specs.Classes.{first_octet}
use native.Mathlib.Omega.{arith}
use mathlib.Core.Path.{ap}
use Prim.Native.Nat.{ℕ, ◌-◌}
use Rattle.update_walk.proofs.host_width.Goals as goal

pub overflow_sub-result : goal.overflow_sub-result
overflow_sub-result c = omega (arith, c.width_of.ensures, width_small (first_octet c.args.net))

pub returns : goal.returns
unfolding host_width
returns c = ap (λ (w : ℕ). 4 - w) c.width_of.ensures
