-- src/lib.rt:8:6
use mathlib.Core.Path.{refl}
use Rattle.host_result.specs.Packed.{packed}
use Rattle.host_result.proofs.pack.Goals as goal

-- src/lib.rt:5:1
pub returns : goal.returns
unfolding packed
returns c = refl
