-- `update_walk::value` meets its contract: the number so far, continued by the octets ahead, is the number of them all; it is below 256 to the power of the octets passed. Assumes nothing.
use lib.ListN.{drop}
use Rattle.update_walk.specs.Body.{extended, big_endian}
use mathlib.Core.Path.{◌≡◌}
use Prim.Native.Nat.{◌<◌, ◌^◌}
use Rattle.update_walk.proofs.value.Given as goal

abbrev pub invariant-loop-octet : goal.invariant-loop-octet
invariant-loop-octet l = (big_endian l.octets ≡ extended l.sum (drop l.octet-index l.octets)) × (l.sum < 256 ^ l.octet-index)
