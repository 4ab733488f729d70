-- `host_codec::same_octets` meets its contract. The loop keeps: what is left of both decides. Assumes nothing.
use Prim.Native.Nat.{◌-◌, ◌≤◌}
use mathlib.Core.Path.{◌≡◌}
use lib.ListN.{length, drop}
use Rattle.host_codec.specs.Codec.{same_octets}
use Rattle.host_codec.proofs.same_octets.Given as goal

abbrev pub invariant-loop-i : goal.invariant-loop-i
invariant-loop-i l = (l.i ≤ length l.octets) × (same_octets l.octets l.others ≡ same_octets (drop l.i l.octets) (drop l.i l.others))

abbrev pub decreases-loop-i : goal.decreases-loop-i
decreases-loop-i l = length l.octets - l.i
