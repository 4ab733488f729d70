-- `put`: what is left to store gives what all of it gave at first. Assumes nothing.
use Prim.Native.Nat.{◌+◌}
use mathlib.Core.Path.{◌≡◌}
use lib.ListN.{length, drop}
use lib.Seq.{sets}
use Rattle.octets.proofs.put.Given as goal

abbrev pub invariant-loop-octet : goal.invariant-loop-octet
invariant-loop-octet l =
    (l.end ≡ l.at + l.octet-index) × (length l.out ≡ length l.initial.out) × (sets l.initial.out l.at l.octets ≡ sets l.out (l.at + l.octet-index) (drop l.octet-index l.octets))
