-- Laws of octets laid over a buffer. Assumes nothing.
use Prim.Native.Nat.{ℕ, ◌≤◌}
use native.Mathlib.Omega.{arith}
use mathlib.Core.Path.{◌≡◌, refl}
use mathlib.Core.List.{List, [], ◌++◌}
use lib.ListN.{length, take, drop, length-drop, length-append}
use lib.Seq.{take-length}
use Rattle.octets.specs.Buffer.{over}

-- what bytes::copy leaves
pub over_copied : (octets buffer : List ℕ) → take (length octets) octets ++ drop (length octets) buffer ≡ over octets buffer
unfolding over
over_copied octets buffer = rw take-length

pub over_length : (octets buffer : List ℕ) → length octets ≤ length buffer → length (over octets buffer) ≡ length buffer
unfolding over
over_length octets buffer h = simp (length-append, length-drop) (omega arith)

pub over_nothing : (buffer : List ℕ) → over [] buffer ≡ buffer
unfolding over
over_nothing buffer = refl
