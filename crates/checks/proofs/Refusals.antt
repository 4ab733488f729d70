-- Laws of answer numbers. Assumes nothing.
use Prim.Native.Nat.{ℕ}
use native.Mathlib.Omega.{arith}
use mathlib.Core.Path.{◌≡◌}
use Rattle.checks.specs.declared.Refusal.{Refusal}
use Rattle.checks.specs.declared.Refusal.TheVariants.{IllFormedState, WrongTable, ShortBuffer, BadHomeList, UnknownNeighbour, BadSize, OtherVersion, WrongChecksum, OtherAs, UnknownKind, BadStatus, BadLength, OutOfSequence, BrokenBlocks, TooManyRows, BadArgument, NoFreeSlot, NotIdle, BadLine, WrongBlock, TooQuick, ClockFull}
use Rattle.checks.specs.Refusals.{number_of}

-- no refusal answers as a call that is carried out
pub number_not_0 : (refusal : Refusal) → number_of refusal ≡ 0 → ⊥
number_not_0 IllFormedState e = absurd (omega (arith, e))
number_not_0 WrongTable e = absurd (omega (arith, e))
number_not_0 ShortBuffer e = absurd (omega (arith, e))
number_not_0 BadHomeList e = absurd (omega (arith, e))
number_not_0 UnknownNeighbour e = absurd (omega (arith, e))
number_not_0 BadSize e = absurd (omega (arith, e))
number_not_0 OtherVersion e = absurd (omega (arith, e))
number_not_0 WrongChecksum e = absurd (omega (arith, e))
number_not_0 OtherAs e = absurd (omega (arith, e))
number_not_0 UnknownKind e = absurd (omega (arith, e))
number_not_0 BadStatus e = absurd (omega (arith, e))
number_not_0 BadLength e = absurd (omega (arith, e))
number_not_0 OutOfSequence e = absurd (omega (arith, e))
number_not_0 BrokenBlocks e = absurd (omega (arith, e))
number_not_0 TooManyRows e = absurd (omega (arith, e))
number_not_0 BadArgument e = absurd (omega (arith, e))
number_not_0 NoFreeSlot e = absurd (omega (arith, e))
number_not_0 NotIdle e = absurd (omega (arith, e))
number_not_0 BadLine e = absurd (omega (arith, e))
number_not_0 WrongBlock e = absurd (omega (arith, e))
number_not_0 TooQuick e = absurd (omega (arith, e))
number_not_0 ClockFull e = absurd (omega (arith, e))
