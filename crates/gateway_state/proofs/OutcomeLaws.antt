-- Laws of what a call without a reply leaves. Assumes nothing.
use Prim.Native.Nat.{ℕ}
use mathlib.Core.Path.{◌≡◌, sym, subst}
use mathlib.Core.Bool.{false}
use lib.Dec.{eqb}
use native.Mathlib.Omega.{arith}
use Rattle.checks.specs.declared.Refusal.{Refusal}
use Rattle.checks.specs.declared.Refusal.TheVariants.{IllFormedState, WrongTable, ShortBuffer, BadHomeList, UnknownNeighbour, BadSize, OtherVersion, WrongChecksum, OtherAs, UnknownKind, BadStatus, BadLength, OutOfSequence, BrokenBlocks, TooManyRows, BadArgument, NoFreeSlot, NotIdle, BadLine, WrongBlock, TooQuick, ClockFull}
use Rattle.checks.specs.Refusals.{number_of}
use Rattle.std.specs.Prelude.{Result, Ok, Err, IsErrAnd}
use Rattle.checks.specs.Checks.{if_ok}
use Rattle.gateway_state.specs.declared.State.{State}
use Rattle.gateway_state.specs.Outcomes.{refused_of, silent_of}

-- a call that never replies, refused and carried out
module _ (answer : ℕ) (new old : State) where
  pub silent_refused : (k : ℕ) → answer ≡ k → eqb k 0 ≡ false → refused_of old k ≡ silent_of answer new old
  unfolding silent_of refused_of if_ok
  silent_refused k e z = rw (e, z)

  pub silent_done : answer ≡ 0 → silent_of 0 new new ≡ silent_of answer new old
  unfolding silent_of if_ok
  silent_done e = rw e

-- a refusal is not answered by 0
pub number_used : (refusal : Refusal) → number_of refusal ≡ 0 → ⊥
number_used IllFormedState e = omega (arith, e)
number_used WrongTable e = omega (arith, e)
number_used ShortBuffer e = omega (arith, e)
number_used BadHomeList e = omega (arith, e)
number_used UnknownNeighbour e = omega (arith, e)
number_used BadSize e = omega (arith, e)
number_used OtherVersion e = omega (arith, e)
number_used WrongChecksum e = omega (arith, e)
number_used OtherAs e = omega (arith, e)
number_used UnknownKind e = omega (arith, e)
number_used BadStatus e = omega (arith, e)
number_used BadLength e = omega (arith, e)
number_used OutOfSequence e = omega (arith, e)
number_used BrokenBlocks e = omega (arith, e)
number_used TooManyRows e = omega (arith, e)
number_used BadArgument e = omega (arith, e)
number_used NoFreeSlot e = omega (arith, e)
number_used NotIdle e = omega (arith, e)
number_used BadLine e = omega (arith, e)
number_used WrongBlock e = omega (arith, e)
number_used TooQuick e = omega (arith, e)
number_used ClockFull e = omega (arith, e)

-- an error that `?` hands on
pub handed_on : {A B : Type 0} (P : Result A B → Type 0) (r : Result A B) (b : B) → IsErrAnd r (λ e. e ≡ b) → P (Err b) → P r
handed_on P (Ok a) b q p = absurd q
handed_on P (Err e) b q p = subst (λ x. P (Err x)) (sym q) p
