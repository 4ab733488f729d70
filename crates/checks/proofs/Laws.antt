-- Laws of checks, of what a call leaves, of tests and of parts. Assumes nothing.
use Prim.Native.Nat.{ℕ, ◌-◌}
use native.Mathlib.Nat.{le_refl}
use native.Mathlib.Omega.{arith}
use mathlib.Core.Path.{◌≡◌, refl, sym, ap, ◌∙◌}
use mathlib.Core.Bool.{Bool, true, false, cond, ◌&&◌, false≢true}
use mathlib.Core.List.{List, [], ◌∷◌}
use lib.Dec.{eqb}
use lib.ListN.{length, take, drop, length-drop, get_or}
use lib.Seq.{take_all}
use borrow.Author.Tests.{eqb-true, eqb-false, ne_eqb}
use Rattle.std.specs.Prelude.{Result, Ok, Err}
use Rattle.checks.specs.Checks.{check, if_ok}
use Rattle.checks.specs.Refusals.{number_of, answer_of, checked}
use Rattle.checks.specs.declared.Refusal.{Refusal}
use Rattle.checks.specs.declared.Refusal.TheVariants.{IllFormedState, WrongTable, ShortBuffer, BadHomeList, UnknownNeighbour, BadSize, OtherVersion, WrongChecksum, OtherAs, UnknownKind, BadStatus, BadLength, OutOfSequence, BrokenBlocks, TooManyRows, BadArgument, NoFreeSlot, NotIdle, BadLine, WrongBlock, TooQuick, ClockFull}

-- ---- two tests

pub and_left : (a b : Bool) → (a && b) ≡ true → a ≡ true
and_left true b e = refl
and_left false b e = absurd (false≢true e)

pub and_right : (a b : Bool) → (a && b) ≡ true → b ≡ true
and_right true b e = e
and_right false b e = absurd (false≢true e)

pub and_both : (a b : Bool) → a ≡ true → b ≡ true → (a && b) ≡ true
and_both a b h k = rw (h, k)

-- what holds of both branches, each under its test, holds of the choice
pub cond_elim : {A : Type 0} (P : A → Type 0) (b : Bool) (x y : A) → (b ≡ true → P x) → (b ≡ false → P y) → P (cond b x y)
cond_elim P true x y f g = f refl
cond_elim P false x y f g = g refl

-- ---- checks

-- a chain of checks that answers 0 passed its first check
pub check_passed : (ok : Bool) (number rest : ℕ) → eqb number 0 ≡ false → check ok number rest ≡ 0 → (ok ≡ true) × (rest ≡ 0)
unfolding check
check_passed true number rest n e = (refl, e)
check_passed false number rest n e = absurd (eqb-false number 0 n e)

pub check_holds : (ok : Bool) (number rest : ℕ) → ok ≡ true → check ok number rest ≡ rest
unfolding check
check_holds ok number rest e = rw e

pub check_fails : (ok : Bool) (number rest : ℕ) → ok ≡ false → check ok number rest ≡ number
unfolding check
check_fails ok number rest e = rw e

-- the number of a check that tells its refusal
pub checked_answer : {A : Type 0} (ok : Bool) (refusal : Refusal) (rest : Result A Refusal)
    → answer_of (checked ok refusal rest) ≡ check ok (number_of refusal) (answer_of rest)
unfolding check
checked_answer true refusal rest = refl
checked_answer false refusal rest = refl

-- no refusal has the number 0, which says that a call was carried out
pub number_some : (refusal : Refusal) → number_of refusal ≡ 0 → ⊥
number_some IllFormedState e = absurd (omega (arith, e))
number_some WrongTable e = absurd (omega (arith, e))
number_some ShortBuffer e = absurd (omega (arith, e))
number_some BadHomeList e = absurd (omega (arith, e))
number_some UnknownNeighbour e = absurd (omega (arith, e))
number_some BadSize e = absurd (omega (arith, e))
number_some OtherVersion e = absurd (omega (arith, e))
number_some WrongChecksum e = absurd (omega (arith, e))
number_some OtherAs e = absurd (omega (arith, e))
number_some UnknownKind e = absurd (omega (arith, e))
number_some BadStatus e = absurd (omega (arith, e))
number_some BadLength e = absurd (omega (arith, e))
number_some OutOfSequence e = absurd (omega (arith, e))
number_some BrokenBlocks e = absurd (omega (arith, e))
number_some TooManyRows e = absurd (omega (arith, e))
number_some BadArgument e = absurd (omega (arith, e))
number_some NoFreeSlot e = absurd (omega (arith, e))
number_some NotIdle e = absurd (omega (arith, e))
number_some BadLine e = absurd (omega (arith, e))
number_some WrongBlock e = absurd (omega (arith, e))
number_some TooQuick e = absurd (omega (arith, e))
number_some ClockFull e = absurd (omega (arith, e))

-- the number tells the refusal
abbrev refusal_at : ℕ → Refusal
refusal_at number = get_or (IllFormedState ∷ WrongTable ∷ ShortBuffer ∷ BadHomeList ∷ UnknownNeighbour ∷ BadSize ∷ OtherVersion ∷ WrongChecksum ∷ OtherAs ∷ UnknownKind ∷ BadStatus ∷ BadLength ∷ OutOfSequence ∷ BrokenBlocks ∷ TooManyRows ∷ BadArgument ∷ NoFreeSlot ∷ NotIdle ∷ BadLine ∷ WrongBlock ∷ TooQuick ∷ ClockFull ∷ []) (number - 1) ClockFull

number_back : (refusal : Refusal) → refusal_at (number_of refusal) ≡ refusal
number_back IllFormedState = refl
number_back WrongTable = refl
number_back ShortBuffer = refl
number_back BadHomeList = refl
number_back UnknownNeighbour = refl
number_back BadSize = refl
number_back OtherVersion = refl
number_back WrongChecksum = refl
number_back OtherAs = refl
number_back UnknownKind = refl
number_back BadStatus = refl
number_back BadLength = refl
number_back OutOfSequence = refl
number_back BrokenBlocks = refl
number_back TooManyRows = refl
number_back BadArgument = refl
number_back NoFreeSlot = refl
number_back NotIdle = refl
number_back BadLine = refl
number_back WrongBlock = refl
number_back TooQuick = refl
number_back ClockFull = refl

pub number_same : (refusal other : Refusal) → number_of refusal ≡ number_of other → refusal ≡ other
number_same refusal other e = sym (number_back refusal) ∙ ap refusal_at e ∙ number_back other

-- what answers 0 where nothing else is told
pub answer_ok : (r : Result (Unit {0}) Refusal) → answer_of r ≡ 0 → r ≡ Ok tt
answer_ok (Ok tt) e = refl
answer_ok (Err refusal) e = absurd (number_some refusal e)

module _ {A : Type 0} (answer : ℕ) (new old : A) where
  pub if_ok_new : answer ≡ 0 → if_ok answer new old ≡ new
  unfolding if_ok
  if_ok_new e = rw e

  pub if_ok_old : (answer ≡ 0 → ⊥) → if_ok answer new old ≡ old
  unfolding if_ok
  if_ok_old n = rw (ne_eqb answer 0 n)

  pub if_ok_holds : (P : A → Type 0) → (answer ≡ 0 → P new) → P old → P (if_ok answer new old)
  unfolding if_ok
  if_ok_holds P p q = cond_elim P (eqb answer 0) new old (λ e. p (eqb-true answer 0 e)) (λ e. q)

-- ---- parts of a list

-- the part from index a to the end
pub part_from_lem : (a : ℕ) (t : List ℕ) → take (length t - a) (drop a t) ≡ drop a t
part_from_lem a t = take_all (length t - a) (drop a t) (simp length-drop (le_refl (length t - a)))
