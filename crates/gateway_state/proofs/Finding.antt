-- The library's searches and tests of lists, in the words of the definitions. Assumes nothing.
use Prim.Native.Nat.{ℕ, suc, ◌+◌, ◌≤◌, ◌<◌}
use native.Mathlib.Omega.{arith}
use mathlib.Core.Path.{◌≡◌, refl, sym}
use mathlib.Core.Bool.{Bool, true, false, cond, not, ◌&&◌, false≢true}
use mathlib.Core.List.{List, [], ◌∷◌}
use lib.ListN.{length}
use lib.Dec.{ltb}
use borrow.Author.Tests.{ltb-true, ltb-false}
use Rattle.std.specs.Prelude.{Option, None, Some, is_some}
use Rattle.std.specs.List.{position, position_or_len, list_all}
use Rattle.checks.proofs.Laws.{cond_elim}
use Rattle.checks.specs.Lists.{first, every, distinct}
use Rattle.gateway_state.specs.Found.{Finds}

flip : (b : Bool) (n : ℕ) → cond (not b) (1 + n) 0 ≡ cond b 0 (suc n)
flip true n = refl
flip false n = omega arith

module _ {A : Type 0} where
  module _ (p : A → Bool) where
    pub every_all : (l : List A) → list_all p l ≡ every p l
    unfolding every
    every_all [] = refl
    every_all (x ∷ xs) = rw (every_all xs)

    pub first_position : (l : List A) → position_or_len p l ≡ first p l
    unfolding first
    first_position [] = refl
    first_position (x ∷ xs) = rw (first_position xs) (flip (p x) (first p xs))

    pub finds : (l : List A) → length l ≡ 8 → Finds (first p l) (position p l)
    finds l eight =
        let e : position_or_len p l ≡ first p l = first_position l in
        cond_elim (λ r. Finds (first p l) r) (ltb (position_or_len p l) (length l)) _ _
        (λ t. (e, let h : position_or_len p l < length l = ltb-true _ _ t in omega (arith, h, eight)))
        (λ t. let h : length l ≤ position_or_len p l = ltb-false _ _ t in omega (arith, h, e, eight))

-- whether a look-up finds
module _ (index : ℕ) where
  pub finds_some : (r : Option ℕ) → Finds index r → is_some r ≡ true → index < 8
  finds_some None f e = absurd (false≢true e)
  finds_some (Some i) f e = omega (arith, f.0, f.1)

  pub finds_none : (r : Option ℕ) → Finds index r → is_some r ≡ false → 8 ≤ index
  finds_none None f e = f
  finds_none (Some i) f e = absurd (false≢true (sym e))

-- a turn of the loop over pairs
module _ {A : Type 0} (apart : A → A → Bool) (rest : List A) where
  module _ (x : A) (later : List A) (e : rest ≡ x ∷ later) where
    pub distinct_fails : list_all (apart x) later ≡ false → distinct apart rest ≡ false
    unfolding distinct
    distinct_fails f = rw (e, ← every_all (apart x) later, f)

    pub distinct_goes : list_all (apart x) later ≡ true → distinct apart rest ≡ distinct apart later
    unfolding distinct
    distinct_goes f = rw (e, ← every_all (apart x) later, f)

  pub distinct_none : length rest ≡ 0 → distinct apart rest ≡ true
  unfolding distinct
  distinct_none e = go rest e
    where
      go : (l : List A) → length l ≡ 0 → distinct apart l ≡ true
      go [] q = refl
      go (x ∷ xs) q = absurd (omega (arith, q))
