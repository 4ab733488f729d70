-- Laws of octets that are the same. Assumes nothing.
use Prim.Native.Nat.{ℕ, suc, ◌+◌, ◌≤◌, ◌<◌}
use native.Mathlib.Numerals.{add-one}
use mathlib.Core.Path.{◌≡◌, refl, ap, ap₂}
use mathlib.Core.Bool.{Bool, true, false, ◌&&◌, false≢true}
use mathlib.Core.List.{List, [], ◌∷◌}
use lib.Dec.{eqb}
use lib.ListN.{length, drop, get_or, drop_of_length-le}
use lib.Seq.{drop-cons}
use borrow.Author.Tests.{eqb-true, eq-eqb, ne_eqb}
use Rattle.checks.proofs.Laws.{and_left, and_right}
use Rattle.host_codec.specs.Codec.{same_octets}

pub and_false : (a b : Bool) → b ≡ false → (a && b) ≡ false
and_false true b e = e
and_false false b e = refl

pub same_apart : (xs ys : List ℕ) → (length xs ≡ length ys → ⊥) → same_octets xs ys ≡ false
unfolding same_octets
same_apart [] [] n = absurd (n refl)
same_apart [] (y ∷ ys) n = refl
same_apart (x ∷ xs) [] n = refl
same_apart (x ∷ xs) (y ∷ ys) n = and_false (eqb x y) (same_octets xs ys) (same_apart xs ys (λ e. n (ap suc e)))

module _ (xs ys : List ℕ) (i : ℕ) where
  pub same_not : i < length xs → i < length ys → (get_or xs i 0 ≡ get_or ys i 0 → ⊥) → same_octets (drop i xs) (drop i ys) ≡ false
  unfolding same_octets
  same_not h k n = rw (drop-cons xs i 0 h, drop-cons ys i 0 k, ne_eqb _ _ n)

  pub same_next : i < length xs → i < length ys → get_or xs i 0 ≡ get_or ys i 0
      → same_octets (drop i xs) (drop i ys) ≡ same_octets (drop (i + 1) xs) (drop (i + 1) ys)
  unfolding same_octets
  same_next h k e = rw (add-one, drop-cons xs i 0 h, drop-cons ys i 0 k, eq-eqb _ _ e)

  pub same_end : length xs ≤ i → length ys ≤ i → same_octets (drop i xs) (drop i ys) ≡ true
  unfolding same_octets
  same_end h k = rw (drop_of_length-le xs h, drop_of_length-le ys k)

-- what is the same is equal, and what is equal the same

pub same_equal : (xs ys : List ℕ) → same_octets xs ys ≡ true → xs ≡ ys
unfolding same_octets
same_equal [] [] e = refl
same_equal [] (y ∷ ys) e = absurd (false≢true e)
same_equal (x ∷ xs) [] e = absurd (false≢true e)
same_equal (x ∷ xs) (y ∷ ys) e =
    ap₂ (λ (a : ℕ) (l : List ℕ). a ∷ l) (eqb-true x y (and_left (eqb x y) (same_octets xs ys) e))
    (same_equal xs ys (and_right (eqb x y) (same_octets xs ys) e))

pub same_self : (xs : List ℕ) → same_octets xs xs ≡ true
unfolding same_octets
same_self [] = refl
same_self (x ∷ xs) = rw (eq-eqb x x refl) (same_self xs)
