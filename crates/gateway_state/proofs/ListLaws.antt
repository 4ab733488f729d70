-- Laws of searches and tests over lists. Assumes nothing.
use Prim.Native.Nat.{ℕ, zero, suc, ◌+◌, ◌≤◌, ◌<◌}
use native.Mathlib.Nat.{le_of_suc-le-suc, not-suc-le-zero}
use native.Mathlib.Numerals.{add-one}
use native.Mathlib.Omega.{arith}
use mathlib.Core.Path.{◌≡◌, refl, sym, ◌∙◌, ap}
use mathlib.Core.Bool.{Bool, true, false, cond, not, ◌&&◌, false≢true}
use mathlib.Core.List.{List, [], ◌∷◌, map}
use lib.ListN.{length, drop, get_or, set, length-map, drop_of_length-le}
use lib.Seq.{drop-cons}
use Rattle.checks.proofs.Laws.{and_left, and_right, and_both}
use Rattle.checks.specs.Lists.{first, every, distinct}

-- the length of an array that is a field, from that of the machine's values
pub unmapped : (X Y : Type 0) (f : X → Y) (l : List X) (n : ℕ) → length (map f l) ≡ n → length l ≡ n
unmapped X Y f l n e = sym (length-map l f) ∙ e

-- a turn of a loop over what is left of a list
module _ {A : Type 0} (p : A → Bool) (l : List A) (i : ℕ) where
  module _ (d : A) (h : i < length l) where
    pub first_here : p (get_or l i d) ≡ true → first p (drop i l) ≡ 0
    unfolding first
    first_here e = rw (drop-cons l i d h, e)

    pub first_next : p (get_or l i d) ≡ false → first p (drop i l) ≡ suc (first p (drop (i + 1) l))
    unfolding first
    first_next e = rw (add-one, drop-cons l i d h, e)

    pub every_here : p (get_or l i d) ≡ false → every p (drop i l) ≡ false
    unfolding every
    every_here e = rw (drop-cons l i d h, e)

    pub every_next : p (get_or l i d) ≡ true → every p (drop i l) ≡ every p (drop (i + 1) l)
    unfolding every
    every_next e = rw (add-one, drop-cons l i d h, e)

  module _ (h : length l ≤ i) where
    pub first_end : first p (drop i l) ≡ 0
    unfolding first
    first_end = rw (drop_of_length-le l h)

    pub every_end : every p (drop i l) ≡ true
    unfolding every
    every_end = rw (drop_of_length-le l h)

module _ {A : Type 0} (apart : A → A → Bool) (l : List A) (i : ℕ) where
  module _ (d : A) (h : i < length l) where
    pub distinct_here : every (apart (get_or l i d)) (drop (i + 1) l) ≡ false → distinct apart (drop i l) ≡ false
    unfolding distinct
    distinct_here e = rw (drop-cons l i d h, ← (add-one i), e)

    pub distinct_next : every (apart (get_or l i d)) (drop (i + 1) l) ≡ true → distinct apart (drop i l) ≡ distinct apart (drop (i + 1) l)
    unfolding distinct
    distinct_next e = rw (add-one, drop-cons l i d h, rw add-one at e)

  pub distinct_end : length l ≤ i → distinct apart (drop i l) ≡ true
  unfolding distinct
  distinct_end h = rw (drop_of_length-le l h)

-- what a search found, and what it passed
module _ {A : Type 0} (p : A → Bool) where
  pub first_in : (l : List A) (d : A) → first p l < length l → p (get_or l (first p l) d) ≡ true
  unfolding first
  first_in [] d h = absurd (not-suc-le-zero h)
  first_in (x ∷ xs) d h = go (p x) refl (first_in xs d) h
    where
      go : (b : Bool) → p x ≡ b → (first p xs < length xs → p (get_or xs (first p xs) d) ≡ true)
          → cond b 0 (suc (first p xs)) < suc (length xs) → p (get_or (x ∷ xs) (cond b 0 (suc (first p xs))) d) ≡ true
      go true e r k = e
      go false e r k = r (le_of_suc-le-suc k)

  pub first_before : (l : List A) (d : A) (j : ℕ) → j < first p l → p (get_or l j d) ≡ false
  unfolding first
  first_before [] d j h = absurd (not-suc-le-zero h)
  first_before (x ∷ xs) d j h = go (p x) refl j (first_before xs d) h
    where
      go : (b : Bool) → p x ≡ b → (k : ℕ) → ((m : ℕ) → m < first p xs → p (get_or xs m d) ≡ false)
          → k < cond b 0 (suc (first p xs)) → p (get_or (x ∷ xs) k d) ≡ false
      go true e k r q = absurd (not-suc-le-zero q)
      go false e zero r q = e
      go false e (suc m) r q = r m (le_of_suc-le-suc q)

  pub first_least : (l : List A) (d : A) (i : ℕ) → p (get_or l i d) ≡ true → first p l ≤ i
  unfolding first
  first_least [] d i e = omega arith
  first_least (x ∷ xs) d i e = go (p x) refl i (first_least xs d) e
    where
      go : (b : Bool) → p x ≡ b → (k : ℕ) → ((m : ℕ) → p (get_or xs m d) ≡ true → first p xs ≤ m)
          → p (get_or (x ∷ xs) k d) ≡ true → cond b 0 (suc (first p xs)) ≤ k
      go true e k r q = omega arith
      go false e zero r q = absurd (false≢true (sym e ∙ q))
      go false e (suc m) r q = omega (arith, r m q)

  pub first_bound : (l : List A) → first p l ≤ length l
  unfolding first
  first_bound [] = omega arith
  first_bound (x ∷ xs) = go (p x) (first_bound xs)
    where
      go : (b : Bool) → first p xs ≤ length xs → cond b 0 (suc (first p xs)) ≤ suc (length xs)
      go true r = omega arith
      go false r = omega arith

  pub first_none : (l : List A) → length l ≤ first p l → every (λ x. not (p x)) l ≡ true
  unfolding first every
  first_none [] h = refl
  first_none (x ∷ xs) h = go (p x) refl (first_none xs) h
    where
      go : (b : Bool) → p x ≡ b → (length xs ≤ first p xs → every (λ y. not (p y)) xs ≡ true)
          → suc (length xs) ≤ cond b 0 (suc (first p xs)) → (not (p x) && every (λ y. not (p y)) xs) ≡ true
      go true e r k = absurd (not-suc-le-zero k)
      go false e r k = rw e (r (le_of_suc-le-suc k))

  pub first_never : ((x : A) → p x ≡ false) → (l : List A) → first p l ≡ length l
  unfolding first
  first_never n [] = refl
  first_never n (x ∷ xs) = rw (n x, first_never n xs)

-- a test of each element, and one element replaced
module _ {A : Type 0} (p : A → Bool) where
  pub every_always : ((x : A) → p x ≡ true) → (l : List A) → every p l ≡ true
  unfolding every
  every_always y [] = refl
  every_always y (x ∷ xs) = rw (y x) (every_always y xs)

  pub every_set : (l : List A) (i : ℕ) (a : A) → every p l ≡ true → p a ≡ true → every p (set l i a) ≡ true
  unfolding every
  every_set [] i a e q = refl
  every_set (x ∷ xs) zero a e q = rw q (and_right (p x) (every p xs) e)
  every_set (x ∷ xs) (suc i) a e q =
      and_both (p x) (every p (set xs i a)) (and_left (p x) (every p xs) e)
      (every_set xs i a (and_right (p x) (every p xs) e) q)

  pub every_in : (l : List A) (d : A) (i : ℕ) → every p l ≡ true → i < length l → p (get_or l i d) ≡ true
  unfolding every
  every_in [] d i e h = absurd (not-suc-le-zero h)
  every_in (x ∷ xs) d zero e h = and_left (p x) (every p xs) e
  every_in (x ∷ xs) d (suc i) e h = every_in xs d i (and_right (p x) (every p xs) e) (le_of_suc-le-suc h)

  -- a default that passes spares the bound
  pub every_get_or : (l : List A) (i : ℕ) (d : A) → every p l ≡ true → p d ≡ true → p (get_or l i d) ≡ true
  unfolding every
  every_get_or [] i d e q = q
  every_get_or (x ∷ xs) zero d e q = and_left (p x) (every p xs) e
  every_get_or (x ∷ xs) (suc i) d e q = every_get_or xs i d (and_right (p x) (every p xs) e) q

pub map_set : {A B : Type 0} (f : A → B) (l : List A) (i : ℕ) (a : A) → map f (set l i a) ≡ set (map f l) i (f a)
map_set f [] i a = refl
map_set f (x ∷ xs) zero a = refl
map_set {B = B} f (x ∷ xs) (suc i) a = ap (λ (r : List B). f x ∷ r) (map_set f xs i a)

-- a newcomer that stands apart from every element, both ways
module _ {A : Type 0} (apart : A → A → Bool) (a : A) (both : (x : A) → apart a x ≡ true → apart x a ≡ true) where
  pub distinct_set : (l : List A) (i : ℕ) → distinct apart l ≡ true → every (apart a) l ≡ true → distinct apart (set l i a) ≡ true
  unfolding distinct every
  distinct_set [] i e q = refl
  distinct_set (x ∷ xs) zero e q =
      and_both (every (apart a) xs) (distinct apart xs)
      (and_right (apart a x) (every (apart a) xs) q) (and_right (every (apart x) xs) (distinct apart xs) e)
  distinct_set (x ∷ xs) (suc i) e q =
      and_both (every (apart x) (set xs i a)) (distinct apart (set xs i a))
      (every_set (apart x) xs i a (and_left (every (apart x) xs) (distinct apart xs) e) (both x (and_left (apart a x) (every (apart a) xs) q)))
      (distinct_set xs i (and_right (every (apart x) xs) (distinct apart xs) e) (and_right (apart a x) (every (apart a) xs) q))

-- two elements that don't stand apart are one
pub distinct_apart : {A : Type 0} (apart : A → A → Bool) (l : List A) (d : A) (i j : ℕ) → distinct apart l ≡ true → i < j → j < length l
    → apart (get_or l i d) (get_or l j d) ≡ true
unfolding distinct
distinct_apart apart [] d i j e h k = absurd (not-suc-le-zero k)
distinct_apart apart (x ∷ xs) d i zero e h k = absurd (not-suc-le-zero h)
distinct_apart apart (x ∷ xs) d zero (suc j) e h k =
    every_in (apart x) xs d j (and_left (every (apart x) xs) (distinct apart xs) e) (le_of_suc-le-suc k)
distinct_apart apart (x ∷ xs) d (suc i) (suc j) e h k =
    distinct_apart apart xs d i j (and_right (every (apart x) xs) (distinct apart xs) e) (le_of_suc-le-suc h) (le_of_suc-le-suc k)
