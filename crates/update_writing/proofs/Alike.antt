-- Laws of rows that are good where the row before them is. Assumes nothing.
use Rattle.std.proofs.Common.{ℕ, zero, suc, ◌+◌, ◌-◌, ◌*◌, ◌≤◌, ◌<◌, ◌≡◌, refl, ap, ◌∙◌, Bool, true, false, leb, ◌&&◌, List, [], ◌∷◌, length, map, take, drop, arith, length-drop, take_all, Option, Some, None}
use Rattle.std.specs.Prelude.{unwrap_or, MatchOption}
use Rattle.std.specs.List.{AllWithin, HoldsAt}
use Rattle.checks.proofs.Laws.{and_left, and_right, and_both}
use Rattle.checks.specs.Lists.{every}
use Rattle.nets.specs.Classes.{good_net, on_net}
use Rattle.nets.specs.Rows.{Row}
use Rattle.update_writing.specs.Writable.{good_row}

pub same_beside : (g h t u : ℕ) → t < 4294967296 → u < 4294967296 → g * 4294967296 + t ≡ h * 4294967296 + u → (g ≡ h) × (t ≡ u)
same_beside g h t u p q e = (omega arith, omega arith)

pub as_good_row : (row next : Row) → (row.gateway ≡ next.gateway) × (row.third ≡ next.third) → good_net next.net ≡ true → (common most : ℕ) → good_row common most row ≡ true → good_row common most next ≡ true
as_good_row row next s n common most e =
    rw (n, ← s.0, ← s.1)
    (and_both (on_net common row.gateway) (leb row.third most)
    (and_right (good_net row.net) (on_net common row.gateway) (and_left (good_net row.net && on_net common row.gateway) (leb row.third most) e))
    (and_right (good_net row.net && on_net common row.gateway) (leb row.third most) e))

module _ {A : Type 0} (row : A → Row) where
  -- whether a row is good where this one is
  abbrev pub AsGood : A → A → Type 0
  AsGood x y = (common most : ℕ) → good_row common most (row x) ≡ true → good_row common most (row y) ≡ true

  -- the rest decides
  rest_decides : (test : Row → Bool) (xs : List A) (n : ℕ) → AllWithin (λ y. test (row y) ≡ true) xs 0 n → n ≤ length xs → every test (map row xs) ≡ every test (map row (drop n xs))
  unfolding every
  rest_decides test xs zero p h = refl
  rest_decides test [] (suc n) p h = absurd (omega arith)
  rest_decides test (x ∷ xs) (suc n) p h =
      rw (p 0 x (omega arith) (omega arith)) (rest_decides test xs n (λ k d l m. p (suc k) d (omega arith) (omega arith)) (omega arith))

  pub first_found : (x : A) (xs : List A) (found : Option ℕ) → MatchOption found (AllWithin (AsGood x) xs 0 (length xs)) (λ i. (i < length xs) × HoldsAt (λ _. Unit {0}) xs i × AllWithin (AsGood x) xs 0 i)
      → (unwrap_or found (length xs) ≤ length xs)
      × ((common most : ℕ) → good_row common most (row x) ≡ true → every (good_row common most) (map row xs) ≡ every (good_row common most) (map row (drop (unwrap_or found (length xs)) xs)))
  first_found x xs None p = (omega arith, λ common most e. rest_decides (good_row common most) xs (length xs) (λ k d l m. p k d l m common most e) (omega arith))
  first_found x xs (Some i) p = (omega (arith, p.0), λ common most e. rest_decides (good_row common most) xs i (λ k d l m. p.2 k d l m common most e) (omega (arith, p.0)))

  -- are_good_rows: a turn of its loop
  module _ (common most : ℕ) (rest later : List A) (x : A) (s : rest ≡ x ∷ later) where
    pub bad_front : good_row common most (row x) ≡ false → every (good_row common most) (map row rest) ≡ false
    unfolding every
    bad_front e = rw (s, e)

    pub good_front : good_row common most (row x) ≡ true → (n : ℕ) → every (good_row common most) (map row later) ≡ every (good_row common most) (map row (drop n later))
        → every (good_row common most) (map row rest) ≡ every (good_row common most) (map row (take (length later - n) (drop n later)))
    unfolding every
    good_front e n d =
        let b : take (length later - n) (drop n later) ≡ drop n later = take_all (length later - n) (drop n later) (omega (arith, length-drop n later)) in
        rw (s, e, b) d

  pub no_front : (common most : ℕ) (rest : List A) → length rest ≡ 0 → every (good_row common most) (map row rest) ≡ true
  unfolding every
  no_front common most [] h = refl
  no_front common most (x ∷ rest) h = absurd (omega arith)
