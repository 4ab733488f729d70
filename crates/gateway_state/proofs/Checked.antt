-- Of a list whose first elements are found to pass a test, the rest decides. Assumes nothing.
use Prim.Native.Nat.{ℕ, zero, suc, ◌≤◌, ◌<◌}
use native.Mathlib.Omega.{arith}
use mathlib.Core.Path.{◌≡◌, refl}
use mathlib.Core.Bool.{Bool, true}
use mathlib.Core.List.{List, [], ◌∷◌}
use lib.ListN.{length, drop}
use Rattle.std.specs.Prelude.{Option, Some, None, unwrap_or, MatchOption}
use Rattle.std.specs.List.{list_all, AllWithin, HoldsAt}

module _ {A : Type 0} (test : A → Bool) where
  abbrev pub Passed : A → Type 0
  Passed x = test x ≡ true

  rest_decides : (xs : List A) (n : ℕ) → AllWithin Passed xs 0 n → n ≤ length xs → list_all test xs ≡ list_all test (drop n xs)
  rest_decides xs zero p h = refl
  rest_decides [] (suc n) p h = absurd (omega arith)
  rest_decides (x ∷ xs) (suc n) p h =
      rw (p 0 x (omega arith) (omega arith)) (rest_decides xs n (λ k d l m. p (suc k) d (omega arith) (omega arith)) (omega arith))

  pub first_found : (xs : List A) (found : Option ℕ) → MatchOption found (AllWithin Passed xs 0 (length xs)) (λ i. (i < length xs) × HoldsAt (λ _. Unit {0}) xs i × AllWithin Passed xs 0 i)
      → (unwrap_or found (length xs) ≤ length xs) × (list_all test xs ≡ list_all test (drop (unwrap_or found (length xs)) xs))
  first_found xs None p = (omega arith, rest_decides xs (length xs) p (omega arith))
  first_found xs (Some i) p = (omega (arith, p.0), rest_decides xs i p.2 (omega (arith, p.0)))
