-- Lists: a search, a test of each element, a test of each pair, lists one after the other.
use Rattle.std.specs.Prelude.{ℕ, suc, Bool, true, cond, ◌&&◌, List, [], ◌∷◌, ◌++◌}

module _ {A : Type 0} where
  -- the index of the first element that passes, or the length
  unfoldable pub first : (A → Bool) → List A → ℕ
  first p [] = 0
  first p (x ∷ xs) = cond (p x) 0 (suc (first p xs))

  -- whether each element passes
  unfoldable pub every : (A → Bool) → List A → Bool
  every p [] = true
  every p (x ∷ xs) = p x && every p xs

  -- whether each element stands apart from every one after it
  unfoldable pub distinct : (A → A → Bool) → List A → Bool
  distinct apart [] = true
  distinct apart (x ∷ xs) = every (apart x) xs && distinct apart xs

  -- the lists, one after the other
  unfoldable pub join : List (List A) → List A
  join [] = []
  join (l ∷ rest) = l ++ join rest
