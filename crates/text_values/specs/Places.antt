-- Places in text.
use Rattle.std.specs.Prelude.{ℕ, suc, Bool, true, false, cond, ◌&&◌, List, [], ◌∷◌, ◌≡◌, ◌<◌, eqb, ltb, leb, length, take, drop, Option, Some, None}
use Rattle.checks.specs.Lists.{first}

-- the index of the first such octet, or the length
unfoldable pub index_of : ℕ → List ℕ → ℕ
index_of octet l = first (λ o. eqb o octet) l

-- the index of the first such octet, if there is one
abbrev pub place_of : ℕ → List ℕ → Option ℕ
place_of octet l = cond (ltb (index_of octet l) (length l)) (Some (index_of octet l)) None

-- whether there is none
abbrev pub no_place : ℕ → List ℕ → Bool
no_place octet l = leb (length l) (index_of octet l)

-- these two stand before the first such octet and behind it
pub record IsCut (octet : ℕ) (l before behind : List ℕ) : Type 0 where
  pub found : index_of octet l < length l
  pub front : before ≡ take (index_of octet l) l
  pub rest : behind ≡ drop (suc (index_of octet l)) l

-- whether a list begins with these octets
unfoldable pub starts_with : List ℕ → List ℕ → Bool
starts_with [] l = true
starts_with (x ∷ front) [] = false
starts_with (x ∷ front) (y ∷ l) = eqb y x && starts_with front l
