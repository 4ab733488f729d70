-- Rows of the table. 01: "three a row: net, gateway, and distance plus 256 if external."
use Rattle.std.specs.Prelude.{ℕ, List, [], ◌∷◌}

pub record Row : Type 0 where
  pub net : ℕ
  pub gateway : ℕ
  -- the distance, plus 256 if external
  pub third : ℕ

-- the numbers of a list of rows, three a row
unfoldable pub flat : List Row → List ℕ
flat [] = []
flat (r ∷ rest) = r.net ∷ r.gateway ∷ r.third ∷ flat rest

-- the whole rows of a list of numbers
unfoldable pub rows_of : List ℕ → List Row
rows_of [] = []
rows_of (a ∷ []) = []
rows_of (a ∷ b ∷ []) = []
rows_of (a ∷ b ∷ c ∷ rest) = record { net = a; gateway = b; third = c } ∷ rows_of rest
