-- Storing the rows of an Update in a slot's part of the table.
use Rattle.std.specs.Prelude.{ℕ, ◌+◌, ◌*◌, ◌-◌, ◌≤◌, ◌≡◌, Bool, true, false, List, [], ◌++◌, length, replicate}
use Rattle.std.proofs.lemmas.List.Edits.{sets}
use Rattle.nets.specs.Rows.{Row, flat}
use Rattle.update_walk.specs.Body.{Got, got, stop, Walk, whole, broken, walked_blocks}
use Rattle.update_rows.specs.declared.Put.{Put}

-- 01: "Unused rows are zero"
unfoldable pub zeros : ℕ → List ℕ
zeros n = replicate n 0

-- 01: "replacing rows writes the slot's 128 rows, the rest zero": the numbers of a part of this size
unfoldable pub padded : ℕ → List ℕ → List ℕ
padded size numbers = numbers ++ zeros (size - length numbers)

-- whether the gateway blocks of an Update are whole, and their rows
unfoldable pub is_whole : Walk → Bool
is_whole (whole rs) = true
is_whole (broken offset) = false

unfoldable pub walked_rows : Walk → List Row
walked_rows (whole rs) = rs
walked_rows (broken offset) = []

-- what storing may take for granted: the walk was good, and there is room for its rows
pub record Storable (net : ℕ) (message part : List ℕ) : Type 0 where
  pub sound : is_whole (walked_blocks net message) ≡ true
  pub room : 3 * length (walked_rows (walked_blocks net message)) ≤ length part

-- the same of one reading, with its rows and the octets after it
unfoldable pub is_got : Got (List Row) → Bool
is_got (got rs rest) = true
is_got (stop left) = false

unfoldable pub got_rows : Got (List Row) → List Row
got_rows (got rs rest) = rs
got_rows (stop left) = []

unfoldable pub got_rest : Got (List Row) → List ℕ
got_rest (got rs rest) = rest
got_rest (stop left) = []

pub record Room (g : Got (List Row)) (at : ℕ) (part : List ℕ) : Type 0 where
  pub good : is_got g ≡ true
  pub fits : at + 3 * length (got_rows g) ≤ length part

-- the numbers of its rows stand from here on, nothing else changed; where they end, and the octets that are left
pub record Stored (g : Got (List Row)) (at : ℕ) (old new : List ℕ) (put : Put) : Type 0 where
  pub numbers : new ≡ sets old at (flat (got_rows g))
  pub next : put.at ≡ at + 3 * length (got_rows g)
  pub rest : put.rest.now ≡ got_rest g
