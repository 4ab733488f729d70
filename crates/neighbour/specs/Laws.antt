-- Laws of the small rules. Their proofs are in proofs/.
use Rattle.std.specs.Prelude.{ℕ, ◌<◌, ◌≡◌, List, [], ◌∷◌, get_or}
use Rattle.neighbour.specs.Rules.{ones_of}

-- the ones of 0 to 15
abbrev pub ones_table : List ℕ
ones_table = 0 ∷ 1 ∷ 1 ∷ 2 ∷ 1 ∷ 2 ∷ 2 ∷ 3 ∷ 1 ∷ 2 ∷ 2 ∷ 3 ∷ 2 ∷ 3 ∷ 3 ∷ 4 ∷ []

-- the sum of a register's bits is the table's entry
abbrev pub OnesByTable : Type 0
OnesByTable = (register : ℕ) → register < 16 → get_or ones_table register 0 ≡ ones_of register
