-- What the writer's inner functions promise.
use Rattle.std.specs.Prelude.{ℕ, suc, cond, List, [], ◌∷◌, eqb}
use Rattle.nets.specs.Rows.{Row}

-- how many rows at the front have this number
unfoldable pub agreeing : (Row → ℕ) → ℕ → List Row → ℕ
agreeing key number [] = 0
agreeing key number (row ∷ rest) = cond (eqb number (key row)) (suc (agreeing key number rest)) 0

-- how many rows the first run has
unfoldable pub run_length : (Row → ℕ) → List Row → ℕ
run_length key [] = 0
run_length key (row ∷ rest) = suc (agreeing key (key row) rest)
