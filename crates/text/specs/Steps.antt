-- The parts in which text is written.
use Rattle.std.specs.Prelude.{ℕ, List, ◌++◌}
use Rattle.text.specs.Text.{text, decimal}

-- one of the first three numbers of a dotted quad
unfoldable pub before_dot : ℕ → List ℕ
before_dot n = decimal n ++ text "."
