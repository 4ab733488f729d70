-- How a bad line is reported. 02: "as `bad=` and its line number, from 1".
use Rattle.std.specs.Prelude.{ℕ, suc, cond, List, ltb}
use Rattle.text.specs.Text.{text, decimal, line}

unfoldable pub bad_text : ℕ → List ℕ
bad_text number = line (text "bad=") (decimal number)

-- one line more is counted; 18,446,744,073,709,551,615 is the most, and no recording has so many
unfoldable pub one_more : ℕ → ℕ
one_more lines = cond (ltb lines 18446744073709551615) (suc lines) lines
