-- What a call returns to a C host. 02: "Each returns four 16-bit numbers in one, from the top: 0, second length, first
-- length, answer."
use Rattle.std.specs.Prelude.{ℕ, ◌+◌, ◌*◌, ◌/◌, ◌%◌, ◌<◌, ◌≡◌}

unfoldable pub packed : ℕ → ℕ → ℕ → ℕ
packed answer first second = (second * 65536 + first) * 65536 + answer

-- a refusal without a reply: lengths 0 and 0
abbrev pub bare : ℕ → ℕ
bare answer = packed answer 0 0

-- the four numbers, taken apart again
pub record TakenApart (answer first second : ℕ) : Type 0 where
  pub lowest : packed answer first second % 65536 ≡ answer
  pub next : packed answer first second / 65536 % 65536 ≡ first
  pub third : packed answer first second / 4294967296 % 65536 ≡ second
  pub top : packed answer first second / 281474976710656 ≡ 0

-- of any numbers of 16 bits
abbrev pub FourNumbers : Type 0
FourNumbers = (answer first second : ℕ) → answer < 65536 → first < 65536 → second < 65536 → TakenApart answer first second
