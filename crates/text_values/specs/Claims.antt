-- What is written reads back the same, and nothing else reads: one text for each number, each address and each list of octets. The proofs are in proofs/.
use Rattle.std.specs.Prelude.{ℕ, ◌*◌, ◌≤◌, ◌<◌, ◌≡◌, true, List, length, ltb, Some}
use Rattle.checks.specs.Lists.{every}
use Rattle.text.specs.Text.{decimal, dotted}
use Rattle.text_values.specs.Numbers.{decimal_of, dotted_of}
use Rattle.text_values.specs.Hex.{hex_text, is_hex, hex_octets}

-- numbers in decimal
pub record Decimals : Type 0 where
  pub back : (limit n : ℕ) → n ≤ limit → decimal_of limit (decimal n) ≡ Some n
  pub only : (limit n : ℕ) (text : List ℕ) → decimal_of limit text ≡ Some n → (text ≡ decimal n) × (n ≤ limit)

-- addresses as dotted quads
pub record Addresses : Type 0 where
  pub back : (a : ℕ) → a < 4294967296 → dotted_of (dotted a) ≡ Some a
  pub only : (a : ℕ) (text : List ℕ) → dotted_of text ≡ Some a → (text ≡ dotted a) × (a < 4294967296)

-- octets in hex
abbrev pub are_octets : List ℕ → Type 0
are_octets l = every (λ o. ltb o 256) l ≡ true

pub record Hexes : Type 0 where
  pub good : (octets : List ℕ) → are_octets octets → is_hex (hex_text octets) ≡ true
  pub back : (octets : List ℕ) → are_octets octets → hex_octets (hex_text octets) ≡ octets
  pub only : (text : List ℕ) → is_hex text ≡ true → hex_text (hex_octets text) ≡ text
  pub octets : (text : List ℕ) → is_hex text ≡ true → are_octets (hex_octets text)
  pub twice : (octets : List ℕ) → length (hex_text octets) ≡ 2 * length octets
