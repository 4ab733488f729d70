-- Octets as hex. 02: "Hex is capitals".
use Rattle.std.specs.Prelude.{ℕ, ◌+◌, ◌-◌, ◌*◌, ◌/◌, ◌%◌, Bool, true, false, cond, ◌&&◌, List, [], ◌∷◌, leb, ltb, Option, Some, None}

-- 0 to 15 as a digit: 0 to 9, then A to F
unfoldable pub hex_digit : ℕ → ℕ
hex_digit n = cond (ltb n 10) (48 + n) (55 + n)

-- two digits for each octet, the higher four bits first
unfoldable pub hex_text : List ℕ → List ℕ
hex_text [] = []
hex_text (octet ∷ rest) = hex_digit (octet / 16) ∷ hex_digit (octet % 16) ∷ hex_text rest

-- the number that a digit is, and 16 for any other octet
unfoldable pub nibble : ℕ → ℕ
nibble digit =
    cond (leb 48 digit && leb digit 57) (digit - 48) (cond (leb 65 digit && leb digit 70) (digit - 55) 16)

-- the number that a digit is, if it is one
abbrev pub digit_number : ℕ → Option ℕ
digit_number digit = cond (ltb (nibble digit) 16) (Some (nibble digit)) None

-- whole octets, in capital digits
unfoldable pub is_hex : List ℕ → Bool
is_hex [] = true
is_hex (a ∷ []) = false
is_hex (a ∷ b ∷ rest) = ltb (nibble a) 16 && (ltb (nibble b) 16 && is_hex rest)

-- the octets that they say
unfoldable pub hex_octets : List ℕ → List ℕ
hex_octets [] = []
hex_octets (a ∷ []) = []
hex_octets (a ∷ b ∷ rest) = (nibble a * 16 + nibble b) ∷ hex_octets rest
