-- 01: "Checksum: complement of the one's complement sum of 16-bit words, its field taken as 0, an odd last octet paired with a zero."
use Rattle.std.specs.Prelude.{ℕ, zero, suc, ◌+◌, ◌-◌, ◌%◌, ◌/◌, cond, ◌≡◌, List, [], ◌∷◌, set, ltb}
use Rattle.octets.specs.Numbers.{pair_of, Octets}

-- the one's complement sum of two 16-bit words: the carry out of the top bit comes in at the bottom
unfoldable pub ones_add : ℕ → ℕ → ℕ
ones_add a b = cond (ltb (a + b) 65536) (a + b) (a + b - 65535)

-- the one's complement sum of start and the words of a list of octets, an odd last one paired with a zero
unfoldable pub ones_sum : ℕ → List ℕ → ℕ
ones_sum start [] = start
ones_sum start (a ∷ []) = ones_add start (pair_of a 0)
ones_sum start (a ∷ b ∷ rest) = ones_sum (ones_add start (pair_of a b)) rest

-- a message with its checksum field taken as 0
abbrev pub blanked : List ℕ → List ℕ
blanked message = set (set message 4 0) 5 0

-- the checksum of a message
unfoldable pub checksum_of : List ℕ → ℕ
checksum_of message = 65535 - ones_sum 0 (blanked message)

-- a message with its checksum in the field
unfoldable pub sealed : List ℕ → List ℕ
sealed message = set (set message 4 (checksum_of message / 256 % 256)) 5 (checksum_of message % 256)

-- the plain sum of the words, for the law on folding
unfoldable pub word_total : List ℕ → ℕ
word_total [] = 0
word_total (a ∷ []) = pair_of a 0
word_total (a ∷ b ∷ rest) = pair_of a b + word_total rest

-- a plain sum folded to 16 bits: 0 for 0, else the number from 1 to 65,535 that is the sum modulo 65,535
unfoldable pub folded : ℕ → ℕ
folded zero = 0
folded (suc n) = n % 65535 + 1

-- Folding once at the end gives the one's complement sum; and the fold depends on the plain sum only modulo 65,535 and on its being zero.
pub record FoldLaws : Type 0 where
  pub once : (octets : List ℕ) → Octets octets → ones_sum 0 octets ≡ folded (word_total octets)
  pub modulo : (m n : ℕ) → suc m % 65535 ≡ suc n % 65535 → folded (suc m) ≡ folded (suc n)
