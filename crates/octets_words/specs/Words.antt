-- Numbers of 32 bits in octets, four octets each. 01: "All numbers are big-endian."
use Rattle.std.specs.Prelude.{ℕ, ◌%◌, cond, List, [], ◌∷◌, eqb, length}
use Rattle.octets.specs.Numbers.{quad_of, octets32}

-- the numbers of a list of octets; octets left over at its end make none
unfoldable pub words_of : List ℕ → List ℕ
words_of [] = []
words_of (a ∷ []) = []
words_of (a ∷ b ∷ []) = []
words_of (a ∷ b ∷ c ∷ []) = []
words_of (a ∷ b ∷ c ∷ d ∷ rest) = quad_of a b c d ∷ words_of rest

-- the octets of numbers
unfoldable pub word_octets : List ℕ → List ℕ
word_octets [] = []
word_octets (n ∷ rest) = octets32 n (word_octets rest)

-- the numbers of rows that a host hands over, 12 octets a row; octets of another length are read as one number, which
-- is no whole row and so no good list of rows
unfoldable pub row_numbers : List ℕ → List ℕ
row_numbers octets = cond (eqb (length octets % 12) 0) (words_of octets) (0 ∷ [])
