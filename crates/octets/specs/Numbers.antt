-- Numbers in octets. 01: "All numbers are big-endian."
use Rattle.std.specs.Prelude.{ℕ, ◌+◌, ◌*◌, ◌/◌, ◌%◌, ◌<◌, List, ◌∷◌, get_or}

-- a list of octets: each element is below 256
abbrev pub Octets : List ℕ → Type 0
Octets l = (i : ℕ) → get_or l i 0 < 256

-- the 16-bit number whose octets are a, b
abbrev pub pair_of : ℕ → ℕ → ℕ
pair_of a b = a * 256 + b

-- the 32-bit number whose octets are a, b, c, d
abbrev pub quad_of : ℕ → ℕ → ℕ → ℕ → ℕ
quad_of a b c d = ((a * 256 + b) * 256 + c) * 256 + d

-- the 16-bit number at index i of s
abbrev pub word16 : List ℕ → ℕ → ℕ
word16 s i = pair_of (get_or s i 0) (get_or s (i + 1) 0)

-- the 32-bit number at index i of s
abbrev pub word32 : List ℕ → ℕ → ℕ
word32 s i = quad_of (get_or s i 0) (get_or s (i + 1) 0) (get_or s (i + 2) 0) (get_or s (i + 3) 0)

-- the octets of a 16-bit number, in front of rest
abbrev pub octets16 : ℕ → List ℕ → List ℕ
octets16 n rest = n / 256 % 256 ∷ n % 256 ∷ rest

-- the octets of a 32-bit number, in front of rest
abbrev pub octets32 : ℕ → List ℕ → List ℕ
octets32 n rest = n / 16777216 % 256 ∷ n / 65536 % 256 ∷ n / 256 % 256 ∷ n % 256 ∷ rest
