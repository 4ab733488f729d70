-- Numbers side by side in octets, each in a field of one, two or four. 01: "All numbers are big-endian."
use Rattle.std.specs.Prelude.{ℕ, ◌+◌, ◌<◌, List, [], ◌∷◌, ◌++◌, get_or}
use Rattle.octets.specs.Numbers.{word16, word32, octets16, octets32}

pub data Width : Type 0 where
  one : Width
  two : Width
  four : Width

abbrev pub size : Width → ℕ
size one = 1
size two = 2
size four = 4

-- the octets of fields of these widths
abbrev pub total : List Width → ℕ
total [] = 0
total (w ∷ rest) = size w + total rest

-- the number of this width at index i
abbrev pub number_at : Width → List ℕ → ℕ → ℕ
number_at one l i = get_or l i 0
number_at two l i = word16 l i
number_at four l i = word32 l i

-- the octets of a number of this width
abbrev pub octets_of : Width → ℕ → List ℕ
octets_of one n = n ∷ []
octets_of two n = octets16 n []
octets_of four n = octets32 n []

-- below this a number fits
abbrev pub limit : Width → ℕ
limit one = 256
limit two = 65536
limit four = 4294967296

-- the numbers of fields of these widths, one behind the other from index i on
unfoldable pub numbers_at : List Width → List ℕ → ℕ → List ℕ
numbers_at [] l i = []
numbers_at (w ∷ rest) l i = number_at w l i ∷ numbers_at rest l (i + size w)

-- the octets of fields of these widths that have these numbers
unfoldable pub octets_for : List Width → List ℕ → List ℕ
octets_for [] numbers = []
octets_for (w ∷ rest) [] = octets_of w 0 ++ octets_for rest []
octets_for (w ∷ rest) (n ∷ numbers) = octets_of w n ++ octets_for rest numbers

-- as many numbers as fields, each in its width
abbrev pub Fit : List Width → List ℕ → Type 0
Fit [] [] = Unit {0}
Fit [] (n ∷ numbers) = ⊥
Fit (w ∷ rest) [] = ⊥
Fit (w ∷ rest) (n ∷ numbers) = (n < limit w) × Fit rest numbers
