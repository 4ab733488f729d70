-- Laws of numbers in octets: lengths, parts, and that reading and writing undo each other. Assumes nothing.
use Prim.Native.Nat.{ℕ, zero, suc, ◌*◌, ◌/◌, ◌%◌, ◌≤◌, ◌<◌}
use native.Mathlib.Omega.{arith}
use mathlib.Core.Path.{◌≡◌, refl, ap, ◌∙◌}
use mathlib.Core.List.{List, [], ◌∷◌, ◌++◌}
use lib.ListN.{length, take, drop, get_or, replicate}
use lib.Seq.{drop-nil}
use Rattle.octets.specs.Numbers.{Octets, quad_of, word32, octets32}
use Rattle.octets.proofs.Back.{quad_back, first_of, second_of, third_of, fourth_of}
use Rattle.octets_words.specs.Words.{words_of, word_octets}

-- ---- lengths

pub word_octets_length : (numbers : List ℕ) → length (word_octets numbers) ≡ length numbers * 4
unfolding word_octets
word_octets_length [] = refl
word_octets_length (n ∷ rest) = omega (arith, word_octets_length rest)

pub words_length : (l : List ℕ) → length (words_of l) ≡ length l / 4
unfolding words_of
words_length [] = refl
words_length (a ∷ []) = refl
words_length (a ∷ b ∷ []) = refl
words_length (a ∷ b ∷ c ∷ []) = refl
words_length (a ∷ b ∷ c ∷ d ∷ rest) = omega (arith, words_length rest)

pub words_few : (l : List ℕ) → length (words_of l) ≤ length l
words_few l = omega (arith, words_length l)

-- ---- the number at the front, and those behind it

pub words_cons : (l : List ℕ) → 3 < length l → words_of l ≡ word32 l 0 ∷ words_of (drop 4 l)
unfolding words_of
words_cons [] h = absurd (omega (arith, h))
words_cons (a ∷ []) h = absurd (omega (arith, h))
words_cons (a ∷ b ∷ []) h = absurd (omega (arith, h))
words_cons (a ∷ b ∷ c ∷ []) h = absurd (omega (arith, h))
words_cons (a ∷ b ∷ c ∷ d ∷ rest) h = refl

pub words_short : (l : List ℕ) → length l < 4 → words_of l ≡ []
unfolding words_of
words_short [] h = refl
words_short (a ∷ []) h = refl
words_short (a ∷ b ∷ []) h = refl
words_short (a ∷ b ∷ c ∷ []) h = refl
words_short (a ∷ b ∷ c ∷ d ∷ rest) h = absurd (omega (arith, h))

-- ---- parts

-- a number more is four octets more
pub four_more : (n : ℕ) → suc n * 4 ≡ suc (suc (suc (suc (n * 4))))
four_more n = omega arith

pub words_take : (n : ℕ) (l : List ℕ) → words_of (take (n * 4) l) ≡ take n (words_of l)
unfolding words_of
words_take zero l = refl
words_take (suc n) [] = rw (four_more n)
words_take (suc n) (a ∷ []) = rw (four_more n)
words_take (suc n) (a ∷ b ∷ []) = rw (four_more n)
words_take (suc n) (a ∷ b ∷ c ∷ []) = rw (four_more n)
words_take (suc n) (a ∷ b ∷ c ∷ d ∷ rest) = rw (four_more n) (ap (λ (r : List ℕ). quad_of a b c d ∷ r) (words_take n rest))

pub words_drop : (n : ℕ) (l : List ℕ) → words_of (drop (n * 4) l) ≡ drop n (words_of l)
unfolding words_of
words_drop zero l = refl
words_drop (suc n) [] = rw (four_more n)
words_drop (suc n) (a ∷ []) = rw (four_more n) (ap words_of (drop-nil (suc (suc (suc (n * 4))))))
words_drop (suc n) (a ∷ b ∷ []) = rw (four_more n) (ap words_of (drop-nil (suc (suc (n * 4)))))
words_drop (suc n) (a ∷ b ∷ c ∷ []) = rw (four_more n) (ap words_of (drop-nil (suc (n * 4))))
words_drop (suc n) (a ∷ b ∷ c ∷ d ∷ rest) = rw (four_more n) (words_drop n rest)

pub word_octets_append : (xs ys : List ℕ) → word_octets (xs ++ ys) ≡ word_octets xs ++ word_octets ys
unfolding word_octets
word_octets_append [] ys = refl
word_octets_append (x ∷ xs) ys = ap (λ (r : List ℕ). octets32 x r) (word_octets_append xs ys)

pub word_octets_take : (n : ℕ) (numbers : List ℕ) → take (n * 4) (word_octets numbers) ≡ word_octets (take n numbers)
unfolding word_octets
word_octets_take zero numbers = refl
word_octets_take (suc n) [] = rw (four_more n)
word_octets_take (suc n) (x ∷ rest) = rw (four_more n) (ap (λ (r : List ℕ). octets32 x r) (word_octets_take n rest))

pub word_octets_drop : (n : ℕ) (numbers : List ℕ) → drop (n * 4) (word_octets numbers) ≡ word_octets (drop n numbers)
unfolding word_octets
word_octets_drop zero numbers = refl
word_octets_drop (suc n) [] = rw (four_more n)
word_octets_drop (suc n) (x ∷ rest) = rw (four_more n) (word_octets_drop n rest)

pub word_octets_zeros : (n : ℕ) → word_octets (replicate n 0) ≡ replicate (n * 4) 0
unfolding word_octets
word_octets_zeros zero = refl
word_octets_zeros (suc n) = rw (four_more n) (ap (λ (r : List ℕ). 0 ∷ 0 ∷ 0 ∷ 0 ∷ r) (word_octets_zeros n))

-- ---- each undoes the other

-- the octets of a number that four octets make are these
pub quad_octets : (a b c d : ℕ) (rest : List ℕ) → a < 256 → b < 256 → c < 256 → d < 256 → octets32 (quad_of a b c d) rest ≡ a ∷ b ∷ c ∷ d ∷ rest
quad_octets a b c d rest ha hb hc hd =
    rw (
      first_of a b c d ha hb hc hd,
      second_of a b c d ha hb hc hd,
      third_of a b c d ha hb hc hd,
      fourth_of a b c d ha hb hc hd,
    )

-- the octets behind the first four
octets_behind : (a b c d : ℕ) (rest : List ℕ) → Octets (a ∷ b ∷ c ∷ d ∷ rest) → Octets rest
octets_behind a b c d rest h i = h (suc (suc (suc (suc i))))

pub octets_of_words : (l : List ℕ) → Octets l → length l % 4 ≡ 0 → word_octets (words_of l) ≡ l
unfolding words_of word_octets
octets_of_words [] h e = refl
octets_of_words (a ∷ []) h e = absurd (omega (arith, e))
octets_of_words (a ∷ b ∷ []) h e = absurd (omega (arith, e))
octets_of_words (a ∷ b ∷ c ∷ []) h e = absurd (omega (arith, e))
octets_of_words (a ∷ b ∷ c ∷ d ∷ rest) h e =
    quad_octets a b c d (word_octets (words_of rest)) (h 0) (h 1) (h 2) (h 3)
    ∙ ap (λ (r : List ℕ). a ∷ b ∷ c ∷ d ∷ r) (octets_of_words rest (octets_behind a b c d rest h) (omega (arith, e)))

-- a list of numbers of 32 bits
abbrev pub Words : List ℕ → Type 0
Words l = (i : ℕ) → get_or l i 0 < 4294967296

pub words_of_octets : (numbers : List ℕ) → Words numbers → words_of (word_octets numbers) ≡ numbers
unfolding words_of word_octets
words_of_octets [] h = refl
words_of_octets (n ∷ rest) h =
    rw (quad_back n (h 0)) (ap (λ (r : List ℕ). n ∷ r) (words_of_octets rest (λ i. h (suc i))))
