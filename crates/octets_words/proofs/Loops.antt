-- Laws of the loops that read and write numbers. Assumes nothing.
use Prim.Native.Nat.{ℕ, suc, ◌+◌, ◌*◌, ◌≤◌, ◌<◌}
use native.Mathlib.Numerals.{add-one}
use native.Mathlib.Nat.{suc-add}
use native.Mathlib.Omega.{arith}
use mathlib.Core.Path.{◌≡◌, refl, ap}
use mathlib.Core.List.{List, [], ◌∷◌}
use lib.ListN.{length, take, drop, get_or, drop_of_length-le}
use lib.Seq.{sets, drop-cons}
use Rattle.octets.specs.Numbers.{word32, octets32}
use Rattle.octets.specs.Buffer.{over}
use Rattle.octets.proofs.Numbers.{sets_append, sets_over}
use Rattle.octets_words.specs.Words.{words_of, word_octets}
use Rattle.octets_words.proofs.Words.{word_octets_length, four_more}

-- ---- written

pub write_turn : (l new numbers : List ℕ) (i : ℕ) → i < length numbers → new ≡ sets l (i * 4) (octets32 (get_or numbers i 0) [])
    → sets l (i * 4) (word_octets (drop i numbers)) ≡ sets new ((i + 1) * 4) (word_octets (drop (i + 1) numbers))
unfolding word_octets
write_turn l new numbers i h e =
    let next : (i + 1) * 4 ≡ i * 4 + 4 = omega arith in
    rw (next, e, drop-cons numbers i 0 h, add-one) (sets_append l (i * 4) (octets32 (get_or numbers i 0) []) (word_octets (drop (suc i) numbers)))

pub write_done : (l numbers : List ℕ) (i : ℕ) → length numbers ≤ i → sets l (i * 4) (word_octets (drop i numbers)) ≡ l
unfolding word_octets
write_done l numbers i h = ap (λ (s : List ℕ). sets l (i * 4) (word_octets s)) (drop_of_length-le numbers h)

pub write_over : (l numbers : List ℕ) → length numbers * 4 ≤ length l → sets l 0 (word_octets numbers) ≡ over (word_octets numbers) l
write_over l numbers h = sets_over l (word_octets numbers) (omega (arith, word_octets_length numbers))

-- ---- read

-- numbers that are each the one of their own four octets
pub read_all : (numbers octets : List ℕ) → length numbers * 4 ≤ length octets → ((k : ℕ) → k < length numbers → get_or numbers k 0 ≡ word32 octets (k * 4))
    → numbers ≡ take (length numbers) (words_of octets)
unfolding words_of
read_all [] octets h f = refl
read_all (n ∷ numbers) [] h f = absurd (omega (arith, h))
read_all (n ∷ numbers) (a ∷ []) h f = absurd (omega (arith, h))
read_all (n ∷ numbers) (a ∷ b ∷ []) h f = absurd (omega (arith, h))
read_all (n ∷ numbers) (a ∷ b ∷ c ∷ []) h f = absurd (omega (arith, h))
read_all (n ∷ numbers) (a ∷ b ∷ c ∷ d ∷ octets) h f =
    rw (← f 0 (omega arith)) (ap (λ (rest : List ℕ). n ∷ rest) (read_all numbers octets (omega arith) (λ (k : ℕ) (below : k < length numbers). simp (four_more, suc-add) at (f (suc k) (omega arith)))))
