-- Numbers in fields and their octets, each from the other. Assumes nothing.
use Prim.Native.Nat.{ℕ, suc, ◌+◌}
use native.Mathlib.Nat.{add-zero}
use native.Mathlib.Omega.{arith}
use mathlib.Core.Path.{◌≡◌, refl, sym, ap, ◌∙◌}
use mathlib.Core.List.{List, [], ◌∷◌}
use lib.ListN.{length, get_or, drop, length-append}
use lib.Seq.{get_or-drop, drop-drop}
use Rattle.octets.specs.Numbers.{Octets}
use Rattle.octets.proofs.Back.{word_back, quad_back, high, low, first_of, second_of, third_of, fourth_of}
use Rattle.host_state_block.specs.Layout.{Width, one, two, four, size, total, number_at, octets_of, numbers_at, octets_for, Fit}

pub octets_size : (w : Width) (n : ℕ) → length (octets_of w n) ≡ size w
octets_size one n = refl
octets_size two n = refl
octets_size four n = refl

pub octets_total : (ws : List Width) (numbers : List ℕ) → length (octets_for ws numbers) ≡ total ws
unfolding octets_for
octets_total [] numbers = refl
octets_total (w ∷ ws) [] = length-append (octets_of w 0) (octets_for ws []) ∙ omega (arith, octets_size w 0, octets_total ws [])
octets_total (w ∷ ws) (n ∷ numbers) =
    length-append (octets_of w n) (octets_for ws numbers) ∙ omega (arith, octets_size w n, octets_total ws numbers)

-- ---- the numbers from the front on

unfoldable unpacked : List Width → List ℕ → List ℕ
unpacked [] l = []
unpacked (w ∷ ws) l = number_at w l 0 ∷ unpacked ws (drop (size w) l)

number_drop : (w : Width) (l : List ℕ) (i : ℕ) → number_at w l i ≡ number_at w (drop i l) 0
number_drop one l i = sym (get_or-drop i l 0 0 ∙ ap (λ (k : ℕ). get_or l k 0) (add-zero i))
number_drop two l i = rw (get_or-drop i l 0 0, get_or-drop i l 1 0, add-zero i)
number_drop four l i = rw (get_or-drop i l 0 0, get_or-drop i l 1 0, get_or-drop i l 2 0, get_or-drop i l 3 0, add-zero i)

numbers_unpacked : (ws : List Width) (l : List ℕ) (i : ℕ) → numbers_at ws l i ≡ unpacked ws (drop i l)
unfolding numbers_at unpacked
numbers_unpacked [] l i = refl
numbers_unpacked (w ∷ ws) l i =
    rw (number_drop w l i, numbers_unpacked ws l (i + size w), drop-drop (size w) i l)

-- ---- written, then read

unpacked_octets : (ws : List Width) (numbers : List ℕ) → Fit ws numbers → unpacked ws (octets_for ws numbers) ≡ numbers
unfolding unpacked octets_for
unpacked_octets [] [] f = refl
unpacked_octets [] (n ∷ numbers) f = absurd f
unpacked_octets (w ∷ ws) [] f = absurd f
unpacked_octets (one ∷ ws) (n ∷ numbers) f = ap (λ (r : List ℕ). n ∷ r) (unpacked_octets ws numbers f.1)
unpacked_octets (two ∷ ws) (n ∷ numbers) f =
    rw (word_back n f.0) (ap (λ (r : List ℕ). n ∷ r) (unpacked_octets ws numbers f.1))
unpacked_octets (four ∷ ws) (n ∷ numbers) f =
    rw (quad_back n f.0) (ap (λ (r : List ℕ). n ∷ r) (unpacked_octets ws numbers f.1))

pub numbers_back : (ws : List Width) (numbers : List ℕ) → Fit ws numbers → numbers_at ws (octets_for ws numbers) 0 ≡ numbers
numbers_back ws numbers f = numbers_unpacked ws (octets_for ws numbers) 0 ∙ unpacked_octets ws numbers f

-- ---- read, then written

octets_unpacked : (ws : List Width) (l : List ℕ) → length l ≡ total ws → Octets l → octets_for ws (unpacked ws l) ≡ l
unfolding unpacked octets_for
octets_unpacked [] [] e o = refl
octets_unpacked [] (a ∷ l) e o = absurd (omega (arith, e))
octets_unpacked (one ∷ ws) [] e o = absurd (omega (arith, e))
octets_unpacked (one ∷ ws) (a ∷ l) e o =
    ap (λ (r : List ℕ). a ∷ r) (octets_unpacked ws l (omega (arith, e)) (λ i. o (suc i)))
octets_unpacked (two ∷ ws) [] e o = absurd (omega (arith, e))
octets_unpacked (two ∷ ws) (a ∷ []) e o = absurd (omega (arith, e))
octets_unpacked (two ∷ ws) (a ∷ b ∷ l) e o =
    rw (high a b (o 0) (o 1), low a b (o 0) (o 1))
    (ap (λ (r : List ℕ). a ∷ b ∷ r) (octets_unpacked ws l (omega (arith, e)) (λ i. o (suc (suc i)))))
octets_unpacked (four ∷ ws) [] e o = absurd (omega (arith, e))
octets_unpacked (four ∷ ws) (a ∷ []) e o = absurd (omega (arith, e))
octets_unpacked (four ∷ ws) (a ∷ b ∷ []) e o = absurd (omega (arith, e))
octets_unpacked (four ∷ ws) (a ∷ b ∷ c ∷ []) e o = absurd (omega (arith, e))
octets_unpacked (four ∷ ws) (a ∷ b ∷ c ∷ d ∷ l) e o =
    rw (
      first_of a b c d (o 0) (o 1) (o 2) (o 3),
      second_of a b c d (o 0) (o 1) (o 2) (o 3),
      third_of a b c d (o 0) (o 1) (o 2) (o 3),
      fourth_of a b c d (o 0) (o 1) (o 2) (o 3),
    )
    (ap (λ (r : List ℕ). a ∷ b ∷ c ∷ d ∷ r) (octets_unpacked ws l (omega (arith, e)) (λ i. o (suc (suc (suc (suc i)))))))

pub octets_back : (ws : List Width) (l : List ℕ) → length l ≡ total ws → Octets l → octets_for ws (numbers_at ws l 0) ≡ l
octets_back ws l e o = ap (octets_for ws) (numbers_unpacked ws l 0) ∙ octets_unpacked ws l e o
