-- Laws of the one's complement sum. Assumes nothing.
use Prim.Native.Nat.{ℕ, zero, suc, ◌+◌, ◌-◌, ◌/◌, ◌%◌, ◌≤◌, ◌<◌}
use native.Mathlib.Nat.{add-zero, zero-add}
use native.Mathlib.Omega.{arith}
use borrow.Author.Tests.{ltb-true, ltb-false}
use mathlib.Core.Path.{◌≡◌, refl, sym, ap, ◌∙◌}
use mathlib.Core.Bool.{Bool, true, false, cond}
use mathlib.Core.List.{List, [], ◌∷◌, ◌++◌}
use lib.ListN.{length, take, drop, get_or, set, length-set}
use lib.Seq.{set_out, take_at, drop_at}
use lib.Dec.{ltb}
use Rattle.octets.specs.Numbers.{pair_of, Octets}
use Rattle.octets.specs.Buffer.{over}
use Rattle.octets_checksum.specs.Checksum.{ones_add, ones_sum, blanked, checksum_of, sealed, word_total, folded, FoldLaws}

-- ---- the checksum's field taken as 0

-- a list of six or more, written out
pub six_or_more : (P : List ℕ → Type 0) → ((a b c d e f : ℕ) (rest : List ℕ) → P (a ∷ b ∷ c ∷ d ∷ e ∷ f ∷ rest)) → (m : List ℕ) → 6 ≤ length m → P m
six_or_more P p [] h = absurd (omega arith)
six_or_more P p (a ∷ []) h = absurd (omega arith)
six_or_more P p (a ∷ b ∷ []) h = absurd (omega arith)
six_or_more P p (a ∷ b ∷ c ∷ []) h = absurd (omega arith)
six_or_more P p (a ∷ b ∷ c ∷ d ∷ []) h = absurd (omega arith)
six_or_more P p (a ∷ b ∷ c ∷ d ∷ e ∷ []) h = absurd (omega arith)
six_or_more P p (a ∷ b ∷ c ∷ d ∷ e ∷ f ∷ rest) h = p a b c d e f rest

-- ---- a message with its checksum put in

pub sealed_none : (m : List ℕ) → length m < 5 → m ≡ sealed m
unfolding sealed
sealed_none m h =
    let p : length m ≤ 4 = omega arith in
    let q : length m ≤ 5 = omega arith in
    rw (set_out m 4 (checksum_of m / 256 % 256) p, set_out m 5 (checksum_of m % 256) q)

pub sealed_half : (m : List ℕ) (x : ℕ) → x ≡ checksum_of m → length m < 6 → set m 4 (x / 256 % 256) ≡ sealed m
unfolding sealed
sealed_half m x e h =
    rw (← e) (sym (set_out (set m 4 (x / 256 % 256)) 5 (x % 256) (rw length-set (omega arith))))

pub sealed_length : (m : List ℕ) → length (sealed m) ≡ length m
unfolding sealed
sealed_length m = rw (length-set, length-set)

-- the first octet is none of the field's
pub sealed_first : (m : List ℕ) → 6 ≤ length m → get_or (sealed m) 0 0 ≡ get_or m 0 0
unfolding sealed
sealed_first m h = six_or_more (λ m. get_or (sealed m) 0 0 ≡ get_or m 0 0) (λ a b c d e f rest. refl) m h

-- the field does not count
pub blanked_sealed : (m : List ℕ) → blanked (sealed m) ≡ blanked m
unfolding sealed
blanked_sealed [] = refl
blanked_sealed (a ∷ []) = refl
blanked_sealed (a ∷ b ∷ []) = refl
blanked_sealed (a ∷ b ∷ c ∷ []) = refl
blanked_sealed (a ∷ b ∷ c ∷ d ∷ []) = refl
blanked_sealed (a ∷ b ∷ c ∷ d ∷ e ∷ []) = refl
blanked_sealed (a ∷ b ∷ c ∷ d ∷ e ∷ f ∷ m) = refl

pub checksum_sealed : (m : List ℕ) → checksum_of (sealed m) ≡ checksum_of m
unfolding checksum_of
checksum_sealed m = ap (λ (l : List ℕ). 65535 - ones_sum 0 l) (blanked_sealed m)

pub checksum_below : (m : List ℕ) → checksum_of m < 65536
unfolding checksum_of
checksum_below m = omega arith

-- 01: "The field must equal that number": it does in a message that was sealed
pub field_sealed : (m : List ℕ) → 6 ≤ length m → pair_of (get_or (sealed m) 4 0) (get_or (sealed m) 5 0) ≡ checksum_of (sealed m)
unfolding sealed
field_sealed m h =
    six_or_more (λ m. pair_of (get_or (sealed m) 4 0) (get_or (sealed m) 5 0) ≡ checksum_of m)
    (λ a b c d e f rest. omega (arith, checksum_below (a ∷ b ∷ c ∷ d ∷ e ∷ f ∷ rest))) m h
    ∙ sym (checksum_sealed m)

-- a message whose field is right is what sealing makes of it
pub sealed_right : (o : List ℕ) → 6 ≤ length o → get_or o 4 0 < 256 → get_or o 5 0 < 256
    → pair_of (get_or o 4 0) (get_or o 5 0) ≡ checksum_of o → sealed o ≡ o
unfolding sealed
sealed_right o h =
    six_or_more (λ o. get_or o 4 0 < 256 → get_or o 5 0 < 256 → pair_of (get_or o 4 0) (get_or o 5 0) ≡ checksum_of o → sealed o ≡ o)
    (λ a b c d e f rest p q r.
    let x : checksum_of (a ∷ b ∷ c ∷ d ∷ e ∷ f ∷ rest) / 256 % 256 ≡ e = omega arith in
    let y : checksum_of (a ∷ b ∷ c ∷ d ∷ e ∷ f ∷ rest) % 256 ≡ f = omega arith in
    rw (x, y)) o h

-- sealing sees nothing of the field
pub sealed_blanked : (o : List ℕ) → 6 ≤ length o → sealed (blanked o) ≡ sealed o
unfolding sealed checksum_of
sealed_blanked o h = six_or_more (λ o. sealed (blanked o) ≡ sealed o) (λ a b c d e f rest. refl) o h

-- ---- folding once, at the end

pub fold_positive : (n : ℕ) → 0 < n → folded n ≡ (n - 1) % 65535 + 1
unfolding folded
fold_positive zero h = absurd (omega arith)
fold_positive (suc n) h = omega arith

pub fold_sum : (s : ℕ) → s < 65536 → s ≡ folded s
unfolding folded
fold_sum zero h = refl
fold_sum (suc n) h = omega arith

-- a word taken into the sum, with the carry brought round
fold_word : (s w t : ℕ) → s < 65536 → w < 65536 → folded (ones_add s w + t) ≡ folded (s + (w + t))
unfolding ones_add
fold_word s w t p q = go (ltb (s + w) 65536) refl
  where
    go : (b : Bool) → ltb (s + w) 65536 ≡ b → folded (cond (ltb (s + w) 65536) (s + w) (s + w - 65535) + t) ≡ folded (s + (w + t))
    go true e = let k : s + w + t ≡ s + (w + t) = omega arith in rw e (ap folded k)
    go false e =
        let h = ltb-false (s + w) 65536 e in
        let k : 0 < s + w - 65535 + t = omega arith in
        let l : 0 < s + (w + t) = omega arith in
        rw (e, fold_positive (s + w - 65535 + t) k, fold_positive (s + (w + t)) l) (omega arith)

add_below : (s w : ℕ) → s < 65536 → w < 65536 → ones_add s w < 65536
unfolding ones_add
add_below s w p q = go (ltb (s + w) 65536) refl
  where
    go : (b : Bool) → ltb (s + w) 65536 ≡ b → cond (ltb (s + w) 65536) (s + w) (s + w - 65535) < 65536
    go true e = rw e (ltb-true (s + w) 65536 e)
    go false e = let h = ltb-false (s + w) 65536 e in rw e (omega arith)

-- the sum from any 16-bit start
sum_folds : (s : ℕ) (l : List ℕ) → s < 65536 → Octets l → ones_sum s l ≡ folded (s + word_total l)
unfolding ones_sum word_total
sum_folds s [] p o = rw add-zero (fold_sum s p)
sum_folds s (a ∷ []) p o =
    let w : pair_of a 0 < 65536 = omega (arith, o 0) in
    fold_sum (ones_add s (pair_of a 0)) (add_below s (pair_of a 0) p w)
    ∙ ap folded (sym (add-zero (ones_add s (pair_of a 0))))
    ∙ fold_word s (pair_of a 0) 0 p w
    ∙ ap (λ (x : ℕ). folded (s + x)) (add-zero (pair_of a 0))
sum_folds s (a ∷ b ∷ rest) p o =
    let w : pair_of a b < 65536 = omega (arith, o 0, o 1) in
    sum_folds (ones_add s (pair_of a b)) rest (add_below s (pair_of a b) p w) (λ i. o (suc (suc i)))
    ∙ fold_word s (pair_of a b) (word_total rest) p w

pub folds : FoldLaws
unfolding folded
folds =
    record { once = λ l o. sum_folds 0 l (omega arith) o ∙ ap folded (zero-add (word_total l)); modulo = λ m n e. omega arith }

-- ---- a message in a lent buffer

-- a message at the front of a buffer, its checksum filled in there
pub over_sealed : (message buffer x : List ℕ) (end : ℕ) → x ≡ over message buffer → end ≡ length message
    → sealed (take end x) ++ drop end x ≡ over (sealed message) buffer
unfolding over
over_sealed message buffer x end e n =
    rw (
      e,
      n,
      take_at message (drop (length message) buffer) (length message) refl,
      drop_at message (drop (length message) buffer) (length message) refl,
      sealed_length message,
    )
