-- Laws of the sum of 32-bit words, and of folding it. Assumes nothing.
use Prim.Native.Nat.{ℕ, zero, suc, ◌+◌, ◌-◌, ◌*◌, ◌/◌, ◌%◌, ◌≤◌, ◌<◌}
use native.Mathlib.Nat.{zero-add}
use native.Mathlib.Omega.{arith}
use mathlib.Core.Path.{◌≡◌, refl, sym, ap, ◌∙◌}
use mathlib.Core.Bool.{Bool, true, false, cond}
use borrow.Author.Tests.{lt-ltb, ltb-true}
use lib.Dec.{ltb}
use mathlib.Core.List.{List, [], ◌∷◌, ◌++◌}
use lib.ListN.{length, take, drop, get_or, length-drop, length-set, drop_of_length-le}
use lib.Seq.{drop-drop, take-append_seam, drop-append_seam}
use Rattle.std.specs.Int.{w32, from_be_bytes}
use Rattle.std.specs.Simd.{first_chunks}
use Rattle.octets.proofs.Back.{quad_bytes}
use Rattle.octets.specs.Numbers.{pair_of, word16, word32, Octets}
use Rattle.octets_checksum.specs.Checksum.{blanked, checksum_of, word_total, folded}
use Rattle.octets_checksum.specs.Wide.{wide_total, kept_sum, WideLaws, EveryLength}
use Rattle.octets_checksum.proofs.Laws.{six_or_more, fold_positive, fold_sum, folds}

-- ---- the sums of 32-bit and of 16-bit words

-- the sum of the upper halves of the 32-bit words
abbrev upper_total : List ℕ → ℕ
upper_total [] = 0
upper_total (a ∷ []) = pair_of a 0
upper_total (a ∷ b ∷ []) = pair_of a b
upper_total (a ∷ b ∷ c ∷ []) = pair_of a b
upper_total (a ∷ b ∷ c ∷ d ∷ rest) = pair_of a b + upper_total rest

-- 65,536 times an upper half is 65,535 times it, and it once more
wide_apart : (l : List ℕ) → wide_total l ≡ word_total l + 65535 * upper_total l
unfolding wide_total word_total
wide_apart [] = refl
wide_apart (a ∷ []) = omega arith
wide_apart (a ∷ b ∷ []) = omega arith
wide_apart (a ∷ b ∷ c ∷ []) = omega arith
wide_apart (a ∷ b ∷ c ∷ d ∷ rest) = omega (arith, wide_apart rest)

upper_most : (l : List ℕ) → upper_total l ≤ word_total l
unfolding word_total
upper_most [] = omega arith
upper_most (a ∷ []) = omega arith
upper_most (a ∷ b ∷ []) = omega arith
upper_most (a ∷ b ∷ c ∷ []) = omega arith
upper_most (a ∷ b ∷ c ∷ d ∷ rest) = omega (arith, upper_most rest)

fold_apart : (w u : ℕ) → u ≤ w → folded (w + 65535 * u) ≡ folded w
fold_apart zero u h = let e : 0 + 65535 * u ≡ 0 = omega arith in ap folded e
fold_apart (suc w) u h =
    let p : 0 < suc w + 65535 * u = omega arith in
    let q : 0 < suc w = omega arith in
    fold_positive (suc w + 65535 * u) p ∙ omega arith ∙ sym (fold_positive (suc w) q)

wide_fold : (l : List ℕ) → folded (wide_total l) ≡ folded (word_total l)
wide_fold l = ap folded (wide_apart l) ∙ fold_apart (word_total l) (upper_total l) (upper_most l)

-- ---- the field

blank_octets : (m : List ℕ) → Octets m → Octets (blanked m)
blank_octets [] o i = o i
blank_octets (a ∷ m) o zero = o 0
blank_octets (a ∷ []) o (suc i) = o (suc i)
blank_octets (a ∷ b ∷ m) o (suc zero) = o 1
blank_octets (a ∷ b ∷ []) o (suc (suc i)) = o (suc (suc i))
blank_octets (a ∷ b ∷ c ∷ m) o (suc (suc zero)) = o 2
blank_octets (a ∷ b ∷ c ∷ []) o (suc (suc (suc i))) = o (suc (suc (suc i)))
blank_octets (a ∷ b ∷ c ∷ d ∷ m) o (suc (suc (suc zero))) = o 3
blank_octets (a ∷ b ∷ c ∷ d ∷ []) o (suc (suc (suc (suc i)))) = o (suc (suc (suc (suc i))))
blank_octets (a ∷ b ∷ c ∷ d ∷ e ∷ m) o (suc (suc (suc (suc zero)))) = omega arith
blank_octets (a ∷ b ∷ c ∷ d ∷ e ∷ []) o (suc (suc (suc (suc (suc i))))) = o (suc (suc (suc (suc (suc i)))))
blank_octets (a ∷ b ∷ c ∷ d ∷ e ∷ f ∷ m) o (suc (suc (suc (suc (suc zero))))) = omega arith
blank_octets (a ∷ b ∷ c ∷ d ∷ e ∷ f ∷ m) o (suc (suc (suc (suc (suc (suc i)))))) = o (suc (suc (suc (suc (suc (suc i))))))

wide_checksum : (m : List ℕ) → Octets m → 65535 - folded (wide_total (blanked m)) ≡ checksum_of m
unfolding checksum_of
wide_checksum m o =
    ap (λ (x : ℕ). 65535 - x) (wide_fold (blanked m) ∙ sym (folds.once (blanked m) (blank_octets m o)))

pub wide_laws : WideLaws
wide_laws =
    record {
      modulo = λ l. omega (arith, wide_apart l);
      zero_wide = λ l e. omega (arith, wide_apart l, upper_most l);
      zero_words = λ l e. omega (arith, wide_apart l);
      fold = wide_fold;
      checksum = wide_checksum;
    }

-- ---- along the code

-- the first word
pub wide_turn : (l : List ℕ) → 4 ≤ length l → word32 l 0 + wide_total (drop 4 l) ≡ wide_total l
unfolding wide_total
wide_turn [] h = absurd (omega arith)
wide_turn (a ∷ []) h = absurd (omega arith)
wide_turn (a ∷ b ∷ []) h = absurd (omega arith)
wide_turn (a ∷ b ∷ c ∷ []) h = absurd (omega arith)
wide_turn (a ∷ b ∷ c ∷ d ∷ l) h = refl

-- chunk i of the whole ones, each of n octets
chunk_at : (n k i : ℕ) (l : List ℕ) → i < k → get_or (first_chunks n k l) i [] ≡ take n (drop (i * n) l)
chunk_at n zero i l h = absurd (omega (arith, h))
chunk_at n (suc k) zero l h = let e : 0 * n ≡ 0 = omega arith in rw e refl
chunk_at n (suc k) (suc i) l h =
    let e : n + i * n ≡ suc i * n = omega arith in
    chunk_at n k i (drop n l) (omega arith) ∙ ap (take n) (drop-drop (i * n) n l ∙ ap (λ (m : ℕ). drop m l) e)

front_word : (l : List ℕ) → from_be_bytes w32 (take 4 l) ≡ word32 l 0
front_word [] = refl
front_word (a ∷ []) = omega arith
front_word (a ∷ b ∷ []) = omega arith
front_word (a ∷ b ∷ c ∷ []) = omega arith
front_word (a ∷ b ∷ c ∷ d ∷ l) = quad_bytes a b c d

pub word_taken : (l : List ℕ) (words : List (List ℕ)) (i v : ℕ) → words ≡ first_chunks 4 (length l / 4) l → i < length l / 4 → v ≡ from_be_bytes w32 (get_or words i [])
    → v + wide_total (drop ((i + 1) * 4) l) ≡ wide_total (drop (i * 4) l)
word_taken l words i v e h f =
    let n : (i + 1) * 4 ≡ i * 4 + 4 = omega arith in
    rw (f, e, chunk_at 4 (length l / 4) i l h, front_word, n, ← (drop-drop 4 (i * 4) l)) (wide_turn (drop (i * 4) l) (rw length-drop (omega arith)))

-- the last word, of three octets or fewer
pub wide_tail : (l : List ℕ) → length l < 4 → word32 l 0 ≡ wide_total l
unfolding wide_total
wide_tail [] h = refl
wide_tail (a ∷ []) h = refl
wide_tail (a ∷ b ∷ []) h = refl
wide_tail (a ∷ b ∷ c ∷ []) h = refl
wide_tail (a ∷ b ∷ c ∷ d ∷ l) h = absurd (omega arith)

-- what is left behind the whole words
pub tail_taken : (l rest : List ℕ) (i s v : ℕ) → rest ≡ drop (length l / 4 * 4) l → i ≡ length l / 4 → v ≡ word32 rest 0
    → s + wide_total (drop (i * 4) l) ≡ wide_total l → s + v ≡ wide_total l
tail_taken l rest i s v e j f h =
    let short : length rest < 4 = rw (e, length-drop) (omega arith) in
    let tail : v ≡ wide_total (drop (i * 4) l) = f ∙ wide_tail rest short ∙ ap wide_total (e ∙ ap (λ (n : ℕ). drop (n * 4) l) (sym j)) in
    rw tail h

-- four octets are less than 2^32
pub wide_below : (l : List ℕ) → Octets l → wide_total l ≤ 1073741824 * (length l + 3)
unfolding wide_total
wide_below [] o = omega arith
wide_below (a ∷ []) o = omega (arith, o 0)
wide_below (a ∷ b ∷ []) o = omega (arith, o 0, o 1)
wide_below (a ∷ b ∷ c ∷ []) o = omega (arith, o 0, o 1, o 2)
wide_below (a ∷ b ∷ c ∷ d ∷ l) o = omega (arith, o 0, o 1, o 2, o 3, wide_below l (λ i. o (suc (suc (suc (suc i))))))

-- a list cut behind a whole number of words
cut : (k : ℕ) (l : List ℕ) → wide_total (take (k * 4) l) + wide_total (drop (k * 4) l) ≡ wide_total l
unfolding wide_total
cut zero l = zero-add (wide_total l)
cut (suc k) l = let e : suc k * 4 ≡ suc (suc (suc (suc (k * 4)))) = omega arith in rw e (go (λ l. cut k l) l)
  where
    go : ((l : List ℕ) → wide_total (take (k * 4) l) + wide_total (drop (k * 4) l) ≡ wide_total l) → (l : List ℕ)
        → wide_total (take (suc (suc (suc (suc (k * 4))))) l) + wide_total (drop (suc (suc (suc (suc (k * 4))))) l) ≡ wide_total l
    go f [] = refl
    go f (a ∷ []) = omega arith
    go f (a ∷ b ∷ []) = omega arith
    go f (a ∷ b ∷ c ∷ []) = omega arith
    go f (a ∷ b ∷ c ∷ d ∷ l) = omega (arith, f l)

pub wide_cut : (n : ℕ) (l : List ℕ) → n % 4 ≡ 0 → wide_total (take n l) + wide_total (drop n l) ≡ wide_total l
wide_cut n l h = let e : n ≡ n / 4 * 4 = omega arith in rw e (cut (n / 4) l)

-- a turn of eight words
pub turn_taken : (l : List ℕ) (turns : List (List ℕ)) (i v : ℕ) → turns ≡ first_chunks 32 (length l / 32) l → i < length l / 32 → v ≡ wide_total (get_or turns i [])
    → v + wide_total (drop ((i + 1) * 32) l) ≡ wide_total (drop (i * 32) l)
turn_taken l turns i v e h f =
    let n : (i + 1) * 32 ≡ i * 32 + 32 = omega arith in
    rw (f, e, chunk_at 32 (length l / 32) i l h, n, ← (drop-drop 32 (i * 32) l)) (wide_cut 32 (drop (i * 32) l) refl)

-- the octets behind the last turn
pub rest_taken : (l rest : List ℕ) (i s v x : ℕ) → rest ≡ drop (length l / 32 * 32) l → i ≡ length l / 32 → v ≡ wide_total rest
    → folded (s + wide_total (drop (i * 32) l)) ≡ x → folded (s + v) ≡ x
rest_taken l rest i s v x e j f h =
    let tail : v ≡ wide_total (drop (i * 32) l) = f ∙ ap wide_total (e ∙ ap (λ (n : ℕ). drop (n * 32) l) (sym j)) in
    rw tail h

-- the first two words, the field left out
pub wide_first : (m : List ℕ) → wide_total (blanked m) ≡ word32 m 0 + word16 m 6 + wide_total (drop 8 m)
unfolding wide_total
wide_first [] = omega arith
wide_first (a ∷ []) = omega arith
wide_first (a ∷ b ∷ []) = omega arith
wide_first (a ∷ b ∷ c ∷ []) = omega arith
wide_first (a ∷ b ∷ c ∷ d ∷ []) = omega arith
wide_first (a ∷ b ∷ c ∷ d ∷ e ∷ []) = omega arith
wide_first (a ∷ b ∷ c ∷ d ∷ e ∷ f ∷ []) = omega arith
wide_first (a ∷ b ∷ c ∷ d ∷ e ∷ f ∷ g ∷ []) = omega arith
wide_first (a ∷ b ∷ c ∷ d ∷ e ∷ f ∷ g ∷ h ∷ m) = omega arith

-- ---- folding

-- a sum that is folded already may be folded again with more
pub fold_again : (m n : ℕ) → folded (folded m + n) ≡ folded (m + n)
unfolding folded
fold_again zero n = refl
fold_again (suc m) n =
    let p : 0 < m % 65535 + 1 + n = omega arith in
    let q : 0 < suc m + n = omega arith in
    fold_positive (m % 65535 + 1 + n) p ∙ omega arith ∙ sym (fold_positive (suc m + n) q)

fold_below : (n : ℕ) → folded n < 65536
unfolding folded
fold_below zero = omega arith
fold_below (suc n) = omega arith

pub fold_halves : (n : ℕ) → folded (n / 65536 + n % 65536) ≡ folded n
fold_halves zero = refl
fold_halves (suc n) =
    let p : 0 < suc n / 65536 + suc n % 65536 = omega arith in
    let q : 0 < suc n = omega arith in
    fold_positive (suc n / 65536 + suc n % 65536) p ∙ omega arith ∙ sym (fold_positive (suc n) q)

pub fold_wide_halves : (n : ℕ) → folded (n / 4294967296 + n % 4294967296) ≡ folded n
fold_wide_halves zero = refl
fold_wide_halves (suc n) =
    let p : 0 < suc n / 4294967296 + suc n % 4294967296 = omega arith in
    let q : 0 < suc n = omega arith in
    fold_positive (suc n / 4294967296 + suc n % 4294967296) p ∙ omega arith ∙ sym (fold_positive (suc n) q)

halves_below : (n : ℕ) → n < 18446744073709551616 → n / 4294967296 + n % 4294967296 < 8589934592
halves_below n h = omega arith

once_below : (n : ℕ) → n < 8589934592 → n / 65536 + n % 65536 < 196608
once_below n h = omega arith

twice_below : (n : ℕ) → n < 196608 → n / 65536 + n % 65536 < 65538
twice_below n h = omega arith

thrice_below : (n : ℕ) → n < 65538 → n / 65536 + n % 65536 < 65536
thrice_below n h = omega arith

-- the halves of a 64-bit sum and three times the carries brought round leave 16 bits: the folded sum
module _ (n a b c : ℕ) (n-fits : n < 18446744073709551616) (p : a ≡ (n / 4294967296 + n % 4294967296) / 65536 + (n / 4294967296 + n % 4294967296) % 65536)
    (q : b ≡ a / 65536 + a % 65536) (r : c ≡ b / 65536 + b % 65536) where
  a_below : a < 196608
  a_below = rw p (once_below (n / 4294967296 + n % 4294967296) (halves_below n n-fits))

  b_below : b < 65538
  b_below = rw q (twice_below a a_below)

  pub fold_fits : c < 65536
  fold_fits = rw r (thrice_below b b_below)

  pub fold_four : c ≡ folded n
  fold_four =
      fold_sum c fold_fits ∙ ap folded r ∙ fold_halves b ∙ ap folded q ∙ fold_halves a ∙ ap folded p
      ∙ fold_halves (n / 4294967296 + n % 4294967296) ∙ fold_wide_halves n

-- a running sum folds as what it is kept as does, whatever is still to come
kept_again : (b : Bool) (s n : ℕ) → folded (cond b s (folded s) + n) ≡ folded (s + n)
kept_again true s n = refl
kept_again false s n = fold_again s n

pub roomy_again : (s n : ℕ) → folded (kept_sum s + n) ≡ folded (s + n)
unfolding kept_sum
roomy_again s n = kept_again (ltb s _) s n

kept_below : (most s : ℕ) (b : Bool) → ltb s most ≡ b → most ≤ 9223372036854775808 → cond b s (folded s) < 9223372036854775808
kept_below most s true e h = omega (arith, ltb-true s most e)
kept_below most s false e h = omega (arith, fold_below s)

pub roomy_below : (s : ℕ) → kept_sum s < 9223372036854775808
unfolding kept_sum
roomy_below s = kept_below _ s (ltb s _) refl (omega arith)

-- words taken from the front into the sum
pub fold_taken : (s w t u : ℕ) → w + t ≡ u → folded (s + w + t) ≡ folded (s + u)
fold_taken s w t u e = let k : s + w + t ≡ s + u = omega arith in ap folded k

-- ---- the whole

pub first_fits : (m : List ℕ) → Octets m → word32 m 0 + word16 m 6 < 8589934592
first_fits m o = omega (arith, o 0, o 1, o 2, o 3, o 6, o 7)

-- what the first two words and the rest fold to
pub checksum_rest : (m : List ℕ) → Octets m → 65535 - folded (word32 m 0 + word16 m 6 + wide_total (drop 8 m)) ≡ checksum_of m
checksum_rest m o = ap (λ (x : ℕ). 65535 - folded x) (sym (wide_first m)) ∙ wide_checksum m o

-- a message that ends before the third word
pub checksum_front : (m : List ℕ) → Octets m → length m < 8 → 65535 - folded (word32 m 0 + word16 m 6) ≡ checksum_of m
unfolding wide_total
checksum_front m o h =
    let e : drop 8 m ≡ [] = drop_of_length-le m {i = 8} (omega arith) in
    let z : wide_total (drop 8 m) ≡ 0 = ap wide_total e in
    let k : word32 m 0 + word16 m 6 ≡ word32 m 0 + word16 m 6 + wide_total (drop 8 m) = omega arith in
    ap (λ (x : ℕ). 65535 - folded x) k ∙ checksum_rest m o

-- ---- every length

-- the field lies before the ninth octet
blank_front : (l r : List ℕ) → 8 ≤ length l → blanked (l ++ r) ≡ blanked l ++ r
blank_front l r h =
    six_or_more (λ l. blanked (l ++ r) ≡ blanked l ++ r) (λ a b c d e f rest. refl) l (omega arith)

-- words, and behind them octets of one more
wide_behind : (l r : List ℕ) → length l % 4 ≡ 0 → wide_total (l ++ r) ≡ wide_total l + wide_total r
wide_behind l r h =
    sym (wide_cut (length l) (l ++ r) h) ∙ rw (take-append_seam l r, drop-append_seam l r)

checksum_behind : (k : ℕ) → 2 ≤ k → (l r : List ℕ) → length l ≡ 4 * k → Octets (l ++ r) → checksum_of (l ++ r) ≡ 65535 - folded (wide_total (blanked l) + wide_total r)
checksum_behind k p l r e o =
    let n : length (blanked l) % 4 ≡ 0 = rw (length-set, length-set) (omega arith) in
    sym (wide_checksum (l ++ r) o)
    ∙ ap (λ (x : List ℕ). 65535 - folded (wide_total x)) (blank_front l r (omega arith))
    ∙ ap (λ (x : ℕ). 65535 - folded x) (wide_behind (blanked l) r n)

wide_room : (m : List ℕ) → Octets m → length m ≤ 2048 → wide_total (blanked m) < 9223372036854775808
wide_room m o h =
    let e : length (blanked m) ≡ length m = rw (length-set, length-set) in
    omega (arith, wide_below (blanked m) (blank_octets m o))

roomy_itself : (s : ℕ) → s < 9223372036854775808 → kept_sum s ≡ s
unfolding kept_sum
roomy_itself s h = simp (lt-ltb s _ h)

pub every_length : EveryLength
unfolding wide_total
every_length =
    record {
      unfolded = λ m o h s p. roomy_itself s (omega (arith, wide_room m o h));
      equal = λ n p m e o. sym (wide_checksum m o);
      none = λ k p m e o. sym (wide_checksum m o);
      one = λ k p q l a. checksum_behind k p l (a ∷ []);
      two = λ k p q l a b. checksum_behind k p l (a ∷ b ∷ []);
      three = λ k p q l a b c. checksum_behind k p l (a ∷ b ∷ c ∷ []);
    }
