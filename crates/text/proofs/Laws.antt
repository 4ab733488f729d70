-- Laws of numbers written as text. Assumes nothing.
use Prim.Native.Nat.{ℕ, zero, suc, ◌+◌, ◌-◌, ◌*◌, ◌/◌, ◌%◌, ◌^◌, ◌≤◌, ◌<◌}
use native.Mathlib.Nat.{one-le-pow}
use native.Mathlib.Numerals.{add-one}
use native.Mathlib.Omega.{arith}
use mathlib.Core.Bool.{Bool, true, false, cond}
use mathlib.Core.Path.{◌≡◌, refl, ap, ◌∙◌}
use mathlib.Core.List.{List, [], ◌∷◌, ◌++◌, append_assoc}
use borrow.Author.Tests.{lt-ltb, le-ltb, ltb-true, ltb-false}
use lib.Dec.{ltb}
use lib.ListN.{length, set, length-append}
use Rattle.octets.specs.Written.{Written}
use Rattle.octets.proofs.Storing.{written_one, written_append, Writing, start, room, turn, last}
use Rattle.text.specs.Text.{text, digit, digits, decimal, dotted}
use Rattle.text.specs.Claims.{number_from, DecimalLaws, Lengths}
use Rattle.text.specs.Steps.{before_dot}

-- the surplus of digits allowed for does not show
digits_enough : (a b n : ℕ) → n < a → n < b → digits a n ≡ digits b n
unfolding digits
digits_enough zero b n p q = absurd (omega arith)
digits_enough (suc a) zero n p q = absurd (omega arith)
digits_enough (suc a) (suc b) n p q = go (ltb n 10) refl (digits_enough a b (n / 10))
  where
    go : (t : Bool) → ltb n 10 ≡ t → (n / 10 < a → n / 10 < b → digits a (n / 10) ≡ digits b (n / 10))
        → cond t (digit n ∷ []) (digits a (n / 10) ++ (digit (n % 10) ∷ [])) ≡ cond t (digit n ∷ []) (digits b (n / 10) ++ (digit (n % 10) ∷ []))
    go true e r = refl
    go false e r =
        let h = ltb-false n 10 e in
        ap (λ (l : List ℕ). l ++ (digit (n % 10) ∷ [])) (r (omega arith) (omega arith))

pub decimal_one : (n : ℕ) → n < 10 → decimal n ≡ digit n ∷ []
unfolding decimal digits
decimal_one n h = rw (lt-ltb n 10 h)

pub decimal_more : (n : ℕ) → 10 ≤ n → decimal n ≡ decimal (n / 10) ++ (digit (n % 10) ∷ [])
unfolding decimal digits
decimal_more n h =
    rw (le-ltb n 10 h)
    (ap (λ (l : List ℕ). l ++ (digit (n % 10) ∷ [])) (digits_enough n (suc (n / 10)) (n / 10) (omega arith) (omega arith)))

-- digit by digit
module _ (P : ℕ → List ℕ → Type 0) (one : (n : ℕ) → n < 10 → P n (digit n ∷ []))
    (more : (n : ℕ) (l : List ℕ) → 10 ≤ n → P (n / 10) l → P n (l ++ (digit (n % 10) ∷ []))) where
  by_fuel : (fuel n : ℕ) → n < fuel → P n (decimal n)
  by_fuel zero n h = absurd (omega arith)
  by_fuel (suc fuel) n h = go (ltb n 10) refl (by_fuel fuel (n / 10))
    where
      go : (t : Bool) → ltb n 10 ≡ t → (n / 10 < fuel → P (n / 10) (decimal (n / 10))) → P n (decimal n)
      go true e r = let k = ltb-true n 10 e in rw (decimal_one n k) (one n k)
      go false e r = let k = ltb-false n 10 e in rw (decimal_more n k) (more n (decimal (n / 10)) k (r (omega arith)))

  pub decimal_elim : (n : ℕ) → P n (decimal n)
  decimal_elim n = by_fuel (suc n) n (omega arith)

pub decimal_most : (k n : ℕ) → n < 10 ^ suc k → length (decimal n) ≤ suc k
decimal_most k n =
    decimal_elim (λ n l. (k : ℕ) → n < 10 ^ suc k → length l ≤ suc k)
    (λ n h k q. omega arith) (λ n l h r k q. longer n l h r k q) n k
  where
    longer : (n : ℕ) (l : List ℕ) → 10 ≤ n → ((k : ℕ) → n / 10 < 10 ^ suc k → length l ≤ suc k)
        → (k : ℕ) → n < 10 ^ suc k → length (l ++ (digit (n % 10) ∷ [])) ≤ suc k
    longer n l h r zero q = absurd (omega arith)
    longer n l h r (suc k) q = simp length-append (omega (arith, r k (omega arith)))

pub decimal_least : (k n : ℕ) → 10 ^ k ≤ n → suc k ≤ length (decimal n)
decimal_least k n =
    decimal_elim (λ n l. (k : ℕ) → 10 ^ k ≤ n → suc k ≤ length l)
    (λ n h k q. single n h k q) (λ n l h r k q. longer n l h r k q) n k
  where
    single : (n : ℕ) → n < 10 → (k : ℕ) → 10 ^ k ≤ n → suc k ≤ 1
    single n h zero q = omega arith
    single n h (suc k) q = absurd (omega (arith, one-le-pow k 10 (omega arith)))

    longer : (n : ℕ) (l : List ℕ) → 10 ≤ n → ((k : ℕ) → 10 ^ k ≤ n / 10 → suc k ≤ length l)
        → (k : ℕ) → 10 ^ k ≤ n → suc k ≤ length (l ++ (digit (n % 10) ∷ []))
    longer n l h r zero q = simp length-append (omega arith)
    longer n l h r (suc k) q = simp length-append (omega (arith, r k (omega arith)))

number_last : (l : List ℕ) (before octet : ℕ) → number_from before (l ++ (octet ∷ [])) ≡ number_from before l * 10 + (octet - 48)
unfolding number_from
number_last [] before octet = refl
number_last (d ∷ l) before octet = number_last l (before * 10 + (d - 48)) octet

decimal_back : (n : ℕ) → number_from 0 (decimal n) ≡ n
unfolding number_from digit
decimal_back n =
    decimal_elim (λ n l. number_from 0 l ≡ n) (λ n h. omega arith) (λ n l h r. number_last l 0 (digit (n % 10)) ∙ longer n (number_from 0 l) r) n
  where
    longer : (n m : ℕ) → m ≡ n / 10 → m * 10 + (digit (n % 10) - 48) ≡ n
    longer n m e = omega arith

pub decimal_laws : DecimalLaws
decimal_laws =
    record { enough = digits_enough; one = decimal_one; more = decimal_more; most = decimal_most; least = decimal_least; back = decimal_back }

-- ---- lengths

pub octet_length : (n : ℕ) → n < 256 → length (decimal n) ≤ 3
octet_length n h = decimal_most 2 n (omega arith)

pub word_length : (n : ℕ) → n < 65536 → length (decimal n) ≤ 5
word_length n h = decimal_most 4 n (omega arith)

pub dotted_length : (address : ℕ) → length (dotted address) ≤ 15
unfolding dotted text
dotted_length a =
    let p = octet_length (a / 16777216 % 256) (omega arith) in
    let q = octet_length (a / 65536 % 256) (omega arith) in
    let r = octet_length (a / 256 % 256) (omega arith) in
    let s = octet_length (a % 256) (omega arith) in
    simp length-append (omega arith)

pub lengths : Lengths
lengths = record { octet = octet_length; word = word_length; quad = dotted_length }

-- ---- what put_decimal asks

module _ (n at : ℕ) (old : List ℕ) where
  pub one_digit : n < 10 → Written (decimal n) at old (set old at (48 + n)) (at + 1)
  unfolding digit
  one_digit h = rw (decimal_one n h) (written_one (48 + n) at old)

  pub last_digit : 10 ≤ n → {mid : List ℕ} {end : ℕ} → Written (decimal (n / 10)) at old mid end
      → Written (decimal n) at old (set mid end (48 + n % 10)) (end + 1)
  unfolding digit
  last_digit h {mid} {end} w =
      rw (decimal_more n h) (written_append (decimal (n / 10)) ((48 + n % 10) ∷ []) w (written_one (48 + n % 10) end mid))

  pub one_long : n < 10 → length (decimal n) ≡ 1
  one_long h = ap length (decimal_one n h)

  pub more_long : 10 ≤ n → length (decimal n) ≡ length (decimal (n / 10)) + 1
  more_long h = ap length (decimal_more n h) ∙ length-append (decimal (n / 10)) (digit (n % 10) ∷ [])

-- ---- what put_digits asks

decimal_two : (n : ℕ) → 10 ≤ n → n < 100 → decimal n ≡ (48 + n / 10) ∷ (48 + n % 10) ∷ []
unfolding digit
decimal_two n h k = decimal_more n h ∙ rw (decimal_one (n / 10) (omega arith))

decimal_three : (n : ℕ) → 100 ≤ n → n < 1000 → decimal n ≡ (48 + n / 10 / 10) ∷ (48 + n / 10 % 10) ∷ (48 + n % 10) ∷ []
unfolding digit
decimal_three n h k = decimal_more n (omega arith) ∙ rw (decimal_two (n / 10) (omega arith) (omega arith))

module _ (n at : ℕ) (old : List ℕ) where
  pub two_digits : 10 ≤ n → n < 100 → Written (decimal n) at old (set (set old at (48 + n / 10)) (at + 1) (48 + n % 10)) (at + 2)
  two_digits h k = rw (decimal_two n h k) (record { list = rw (add-one at); after = refl })

  pub three_digits : 100 ≤ n → n < 1000
      → Written (decimal n) at old (set (set (set old at (48 + n / 10 / 10)) (at + 1) (48 + n / 10 % 10)) (at + 2) (48 + n % 10)) (at + 3)
  three_digits h k = let e : at + 2 ≡ suc (suc at) = omega arith in rw (decimal_three n h k) (record { list = rw (add-one at, e); after = refl })

pub two_long : (n : ℕ) → 10 ≤ n → n < 100 → length (decimal n) ≡ 2
two_long n h k = ap length (decimal_two n h k)

pub three_long : (n : ℕ) → 100 ≤ n → n < 1000 → length (decimal n) ≡ 3
three_long n h k = ap length (decimal_three n h k)

-- ---- what put_dotted asks, number by number

dotted_parts : (a : ℕ) → dotted a ≡ before_dot (a / 16777216 % 256) ++ (before_dot (a / 65536 % 256) ++ (before_dot (a / 256 % 256) ++ decimal (a % 256)))
unfolding dotted before_dot
dotted_parts a = simp append_assoc

module _ (a at : ℕ) (old : List ℕ) (h : at + length (dotted a) ≤ length old) where
  from_first : Writing (dotted a) at old (dotted a) at old
  from_first = start (dotted a) at old h

  pub first_room : at + length (before_dot (a / 16777216 % 256)) ≤ length old
  first_room = room from_first (before_dot (a / 16777216 % 256)) (before_dot (a / 65536 % 256) ++ (before_dot (a / 256 % 256) ++ decimal (a % 256))) (dotted_parts a)

  module _ {one : List ℕ} {i : ℕ} (p : Written (before_dot (a / 16777216 % 256)) at old one i) where
    from_second : Writing (dotted a) at old (before_dot (a / 65536 % 256) ++ (before_dot (a / 256 % 256) ++ decimal (a % 256))) i one
    from_second = turn from_first (before_dot (a / 16777216 % 256)) (before_dot (a / 65536 % 256) ++ (before_dot (a / 256 % 256) ++ decimal (a % 256))) (dotted_parts a) p

    pub second_room : i + length (before_dot (a / 65536 % 256)) ≤ length one
    second_room = room from_second (before_dot (a / 65536 % 256)) (before_dot (a / 256 % 256) ++ decimal (a % 256)) refl

    module _ {two : List ℕ} {j : ℕ} (q : Written (before_dot (a / 65536 % 256)) i one two j) where
      from_third : Writing (dotted a) at old (before_dot (a / 256 % 256) ++ decimal (a % 256)) j two
      from_third = turn from_second (before_dot (a / 65536 % 256)) (before_dot (a / 256 % 256) ++ decimal (a % 256)) refl q

      pub third_room : j + length (before_dot (a / 256 % 256)) ≤ length two
      third_room = room from_third (before_dot (a / 256 % 256)) (decimal (a % 256)) refl

      module _ {three : List ℕ} {k : ℕ} (r : Written (before_dot (a / 256 % 256)) j two three k) where
        from_fourth : Writing (dotted a) at old (decimal (a % 256)) k three
        from_fourth = turn from_third (before_dot (a / 256 % 256)) (decimal (a % 256)) refl r

        pub fourth_room : k + length (decimal (a % 256)) ≤ length three
        fourth_room = from_fourth.fits

        pub quad_done : {new : List ℕ} {end : ℕ} → Written (decimal (a % 256)) k three new end → Written (dotted a) at old new end
        quad_done s = last from_fourth s

-- ---- what put_before_dot asks

module _ (n at : ℕ) (old : List ℕ) (h : at + length (before_dot n) ≤ length old) where
  from_number : Writing (before_dot n) at old (before_dot n) at old
  from_number = start (before_dot n) at old h

  pub number_room : at + length (decimal n) ≤ length old
  unfolding before_dot
  number_room = room from_number (decimal n) (text ".") refl

  module _ {mid : List ℕ} {i : ℕ} (p : Written (decimal n) at old mid i) where
    from_dot : Writing (before_dot n) at old (46 ∷ []) i mid
    unfolding before_dot text
    from_dot = turn from_number (decimal n) (46 ∷ []) refl p

    pub dot_room : i + 1 ≤ length mid
    dot_room = from_dot.fits

    pub dot_done : {new : List ℕ} {end : ℕ} → Written (46 ∷ []) i mid new end → Written (before_dot n) at old new end
    dot_done q = last from_dot q
