-- Laws of big-endian numbers. Assumes nothing.
use Prim.Native.Nat.{ℕ, zero, suc, ◌+◌, ◌*◌, ◌^◌, ◌≤◌, ◌<◌}
use native.Mathlib.Nat.{pow-suc, mul_comm, mul_assoc, add-mul, mul-le-mul_right, pow-le-pow_right, lt_of_lt_of_le}
use native.Mathlib.Numerals.{add-one}
use native.Mathlib.Omega.{arith}
use mathlib.Core.Path.{◌≡◌, sym, ap, ◌∙◌}
use mathlib.Core.List.{List, [], ◌∷◌}
use lib.ListN.{length, take, drop, get_or, drop_of_length-le}
use lib.Seq.{drop-cons, get_or-drop}
use Rattle.update_walk.specs.Body.{extended, big_endian}

pub digits_turn : (n i : ℕ) (l : List ℕ) → i < length l → extended n (drop i l) ≡ extended (n * 256 + get_or l i 0) (drop (i + 1) l)
unfolding extended
digits_turn n i l h = rw (add-one, drop-cons l i 0 h)

pub digits_done : (n i : ℕ) (l : List ℕ) → length l ≤ i → extended n (drop i l) ≡ n
unfolding extended
digits_done n i l h = rw (drop_of_length-le l h)

pub one_more_lem : (n i o : ℕ) → n < 256 ^ i → o < 256 → n * 256 + o < 256 ^ (i + 1)
one_more_lem n i o h k = rw (add-one, pow-suc) (omega (arith, h, k))

pub three_octets : (n i : ℕ) → n < 256 ^ i → i < 4 → n < 16777216
three_octets n i h k =
    let e : i ≤ 3 = omega arith in
    lt_of_lt_of_le h (pow-le-pow_right {n = 256} (omega arith) e)

-- octets: every number is below 256, and past the end stands 0
abbrev pub Octets : List ℕ → Type 0
Octets t = (i : ℕ) → get_or t i 0 < 256

pub octets_drop : (t : List ℕ) (n : ℕ) → Octets t → Octets (drop n t)
octets_drop t n o i = rw (get_or-drop n t i 0) (o (n + i))

pub octets_take : (t : List ℕ) (n : ℕ) → Octets t → Octets (take n t)
octets_take [] zero o i = o i
octets_take [] (suc n) o i = o i
octets_take (a ∷ t) zero o i = omega arith
octets_take (a ∷ t) (suc n) o zero = o zero
octets_take (a ∷ t) (suc n) o (suc i) = octets_take t n (λ j. o (suc j)) i

pub digits_split : (n : ℕ) (l : List ℕ) → extended n l ≡ n * 256 ^ length l + big_endian l
unfolding extended
digits_split n [] = omega arith
digits_split n (o ∷ l) =
    let p = 256 ^ length l in
    let e : n * 256 ^ suc (length l) ≡ n * 256 * 256 ^ length l = ap (λ (m : ℕ). n * m) (pow-suc 256 (length l) ∙ mul_comm p 256) ∙ sym (mul_assoc n 256 p) in
    omega (arith, digits_split (n * 256 + o) l, digits_split (0 * 256 + o) l, e, add-mul (n * 256) o p)

pub big_below : (l : List ℕ) → Octets l → big_endian l < 256 ^ length l
unfolding extended
big_below [] o = omega arith
big_below (a ∷ l) o =
    let p = 256 ^ length l in
    let h : a < 256 = o zero in
    let k : (a + 1) * 256 ^ length l ≤ 256 * 256 ^ length l = mul-le-mul_right {m = a + 1} {n = 256} p (omega arith) in
    omega (arith, digits_split (0 * 256 + a) l, big_below l (λ i. o (suc i)), pow-suc 256 (length l), k, add-mul a 1 p)
