-- What is written reads back the same, and nothing else reads. Assumes nothing.
use Prim.Native.Nat.{ℕ, zero, suc, ◌+◌, ◌-◌, ◌*◌, ◌/◌, ◌%◌, ◌≤◌, ◌<◌}
use native.Mathlib.Nat.{div-div-eq-div-mul, div-add-mod'}
use native.Mathlib.Numerals.{add-one}
use native.Mathlib.Omega.{arith}
use mathlib.Core.Path.{◌≡◌, refl, sym, ap, ◌∙◌}
use mathlib.Core.Bool.{Bool, true, false, cond, not, ◌&&◌, false≢true}
use mathlib.Core.List.{List, [], ◌∷◌, ◌++◌, append_assoc, append-nil}
use borrow.Author.Tests.{lt-ltb, le-ltb, ltb-true, ltb-false, le-leb, lt-leb, leb-true, eq-eqb, ne_eqb, eqb-true, eqb-false, not-true}
use lib.Dec.{leb, ltb, eqb}
use lib.ListN.{length, take, drop, get_or, length-append, get_or-append}
use lib.Seq.{split_at, take-append_seam, drop-append-add}
use Rattle.checks.specs.Lists.{first, every}
use Rattle.checks.proofs.Laws.{and_left, and_right, and_both, cond_elim}
use Rattle.text.specs.Text.{text, digit, decimal, dotted}
use Rattle.text.proofs.Laws.{decimal_one, decimal_more, decimal_elim, decimal_most, dotted_length}
use Rattle.std.specs.Prelude.{Option, Some, None}
use Rattle.text_values.specs.Places.{index_of}
use Rattle.text_values.specs.Numbers.{when_number, is_digit, digits_of, leads_with_zero, decimal_of, dotted_from, dotted_of}
use Rattle.text_values.specs.Hex.{hex_digit, hex_text, nibble, is_hex, hex_octets}
use Rattle.text_values.specs.Claims.{Decimals, Addresses, Hexes, are_octets}

-- text that is no number gives none
pub never : {A : Type 0} (n : ℕ) → None ≡ Some n → A
never n e = let z : ◌≡◌ {A = ℕ} 0 1 = cc in absurd (omega arith)

-- a choice that gives a number took its first branch
chosen : (b : Bool) (x : Option ℕ) (n : ℕ) → cond b x None ≡ Some n → (b ≡ true) × (x ≡ Some n)
chosen true x n e = (refl, e)
chosen false x n e = never n e

refused : (b : Bool) (x : Option ℕ) (n : ℕ) → cond b None x ≡ Some n → (b ≡ false) × (x ≡ Some n)
refused true x n e = never n e
refused false x n e = (refl, e)

-- ---- digits

-- a test of a range
from_least : (least octet most : ℕ) → (leb least octet && leb octet most) ≡ true → least ≤ octet
from_least least octet most e = leb-true least octet (and_left (leb least octet) (leb octet most) e)

to_most : (least octet most : ℕ) → (leb least octet && leb octet most) ≡ true → octet ≤ most
to_most least octet most e = leb-true octet most (and_right (leb least octet) (leb octet most) e)

within : (least octet most : ℕ) → least ≤ octet → octet ≤ most → (leb least octet && leb octet most) ≡ true
within least octet most h k = and_both (leb least octet) (leb octet most) (le-leb least octet h) (le-leb octet most k)

digit_least : (octet : ℕ) → is_digit octet ≡ true → 48 ≤ octet
unfolding is_digit
digit_least octet e = omega (arith, from_least)

digit_most : (octet : ℕ) → is_digit octet ≡ true → octet ≤ 57
unfolding is_digit
digit_most octet e = omega (arith, to_most)

digit_digit : (d : ℕ) → d < 10 → is_digit (digit d) ≡ true
unfolding is_digit digit
digit_digit d h = within 48 (48 + d) 57 (omega arith) (omega arith)

digit_value : (d : ℕ) → digit d - 48 ≡ d
unfolding digit
digit_value d = omega arith

digit_again : (octet : ℕ) → is_digit octet ≡ true → digit (octet - 48) ≡ octet
unfolding digit
digit_again octet e = let h = digit_least octet e in omega arith

-- ---- a number in decimal is read

digits_turn : (limit n d : ℕ) (rest : List ℕ) → d < 10 → n * 10 + d ≤ limit → digits_of limit n (digit d ∷ rest) ≡ digits_of limit (n * 10 + d) rest
unfolding digits_of
digits_turn limit n d rest h k = rw (digit_digit d h, digit_value d, le-leb (n * 10 + d) limit k)

digits_last : (limit : ℕ) (l : List ℕ) (n m octet : ℕ) → digits_of limit n l ≡ Some m → digits_of limit n (l ++ (octet ∷ [])) ≡ digits_of limit m (octet ∷ [])
unfolding digits_of
digits_last limit [] n m octet e = let q : n ≡ m = cc in ap (λ (k : ℕ). digits_of limit k (octet ∷ [])) q
digits_last limit (d ∷ l) n m octet e =
    go (is_digit d && leb (n * 10 + (d - 48)) limit) (digits_last limit l (n * 10 + (d - 48)) m octet) e
  where
    go : (b : Bool)
        → (digits_of limit (n * 10 + (d - 48)) l ≡ Some m → digits_of limit (n * 10 + (d - 48)) (l ++ (octet ∷ [])) ≡ digits_of limit m (octet ∷ []))
        → cond b (digits_of limit (n * 10 + (d - 48)) l) None ≡ Some m
        → cond b (digits_of limit (n * 10 + (d - 48)) (l ++ (octet ∷ []))) None ≡ digits_of limit m (octet ∷ [])
    go true r e = r e
    go false r e = never m e

digits_back : (limit n : ℕ) → n ≤ limit → digits_of limit 0 (decimal n) ≡ Some n
unfolding digits_of
digits_back limit n =
    decimal_elim (λ n l. n ≤ limit → digits_of limit 0 l ≡ Some n) one more n
  where
    one : (n : ℕ) → n < 10 → n ≤ limit → digits_of limit 0 (digit n ∷ []) ≡ Some n
    one n h k = let e : 0 * 10 + n ≡ n = omega arith in digits_turn limit 0 n [] h (omega arith) ∙ ap Some e

    more : (n : ℕ) (l : List ℕ) → 10 ≤ n → (n / 10 ≤ limit → digits_of limit 0 l ≡ Some (n / 10)) → n ≤ limit
        → digits_of limit 0 (l ++ (digit (n % 10) ∷ [])) ≡ Some n
    more n l h r k =
        let e : n / 10 * 10 + n % 10 ≡ n = omega arith in
        digits_last limit l 0 (n / 10) (digit (n % 10)) (r (omega arith)) ∙ digits_turn limit (n / 10) (n % 10) [] (omega arith) (omega arith) ∙ ap Some e

-- at least one digit, and the first is a zero in zero only
some_digits : (n : ℕ) → (1 ≤ length (decimal n)) × (1 ≤ n → 49 ≤ get_or (decimal n) 0 0)
unfolding digit
some_digits n =
    decimal_elim (λ n l. (1 ≤ length l) × (1 ≤ n → 49 ≤ get_or l 0 0)) (λ n h. (omega arith, λ k. omega arith)) more n
  where
    more : (n : ℕ) (l : List ℕ) → 10 ≤ n → (1 ≤ length l) × (1 ≤ n / 10 → 49 ≤ get_or l 0 0)
        → (1 ≤ length (l ++ (digit (n % 10) ∷ []))) × (1 ≤ n → 49 ≤ get_or (l ++ (digit (n % 10) ∷ [])) 0 0)
    more n l h r =
        (simp length-append (omega arith), λ k. rw (get_or-append l (digit (n % 10) ∷ []) 0 0 r.0) (r.1 (omega arith)))

no_leading_zero : (n : ℕ) → leads_with_zero (decimal n) ≡ false
unfolding leads_with_zero digit
no_leading_zero zero = rw (decimal_one 0 (omega arith))
no_leading_zero (suc n) =
    let h = (some_digits (suc n)).1 (omega arith) in
    rw (ne_eqb (get_or (decimal (suc n)) 0 0) 48 (λ e. omega arith))

decimal_back : (limit n : ℕ) → n ≤ limit → decimal_of limit (decimal n) ≡ Some n
unfolding decimal_of
decimal_back limit n h =
    let k = (some_digits n).0 in
    rw (ne_eqb (length (decimal n)) 0 (λ e. omega arith), no_leading_zero n) (digits_back limit n h)

-- ---- and nothing else is

decimal_next : (n d : ℕ) → 1 ≤ n → d < 10 → decimal (n * 10 + d) ≡ decimal n ++ (digit d ∷ [])
decimal_next n d h k =
    let p : (n * 10 + d) / 10 ≡ n = omega arith in
    let q : (n * 10 + d) % 10 ≡ d = omega arith in
    decimal_more (n * 10 + d) (omega arith) ∙ rw (p, q)

digits_step : (octet : ℕ) (rest : List ℕ) (n : ℕ) → 1 ≤ n → is_digit octet ≡ true → decimal n ++ (octet ∷ rest) ≡ decimal (n * 10 + (octet - 48)) ++ rest
digits_step octet rest n h e =
    let most = digit_most octet e in
    rw (decimal_next n (octet - 48) h (omega arith), digit_again octet e, append_assoc)

module _ (limit : ℕ) where
  -- behind a number the digits go on with it
  digits_only : (rest : List ℕ) (n m : ℕ) → 1 ≤ n → n ≤ limit → digits_of limit n rest ≡ Some m → (decimal n ++ rest ≡ decimal m) × (m ≤ limit)
  unfolding digits_of
  digits_only [] n m h k e = let q : n ≡ m = cc in (append-nil (decimal n) ∙ ap decimal q, omega arith)
  digits_only (octet ∷ rest) n m h k e =
      let c = chosen (is_digit octet && leb (n * 10 + (octet - 48)) limit) (digits_of limit (n * 10 + (octet - 48)) rest) m e in
      let digital = and_left (is_digit octet) (leb (n * 10 + (octet - 48)) limit) c.0 in
      let below = leb-true (n * 10 + (octet - 48)) limit (and_right (is_digit octet) (leb (n * 10 + (octet - 48)) limit) c.0) in
      let r = digits_only rest (n * 10 + (octet - 48)) m (omega arith) below c.1 in
      (digits_step octet rest n h digital ∙ r.0, r.1)

  -- a zero stands alone
  zero_only : (rest : List ℕ) (n : ℕ) → leads_with_zero (48 ∷ rest) ≡ false → digits_of limit 0 rest ≡ Some n → (48 ∷ rest ≡ decimal n) × (n ≤ limit)
  unfolding leads_with_zero digits_of digit
  zero_only [] n h e = let q : 0 ≡ n = cc in (sym (decimal_one 0 (omega arith)) ∙ ap decimal q, omega arith)
  zero_only (octet ∷ rest) n h e = absurd (omega (arith, ltb-false))

  -- another digit leads
  lead_only : (octet : ℕ) (rest : List ℕ) (n : ℕ) → (octet ≡ 48 → ⊥) → is_digit octet ≡ true → octet - 48 ≤ limit → digits_of limit (octet - 48) rest ≡ Some n
      → (octet ∷ rest ≡ decimal n) × (n ≤ limit)
  lead_only octet rest n other h k e =
      let least = digit_least octet h in
      let most = digit_most octet h in
      let r = digits_only rest (octet - 48) n (omega arith) k e in
      let front : decimal (octet - 48) ≡ octet ∷ [] = decimal_one (octet - 48) (omega arith) ∙ ap (λ (o : ℕ). o ∷ []) (digit_again octet h) in
      (rw front at r.0, r.1)

  decimal_only : (text : List ℕ) (n : ℕ) → decimal_of limit text ≡ Some n → (text ≡ decimal n) × (n ≤ limit)
  unfolding decimal_of digits_of
  decimal_only [] n e = never n e
  decimal_only (octet ∷ rest) n e =
      let some = refused (eqb (suc (length rest)) 0) (cond (leads_with_zero (octet ∷ rest)) None (digits_of limit 0 (octet ∷ rest))) n e in
      let lead = refused (leads_with_zero (octet ∷ rest)) (digits_of limit 0 (octet ∷ rest)) n some.1 in
      let c = chosen (is_digit octet && leb (0 * 10 + (octet - 48)) limit) (digits_of limit (0 * 10 + (octet - 48)) rest) n lead.1 in
      let digital = and_left (is_digit octet) (leb (0 * 10 + (octet - 48)) limit) c.0 in
      let below = leb-true (0 * 10 + (octet - 48)) limit (and_right (is_digit octet) (leb (0 * 10 + (octet - 48)) limit) c.0) in
      let z : 0 * 10 + (octet - 48) ≡ octet - 48 = omega arith in
      go (eqb octet 48) refl lead.0 digital (rw z at below) (rw z at c.1)
    where
      go : (b : Bool) → eqb octet 48 ≡ b → leads_with_zero (octet ∷ rest) ≡ false → is_digit octet ≡ true → octet - 48 ≤ limit
          → digits_of limit (octet - 48) rest ≡ Some n → (octet ∷ rest ≡ decimal n) × (n ≤ limit)
      go true q lead h k e =
          let o = eqb-true octet 48 q in
          rw o (zero_only rest n (rw o at lead) (rw o at e))
      go false q lead h k e = lead_only octet rest n (eqb-false octet 48 q) h k e

pub decimals : Decimals
decimals = record { back = decimal_back; only = λ limit n text e. decimal_only limit text n e }

pub decimal_bound : (limit n : ℕ) (text : List ℕ) → decimal_of limit text ≡ Some n → n ≤ limit
decimal_bound limit n text e = (decimal_only limit text n e).1

-- five digits are enough below 100,000
pub decimal_long5 : (limit n : ℕ) (text : List ℕ) → limit < 100000 → decimal_of limit text ≡ Some n → length text ≤ 5
decimal_long5 limit n text h e =
    let r = decimal_only limit text n e in
    rw r.0 (decimal_most 4 n (omega arith))

-- ---- places

abbrev without : ℕ → List ℕ → Type 0
without octet l = every (λ o. not (eqb o octet)) l ≡ true

every_append : (p : ℕ → Bool) (a b : List ℕ) → every p a ≡ true → every p b ≡ true → every p (a ++ b) ≡ true
unfolding every
every_append p [] b h k = k
every_append p (x ∷ a) b h k =
    and_both (p x) (every p (a ++ b)) (and_left (p x) (every p a) h) (every_append p a b (and_right (p x) (every p a) h) k)

-- the first such octet stands behind those that are others
place_behind : (octet : ℕ) (l rest : List ℕ) → without octet l → index_of octet (l ++ (octet ∷ rest)) ≡ length l
unfolding index_of first every
place_behind octet [] rest h = rw (eq-eqb octet octet refl)
place_behind octet (x ∷ l) rest h =
    let other = not-true (eqb x octet) (and_left (not (eqb x octet)) (every (λ o. not (eqb o octet)) l) h) in
    rw other (ap suc (place_behind octet l rest (and_right (not (eqb x octet)) (every (λ o. not (eqb o octet)) l) h)))

pub place_found : (octet : ℕ) (l : List ℕ) → index_of octet l < length l → get_or l (index_of octet l) 0 ≡ octet
unfolding index_of first
place_found octet [] h = absurd (omega arith)
place_found octet (x ∷ l) h = go (eqb x octet) refl (place_found octet l) h
  where
    go : (b : Bool) → eqb x octet ≡ b → (index_of octet l < length l → get_or l (index_of octet l) 0 ≡ octet)
        → cond b 0 (suc (index_of octet l)) < suc (length l) → get_or (x ∷ l) (cond b 0 (suc (index_of octet l))) 0 ≡ octet
    go true e r h = eqb-true x octet e
    go false e r h = r (omega arith)

all_digits : (n : ℕ) → every is_digit (decimal n) ≡ true
unfolding every
all_digits n =
    decimal_elim (λ n l. every is_digit l ≡ true) (λ n h. and_both (is_digit (digit n)) true (digit_digit n h) refl)
    (λ n l h r. every_append is_digit l (digit (n % 10) ∷ []) r (and_both (is_digit (digit (n % 10))) true (digit_digit (n % 10) (omega arith)) refl)) n

digits_without : (octet : ℕ) (l : List ℕ) → is_digit octet ≡ false → every is_digit l ≡ true → without octet l
unfolding every
digits_without octet [] n h = refl
digits_without octet (x ∷ l) n h =
    let digital = and_left (is_digit x) (every is_digit l) h in
    and_both (not (eqb x octet)) (every (λ o. not (eqb o octet)) l)
    (ap not (ne_eqb x octet (λ e. false≢true (sym n ∙ ap is_digit (sym e) ∙ digital))))
    (digits_without octet l n (and_right (is_digit x) (every is_digit l) h))

decimal_without : (octet n : ℕ) → is_digit octet ≡ false → without octet (decimal n)
decimal_without octet n h = digits_without octet (decimal n) h (all_digits n)

-- ---- an address is read

drop_behind : (l : List ℕ) (octet : ℕ) (rest : List ℕ) → drop (suc (length l)) (l ++ (octet ∷ rest)) ≡ rest
drop_behind l octet rest = rw (← (add-one (length l))) (drop-append-add l (octet ∷ rest) 1)

quad_turn : (dots n d : ℕ) (rest : List ℕ) → d ≤ 255 → dotted_from (suc dots) n (decimal d ++ (46 ∷ rest)) ≡ dotted_from dots (n * 256 + d) rest
unfolding dotted_from when_number is_digit
quad_turn dots n d rest h =
    let room : length (decimal d) < length (decimal d ++ (46 ∷ rest)) = simp length-append (omega arith) in
    rw (
      place_behind 46 (decimal d) rest (decimal_without 46 d refl),
      lt-ltb (length (decimal d)) (length (decimal d ++ (46 ∷ rest))) room,
      take-append_seam (decimal d) (46 ∷ rest),
      drop_behind (decimal d) 46 rest,
      decimal_back 255 d h,
    )

quad_last : (n d : ℕ) → d ≤ 255 → dotted_from 0 n (decimal d) ≡ Some (n * 256 + d)
unfolding dotted_from when_number
quad_last n d h = rw (decimal_back 255 d h)

-- the number of four octets
abbrev quad : ℕ → ℕ → ℕ → ℕ → ℕ
quad w x y z = (((0 * 256 + w) * 256 + x) * 256 + y) * 256 + z

quad_octets : (a : ℕ) → a < 4294967296 → quad (a / 16777216 % 256) (a / 65536 % 256) (a / 256 % 256) (a % 256) ≡ a
quad_octets a h =
    let p : a / 65536 ≡ a / 16777216 * 256 + a / 65536 % 256 = rw (← (div-div-eq-div-mul a 65536 256)) (sym (div-add-mod' (a / 65536) 256)) in
    let q : a / 256 ≡ a / 65536 * 256 + a / 256 % 256 = rw (← (div-div-eq-div-mul a 256 256)) (sym (div-add-mod' (a / 256) 256)) in
    omega arith

dotted_back : (a : ℕ) → a < 4294967296 → dotted_of (dotted a) ≡ Some a
unfolding dotted_of dotted text
dotted_back a h =
    let w = a / 16777216 % 256 in
    let x = a / 65536 % 256 in
    let y = a / 256 % 256 in
    quad_turn 2 0 w _ (omega arith) ∙ quad_turn 1 (0 * 256 + w) x _ (omega arith) ∙ quad_turn 0 ((0 * 256 + w) * 256 + x) y _ (omega arith)
    ∙ quad_last (((0 * 256 + w) * 256 + x) * 256 + y) (a % 256) (omega arith) ∙ ap Some (quad_octets a h)

-- ---- and nothing else is

-- text behind a number and a dot
abbrev behind : ℕ → List ℕ → List ℕ
behind n rest = decimal n ++ (46 ∷ rest)

-- text that begins so, and goes on with one dot fewer
record Octet (dots n a : ℕ) (text : List ℕ) : Type 0 where
  number : ℕ
  rest : List ℕ
  small : number ≤ 255
  same : text ≡ behind number rest
  goes : dotted_from dots (n * 256 + number) rest ≡ Some a

quad_only : (dots n a : ℕ) (text : List ℕ) → dotted_from (suc dots) n text ≡ Some a → Octet dots n a text
unfolding dotted_from when_number
quad_only dots n a text e =
    let c = chosen (ltb (index_of 46 text) (length text)) _ a e in
    go (decimal_of 255 (take (index_of 46 text) text)) refl (ltb-true (index_of 46 text) (length text) c.0) c.1
  where
    go : (x : Option ℕ) → decimal_of 255 (take (index_of 46 text) text) ≡ x → index_of 46 text < length text
        → when_number x None (λ octet. dotted_from dots (n * 256 + octet) (drop (suc (index_of 46 text)) text)) ≡ Some a → Octet dots n a text
    go None q h e = never a e
    go (Some d) q h e =
        let r = decimal_only 255 (take (index_of 46 text) text) d q in
        record {
          number = d;
          rest = drop (suc (index_of 46 text)) text;
          small = r.1;
          same = split_at text (index_of 46 text) 0 h ∙ rw (r.0, place_found 46 text h);
          goes = e;
        }

-- text that is the last number
record Last (n a : ℕ) (text : List ℕ) : Type 0 where
  number : ℕ
  small : number ≤ 255
  same : text ≡ decimal number
  ends : n * 256 + number ≡ a

quad_end : (n a : ℕ) (text : List ℕ) → dotted_from 0 n text ≡ Some a → Last n a text
unfolding dotted_from when_number
quad_end n a text e = go (decimal_of 255 text) refl e
  where
    go : (x : Option ℕ) → decimal_of 255 text ≡ x → when_number x None (λ octet. Some (n * 256 + octet)) ≡ Some a → Last n a text
    go None q e = never a e
    go (Some d) q e = let r = decimal_only 255 text d q in record { number = d; small = r.1; same = r.0; ends = cc }

dotted_quad : (w x y z : ℕ) → w ≤ 255 → x ≤ 255 → y ≤ 255 → z ≤ 255
    → behind w (behind x (behind y (decimal z))) ≡ dotted (quad w x y z)
unfolding dotted text
dotted_quad w x y z h i j k =
    let p : quad w x y z / 16777216 % 256 ≡ w = omega arith in
    let q : quad w x y z / 65536 % 256 ≡ x = omega arith in
    let r : quad w x y z / 256 % 256 ≡ y = omega arith in
    let s : quad w x y z % 256 ≡ z = omega arith in
    rw (p, q, r, s)

quad_joined : (a : ℕ) (text : List ℕ) (f : Octet 2 0 a text) (g : Octet 1 (0 * 256 + f.number) a f.rest)
    (h : Octet 0 ((0 * 256 + f.number) * 256 + g.number) a g.rest)
    → Last (((0 * 256 + f.number) * 256 + g.number) * 256 + h.number) a h.rest → (text ≡ dotted a) × (a < 4294967296)
quad_joined a text f g h l =
    let parts = f.same ∙ ap (behind f.number) (g.same ∙ ap (behind g.number) (h.same ∙ ap (behind h.number) l.same)) in
    (parts ∙ dotted_quad f.number g.number h.number l.number f.small g.small h.small l.small ∙ ap dotted l.ends, omega arith)

dotted_only : (a : ℕ) (text : List ℕ) → dotted_of text ≡ Some a → (text ≡ dotted a) × (a < 4294967296)
unfolding dotted_of
dotted_only a text e =
    let f = quad_only 2 0 a text e in
    let g = quad_only 1 (0 * 256 + f.number) a f.rest f.goes in
    let h = quad_only 0 ((0 * 256 + f.number) * 256 + g.number) a g.rest g.goes in
    quad_joined a text f g h (quad_end (((0 * 256 + f.number) * 256 + g.number) * 256 + h.number) a h.rest h.goes)

pub addresses : Addresses
addresses = record { back = dotted_back; only = dotted_only }

pub dotted_long : (a : ℕ) (text : List ℕ) → dotted_of text ≡ Some a → length text ≤ 15
dotted_long a text e = rw (dotted_only a text e).0 (dotted_length a)

-- 47 is a slash, which no address has
behind_slashless : (n : ℕ) (rest : List ℕ) → without 47 rest → without 47 (behind n rest)
unfolding is_digit every
behind_slashless n rest h = every_append (λ o. not (eqb o 47)) (decimal n) (46 ∷ rest) (decimal_without 47 n refl) h

pub no_slash : (a : ℕ) → every (λ o. not (eqb o 47)) (dotted a) ≡ true
unfolding dotted text is_digit
no_slash a =
    behind_slashless (a / 16777216 % 256) _
    (behind_slashless (a / 65536 % 256) _ (behind_slashless (a / 256 % 256) _ (decimal_without 47 (a % 256) refl)))

pub slash_place : (a : ℕ) (rest : List ℕ) → index_of 47 (dotted a ++ (47 ∷ rest)) ≡ length (dotted a)
slash_place a rest = place_behind 47 (dotted a) rest (no_slash a)

-- ---- octets in hex

digit_back : (n : ℕ) → n < 16 → nibble (hex_digit n) ≡ n
unfolding nibble hex_digit
digit_back n h = cond_elim (λ d. nibble d ≡ n) (ltb n 10) (48 + n) (55 + n) low high
  where
    low : ltb n 10 ≡ true → nibble (48 + n) ≡ n
    low e = let k = ltb-true n 10 e in rw (le-leb 48 (48 + n) (omega arith), le-leb (48 + n) 57 (omega arith)) (omega arith)

    high : ltb n 10 ≡ false → nibble (55 + n) ≡ n
    high e =
        let k = ltb-false n 10 e in
        rw (le-leb 48 (55 + n) (omega arith), lt-leb (55 + n) 57 (omega arith), le-leb 65 (55 + n) (omega arith), le-leb (55 + n) 70 (omega arith)) (omega arith)

nibble_back : (d : ℕ) → ltb (nibble d) 16 ≡ true → hex_digit (nibble d) ≡ d
unfolding nibble hex_digit
nibble_back d =
    cond_elim Back (leb 48 d && leb d 57) (d - 48) (cond (leb 65 d && leb d 70) (d - 55) 16)
    low (λ other. cond_elim Back (leb 65 d && leb d 70) (d - 55) 16 high (λ e h. absurd (false≢true h)))
  where
    Back : ℕ → Type 0
    Back n = ltb n 16 ≡ true → hex_digit n ≡ d

    low : (leb 48 d && leb d 57) ≡ true → Back (d - 48)
    low e h =
        let p = to_most 48 d 57 e in
        let q = from_least 48 d 57 e in
        rw (lt-ltb (d - 48) 10 (omega arith)) (omega arith)

    high : (leb 65 d && leb d 70) ≡ true → Back (d - 55)
    high e h = let p = from_least 65 d 70 e in rw (le-ltb (d - 55) 10 (omega arith)) (omega arith)

octet_front : (octet : ℕ) (l : List ℕ) → are_octets (octet ∷ l) → octet < 256
unfolding every
octet_front octet l h = ltb-true octet 256 (and_left (ltb octet 256) (every (λ o. ltb o 256) l) h)

octets_rest : (octet : ℕ) (l : List ℕ) → are_octets (octet ∷ l) → are_octets l
unfolding every
octets_rest octet l h = and_right (ltb octet 256) (every (λ o. ltb o 256) l) h

hex_good : (octets : List ℕ) → are_octets octets → is_hex (hex_text octets) ≡ true
unfolding is_hex hex_text
hex_good [] h = refl
hex_good (octet ∷ l) h =
    let k = octet_front octet l h in
    rw (digit_back (octet / 16) (omega arith), digit_back (octet % 16) (omega arith), lt-ltb (octet / 16) 16 (omega arith), lt-ltb (octet % 16) 16 (omega arith))
    (hex_good l (octets_rest octet l h))

hex_back : (octets : List ℕ) → are_octets octets → hex_octets (hex_text octets) ≡ octets
unfolding hex_octets hex_text
hex_back [] h = refl
hex_back (octet ∷ l) h =
    let k = octet_front octet l h in
    let e : octet / 16 * 16 + octet % 16 ≡ octet = omega arith in
    rw (digit_back (octet / 16) (omega arith), digit_back (octet % 16) (omega arith), e) (ap (λ (l : List ℕ). octet ∷ l) (hex_back l (octets_rest octet l h)))

-- two digits, and the rest
module _ (a b : ℕ) (rest : List ℕ) (h : is_hex (a ∷ b ∷ rest) ≡ true) where
  high_digit : ltb (nibble a) 16 ≡ true
  unfolding is_hex
  high_digit = and_left (ltb (nibble a) 16) (ltb (nibble b) 16 && is_hex rest) h

  low_digit : ltb (nibble b) 16 ≡ true
  unfolding is_hex
  low_digit = and_left (ltb (nibble b) 16) (is_hex rest) (and_right (ltb (nibble a) 16) (ltb (nibble b) 16 && is_hex rest) h)

  hex_rest : is_hex rest ≡ true
  unfolding is_hex
  hex_rest = and_right (ltb (nibble b) 16) (is_hex rest) (and_right (ltb (nibble a) 16) (ltb (nibble b) 16 && is_hex rest) h)

hex_only : (text : List ℕ) → is_hex text ≡ true → hex_text (hex_octets text) ≡ text
unfolding is_hex hex_octets hex_text
hex_only [] h = refl
hex_only (a ∷ []) h = absurd (false≢true h)
hex_only (a ∷ b ∷ rest) h =
    let low = ltb-true (nibble b) 16 (low_digit a b rest h) in
    let p : (nibble a * 16 + nibble b) / 16 ≡ nibble a = omega arith in
    let q : (nibble a * 16 + nibble b) % 16 ≡ nibble b = omega arith in
    rw (p, q, nibble_back a (high_digit a b rest h), nibble_back b (low_digit a b rest h))
    (ap (λ (l : List ℕ). a ∷ b ∷ l) (hex_only rest (hex_rest a b rest h)))

hex_octets_lem : (text : List ℕ) → is_hex text ≡ true → are_octets (hex_octets text)
unfolding is_hex hex_octets every
hex_octets_lem [] h = refl
hex_octets_lem (a ∷ []) h = refl
hex_octets_lem (a ∷ b ∷ rest) h =
    let high = ltb-true (nibble a) 16 (high_digit a b rest h) in
    let low = ltb-true (nibble b) 16 (low_digit a b rest h) in
    and_both (ltb (nibble a * 16 + nibble b) 256) (every (λ o. ltb o 256) (hex_octets rest)) (lt-ltb (nibble a * 16 + nibble b) 256 (omega arith))
    (hex_octets_lem rest (hex_rest a b rest h))

hex_twice : (octets : List ℕ) → length (hex_text octets) ≡ 2 * length octets
unfolding hex_text
hex_twice [] = refl
hex_twice (octet ∷ l) = let e = hex_twice l in omega arith

pub hexes : Hexes
hexes = record { good = hex_good; back = hex_back; only = hex_only; octets = hex_octets_lem; twice = hex_twice }

pub hex_half : (text : List ℕ) → is_hex text ≡ true → 2 * length (hex_octets text) ≡ length text
hex_half text h = sym (hex_twice (hex_octets text)) ∙ ap length (hex_only text h)
