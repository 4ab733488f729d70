-- Laws of the loops over text: what the whole gives is what the part that is left gives. Assumes nothing.
use Rattle.std.proofs.Common.{ℕ, zero, suc, ◌+◌, ◌-◌, ◌*◌, ◌/◌, ◌%◌, ◌≤◌, ◌<◌, ◌≡◌, refl, sym, ap, ◌∙◌, Bool, true, false, cond, not, ◌&&◌, List, [], ◌∷◌, ◌++◌, length, take, drop, get_or, set, eqb, ltb, leb, Option, Some, None, is_some, IsSome, add-one, drop-cons, arith}
use Rattle.std.proofs.lemmas.Option.{same_Some, cond_some}
use Rattle.std.specs.List.{position_or_len, list_all}
use Rattle.std.specs.Cmp.Lexicographic.{pointwise}
use native.Mathlib.Nat.{zero-add}
use lib.ListN.{drop_of_length-le}
use lib.Seq.{sets, sets-eq}
use borrow.Author.Tests.{lt-ltb, le-ltb, le-leb, lt-leb, eq-eqb, ne_eqb, ltb-true, ltb-false, leb-true, eqb-true}
use Rattle.checks.specs.Lists.{first}
use Rattle.checks.proofs.Laws.{and_left, and_right, cond_elim}
use Rattle.octets.specs.Buffer.{over}
use Rattle.octets.specs.Written.{Written}
use Rattle.octets.proofs.Storing.{Writing, turn, written_one}
use Rattle.text.specs.declared.Writer.{Writer}
use Rattle.text.specs.Writer.{Puts, HasRoom}
use Rattle.text.proofs.Writing.{Left, part_room, less_left}
use Rattle.text_values.specs.Places.{index_of, place_of, no_place, IsCut, starts_with}
use Rattle.text_values.specs.Numbers.{when_number, is_digit, digits_of, leads_with_zero, decimal_of, dotted_from}
use Rattle.text_values.specs.Hex.{hex_digit, hex_text, nibble, digit_number, is_hex, hex_octets}

-- ---- places

pub place_is : (octet : ℕ) (l : List ℕ) → position_or_len (λ o. eqb o octet) l ≡ index_of octet l
unfolding index_of first
place_is octet [] = refl
place_is octet (x ∷ l) = go (eqb x octet) (place_is octet l)
  where
    go : (b : Bool) → position_or_len (λ o. eqb o octet) l ≡ first (λ o. eqb o octet) l
        → cond (not b) (1 + position_or_len (λ o. eqb o octet) l) 0 ≡ cond b 0 (suc (first (λ o. eqb o octet) l))
    go true e = refl
    go false e = omega arith

-- whether a list begins with these octets, as the library tells it
pub prefix_is : (front l : List ℕ) → pointwise eqb (take (length front) l) front ≡ starts_with front l
unfolding starts_with
prefix_is [] l = refl
prefix_is (x ∷ front) [] = refl
prefix_is (x ∷ front) (y ∷ l) = ap (λ (b : Bool). eqb y x && b) (prefix_is front l)

-- a cut at a place that was found
module _ (octet : ℕ) (l : List ℕ) where
  pub cut_here : (at : ℕ) → place_of octet l ≡ Some at → (at ≡ index_of octet l) × (at < length l)
  cut_here at e = let p = cond_some _ _ _ e in (sym p.1, rw (← p.1) (ltb-true _ _ p.0))

  pub cut_none : place_of octet l ≡ None → no_place octet l ≡ true
  cut_none e = go (ltb (index_of octet l) (length l)) refl e
    where
      go : (b : Bool) → ltb (index_of octet l) (length l) ≡ b → cond b (Some (index_of octet l)) None ≡ None → no_place octet l ≡ true
      go true q e = cc
      go false q e = le-leb _ _ (ltb-false _ _ q)

-- ---- numbers

module _ (limit n : ℕ) (text : List ℕ) (i : ℕ) (h : i < length text) where
  digits_here : digits_of limit n (drop i text)
      ≡ cond (is_digit (get_or text i 0) && leb (n * 10 + (get_or text i 0 - 48)) limit) (digits_of limit (n * 10 + (get_or text i 0 - 48)) (drop (i + 1) text)) None
  unfolding digits_of
  digits_here = rw (add-one, drop-cons text i 0 h)

  pub digits_other : is_digit (get_or text i 0) ≡ false → digits_of limit n (drop i text) ≡ None
  digits_other e = digits_here ∙ rw e

  pub digits_above : is_digit (get_or text i 0) ≡ true → limit < n * 10 + (get_or text i 0 - 48) → digits_of limit n (drop i text) ≡ None
  digits_above e k = digits_here ∙ rw (e, lt-leb _ _ k)

  pub digits_next : is_digit (get_or text i 0) ≡ true → n * 10 + (get_or text i 0 - 48) ≤ limit
      → digits_of limit n (drop i text) ≡ digits_of limit (n * 10 + (get_or text i 0 - 48)) (drop (i + 1) text)
  digits_next e k = digits_here ∙ rw (e, le-leb _ _ k)

pub digits_end : (limit n : ℕ) (text : List ℕ) (i : ℕ) → length text ≤ i → digits_of limit n (drop i text) ≡ Some n
unfolding digits_of
digits_end limit n text i h = rw (drop_of_length-le text h)

bad_is : {A : Type 0} {n : ℕ} → None ≡ Some n → A
bad_is e = let z : ◌≡◌ {A = ℕ} 0 1 = cc in absurd (omega arith)

digits_bound : (limit before : ℕ) (text : List ℕ) (n : ℕ) → before ≤ limit → digits_of limit before text ≡ Some n → n ≤ limit
unfolding digits_of
digits_bound limit before [] n h e = let z : before ≡ n = cc in omega arith
digits_bound limit before (octet ∷ rest) n h e =
    cond_elim
    (λ x. x ≡ Some n → n ≤ limit)
    (is_digit octet && leb (before * 10 + (octet - 48)) limit)
    (digits_of limit (before * 10 + (octet - 48)) rest)
    None
    (λ t. digits_bound limit (before * 10 + (octet - 48)) rest n (leb-true _ _ (and_right (is_digit octet) (leb (before * 10 + (octet - 48)) limit) t)))
    (λ t. bad_is)
    e

module _ (limit : ℕ) (text : List ℕ) where
  pub decimal_empty : length text ≡ 0 → decimal_of limit text ≡ None
  unfolding decimal_of
  decimal_empty e = rw (eq-eqb _ _ e)

  pub decimal_zero : (length text ≡ 0 → ⊥) → get_or text 0 0 ≡ 48 → 1 < length text → decimal_of limit text ≡ None
  unfolding decimal_of leads_with_zero
  decimal_zero n e h = rw (ne_eqb _ _ n, eq-eqb _ _ e, lt-ltb _ _ h)

  pub decimal_digits : (length text ≡ 0 → ⊥) → (get_or text 0 0 ≡ 48 → length text ≤ 1) → decimal_of limit text ≡ digits_of limit 0 text
  unfolding decimal_of leads_with_zero
  decimal_digits n f = rw (ne_eqb _ _ n) (go (eqb (get_or text 0 0) 48) refl)
    where
      go : (b : Bool) → eqb (get_or text 0 0) 48 ≡ b → cond (b && ltb 1 (length text)) None (digits_of limit 0 text) ≡ digits_of limit 0 text
      go true e = rw (le-ltb 1 (length text) (f (eqb-true _ _ e)))
      go false e = refl

  pub decimal_bound : (n : ℕ) → decimal_of limit text ≡ Some n → n ≤ limit
  unfolding decimal_of
  decimal_bound n e =
      cond_elim
      (λ x. x ≡ Some n → n ≤ limit)
      (eqb (length text) 0)
      _
      _
      (λ t. bad_is)
      (λ t. cond_elim (λ x. x ≡ Some n → n ≤ limit) (leads_with_zero text) None (digits_of limit 0 text) (λ t. bad_is) (λ t. digits_bound limit 0 text n (omega arith)))
      e

-- ---- dotted quads

-- with so many dots to come, the number before them lies below this
unfoldable pub quad_limit : ℕ → ℕ
quad_limit zero = 16777216
quad_limit (suc zero) = 65536
quad_limit (suc (suc zero)) = 256
quad_limit (suc (suc (suc zero))) = 1
quad_limit (suc (suc (suc (suc more)))) = 0

pub quad_start : 0 < quad_limit 3
unfolding quad_limit
quad_start = omega arith

pub quad_product : (dots n : ℕ) → n < quad_limit dots → n * 256 < 4294967296
unfolding quad_limit
quad_product zero n h = omega arith
quad_product (suc zero) n h = omega arith
quad_product (suc (suc zero)) n h = omega arith
quad_product (suc (suc (suc zero))) n h = omega arith
quad_product (suc (suc (suc (suc more)))) n h = absurd (omega arith)

pub quad_fits : (dots n octet : ℕ) (text : List ℕ) → n < quad_limit dots → decimal_of 255 text ≡ Some octet → n * 256 + octet < 4294967296
unfolding quad_limit
quad_fits zero n octet text h e = omega (arith, decimal_bound 255 text octet e)
quad_fits (suc zero) n octet text h e = omega (arith, decimal_bound 255 text octet e)
quad_fits (suc (suc zero)) n octet text h e = omega (arith, decimal_bound 255 text octet e)
quad_fits (suc (suc (suc zero))) n octet text h e = omega (arith, decimal_bound 255 text octet e)
quad_fits (suc (suc (suc (suc more)))) n octet text h e = absurd (omega arith)

pub quad_below : (dots more n octet : ℕ) (text : List ℕ) → dots ≡ suc more → n < quad_limit dots → decimal_of 255 text ≡ Some octet
    → n * 256 + octet < quad_limit more
unfolding quad_limit
quad_below dots zero n octet text d h e = omega (arith, decimal_bound 255 text octet e, rw d at h)
quad_below dots (suc zero) n octet text d h e = omega (arith, decimal_bound 255 text octet e, rw d at h)
quad_below dots (suc (suc zero)) n octet text d h e = omega (arith, decimal_bound 255 text octet e, rw d at h)
quad_below dots (suc (suc (suc more))) n octet text d h e = absurd (omega (arith, rw d at h))

module _ (n : ℕ) (text : List ℕ) where
  pub quad_no_dot : (dots more : ℕ) → dots ≡ suc more → no_place 46 text ≡ true → dotted_from dots n text ≡ None
  unfolding dotted_from
  quad_no_dot dots more d e = rw (d, le-ltb _ _ (leb-true _ _ e))

  module _ {front rest : List ℕ} (cut : IsCut 46 text front rest) (dots more : ℕ) (d : dots ≡ suc more) where
    pub quad_bad : decimal_of 255 front ≡ None → dotted_from dots n text ≡ None
    unfolding dotted_from when_number
    quad_bad e = rw (d, lt-ltb _ _ cut.found, ← cut.front, e)

    pub quad_next : (octet : ℕ) → decimal_of 255 front ≡ Some octet → dotted_from dots n text ≡ dotted_from more (n * 256 + octet) rest
    unfolding dotted_from when_number
    quad_next octet e = rw (d, lt-ltb _ _ cut.found, ← cut.front, e, ← cut.rest)

  pub quad_last_bad : (dots : ℕ) → dots ≤ 0 → decimal_of 255 text ≡ None → dotted_from dots n text ≡ None
  unfolding dotted_from when_number
  quad_last_bad zero d e = rw e
  quad_last_bad (suc dots) d e = absurd (omega arith)

  pub quad_last : (dots octet : ℕ) → dots ≤ 0 → decimal_of 255 text ≡ Some octet → dotted_from dots n text ≡ Some (n * 256 + octet)
  unfolding dotted_from when_number
  quad_last zero octet d e = rw e
  quad_last (suc dots) octet d e = absurd (omega arith)

-- ---- hex

digit_is : (digit : ℕ) → is_some (digit_number digit) ≡ ltb (nibble digit) 16
digit_is digit = go (ltb (nibble digit) 16)
  where
    go : (b : Bool) → is_some (cond b (Some (nibble digit)) None) ≡ b
    go true = refl
    go false = refl

-- two digits at a time

pub hex_even : (text : List ℕ) → length text % 2 ≡ 0 → list_all (λ d. is_some (digit_number d)) text ≡ is_hex text
unfolding is_hex
hex_even [] h = refl
hex_even (a ∷ []) h = absurd (omega (arith, h))
hex_even (a ∷ b ∷ rest) h = rw (digit_is a, digit_is b, hex_even rest (omega (arith, h)))

pub hex_odd : (text : List ℕ) → (length text % 2 ≡ 0 → ⊥) → false ≡ is_hex text
unfolding is_hex
hex_odd [] h = absurd (h refl)
hex_odd (a ∷ []) h = refl
hex_odd (a ∷ b ∷ rest) h = rw (← (hex_odd rest (λ e. h (omega (arith, e))))) (both (ltb (nibble a) 16) (ltb (nibble b) 16))
  where
    both : (p q : Bool) → false ≡ (p && (q && false))
    both true true = refl
    both true false = refl
    both false q = refl

-- what the digits from so many octets on are
pub record Pair (text : List ℕ) (i : ℕ) : Type 0 where
  pub high : nibble (get_or text (2 * i) 0) < 16
  pub low : nibble (get_or text (2 * i + 1) 0) < 16
  pub rest : is_hex (drop (2 * (i + 1)) text) ≡ true
  pub octets : hex_octets (drop (2 * i) text) ≡ (nibble (get_or text (2 * i) 0) * 16 + nibble (get_or text (2 * i + 1) 0)) ∷ hex_octets (drop (2 * (i + 1)) text)

pub pair_of : (text : List ℕ) (i : ℕ) → i < length text / 2 → is_hex (drop (2 * i) text) ≡ true → Pair text i
unfolding is_hex hex_octets
pair_of text i h e =
    let more : suc (suc (2 * i)) ≡ 2 * (i + 1) = omega arith in
    let cut : drop (2 * i) text ≡ get_or text (2 * i) 0 ∷ get_or text (2 * i + 1) 0 ∷ drop (2 * (i + 1)) text =
    drop-cons text (2 * i) 0 (omega arith) ∙ ap (λ (l : List ℕ). get_or text (2 * i) 0 ∷ l) (rw (add-one (2 * i), ← more) (drop-cons text (suc (2 * i)) 0 (omega arith))) in
    let t = go (get_or text (2 * i) 0) (get_or text (2 * i + 1) 0) (drop (2 * (i + 1)) text) (rw cut at e) (ap hex_octets cut) in
    record { high = t.0; low = t.1; rest = t.2; octets = t.3 }
  where
    go : (a b : ℕ) (rest : List ℕ) → is_hex (a ∷ b ∷ rest) ≡ true → hex_octets (drop (2 * i) text) ≡ hex_octets (a ∷ b ∷ rest)
        → (nibble a < 16) × (nibble b < 16) × (is_hex rest ≡ true) × (hex_octets (drop (2 * i) text) ≡ (nibble a * 16 + nibble b) ∷ hex_octets rest)
    go a b rest e f =
        let r = and_right (ltb (nibble a) 16) (ltb (nibble b) 16 && is_hex rest) e in (
          ltb-true (nibble a) 16 (and_left (ltb (nibble a) 16) (ltb (nibble b) 16 && is_hex rest) e),
          ltb-true (nibble b) 16 (and_left (ltb (nibble b) 16) (is_hex rest) r),
          and_right (ltb (nibble b) 16) (is_hex rest) r,
          f,
        )

pub octets_end : (text : List ℕ) → length text ≤ 1 → hex_octets text ≡ []
unfolding hex_octets
octets_end [] h = refl
octets_end (x ∷ []) h = refl
octets_end (x ∷ y ∷ rest) h = absurd (omega arith)

-- a digit that is one
pub digit_some : (digit : ℕ) → nibble digit < 16 → digit_number digit ≡ Some (nibble digit)
digit_some digit h = rw (lt-ltb _ _ h)

pub digit_read : (digit : ℕ) {n : ℕ} {r : Option ℕ} → nibble digit < 16 → r ≡ digit_number digit → r ≡ Some n → n ≡ nibble digit
digit_read digit h e f = same_Some _ _ (sym f ∙ e ∙ digit_some digit h)

pub digit_there : (digit : ℕ) {r : Option ℕ} → nibble digit < 16 → r ≡ digit_number digit → IsSome r
digit_there digit h e = rw (e, digit_some digit h)

module _ {text total old out : List ℕ} {i : ℕ} (p : Pair text i) (w : Writing total 0 old (hex_octets (drop (2 * i) text)) i out) where
  pub octet_room : i < length out
  octet_room = let l : length (hex_octets (drop (2 * i) text)) ≡ suc (length (hex_octets (drop (2 * (i + 1)) text))) = ap length p.octets in omega (arith, w.fits)

  pub octet_turn : {a b : ℕ} → a ≡ nibble (get_or text (2 * i) 0) → b ≡ nibble (get_or text (2 * i + 1) 0)
      → Writing total 0 old (hex_octets (drop (2 * (i + 1)) text)) (i + 1) (set out i (a * 16 + b))
  octet_turn {a} {b} e f = turn w ((a * 16 + b) ∷ []) (hex_octets (drop (2 * (i + 1)) text)) (p.octets ∙ rw (e, f)) (written_one (a * 16 + b) i out)

-- all of them
pub octets_over : {octets old new : List ℕ} {end : ℕ} → length octets ≤ length old → Written octets 0 old new end
    → (end ≡ length octets) × (new ≡ over octets old)
unfolding over
octets_over {octets} {old} h w =
    let all : sets old 0 octets ≡ octets ++ drop (length octets) old = sets-eq octets old 0 (omega arith) ∙ ap (λ (n : ℕ). octets ++ drop n old) (zero-add (length octets)) in
    (omega (arith, w.after), w.list ∙ all)

-- one more octet in hex

text_next : (octets : List ℕ) (i : ℕ) → i < length octets
    → hex_text (drop i octets) ≡ hex_digit (get_or octets i 0 / 16) ∷ hex_digit (get_or octets i 0 % 16) ∷ hex_text (drop (i + 1) octets)
unfolding hex_text
text_next octets i h = rw (add-one, drop-cons octets i 0 h)

module _ (octets : List ℕ) (i : ℕ) (h : i < length octets) {total : List ℕ} {first w : Writer} (l : Left total first (hex_text (drop i octets)) w)
    {a b : ℕ} (e : a ≡ hex_digit (get_or octets i 0 / 16)) (f : b ≡ hex_digit (get_or octets i 0 % 16)) where
  digits : hex_text (drop i octets) ≡ (a ∷ b ∷ []) ++ hex_text (drop (i + 1) octets)
  digits = text_next octets i h ∙ rw (e, f)

  pub digits_room : HasRoom w (a ∷ b ∷ [])
  digits_room = part_room l (a ∷ b ∷ []) (hex_text (drop (i + 1) octets)) digits

  pub digits_turn : {next : Writer} → Puts (a ∷ b ∷ []) w next → Left total first (hex_text (drop (i + 1) octets)) next
  digits_turn p = less_left l (a ∷ b ∷ []) (hex_text (drop (i + 1) octets)) digits p

pub text_end : (octets : List ℕ) (i : ℕ) → length octets ≤ i → hex_text (drop i octets) ≡ []
unfolding hex_text
text_end octets i h = rw (drop_of_length-le octets h)
