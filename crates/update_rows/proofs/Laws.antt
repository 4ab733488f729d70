-- Laws of storing rows: what is left to store, and what it leaves. Assumes nothing.
use Prim.Native.Nat.{ℕ, zero, suc, ◌+◌, ◌*◌, ◌-◌, ◌/◌, ◌%◌, ◌^◌, ◌≤◌, ◌<◌}
use borrow.Rule.Slice.PartMut.{put_mid}
use mir.Syntax.{w32}
use Rattle.std.specs.Int.{swap_bytes, to_le_bytes}
use native.Mathlib.Numerals.{add-one}
use native.Mathlib.Nat.{add-zero, zero-add}
use native.Mathlib.Omega.{arith}
use borrow.Author.Tests.{ltb-true, ltb-false, leb-false}
use mathlib.Core.Path.{◌≡◌, refl, sym, ap, subst, ◌∙◌}
use mathlib.Core.Bool.{Bool, true, false}
use mathlib.Core.List.{List, [], ◌∷◌, ◌++◌, append-nil}
use lib.Dec.{ltb, leb}
use lib.ListN.{length, take, drop, get_or, set, replicate, length-set, length-append, length-drop, length-replicate, drop_of_length-le}
use lib.Seq.{sets, length-sets, sets-eq, get_or-drop, drop-drop}
use Rattle.checks.proofs.Laws.{part_from_lem, cond_elim}
use Rattle.octets.specs.Numbers.{quad_of}
use Rattle.octets.proofs.Numbers.{sets_append, sets_part}
use Rattle.octets.proofs.Back.{quad_back, first_of, second_of, third_of, fourth_of}
use Rattle.octets_words.specs.Words.{words_of}
use Rattle.octets_words.proofs.Words.{words_length, words_short}
use Rattle.nets.specs.Classes.{first_octet, width_of, net_width, host_span, good_net}
use Rattle.nets.specs.Rows.{Row, flat}
use Rattle.update_walk.specs.Body.{Got, got, stop, and_then, after, many, extended, big_endian, left_justified, net_row, group_rows, host_width, gateway_of, block_rows, both_sides, Walk, whole, broken, walked_blocks, update_of, accepted}
use Rattle.update_walk.proofs.Flat.{group_rows_lem, block_rows_lem, both_sides_lem}
use Rattle.update_walk.proofs.Laws.{never, many_next, many_stop, many_none, nonzero, width_small, class_a_lem, class_b, class_c, classless}
use Rattle.update_walk.proofs.Turns.{Stepped, row_at}
use Rattle.update_walk.proofs.Groups.{net_good}
use Rattle.update_walk.proofs.Accepted.{Whole, whole_is, accepted_is}
use Rattle.update_walk.proofs.Good.{net_of_lem, gateway_fits}
use Rattle.update_rows.specs.declared.Put.{Put}
use Rattle.update_rows.specs.Storing.{zeros, padded, is_whole, walked_rows, Storable, is_got, got_rows, got_rest, Room, Stored}

pub flat_append : (xs ys : List Row) → flat (xs ++ ys) ≡ flat xs ++ flat ys
unfolding flat
flat_append [] ys = refl
flat_append (r ∷ xs) ys = ap (λ (l : List ℕ). r.net ∷ r.gateway ∷ r.third ∷ l) (flat_append xs ys)

pub flat_length : (xs : List Row) → length (flat xs) ≡ 3 * length xs
unfolding flat
flat_length [] = refl
flat_length (r ∷ xs) = omega (arith, flat_length xs)

pub zeros_length : (n : ℕ) → length (zeros n) ≡ n
unfolding zeros
zeros_length n = length-replicate {A = ℕ} n 0

pub padded_length : (size : ℕ) (numbers : List ℕ) → length numbers ≤ size → length (padded size numbers) ≡ size
unfolding padded
padded_length size numbers h = length-append numbers (zeros (size - length numbers)) ∙ omega (arith, zeros_length (size - length numbers))

-- everything from the front on is written anew
pub sets_all : (l vs : List ℕ) → length vs ≡ length l → sets l 0 vs ≡ vs
sets_all l vs h =
    let e : length l ≤ 0 + length vs = omega arith in
    sets-eq vs l 0 (omega arith) ∙ ap (λ (r : List ℕ). vs ++ r) (drop_of_length-le l e) ∙ append-nil vs

-- rows after rows
pub sets_rows : (out : List ℕ) (o : ℕ) (xs ys : List Row) → sets out o (flat (xs ++ ys)) ≡ sets (sets out o (flat xs)) (o + 3 * length xs) (flat ys)
sets_rows out o xs ys =
    ap (sets out o) (flat_append xs ys) ∙ sets_append out o (flat xs) (flat ys) ∙ ap (λ (n : ℕ). sets (sets out o (flat xs)) (o + n) (flat ys)) (flat_length xs)

-- what storing leaves: the numbers, where the next goes, the octets that are left
pub data Final : Type 0 where
  fin : List ℕ → ℕ → List ℕ → Final

unfoldable pub final : Got (List Row) → ℕ → List ℕ → Final
final g o out = fin (sets out o (flat (got_rows g))) (o + 3 * length (got_rows g)) (got_rest g)

-- the goal is what the rest leaves, f read k times from u and stored from o on
pub record Doing (goal : Final) (size : ℕ) (f : List ℕ → Got (List Row)) (k : ℕ) (u : List ℕ) (o : ℕ) (out : List ℕ) : Type 0 where
  pub good : is_got (many f k u) ≡ true
  pub fits : o + 3 * length (got_rows (many f k u)) ≤ length out
  pub long : length out ≡ size
  pub same : goal ≡ final (many f k u) o out

pub start : (f : List ℕ → Got (List Row)) (k : ℕ) (u : List ℕ) (o : ℕ) (out : List ℕ) → Room (many f k u) o out
    → Doing (final (many f k u) o out) (length out) f k u o out
start f k u o out r = record { good = r.good; fits = r.fits; long = refl; same = refl }

pub stored : (g : Got (List Row)) (at : ℕ) (old new : List ℕ) (p : Put) → final g at old ≡ fin new p.at p.rest.now → Stored g at old new p
unfolding final
stored g at old new p e = record { numbers = cc; next = cc; rest = cc }

after_good : (xs : List Row) (y : Got (List Row)) → is_got (after xs y) ≡ true → is_got y ≡ true
unfolding is_got
after_good xs (got ys r) h = h
after_good xs (stop left) h = h

after_rows : (xs : List Row) (y : Got (List Row)) → is_got (after xs y) ≡ true → got_rows (after xs y) ≡ xs ++ got_rows y
unfolding is_got got_rows
after_rows xs (got ys r) h = refl
after_rows xs (stop left) h = never h

after_rest : (xs : List Row) (y : Got (List Row)) → got_rest (after xs y) ≡ got_rest y
unfolding got_rest
after_rest xs (got ys r) = refl
after_rest xs (stop left) = refl

after_final : (xs : List Row) (y : Got (List Row)) (o : ℕ) (out : List ℕ) → is_got (after xs y) ≡ true
    → final (after xs y) o out ≡ final y (o + 3 * length xs) (sets out o (flat xs))
unfolding final
after_final xs y o out h =
    let a : sets out o (flat (xs ++ got_rows y)) ≡ sets (sets out o (flat xs)) (o + 3 * length xs) (flat (got_rows y)) = sets_rows out o xs (got_rows y) in
    let b : o + 3 * length (xs ++ got_rows y) ≡ o + 3 * length xs + 3 * length (got_rows y) = omega (arith, length-append xs (got_rows y)) in
    rw (after_rows xs y h, after_rest xs y, a, b)

-- the reading that a turn stores
pub record Next (f : List ℕ → Got (List Row)) (u : List ℕ) (o : ℕ) (out : List ℕ) : Type 0 where
  pub items : List Row
  pub rest : List ℕ
  pub is : f u ≡ got items rest
  pub fits : o + 3 * length items ≤ length out

stop_bad : {A : Type 0} (left : ℕ) → is_got (stop left) ≡ true → A
unfolding is_got
stop_bad left h = never h

module _ {goal : Final} {size : ℕ} {f : List ℕ → Got (List Row)} {k : ℕ} {u : List ℕ} {o : ℕ} {out : List ℕ} (inv : Doing goal size f k u o out) where
  module _ (some : 0 < k) where
    module _ (xs : List Row) (rest : List ℕ) (e : f u ≡ got xs rest) where
      -- the turn's rows, then the others
      more : is_got (after xs (many f (k - 1) rest)) ≡ true
      more = sym (ap is_got (many_next f k u xs rest some e)) ∙ inv.good

      split : got_rows (many f k u) ≡ xs ++ got_rows (many f (k - 1) rest)
      split = ap got_rows (many_next f k u xs rest some e) ∙ after_rows xs (many f (k - 1) rest) more

      turn_less : (new : List ℕ) → new ≡ sets out o (flat xs) → Doing goal size f (k - 1) rest (o + 3 * length xs) new
      turn_less new n =
          let y = many f (k - 1) rest in
          let l : length new ≡ length out = ap length n ∙ length-sets out o (flat xs) in
          record {
            good = after_good xs y more;
            fits = omega (arith, inv.fits, ap length split, length-append xs (got_rows y));
            long = l ∙ inv.long;
            same = inv.same ∙ ap (λ (g : Got (List Row)). final g o out) (many_next f k u xs rest some e) ∙ after_final xs y o out more ∙ ap (final y (o + 3 * length xs)) (sym n);
          }

      pub turn_fits : o + 3 * length xs ≤ length out
      turn_fits = omega (arith, inv.fits, ap length split, length-append xs (got_rows (many f (k - 1) rest)))

    pub next : Next f u o out
    next = go (f u) refl
      where
        go : (g : Got (List Row)) → f u ≡ g → Next f u o out
        go (got xs rest) e = record { items = xs; rest = rest; is = e; fits = turn_fits xs rest e }
        go (stop left) e = stop_bad left (sym (ap is_got (many_stop f k u left some e)) ∙ inv.good)

    pub turn_room : Room (f u) o out
    unfolding is_got got_rows
    turn_room =
        let n = next in
        rw n.is (record { good = refl; fits = n.fits })

  module _ (j : ℕ) (d : k ≡ j + 1) where
    pub turn_got : (xs : List Row) (rest : List ℕ) → f u ≡ got xs rest → (new : List ℕ) → new ≡ sets out o (flat xs) → Doing goal size f j rest (o + 3 * length xs) new
    turn_got xs rest e new n =
        let l : k - 1 ≡ j = omega arith in
        rw l at (turn_less (omega arith) xs rest e new n)

    pub turn_stored : (new : List ℕ) (p : Put) → Stored (f u) o out new p → Doing goal size f j p.rest.now p.at new
    unfolding got_rows got_rest
    turn_stored new p w =
        let n = next (omega arith) in
        let l : p.rest.now ≡ n.rest = w.rest ∙ ap got_rest n.is in
        let a : p.at ≡ o + 3 * length n.items = w.next ∙ ap (λ (g : Got (List Row)). o + 3 * length (got_rows g)) n.is in
        let v : new ≡ sets out o (flat n.items) = w.numbers ∙ ap (λ (g : Got (List Row)). sets out o (flat (got_rows g))) n.is in
        rw (l, a) (turn_got n.items n.rest n.is new v)

  pub done : k ≤ 0 → goal ≡ fin out o u
  unfolding final got_rows got_rest flat
  done h = inv.same ∙ ap (λ (g : Got (List Row)). final g o out) (many_none f k u h) ∙ ap (λ (n : ℕ). fin out n u) (add-zero o)

-- the number of the first octets, by their number: one octet more at a time
digits_more : (n w : ℕ) (l : List ℕ) → w < length l → extended n (take (suc w) l) ≡ extended n (take w l) * 256 + get_or l w 0
unfolding extended
digits_more n w [] h = absurd (omega arith)
digits_more n zero (a ∷ l) h = refl
digits_more n (suc w) (a ∷ l) h = digits_more (n * 256 + a) w l (omega arith)

module _ (l : List ℕ) where
  pub one_octet : 1 ≤ length l → big_endian (take 1 l) ≡ get_or l 0 0
  unfolding extended
  one_octet h = digits_more 0 0 l (omega arith) ∙ omega arith

  pub two_octets : 2 ≤ length l → big_endian (take 2 l) ≡ get_or l 0 0 * 256 + get_or l 1 0
  two_octets h = digits_more 0 1 l (omega arith) ∙ ap (λ (n : ℕ). n * 256 + get_or l 1 0) (one_octet (omega arith))

  pub three_octets : 3 ≤ length l → big_endian (take 3 l) ≡ (get_or l 0 0 * 256 + get_or l 1 0) * 256 + get_or l 2 0
  three_octets h = digits_more 0 2 l (omega arith) ∙ ap (λ (n : ℕ). n * 256 + get_or l 2 0) (two_octets (omega arith))

-- a host part by its width
module _ (t : List ℕ) (host number : ℕ) (fits : host ≤ length t) where
  pub host_three : host ≡ 3 → number ≡ quad_of 0 (get_or t 0 0) (get_or t 1 0) (get_or t 2 0) → number ≡ big_endian (take host t)
  host_three e n = rw e (n ∙ omega arith ∙ sym (three_octets t (omega arith)))

  pub host_two : host ≡ 2 → number ≡ quad_of 0 0 (get_or t 0 0) (get_or t 1 0) → number ≡ big_endian (take host t)
  host_two e n = rw e (n ∙ omega arith ∙ sym (two_octets t (omega arith)))

  pub host_one : host ≡ 1 → number ≡ get_or t 0 0 → number ≡ big_endian (take host t)
  host_one e n = rw e (n ∙ sym (one_octet t (omega arith)))

-- a net that is read has a class: from 192 on it is C
pub only_c : (first : ℕ) → 192 ≤ first → 0 < net_width first → 3 ≡ net_width first
only_c first h p = go (ltb first 224) refl
  where
    go : (b : Bool) → ltb first 224 ≡ b → 3 ≡ net_width first
    go true e = class_c first h (ltb-true first 224 e)
    go false e = absurd (omega (arith, classless first (ltb-false first 224 e)))

-- the net at i, by its class
module _ (t : List ℕ) (i : ℕ) (fits : i + net_width (get_or t i 0) ≤ length t) where
  abbrev NetIs : ℕ → ℕ → Type 0
  NetIs w number = (w ≡ net_width (get_or t i 0)) × (number ≡ left_justified (net_width (get_or t i 0)) (drop i t))

  long : (w : ℕ) → w ≡ net_width (get_or t i 0) → w ≤ length (drop i t)
  long w e = omega (arith, length-drop i t)

  at_front : (j : ℕ) → get_or (drop i t) j 0 ≡ get_or t (i + j) 0
  at_front j = get_or-drop i t j 0

  at_first : get_or (drop i t) 0 0 ≡ get_or t i 0
  at_first = at_front 0 ∙ ap (λ (n : ℕ). get_or t n 0) (add-zero i)

  pub at_a : (number : ℕ) → number ≡ quad_of (get_or t i 0) 0 0 0 → get_or t i 0 < 128 → NetIs 1 number
  unfolding left_justified host_span
  at_a number e h =
      let w = class_a_lem (get_or t i 0) h in
      (w, rw (← w, one_octet (drop i t) (long 1 w), at_first) (e ∙ omega arith))

  pub at_b : (number : ℕ) → number ≡ quad_of (get_or t i 0) (get_or t (i + 1) 0) 0 0 → 128 ≤ get_or t i 0 → get_or t i 0 < 192 → NetIs 2 number
  unfolding left_justified host_span
  at_b number e h k =
      let w = class_b (get_or t i 0) h k in
      (w, rw (← w, two_octets (drop i t) (long 2 w), at_first, at_front 1) (e ∙ omega arith))

  pub at_c : (number : ℕ) → number ≡ quad_of (get_or t i 0) (get_or t (i + 1) 0) (get_or t (i + 2) 0) 0 → 192 ≤ get_or t i 0 → 0 < net_width (get_or t i 0) → NetIs 3 number
  unfolding left_justified host_span
  at_c number e h k =
      let w = only_c (get_or t i 0) h k in
      (w, rw (← w, three_octets (drop i t) (long 3 w), at_first, at_front 1, at_front 2) (e ∙ omega arith))

-- a turn that stores the net at i
module _ (gateway third : ℕ) {goal : Final} {size k : ℕ} (t : List ℕ) (i : ℕ) {o : ℕ} {out : List ℕ} (inv : Doing goal size (net_row gateway third) k (drop i t) o out) (some : 0 < k) where
  here : net_width (get_or (drop i t) 0 0) ≡ net_width (get_or t i 0)
  here = ap net_width (get_or-drop i t 0 0 ∙ ap (λ (n : ℕ). get_or t n 0) (add-zero i))

  step : Stepped gateway third (drop i t) (net_width (get_or t i 0))
  step = subst (λ (w : ℕ). Stepped gateway third (drop i t) w) here (net_good gateway third (drop i t) _ _ (next inv some).is)

  pub net_some : 0 < net_width (get_or t i 0)
  net_some = step.some

  pub net_fits : i + net_width (get_or t i 0) ≤ length t
  net_fits = omega (arith, step.some, step.fits, length-drop i t)

  pub net_room : o + 3 ≤ length out
  net_room = turn_fits inv some (row_at gateway third (drop i t) (net_width (get_or t i 0)) ∷ []) _ step.is

  pub turn_net : (w net : ℕ) (new : List ℕ) → w ≡ net_width (get_or t i 0) → net ≡ left_justified (net_width (get_or t i 0)) (drop i t)
      → new ≡ sets out o (net ∷ gateway ∷ third ∷ []) → (j : ℕ) → k ≡ j + 1 → Doing goal size (net_row gateway third) j (drop (i + w) t) (o + 3) new
  unfolding flat
  turn_net w net new e v n j d =
      rw (e, ← drop-drop (net_width (get_or t i 0)) i t)
      (turn_got inv j d (row_at gateway third (drop i t) (net_width (get_or t i 0)) ∷ []) (drop (net_width (get_or t i 0)) (drop i t)) step.is new
      (n ∙ ap (λ (m : ℕ). sets out o (m ∷ gateway ∷ third ∷ [])) v))

-- ---- a part of a slice, written anew

-- what a part from here to the end is filled with
pub filled : (part zeroed : List ℕ) (at : ℕ) → zeroed ≡ replicate (length (take (length part - at) (drop at part))) 0 → zeroed ≡ zeros (length part - at)
unfolding zeros
filled part zeroed at e = e ∙ ap (λ (n : ℕ). replicate n 0) (ap length (part_from_lem at part) ∙ length-drop at part)

-- zeros from here to the end
pub part_cleared : (part zeroed : List ℕ) (at : ℕ) → at ≤ length part → zeroed ≡ zeros (length part - at)
    → put_mid at (length part - at) part zeroed ≡ sets part at (zeros (length part - at))
part_cleared part zeroed at h e =
    sets_part part (zeros (length part - at)) zeroed at (length part - at) e (sym (zeros_length (length part - at))) (omega (arith, h, zeros_length (length part - at)))

-- ---- octets stored, and the numbers that they make

-- a number, from its octets turned round
pub octets_turned : (n m : ℕ) → n < 4294967296 → m ≡ swap_bytes w32 n → quad_of (m % 256) (m / 256 % 256) (m / 65536 % 256) (m / 16777216 % 256) ≡ n
octets_turned n m h e =
    let a = n % 256 in
    let b = n / 256 % 256 in
    let c = n / 65536 % 256 in
    let d = n / 16777216 % 256 in
    let is : m ≡ quad_of a b c d = e ∙ omega arith in
    let p : a < 256 = omega arith in
    let q : b < 256 = omega arith in
    let r : c < 256 = omega arith in
    let s : d < 256 = omega arith in
    rw (is, first_of a b c d p q r s, second_of a b c d p q r s, third_of a b c d p q r s, fourth_of a b c d p q r s) (quad_back n h)

-- four octets stored are one number stored
pub words_set : (at : ℕ) (l : List ℕ) (a b c d : ℕ) → words_of (sets l (at * 4) (a ∷ b ∷ c ∷ d ∷ [])) ≡ set (words_of l) at (quad_of a b c d)
unfolding words_of
words_set zero [] a b c d = refl
words_set zero (x ∷ []) a b c d = refl
words_set zero (x ∷ y ∷ []) a b c d = refl
words_set zero (x ∷ y ∷ z ∷ []) a b c d = refl
words_set zero (x ∷ y ∷ z ∷ w ∷ rest) a b c d = refl
words_set (suc at) [] a b c d = refl
words_set (suc at) (x ∷ []) a b c d = let e : suc at * 4 ≡ suc (suc (suc (suc (at * 4)))) = omega arith in rw e
words_set (suc at) (x ∷ y ∷ []) a b c d = let e : suc at * 4 ≡ suc (suc (suc (suc (at * 4)))) = omega arith in rw e
words_set (suc at) (x ∷ y ∷ z ∷ []) a b c d = let e : suc at * 4 ≡ suc (suc (suc (suc (at * 4)))) = omega arith in rw e
words_set (suc at) (x ∷ y ∷ z ∷ w ∷ rest) a b c d =
    let e : suc at * 4 ≡ suc (suc (suc (suc (at * 4)))) = omega arith in
    rw e (ap (λ (r : List ℕ). quad_of x y z w ∷ r) (words_set at rest a b c d))

-- a number stored, lowest octet of its turned octets first
pub words_number : (part octets : List ℕ) (at n m k : ℕ) → k ≡ 4 → octets ≡ to_le_bytes w32 m → n < 4294967296 → m ≡ swap_bytes w32 n → at < length (words_of part)
    → words_of (put_mid (at * 4) k part octets) ≡ set (words_of part) at n
words_number part octets at n m k four o h e b =
    ap words_of (sets_part part (to_le_bytes w32 m) octets (at * 4) k o four (omega (arith, b, words_length part)))
    ∙ words_set at part (m % 256) (m / 256 % 256) (m / 65536 % 256) (m / 16777216 % 256)
    ∙ ap (set (words_of part) at) (octets_turned n m h e)

-- a number stored leaves as many
pub set_kept : (old new : List ℕ) (at n : ℕ) → new ≡ set old at n → length new ≡ length old
set_kept old new at n e = ap length e ∙ length-set old at n

-- three numbers, one after the other
pub row_set : (old a b new : List ℕ) (at net gateway third : ℕ) → a ≡ set old at net → b ≡ set a (at + 1) gateway → new ≡ set b (at + 2) third
    → new ≡ sets old at (net ∷ gateway ∷ third ∷ [])
row_set old a b new at net gateway third e f g =
    let k : at + 2 ≡ suc (suc at) = omega arith in
    rw (g, f, e, add-one, k)

-- zeros
words_zeros : (n at : ℕ) (l : List ℕ) → words_of (sets l (at * 4) (zeros (n * 4))) ≡ sets (words_of l) at (zeros n)
unfolding zeros
words_zeros zero at l = refl
words_zeros (suc n) at l =
    let e : suc n * 4 ≡ suc (suc (suc (suc (n * 4)))) = omega arith in
    let f : at * 4 + 4 ≡ suc at * 4 = omega arith in
    ap (λ (k : ℕ). words_of (sets l (at * 4) (zeros k))) e
    ∙ ap words_of (sets_append l (at * 4) (0 ∷ 0 ∷ 0 ∷ 0 ∷ []) (zeros (n * 4)))
    ∙ ap (λ (k : ℕ). words_of (sets (sets l (at * 4) (0 ∷ 0 ∷ 0 ∷ 0 ∷ [])) k (zeros (n * 4)))) f
    ∙ words_zeros n (suc at) (sets l (at * 4) (0 ∷ 0 ∷ 0 ∷ 0 ∷ []))
    ∙ ap (λ (m : List ℕ). sets m (suc at) (zeros n)) (words_set at l 0 0 0 0)

sets_past : (x : ℕ) (l vs : List ℕ) (i : ℕ) → sets (x ∷ l) (suc i) vs ≡ x ∷ sets l i vs
sets_past x l [] i = refl
sets_past x l (v ∷ vs) i = sets_past x (set l i v) vs (suc i)

-- octets behind the last whole number make none
words_tail : (n : ℕ) (l vs : List ℕ) → length vs < 4 → n * 4 + length vs ≡ length l → words_of (sets l (n * 4) vs) ≡ words_of l
unfolding words_of
words_tail zero l vs s e = words_short (sets l 0 vs) (omega (arith, s, e, length-sets l 0 vs)) ∙ sym (words_short l (omega (arith, s, e)))
words_tail (suc n) [] vs s e = absurd (omega (arith, e))
words_tail (suc n) (x ∷ []) vs s e = absurd (omega (arith, e))
words_tail (suc n) (x ∷ y ∷ []) vs s e = absurd (omega (arith, e))
words_tail (suc n) (x ∷ y ∷ z ∷ []) vs s e = absurd (omega (arith, e))
words_tail (suc n) (x ∷ y ∷ z ∷ w ∷ rest) vs s e =
    let k : suc n * 4 ≡ suc (suc (suc (suc (n * 4)))) = omega arith in
    rw (
      k,
      sets_past x (y ∷ z ∷ w ∷ rest) vs (suc (suc (suc (n * 4)))),
      sets_past y (z ∷ w ∷ rest) vs (suc (suc (n * 4))),
      sets_past z (w ∷ rest) vs (suc (n * 4)),
      sets_past w rest vs (n * 4),
    )
    (ap (λ (r : List ℕ). quad_of x y z w ∷ r) (words_tail n rest vs s (omega (arith, e))))

zeros_append : (a b : ℕ) → zeros (a + b) ≡ zeros a ++ zeros b
unfolding zeros
zeros_append zero b = ap (λ (n : ℕ). replicate n 0) (zero-add b)
zeros_append (suc a) b = let e : suc a + b ≡ suc (a + b) = omega arith in rw e (ap (λ (l : List ℕ). 0 ∷ l) (zeros_append a b))

pub words_cleared : (part zeroed : List ℕ) (at : ℕ) → at ≤ length (words_of part) → zeroed ≡ zeros (length part - at * 4)
    → words_of (put_mid (at * 4) (length part - at * 4) part zeroed) ≡ sets (words_of part) at (zeros (length (words_of part) - at))
words_cleared part zeroed at h e =
    let n = length (words_of part) - at in
    let r = length part - length (words_of part) * 4 in
    let m : length part - at * 4 ≡ n * 4 + r = omega (arith, h, words_length part) in
    let o : at * 4 + length (zeros (n * 4)) ≡ (at + n) * 4 = omega (arith, zeros_length (n * 4)) in
    let w = sets part (at * 4) (zeros (n * 4)) in
    let k : (at + n) * 4 + length (zeros r) ≡ length w = omega (arith, h, words_length part, zeros_length r, length-sets part (at * 4) (zeros (n * 4))) in
    let f : length (zeros r) < 4 = omega (arith, words_length part, zeros_length r) in
    ap words_of (part_cleared part zeroed (at * 4) (omega (arith, h, words_length part)) e)
    ∙ ap (λ (i : ℕ). words_of (sets part (at * 4) (zeros i))) m
    ∙ ap (λ (l : List ℕ). words_of (sets part (at * 4) l)) (zeros_append (n * 4) r)
    ∙ ap words_of (sets_append part (at * 4) (zeros (n * 4)) (zeros r))
    ∙ ap (λ (i : ℕ). words_of (sets w i (zeros r))) o
    ∙ words_tail (at + n) w (zeros r) f k
    ∙ words_zeros n at part

-- one group
module _ (side gateway : ℕ) (t : List ℕ) where
  pub record Group : Type 0 where
    pub two : 2 ≤ length t
    pub is : group_rows side gateway t ≡ many (net_row gateway (side + get_or t 0 0)) (get_or t 1 0) (drop 2 t)

  pub group_good : is_got (group_rows side gateway t) ≡ true → Group
  unfolding is_got
  group_good h =
      cond_elim (λ x. is_got x ≡ true → Group) (ltb (length t) 2) _ _ (λ a g. never g)
      (λ a g. record { two = ltb-false (length t) 2 a; is = group_rows_lem side gateway t ∙ rw a }) (rw (group_rows_lem side gateway t) at h)

  module _ (at : ℕ) (part : List ℕ) (r : Room (group_rows side gateway t) at part) where
    pub group_two : 2 ≤ length t
    group_two = (group_good r.good).two

    group_is : many (net_row gateway (side + get_or t 0 0)) (get_or t 1 0) (take (length t - 2) (drop 2 t)) ≡ group_rows side gateway t
    group_is = rw (part_from_lem 2 t) (sym (group_good r.good).is)

    pub group_room : Room (many (net_row gateway (side + get_or t 0 0)) (get_or t 1 0) (take (length t - 2) (drop 2 t))) at part
    group_room = rw group_is r

    pub group_stored : (new : List ℕ) (p : Put) → Stored (many (net_row gateway (side + get_or t 0 0)) (get_or t 1 0) (take (length t - 2) (drop 2 t))) at part new p
        → Stored (group_rows side gateway t) at part new p
    group_stored new p s = rw group_is at s

-- one block
module _ (side net : ℕ) (t : List ℕ) where
  pub record Block : Type 0 where
    pub some : host_width net < length t
    pub is : block_rows side net t ≡ many (group_rows side (gateway_of net t)) (get_or t (host_width net) 0) (drop (host_width net + 1) t)

  pub block_good : is_got (block_rows side net t) ≡ true → Block
  unfolding is_got
  block_good h =
      let w = host_width net in
      cond_elim (λ x. is_got x ≡ true → Block) (leb (length t) w) _ _ (λ a g. never g)
      (λ a g. record { some = leb-false (length t) w a; is = block_rows_lem side net t ∙ rw a }) (rw (block_rows_lem side net t) at h)

  module _ (at : ℕ) (part : List ℕ) (r : Room (block_rows side net t) at part) (host : ℕ) (w : host ≡ host_width net) where
    pub block_some : host < length t
    block_some = omega (arith, w, (block_good r.good).some)

    pub block_host : good_net net ≡ true → (0 < host) × (host < 4) × (host ≤ length t)
    unfolding host_width
    block_host g =
        let some = nonzero (width_of net) (net_of_lem net g).classed in
        let small = width_small (first_octet net) in
        (omega (arith, w, small), omega (arith, w, some), omega (arith, block_some))

    pub block_fits_lem : (number : ℕ) → good_net net ≡ true → number < 256 ^ host → net < 4294967296 → net + number < 4294967296
    block_fits_lem number g b f = gateway_fits net (net_of_lem net g) number (subst (λ (n : ℕ). number < 256 ^ n) w b) f

    module _ (number : ℕ) (v : number ≡ big_endian (take host t)) where
      block_is : many (group_rows side (net + number)) (get_or t host 0) (take (length t - (host + 1)) (drop (host + 1) t)) ≡ block_rows side net t
      unfolding gateway_of
      block_is = rw (part_from_lem (host + 1) t, v, w) (sym (block_good r.good).is)

      pub block_room : Room (many (group_rows side (net + number)) (get_or t host 0) (take (length t - (host + 1)) (drop (host + 1) t))) at part
      block_room = rw block_is r

      pub block_stored : (new : List ℕ) (p : Put) → Stored (many (group_rows side (net + number)) (get_or t host 0) (take (length t - (host + 1)) (drop (host + 1) t))) at part new p
          → Stored (block_rows side net t) at part new p
      block_stored new p s = rw block_is at s

wholly : (w : Walk) → is_whole w ≡ true → w ≡ whole (walked_rows w)
unfolding is_whole walked_rows
wholly (whole rs) h = refl
wholly (broken k) h = never h

after_halves : (xs : List Row) (y : Got (List Row)) (rs : List Row) → after xs y ≡ got rs [] → (y ≡ got (got_rows y) []) × (rs ≡ xs ++ got_rows y)
unfolding got_rows
after_halves xs (got ys r) rs e = (ap (got ys) (cc), cc)
after_halves xs (stop k) rs e = let z : ◌≡◌ {A = ℕ} 0 1 = cc in absurd (omega arith)

-- the two sides of whole blocks
pub record Halves (net internal external : ℕ) (t : List ℕ) (rs : List Row) : Type 0 where
  pub inside : List Row
  pub outside : List Row
  pub rest : List ℕ
  pub first : many (block_rows 0 net) internal t ≡ got inside rest
  pub second : many (block_rows 256 net) external rest ≡ got outside []
  pub rows : rs ≡ inside ++ outside

pub halves : (net internal external : ℕ) (t : List ℕ) (rs : List Row) → both_sides net internal external t ≡ got rs [] → Halves net internal external t rs
halves net internal external t rs e = go (many (block_rows 0 net) internal t) refl (rw (both_sides_lem net internal external t) at e)
  where
    go : (g : Got (List Row)) → many (block_rows 0 net) internal t ≡ g → and_then g (λ xs rest. after xs (many (block_rows 256 net) external rest)) ≡ got rs []
        → Halves net internal external t rs
    go (got xs r) a b =
        let w = after_halves xs (many (block_rows 256 net) external r) rs b in
        record { inside = xs; outside = got_rows (many (block_rows 256 net) external r); rest = r; first = a; second = w.0; rows = w.1 }
    go (stop k) a b = let z : ◌≡◌ {A = ℕ} 0 1 = cc in absurd (omega arith)

room_of : (g : Got (List Row)) (xs : List Row) (rest : List ℕ) (at : ℕ) (part : List ℕ) → g ≡ got xs rest → at + 3 * length xs ≤ length part → Room g at part
unfolding is_got got_rows
room_of g xs rest at part e h = rw e (record { good = refl; fits = h })

-- what was stored of a reading that is known
record Known (xs : List Row) (rest : List ℕ) (at : ℕ) (old new : List ℕ) (p : Put) : Type 0 where
  numbers : new ≡ sets old at (flat xs)
  next : p.at ≡ at + 3 * length xs
  left : p.rest.now ≡ rest
  long : length new ≡ length old

known : (g : Got (List Row)) (xs : List Row) (rest : List ℕ) (at : ℕ) (old new : List ℕ) (p : Put) → g ≡ got xs rest → Stored g at old new p → Known xs rest at old new p
unfolding got_rows got_rest
known g xs rest at old new p e s =
    let n : new ≡ sets old at (flat xs) = s.numbers ∙ ap (λ (y : Got (List Row)). sets old at (flat (got_rows y))) e in
    record {
      numbers = n;
      next = s.next ∙ ap (λ (y : Got (List Row)). at + 3 * length (got_rows y)) e;
      left = s.rest ∙ ap got_rest e;
      long = ap length n ∙ length-sets old at (flat xs);
    }

-- storing both sides of whole blocks, then zeros
module _ (net : ℕ) (message part : List ℕ) (s : Storable net message part) where
  pub store_whole : Whole net message (walked_rows (walked_blocks net message))
  store_whole = whole_is net message (walked_rows (walked_blocks net message)) (wholly (walked_blocks net message) s.sound)

  parts : Halves net (get_or message 10 0) (get_or message 11 0) (drop 16 message) (walked_rows (walked_blocks net message))
  parts = halves net (get_or message 10 0) (get_or message 11 0) (drop 16 message) (walked_rows (walked_blocks net message)) store_whole.is

  counts : length (walked_rows (walked_blocks net message)) ≡ length parts.inside + length parts.outside
  counts = ap length parts.rows ∙ length-append parts.inside parts.outside

  module _ (body : List ℕ) (b : body ≡ drop 16 message) where
    first_is : many (block_rows 0 net) (get_or message 10 0) body ≡ got parts.inside parts.rest
    first_is = ap (many (block_rows 0 net) (get_or message 10 0)) b ∙ parts.first

    pub first_room : Room (many (block_rows 0 net) (get_or message 10 0) body) 0 part
    first_room = room_of _ parts.inside parts.rest 0 part first_is (omega (arith, s.room, counts))

    module _ (new : List ℕ) (p : Put) (w : Stored (many (block_rows 0 net) (get_or message 10 0) body) 0 part new p) where
      inner : Known parts.inside parts.rest 0 part new p
      inner = known _ parts.inside parts.rest 0 part new p first_is w

      second_is : many (block_rows 256 net) (get_or message 11 0) p.rest.now ≡ got parts.outside []
      second_is = rw inner.left parts.second

      pub second_room : Room (many (block_rows 256 net) (get_or message 11 0) p.rest.now) p.at new
      second_room = room_of _ parts.outside [] p.at new second_is (omega (arith, s.room, counts, inner.next, inner.long))

      module _ (new2 : List ℕ) (q : Put)
          (v : Stored (many (block_rows 256 net) (get_or message 11 0) p.rest.now) p.at new new2 q) where
        outer : Known parts.outside [] p.at new new2 q
        outer = known _ parts.outside [] p.at new new2 q second_is v

        pub second_end : q.at ≤ length new2
        second_end = omega (arith, s.room, counts, inner.next, inner.long, outer.next, outer.long)

        pub second_long : length new2 ≡ length part
        second_long = outer.long ∙ inner.long

        pub store_done : (last : List ℕ) → last ≡ sets new2 q.at (zeros (length new2 - q.at)) → last ≡ padded (length part) (flat (walked_rows (walked_blocks net message)))
        unfolding padded
        store_done last e =
            let rs = walked_rows (walked_blocks net message) in
            let xs = parts.inside in
            let ys = parts.outside in
            let k : length (flat (walked_rows (walked_blocks net message))) ≡ 3 * length (walked_rows (walked_blocks net message)) = flat_length rs in
            let i : q.at ≡ 0 + length (flat (walked_rows (walked_blocks net message))) = omega (arith, k, counts, inner.next, outer.next) in
            let z : length new2 - q.at ≡ length part - length (flat (walked_rows (walked_blocks net message))) = omega (arith, i, outer.long, inner.long) in
            let n : new2 ≡ sets part 0 (flat (walked_rows (walked_blocks net message))) =
            outer.numbers ∙ ap (λ (l : List ℕ). sets l p.at (flat ys)) inner.numbers ∙ ap (λ (j : ℕ). sets (sets part 0 (flat xs)) j (flat ys)) inner.next
            ∙ sym (sets_rows part 0 xs ys) ∙ ap (λ (l : List Row). sets part 0 (flat l)) (sym parts.rows) in
            let size : length (flat rs ++ zeros (length part - length (flat rs))) ≡ length part =
            length-append (flat rs) (zeros (length part - length (flat rs))) ∙ omega (arith, zeros_length (length part - length (flat rs)), k, s.room) in
            e ∙ ap (λ (l : List ℕ). sets l q.at (zeros (length new2 - q.at))) n ∙ ap (λ (j : ℕ). sets (sets part 0 (flat rs)) j (zeros (length new2 - q.at))) i
            ∙ ap (λ (m : ℕ). sets (sets part 0 (flat rs)) (0 + length (flat rs)) (zeros m)) z
            ∙ sym (sets_append part 0 (flat rs) (zeros (length part - length (flat rs)))) ∙ sets_all part (flat rs ++ zeros (length part - length (flat rs))) size

-- an accepted Update can be stored, and its rows are those stored
module _ (room net : ℕ) (message : List ℕ) (rs : List Row) (e : update_of room net message ≡ accepted rs) where
  pub storable_rows : walked_rows (walked_blocks net message) ≡ rs
  unfolding walked_rows
  storable_rows = ap walked_rows (accepted_is room net message rs e).is

  pub storable : (part : List ℕ) → 3 * room ≤ length part → Storable net message part
  unfolding is_whole
  storable part h =
      let a = accepted_is room net message rs e in
      record { sound = ap is_whole a.is; room = omega (arith, a.fits, ap length storable_rows, h) }
