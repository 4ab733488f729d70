-- Every row that is read from octets is good: a left-justified net, a gateway on the common net, a third number of at most 511. Assumes nothing.
use Prim.Native.Nat.{ℕ, zero, suc, zero-le, ◌+◌, ◌*◌, ◌-◌, ◌/◌, ◌%◌, ◌^◌, ◌≤◌, ◌<◌}
use native.Mathlib.Nat.{le_refl, add-mul, add-zero, mul-lt-mul_of_pos_right, mul-le-mul_right, div-add-mod', div-lt_iff_lt-mul, mul-add-div_right, mul-div-mul_right, one-le-pow, mul-mod_left, div-eq_of_lt}
use native.Mathlib.Omega.{arith}
use lib.Pow.{pow-add}
use borrow.Author.Tests.{ltb-false, leb-false, eqb-true, eqb-false, eq-eqb, ne_eqb, not-true}
use mathlib.Core.Path.{◌≡◌, refl, sym, ap, subst, ◌∙◌}
use mathlib.Core.Bool.{true, not}
use mathlib.Core.List.{List, [], ◌∷◌, ◌++◌}
use lib.Dec.{ltb, leb, eqb}
use lib.ListN.{length, take, drop, get_or}
use lib.Seq.{length-take-le}
use Rattle.checks.proofs.Laws.{cond_elim, and_left, and_right}
use Rattle.nets.specs.Classes.{net_width, first_octet, width_of, host_span, good_net, on_net}
use Rattle.nets.specs.Rows.{Row}
use Rattle.nets.proofs.Laws.{span_positive}
use Rattle.update_walk.specs.Body.{extended, big_endian, Got, got, stop, and_then, after, many, left_justified, row_of_width, net_row, group_rows, host_width, gateway_of, block_rows, both_sides}
use Rattle.update_walk.proofs.Flat.{group_rows_lem, block_rows_lem, both_sides_lem}
use Rattle.update_walk.proofs.Laws.{width_small, nonzero}
use Rattle.update_walk.proofs.Digits.{Octets, octets_drop, octets_take, digits_split, big_below}

-- net part and host part make up the four octets
pub four_octets : (w : ℕ) → w ≤ 4 → 256 ^ w * host_span w ≡ 4294967296
unfolding host_span
four_octets w h =
    let e : w + (4 - w) ≡ 4 = omega arith in
    sym (pow-add 256 w (4 - w)) ∙ ap (λ (k : ℕ). 256 ^ k) e

pub justified_fits : (n w : ℕ) → n < 256 ^ w → w ≤ 4 → n * host_span w < 4294967296
justified_fits n w h k = subst (λ (m : ℕ). n * host_span w < m) (four_octets w k) (mul-lt-mul_of_pos_right h (span_positive w))

pub host_span_lem : (net : ℕ) → 256 ^ host_width net ≡ host_span (width_of net)
unfolding host_width host_span
host_span_lem net = refl

-- a good net: of a class, and a multiple of its span
pub record Net (net : ℕ) : Type 0 where
  pub classed : width_of net ≡ 0 → ⊥
  pub justified : net % host_span (width_of net) ≡ 0

pub net_of_lem : (net : ℕ) → good_net net ≡ true → Net net
unfolding good_net
net_of_lem net h =
    let c = not (eqb (width_of net) 0) in
    let j = eqb (net % host_span (width_of net)) 0 in
    record {
      classed = eqb-false (width_of net) 0 (not-true (eqb (width_of net) 0) (and_left c j h));
      justified = eqb-true (net % host_span (width_of net)) 0 (and_right c j h);
    }

pub good_of : (net : ℕ) → Net net → good_net net ≡ true
unfolding good_net
good_of net n = rw (ne_eqb (width_of net) 0 n.classed, n.justified)

module _ (net : ℕ) (n : Net net) where
  multiple : net / host_span (width_of net) * host_span (width_of net) ≡ net
  multiple = omega (arith, div-add-mod' net (host_span (width_of net)), n.justified)

  module _ (host : ℕ) (b : host < 256 ^ host_width net) where
    below : host < host_span (width_of net)
    below = subst (λ (m : ℕ). host < m) (host_span_lem net) b

    pub gateway_fits : net < 4294967296 → net + host < 4294967296
    gateway_fits f =
        let w = width_of net in
        let span = host_span (width_of net) in
        let four : 256 ^ width_of net * host_span (width_of net) ≡ 4294967296 = four_octets w (omega (arith, width_small (first_octet net))) in
        let q : net / host_span (width_of net) < 256 ^ width_of net =
        (div-lt_iff_lt-mul {k = span} {x = net} {y = 256 ^ w} (span_positive w)).1 (subst (λ (m : ℕ). net < m) (sym four) f) in
        let l : (net / host_span (width_of net) + 1) * host_span (width_of net) ≤ 256 ^ width_of net * host_span (width_of net) =
        mul-le-mul_right {m = net / span + 1} {n = 256 ^ w} span (omega arith) in
        omega (arith, multiple, below, four, l, add-mul (net / span) 1 span)

    pub gateway_on : on_net net (net + host) ≡ true
    unfolding on_net
    gateway_on =
        let span = host_span (width_of net) in
        let e : (net + host) / host_span (width_of net) ≡ net / host_span (width_of net) =
        ap (λ (m : ℕ). (m + host) / span) (sym multiple) ∙ mul-add-div_right (span_positive (width_of net)) (net / span) host
        ∙ ap (λ (m : ℕ). net / span + m) (div-eq_of_lt below) ∙ add-zero (net / span) in
        rw (ne_eqb (width_of net) 0 n.classed, eq-eqb ((net + host) / span) (net / span) e)

-- the first octet of a number whose octets start with it
pub first_of : (a : ℕ) (l : List ℕ) → Octets l → length l ≤ 3 → first_octet (extended a l * host_span (suc (length l))) ≡ a
unfolding host_span
first_of a l o h =
    let n = length l in
    let span = 256 ^ (4 - suc (length l)) in
    let k : length l + (4 - suc (length l)) ≡ 3 = omega arith in
    let e : 16777216 ≡ 256 ^ length l * 256 ^ (4 - suc (length l)) = ap (λ (m : ℕ). 256 ^ m) (sym k) ∙ pow-add 256 n (4 - suc n) in
    let p : 0 < 256 ^ length l = one-le-pow n 256 (omega arith) in
    let q : 0 < 256 ^ (4 - suc (length l)) = one-le-pow (4 - suc n) 256 (omega arith) in
    ap (λ (m : ℕ). extended a l * span / m) e ∙ mul-div-mul_right (extended a l) (256 ^ n) q ∙ ap (λ (m : ℕ). m / 256 ^ n) (digits_split a l)
    ∙ mul-add-div_right p a (big_endian l) ∙ ap (λ (m : ℕ). a + m) (div-eq_of_lt (big_below l o)) ∙ add-zero a

pub justified_good : (t : List ℕ) (w : ℕ) → Octets t → net_width (get_or t 0 0) ≡ w → 0 < w → w ≤ length t → Net (left_justified w t)
unfolding left_justified extended
justified_good [] w o e p f = absurd (omega arith)
justified_good (a ∷ t) zero o e p f = absurd (omega arith)
justified_good (a ∷ t) (suc v) o e p f =
    let l = take v t in
    let n : length (take v t) ≡ v = length-take-le v t (omega arith) in
    let z : 0 * 256 + a ≡ a = omega arith in
    let q : first_octet (extended (0 * 256 + a) (take v t) * host_span (suc v)) ≡ a =
    ap (λ (k : ℕ). first_octet (extended (0 * 256 + a) l * host_span (suc k))) (sym n)
    ∙ first_of (0 * 256 + a) l (octets_take t v (λ i. o (suc i))) (omega (arith, n, width_small a)) ∙ z in
    let x : width_of (extended (0 * 256 + a) (take v t) * host_span (suc v)) ≡ suc v = ap net_width q ∙ e in
    record { classed = λ y. omega (arith, x, y); justified = rw x (mul-mod_left (extended (0 * 256 + a) l) (host_span (suc v))) }

pub justified_below : (t : List ℕ) (w : ℕ) → Octets t → w ≤ length t → w ≤ 3 → left_justified w t < 4294967296
unfolding left_justified
justified_below t w o f h =
    let n : length (take w t) ≡ w = length-take-le w t f in
    justified_fits (big_endian (take w t)) w (subst (λ (k : ℕ). big_endian (take w t) < 256 ^ k) n (big_below (take w t) (octets_take t w o))) (omega arith)

-- a row that reading gives, on a common net
pub record GoodRow (net : ℕ) (r : Row) : Type 0 where
  pub left : good_net r.net ≡ true
  pub on : on_net net r.gateway ≡ true
  pub marked : r.third ≤ 511
  pub net_fits : r.net < 4294967296
  pub gateway_fits : r.gateway < 4294967296

abbrev pub All : (Row → Type 0) → List Row → Type 0
All P [] = Unit {0}
All P (r ∷ rs) = P r × All P rs

pub all_append : (P : Row → Type 0) (xs ys : List Row) → All P xs → All P ys → All P (xs ++ ys)
all_append P [] ys a b = b
all_append P (x ∷ xs) ys a b = (a.0, all_append P xs ys a.1 b)

-- from octets: rows of which P holds, and octets after them
abbrev Gives : (Row → Type 0) → Got (List Row) → Type 0
Gives P (got rs rest) = All P rs × Octets rest
Gives P (stop left) = Unit {0}

in_turn_gives : (P : Row → Type 0) (y : Got (List Row)) (g : List ℕ → Got (List Row)) → Gives P y → ((t : List ℕ) → Octets t → Gives P (g t))
    → Gives P (and_then y (λ xs rest. after xs (g rest)))
in_turn_gives P (got xs rest) g a m = go (g rest) (m rest a.1)
  where
    go : (z : Got (List Row)) → Gives P z → Gives P (after xs z)
    go (got ys r) b = (all_append P xs ys a.0 b.0, b.1)
    go (stop left) b = tt
in_turn_gives P (stop left) g a m = tt

many_gives : (P : Row → Type 0) (f : List ℕ → Got (List Row)) → ((t : List ℕ) → Octets t → Gives P (f t)) → (n : ℕ) (t : List ℕ) → Octets t → Gives P (many f n t)
unfolding many
many_gives P f s zero t o = (tt, o)
many_gives P f s (suc n) t o = in_turn_gives P (f t) (many f n) (s t o) (many_gives P f s n)

module _ (net : ℕ) where
  net_gives : (gateway third : ℕ) → on_net net gateway ≡ true → gateway < 4294967296 → third ≤ 511 → (t : List ℕ) → Octets t → Gives (GoodRow net) (net_row gateway third t)
  unfolding net_row row_of_width
  net_gives gateway third on b m t o =
      let w = net_width (get_or t 0 0) in
      cond_elim (Gives (GoodRow net)) (eqb (length t) 0) _ _ (λ a. tt)
      (λ a. cond_elim (Gives (GoodRow net)) (eqb w 0) _ _ (λ d. tt)
      (λ d. cond_elim (Gives (GoodRow net)) (ltb (length t) w) _ _ (λ k. tt)
      (λ k. ((row (nonzero w (eqb-false w 0 d)) (ltb-false (length t) w k), tt), octets_drop t w o))))
    where
      row : 0 < net_width (get_or t 0 0) → net_width (get_or t 0 0) ≤ length t
          → GoodRow net (record { net = left_justified (net_width (get_or t 0 0)) t; gateway = gateway; third = third })
      row p f =
          record {
            left = good_of _ (justified_good t (net_width (get_or t 0 0)) o refl p f);
            on = on;
            marked = m;
            net_fits = justified_below t (net_width (get_or t 0 0)) o f (width_small (get_or t 0 0));
            gateway_fits = b;
          }

  module _ (side : ℕ) (s : side ≤ 256) where
    group_gives : (gateway : ℕ) → on_net net gateway ≡ true → gateway < 4294967296 → (t : List ℕ) → Octets t → Gives (GoodRow net) (group_rows side gateway t)
    group_gives gateway on b t o =
        rw (group_rows_lem side gateway t) (cond_elim (Gives (GoodRow net)) (ltb (length t) 2) _ _ (λ a. tt)
        (λ a. many_gives (GoodRow net) (net_row gateway (side + get_or t 0 0)) (net_gives gateway (side + get_or t 0 0) on b (omega (arith, s, o 0))) (get_or t 1 0) (drop 2 t) (octets_drop t 2 o)))

    module _ (n : Net net) (f : net < 4294967296) where
      host_below : (t : List ℕ) → Octets t → host_width net < length t → big_endian (take (host_width net) t) < 256 ^ host_width net
      host_below t o h =
          subst (λ (k : ℕ). big_endian (take (host_width net) t) < 256 ^ k) (length-take-le (host_width net) t (omega arith)) (big_below (take (host_width net) t) (octets_take t (host_width net) o))

      block_gives : (t : List ℕ) → Octets t → Gives (GoodRow net) (block_rows side net t)
      unfolding gateway_of
      block_gives t o =
          let w = host_width net in
          let host = big_endian (take (host_width net) t) in
          rw (block_rows_lem side net t) (cond_elim (Gives (GoodRow net)) (leb (length t) w) _ _ (λ a. tt)
          (λ a. many_gives (GoodRow net) (group_rows side (net + host))
          (group_gives (net + host) (gateway_on net n host (host_below t o (leb-false (length t) w a))) (gateway_fits net n host (host_below t o (leb-false (length t) w a)) f))
          (get_or t w 0) (drop (w + 1) t) (octets_drop t (w + 1) o)))

  sides_gives : Net net → net < 4294967296 → (internal external : ℕ) (t : List ℕ) → Octets t → Gives (GoodRow net) (both_sides net internal external t)
  sides_gives n f internal external t o =
      rw (both_sides_lem net internal external t) (in_turn_gives (GoodRow net) (many (block_rows 0 net) internal t) (many (block_rows 256 net) external)
      (many_gives (GoodRow net) (block_rows 0 net) (block_gives 0 zero-le n f) internal t o)
      (many_gives (GoodRow net) (block_rows 256 net) (block_gives 256 (le_refl 256) n f) external))

  pub sides_good : good_net net ≡ true → net < 4294967296 → (internal external : ℕ) (t : List ℕ) → Octets t → (rs : List Row) (rest : List ℕ)
      → both_sides net internal external t ≡ got rs rest → All (GoodRow net) rs
  sides_good g f internal external t o rs rest e = (rw e at (sides_gives (net_of_lem net g) f internal external t o)).0
