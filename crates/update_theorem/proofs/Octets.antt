-- Nets and hosts as octets, there and back. Assumes nothing.
use Prim.Native.Nat.{ℕ, zero, suc, ◌+◌, ◌-◌, ◌*◌, ◌/◌, ◌%◌, ◌≤◌, ◌<◌}
use mathlib.Core.Bool.{Bool, true, false, cond, not}
use mathlib.Core.Path.{◌≡◌, refl, sym, ap, ap₂, subst₂, ◌∙◌}
use mathlib.Core.List.{List, [], ◌∷◌, ◌++◌}
use native.Mathlib.Nat.{div-div-eq-div-mul, div-add-mod'}
use native.Mathlib.Omega.{arith}
use borrow.Author.Tests.{ltb-true, ltb-false, eqb-true, eqb-false, eq-eqb, ne_eqb, le-ltb}
use lib.Dec.{ltb, eqb}
use lib.ListN.{length, take, drop, get_or, length-append, take-append-drop}
use lib.Seq.{take_at, drop_at}
use Rattle.checks.proofs.Laws.{and_left, and_right, cond_elim}
use Rattle.checks.specs.Lists.{every}
use Rattle.nets.specs.Classes.{net_width, first_octet, width_of, host_span, good_net, on_net}
use Rattle.nets.specs.Rows.{Row}
use Rattle.update_walk.specs.Body.{Got, got, stop, extended, big_endian, left_justified, row_of_width, net_row, host_width, gateway_of}
use Rattle.update_walk.proofs.Good.{net_of_lem, good_of}
use Rattle.update_writing.specs.Blocks.{address_octets, net_octets, host_octets}
use Rattle.update_writing.proofs.Claims.{width_most, width_least, net_octets_lem, host_octets_lem}
use Rattle.update_theorem.specs.Trip.{octets_only}
use Rattle.update_theorem.proofs.Readings.{octets_right, Reads, Ones, One, never}

-- a class A, B or C net begins below 224
pub first_below : (first : ℕ) → 0 < net_width first → first < 224
unfolding net_width
first_below first h = go (ltb first 128) (ltb first 192) (ltb first 224) (ltb-true first 128) (ltb-true first 192) (ltb-true first 224) h
  where
    go : (a b c : Bool) → (a ≡ true → first < 128) → (b ≡ true → first < 192) → (c ≡ true → first < 224) → 0 < cond a 1 (cond b 2 (cond c 3 0)) → first < 224
    go true b c p q r h = omega (arith, p refl)
    go false true c p q r h = omega (arith, q refl)
    go false false true p q r h = r refl
    go false false false p q r h = absurd (omega arith)

-- what a good net is
pub record Good (net : ℕ) : Type 0 where
  pub class : 0 < width_of net
  pub most : width_of net ≤ 3
  pub first : net / 16777216 < 224
  pub justified : net % host_span (width_of net) ≡ 0

pub good_is : (net : ℕ) → good_net net ≡ true → Good net
good_is net g =
    let w = width_least net g in
    record {
      class = w;
      most = width_most (first_octet net);
      first = first_below (first_octet net) w;
      justified = (net_of_lem net g).justified;
    }

pub is_good_lem : (net : ℕ) → 0 < width_of net → net % host_span (width_of net) ≡ 0 → good_net net ≡ true
is_good_lem net w e = good_of net (record { classed = λ z. absurd (omega arith); justified = e })

summed : (n x y z first second third : ℕ) → x ≡ first → second ≡ first * 256 + y → third ≡ second * 256 + z → n ≡ third * 256 → (((0 * 256 + x) * 256 + y) * 256 + z) * 256 ≡ n
summed n x y z first second third p q r s = omega arith

-- the leading octets of a left-justified net are its value
leading : (width n : ℕ) → 0 < width → width ≤ 3 → n / 16777216 < 224 → n % host_span width ≡ 0 → big_endian (take width (address_octets n)) * host_span width ≡ n
unfolding extended address_octets host_span
leading zero n a b f j = absurd (omega arith)
leading (suc zero) n a b f j = omega arith
leading (suc (suc zero)) n a b f j = omega arith
leading (suc (suc (suc zero))) n a b f j =
    let p : n / 16777216 % 256 ≡ n / 16777216 = omega arith in
    let q : n / 65536 ≡ n / 16777216 * 256 + n / 65536 % 256 = rw (← (div-div-eq-div-mul n 65536 256)) (sym (div-add-mod' (n / 65536) 256)) in
    let r : n / 256 ≡ n / 65536 * 256 + n / 256 % 256 = rw (← (div-div-eq-div-mul n 256 256)) (sym (div-add-mod' (n / 256) 256)) in
    let s : n ≡ n / 256 * 256 = omega arith in
    summed n (n / 16777216 % 256) (n / 65536 % 256) (n / 256 % 256) (n / 16777216) (n / 65536) (n / 256) p q r s
leading (suc (suc (suc (suc k)))) n a b f j = absurd (omega arith)

-- the trailing octets of a gateway on a net are what it has beyond the net
trailing : (width net gateway : ℕ) → 0 < width → width ≤ 3 → net % host_span width ≡ 0 → gateway / host_span width ≡ net / host_span width
    → net + big_endian (drop width (address_octets gateway)) ≡ gateway
unfolding extended address_octets host_span
trailing zero net gateway a b j o = absurd (omega arith)
trailing (suc zero) net gateway a b j o = omega arith
trailing (suc (suc zero)) net gateway a b j o = omega arith
trailing (suc (suc (suc zero))) net gateway a b j o = omega arith
trailing (suc (suc (suc (suc k)))) net gateway a b j o = absurd (omega arith)

-- octets of a list
pub octet_at : (octet : ℕ) (rest : List ℕ) → octets_only (octet ∷ rest) ≡ true → (octet < 256) × (octets_only rest ≡ true)
unfolding octets_only every
octet_at octet rest e = (ltb-true octet 256 (and_left (ltb octet 256) (every (λ o. ltb o 256) rest) e), and_right (ltb octet 256) (every (λ o. ltb o 256) rest) e)

pub octets_drop : (k : ℕ) (t : List ℕ) → octets_only t ≡ true → octets_only (drop k t) ≡ true
octets_drop k t o = octets_right (take k t) (drop k t) (ap octets_only (take-append-drop k t) ∙ o)

-- width octets read as a net have its class, and are its leading octets
record Leading (width : ℕ) (t : List ℕ) (n : ℕ) : Type 0 where
  first : n / 16777216 ≡ get_or t 0 0
  octets : take width (address_octets n) ≡ take width t
  justified : n % host_span width ≡ 0

leading_back : (width : ℕ) (t : List ℕ) → 0 < width → width ≤ 3 → width ≤ length t → octets_only t ≡ true → Leading width t (big_endian (take width t) * host_span width)
unfolding extended address_octets host_span
leading_back zero t a b l o = absurd (omega arith)
leading_back (suc zero) [] a b l o = absurd (omega arith)
leading_back (suc zero) (x ∷ t) a b l o =
    let p = octet_at x t o in
    let u : (0 * 256 + x) * 16777216 / 16777216 ≡ x = omega arith in
    let v : (0 * 256 + x) * 16777216 / 16777216 % 256 ≡ x = omega arith in
    record { first = u; octets = ap (λ (k : ℕ). k ∷ []) v; justified = omega arith }
leading_back (suc (suc zero)) [] a b l o = absurd (omega arith)
leading_back (suc (suc zero)) (x ∷ []) a b l o = absurd (omega arith)
leading_back (suc (suc zero)) (x ∷ y ∷ t) a b l o =
    let p = octet_at x (y ∷ t) o in
    let q = octet_at y t p.1 in
    let n = ((0 * 256 + x) * 256 + y) * 65536 in
    let u : n / 16777216 ≡ x = omega arith in
    let v : n / 16777216 % 256 ≡ x = omega arith in
    let w : n / 65536 % 256 ≡ y = omega arith in
    record { first = u; octets = ap₂ (λ (j k : ℕ). j ∷ k ∷ []) v w; justified = omega arith }
leading_back (suc (suc (suc zero))) [] a b l o = absurd (omega arith)
leading_back (suc (suc (suc zero))) (x ∷ []) a b l o = absurd (omega arith)
leading_back (suc (suc (suc zero))) (x ∷ y ∷ []) a b l o = absurd (omega arith)
leading_back (suc (suc (suc zero))) (x ∷ y ∷ z ∷ t) a b l o =
    let p = octet_at x (y ∷ z ∷ t) o in
    let q = octet_at y (z ∷ t) p.1 in
    let r = octet_at z t q.1 in
    let n = (((0 * 256 + x) * 256 + y) * 256 + z) * 256 in
    let u : n / 16777216 ≡ x = omega arith in
    let v : n / 16777216 % 256 ≡ x = omega arith in
    let w : n / 65536 % 256 ≡ y = omega arith in
    let k : n / 256 % 256 ≡ z = omega arith in
    record { first = u; octets = ap₂ (λ (i : ℕ) (l : List ℕ). i ∷ l) v (ap₂ (λ (i j : ℕ). i ∷ j ∷ []) w k); justified = omega arith }
leading_back (suc (suc (suc (suc k)))) t a b l o = absurd (omega arith)

-- 4 - width octets read as a host give a gateway on the net, and are its trailing octets
record Trailing (width net : ℕ) (t : List ℕ) (gateway : ℕ) : Type 0 where
  on : gateway / host_span width ≡ net / host_span width
  octets : drop width (address_octets gateway) ≡ take (4 - width) t

trailing_back : (width net : ℕ) (t : List ℕ) → 0 < width → width ≤ 3 → 4 - width ≤ length t → octets_only t ≡ true → net % host_span width ≡ 0
    → Trailing width net t (net + big_endian (take (4 - width) t))
unfolding extended address_octets host_span
trailing_back zero net t a b l o j = absurd (omega arith)
trailing_back (suc zero) net [] a b l o j = absurd (omega arith)
trailing_back (suc zero) net (x ∷ []) a b l o j = absurd (omega arith)
trailing_back (suc zero) net (x ∷ y ∷ []) a b l o j = absurd (omega arith)
trailing_back (suc zero) net (x ∷ y ∷ z ∷ t) a b l o j =
    let p = octet_at x (y ∷ z ∷ t) o in
    let q = octet_at y (z ∷ t) p.1 in
    let r = octet_at z t q.1 in
    let g = net + (((0 * 256 + x) * 256 + y) * 256 + z) in
    let u : g / 65536 % 256 ≡ x = omega arith in
    let v : g / 256 % 256 ≡ y = omega arith in
    let w : g % 256 ≡ z = omega arith in
    record { on = omega arith; octets = ap₂ (λ (i : ℕ) (l : List ℕ). i ∷ l) u (ap₂ (λ (i j : ℕ). i ∷ j ∷ []) v w) }
trailing_back (suc (suc zero)) net [] a b l o j = absurd (omega arith)
trailing_back (suc (suc zero)) net (x ∷ []) a b l o j = absurd (omega arith)
trailing_back (suc (suc zero)) net (x ∷ y ∷ t) a b l o j =
    let p = octet_at x (y ∷ t) o in
    let q = octet_at y t p.1 in
    let g = net + ((0 * 256 + x) * 256 + y) in
    let u : g / 256 % 256 ≡ x = omega arith in
    let v : g % 256 ≡ y = omega arith in
    record { on = omega arith; octets = ap₂ (λ (i j : ℕ). i ∷ j ∷ []) u v }
trailing_back (suc (suc (suc zero))) net [] a b l o j = absurd (omega arith)
trailing_back (suc (suc (suc zero))) net (x ∷ t) a b l o j =
    let p = octet_at x t o in
    let g = net + (0 * 256 + x) in
    let u : g % 256 ≡ x = omega arith in
    record { on = omega arith; octets = ap (λ (i : ℕ). i ∷ []) u }
trailing_back (suc (suc (suc (suc k)))) net t a b l o j = absurd (omega arith)

-- one net, written and read
front : (width a b c d : ℕ) (q : List ℕ) → 0 < width → get_or (take width (a ∷ b ∷ c ∷ d ∷ []) ++ q) 0 0 ≡ a
front zero a b c d q h = absurd (omega arith)
front (suc k) a b c d q h = refl

net_first : (net : ℕ) (q : List ℕ) → Good net → get_or (net_octets net ++ q) 0 0 ≡ net / 16777216
unfolding net_octets address_octets
net_first net q g = front (width_of net) _ _ _ _ q g.class ∙ omega (arith, g.first)

net_value : (net : ℕ) → Good net → big_endian (net_octets net) * host_span (width_of net) ≡ net
unfolding net_octets
net_value net g = leading (width_of net) net g.class g.most g.first g.justified

pub net_reads : (gateway third net : ℕ) → good_net net ≡ true → Reads (net_row gateway third) (net_octets net) (record { net = net; gateway = gateway; third = third } ∷ [])
unfolding net_row row_of_width left_justified
net_reads gateway third net e q =
    let g = good_is net e in
    let n = net_octets_lem net in
    let l = length-append (net_octets net) q in
    rw (
      ne_eqb (length (net_octets net ++ q)) 0 (λ z. absurd (omega (arith, g.class))),
      net_first net q g,
      ne_eqb (width_of net) 0 (λ z. absurd (omega (arith, g.class))),
      le-ltb (length (net_octets net ++ q)) (width_of net) (omega arith),
      take_at (net_octets net) q (width_of net) n,
      drop_at (net_octets net) q (width_of net) n,
      net_value net g,
    )

-- what is known of a row that was read
pub record RowFact (gateway third : ℕ) (row : Row) : Type 0 where
  pub good : good_net row.net ≡ true
  pub via : row.gateway ≡ gateway
  pub far : row.third ≡ third

net_item : (gateway third : ℕ) (t : List ℕ) → octets_only t ≡ true → 0 < net_width (get_or t 0 0) → net_width (get_or t 0 0) ≤ length t
    → One (λ (row : Row). net_octets row.net) (RowFact gateway third) t
    (record { net = left_justified (net_width (get_or t 0 0)) t; gateway = gateway; third = third } ∷ []) (drop (net_width (get_or t 0 0)) t)
unfolding left_justified net_octets
net_item gateway third t o pos fits =
    let width = net_width (get_or t 0 0) in
    let d = leading_back width t pos (width_most (get_or t 0 0)) fits o in
    let w : width_of (big_endian (take width t) * host_span width) ≡ width = ap net_width d.first in
    record {
      item = record { net = big_endian (take width t) * host_span width; gateway = gateway; third = third };
      only = refl;
      octets = rw (w, d.octets) (sym (take-append-drop width t));
      fact = record { good = is_good_lem (big_endian (take width t) * host_span width) (rw w pos) (rw w d.justified); via = refl; far = refl };
    }

pub net_unreads : (gateway third : ℕ) → Ones (net_row gateway third) (λ row. net_octets row.net) (RowFact gateway third)
unfolding net_row row_of_width
net_unreads gateway third t o xs rest e =
    cond_elim Goal (eqb (length t) 0) (stop 0) _ (λ z k. never k)
    (λ z. cond_elim Goal (eqb width 0) (stop (length t)) _ (λ y k. never k)
    (λ y. cond_elim Goal (ltb (length t) width) (stop 0) _ (λ x k. never k)
    (λ x k.
    let p : (record { net = left_justified width t; gateway = gateway; third = third } ∷ []) ≡ xs = cc in
    let q : drop width t ≡ rest = cc in
    subst₂ (λ (l : List Row) (r : List ℕ). One (λ (row : Row). net_octets row.net) (RowFact gateway third) t l r) p q
    (net_item gateway third t o (positive width y) (ltb-false (length t) width x)))))
    e
  where
    width : ℕ
    width = net_width (get_or t 0 0)

    Goal : Got (List Row) → Type 0
    Goal x = x ≡ got xs rest → One (λ (row : Row). net_octets row.net) (RowFact gateway third) t xs rest

    positive : (n : ℕ) → eqb n 0 ≡ false → 0 < n
    positive n z = omega (arith, eqb-false n 0 z)

-- one host, written and read
on_is : (net gateway : ℕ) → on_net net gateway ≡ true → gateway / host_span (width_of net) ≡ net / host_span (width_of net)
unfolding on_net
on_is net gateway o =
    eqb-true (gateway / host_span (width_of net)) (net / host_span (width_of net))
    (and_right (not (eqb (width_of net) 0)) (eqb (gateway / host_span (width_of net)) (net / host_span (width_of net))) o)

is_on : (net gateway : ℕ) → 0 < width_of net → gateway / host_span (width_of net) ≡ net / host_span (width_of net) → on_net net gateway ≡ true
unfolding on_net
is_on net gateway w e = rw (ne_eqb (width_of net) 0 (λ z. absurd (omega arith)), eq-eqb _ _ e)

pub host_length : (net gateway : ℕ) → length (host_octets net gateway) ≡ host_width net
unfolding host_width
host_length net gateway = host_octets_lem net gateway

pub host_reads : (net gateway : ℕ) → good_net net ≡ true → on_net net gateway ≡ true → (q : List ℕ) → gateway_of net (host_octets net gateway ++ q) ≡ gateway
unfolding gateway_of host_width host_octets
host_reads net gateway e o q =
    let g = good_is net e in
    rw (take_at (drop (width_of net) (address_octets gateway)) q (4 - width_of net) (host_length net gateway))
    (trailing (width_of net) net gateway g.class g.most g.justified (on_is net gateway o))

pub host_unreads : (net : ℕ) → good_net net ≡ true → (t : List ℕ) → octets_only t ≡ true → host_width net ≤ length t
    → (on_net net (gateway_of net t) ≡ true) × (host_octets net (gateway_of net t) ≡ take (host_width net) t)
unfolding gateway_of host_width host_octets
host_unreads net e t o l =
    let g = good_is net e in
    let d = trailing_back (width_of net) net t g.class g.most l o g.justified in
    (is_on net _ g.class d.on, d.octets)
