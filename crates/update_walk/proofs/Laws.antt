-- Laws of reading: what is read stands at the front, and is read again from that part alone. Assumes nothing.
use Prim.Native.Nat.{ℕ, zero, suc, zero-le, ◌+◌, ◌-◌, ◌*◌, ◌≤◌, ◌<◌}
use native.Mathlib.Nat.{le_refl}
use native.Mathlib.Numerals.{add-one}
use native.Mathlib.Omega.{arith}
use borrow.Author.Tests.{ltb-false, leb-false, eqb-false, lt-ltb, le-ltb, lt-leb, ne_eqb}
use mathlib.Core.Path.{◌≡◌, refl, sym, ap, subst, ◌∙◌}
use mathlib.Core.Bool.{true, false}
use mathlib.Core.List.{List, [], ◌∷◌, ◌++◌, append_assoc}
use lib.Dec.{ltb, leb, eqb}
use lib.ListN.{length, take, drop, get_or, length-append, length-drop, take-append-drop}
use lib.Seq.{take_at, drop_at, drop-cons, take-append_seam, get_or-append_seam, drop-append-add, length-take-le, get_or-take}
use Rattle.checks.proofs.Laws.{cond_elim}
use Rattle.nets.specs.Classes.{net_width, host_span}
use Rattle.nets.specs.Rows.{Row}
use Rattle.update_walk.specs.Body.{big_endian, Got, got, stop, and_then, after, many, left_justified, row_of_width, net_row, group_rows, host_width, gateway_of, block_rows, both_sides}
use Rattle.update_walk.proofs.Flat.{group_rows_lem, block_rows_lem, both_sides_lem}

pub never : {A : Type 0} → false ≡ true → A
never e = let z : ◌≡◌ {A = ℕ} 0 1 = cc in absurd (omega arith)

pub one_less : (k : ℕ) → 0 < k → k ≡ suc (k - 1)
one_less k h =
    let e : k ≡ k - 1 + 1 = omega arith in
    e ∙ add-one (k - 1)

-- f reads xs from the octets p, whatever follows them
abbrev pub Reads : {X : Type 0} → (List ℕ → Got (List X)) → List ℕ → List X → Type 0
Reads f p xs = (q : List ℕ) → f (p ++ q) ≡ got xs q

module _ {X : Type 0} where
  -- what was read from the front of t: as many octets as items at least, and read again from that part alone
  pub record Front (f : List ℕ → Got (List X)) (t : List ℕ) (xs : List X) (rest : List ℕ) : Type 0 where
    pub part : List ℕ
    pub split : t ≡ part ++ rest
    pub few : length xs ≤ length part
    pub again : (q : List ℕ) → f (part ++ q) ≡ got xs q

  abbrev pub Sound : (List ℕ → Got (List X)) → List ℕ → Got (List X) → Type 0
  Sound f t (got xs rest) = Front f t xs rest
  Sound f t (stop left) = left ≤ length t

  abbrev pub Sounds : (List ℕ → Got (List X)) → Type 0
  Sounds f = (t : List ℕ) → Sound f t (f t)

  pub front_fits : {f : List ℕ → Got (List X)} {t : List ℕ} {xs : List X} {rest : List ℕ} → Front f t xs rest → length xs + length rest ≤ length t
  front_fits {f} {t} {xs} {rest} s = omega (arith, s.few, ap length s.split, length-append s.part rest)

  pub front_rest : {f : List ℕ → Got (List X)} {t : List ℕ} {xs : List X} {rest : List ℕ} → Front f t xs rest → drop (length t - length rest) t ≡ rest
  front_rest {f} {t} {xs} {rest} s =
      let n : length s.part ≡ length t - length rest = omega (arith, ap length s.split, length-append s.part rest) in
      ap (drop (length t - length rest)) s.split ∙ drop_at s.part rest _ n

  pub front_part : {f : List ℕ → Got (List X)} {t : List ℕ} {xs : List X} {rest : List ℕ} (s : Front f t xs rest)
      → take (length t - length rest) t ≡ s.part
  front_part {f} {t} {xs} {rest} s =
      let n : length s.part ≡ length t - length rest = omega (arith, ap length s.split, length-append s.part rest) in
      ap (take (length t - length rest)) s.split ∙ take_at s.part rest _ n

  pub many_next : (f : List ℕ → Got (List X)) (k : ℕ) (u : List ℕ) (xs : List X) (rest : List ℕ)
      → 0 < k → f u ≡ got xs rest → many f k u ≡ after xs (many f (k - 1) rest)
  unfolding many
  many_next f k u xs rest h e = ap (λ (n : ℕ). many f n u) (one_less k h) ∙ rw e

  pub many_stop : (f : List ℕ → Got (List X)) (k : ℕ) (u : List ℕ) (left : ℕ) → 0 < k → f u ≡ stop left → many f k u ≡ stop left
  unfolding many
  many_stop f k u left h e = ap (λ (n : ℕ). many f n u) (one_less k h) ∙ rw e

  pub many_none : (f : List ℕ → Got (List X)) (k : ℕ) (u : List ℕ) → k ≤ 0 → many f k u ≡ got [] u
  unfolding many
  many_none f k u h =
      let e : k ≡ 0 = omega arith in
      rw e

  -- one reading after another
  pub in_turn_sound : (f g : List ℕ → Got (List X)) → Sounds f → Sounds g → Sounds (λ t. and_then (f t) (λ xs rest. after xs (g rest)))
  in_turn_sound f g s m t = go (f t) (s t)
    where
      join : (xs : List X) (r : List ℕ) → Front f t xs r → (y : Got (List X)) → Sound g r y → Sound (λ u. and_then (f u) (λ xs rest. after xs (g rest))) t (after xs y)
      join xs r a (got ys r') b =
          record {
            part = a.part ++ b.part;
            split = a.split ∙ ap (λ (l : List ℕ). a.part ++ l) b.split ∙ sym (append_assoc a.part b.part r');
            few = simp length-append (omega (arith, a.few, b.few));
            again = λ q. rw (append_assoc a.part b.part q, a.again (b.part ++ q), b.again q);
          }
      join xs r a (stop left) b = omega (arith, b, front_fits a)

      go : (y : Got (List X)) → Sound f t y → Sound (λ u. and_then (f u) (λ xs rest. after xs (g rest))) t (and_then y (λ xs rest. after xs (g rest)))
      go (got xs r) a = join xs r a (g r) (m r)
      go (stop left) a = a

  pub many_sound : (f : List ℕ → Got (List X)) → Sounds f → (n : ℕ) → Sounds (many f n)
  unfolding many
  many_sound f s zero t = record { part = []; split = refl; few = zero-le; again = λ q. refl }
  many_sound f s (suc n) t = in_turn_sound f (many f n) s (many_sound f s n) t

  pub many_reads_none : (f : List ℕ → Got (List X)) → Reads (many f 0) [] []
  unfolding many
  many_reads_none f q = refl

  pub many_reads_more : (f : List ℕ → Got (List X)) (p : List ℕ) (xs : List X) (n : ℕ) (ps : List ℕ) (ys : List X)
      → Reads f p xs → Reads (many f n) ps ys → Reads (many f (suc n)) (p ++ ps) (xs ++ ys)
  unfolding many
  many_reads_more f p xs n ps ys a b q = rw (append_assoc p ps q, a (ps ++ q), b q)

-- round trip: items written one after the other are read back one after the other
module _ {A : Type 0} where
  abbrev pub each : {B : Type 0} → (A → List B) → List A → List B
  each f [] = []
  each f (a ∷ rest) = f a ++ each f rest

  abbrev pub Every : (A → Type 0) → List A → Type 0
  Every P [] = Unit {0}
  Every P (a ∷ rest) = P a × Every P rest

  pub many_reads : {X : Type 0} (f : List ℕ → Got (List X)) (enc : A → List ℕ) (val : A → List X) (items : List A)
      → Every (λ a. Reads f (enc a) (val a)) items → Reads (many f (length items)) (each enc items) (each val items)
  many_reads {X} f enc val [] h = many_reads_none f
  many_reads {X} f enc val (a ∷ rest) h = many_reads_more f (enc a) (val a) (length rest) (each enc rest) (each val rest) h.0 (many_reads f enc val rest h.1)

pub width_small : (first : ℕ) → net_width first ≤ 3
unfolding net_width
width_small first =
    cond_elim (λ (w : ℕ). w ≤ 3) (ltb first 128) _ _ (λ a. omega arith)
    (λ a. cond_elim (λ (w : ℕ). w ≤ 3) (ltb first 192) _ _ (λ b. omega arith)
    (λ b. cond_elim (λ (w : ℕ). w ≤ 3) (ltb first 224) _ _ (λ d. omega arith) (λ d. omega arith)))

-- the width by the class
module _ (first : ℕ) where
  pub class_a_lem : first < 128 → 1 ≡ net_width first
  unfolding net_width
  class_a_lem h = rw (lt-ltb first 128 h)

  pub class_b : 128 ≤ first → first < 192 → 2 ≡ net_width first
  unfolding net_width
  class_b h k = rw (le-ltb first 128 h, lt-ltb first 192 k)

  pub class_c : 192 ≤ first → first < 224 → 3 ≡ net_width first
  unfolding net_width
  class_c h k = rw (le-ltb first 128 (omega arith), le-ltb first 192 h, lt-ltb first 224 k)

  pub classless : 224 ≤ first → 0 ≡ net_width first
  unfolding net_width
  classless h = rw (le-ltb first 128 (omega arith), le-ltb first 192 (omega arith), le-ltb first 224 h)

pub host_small : (net : ℕ) → host_width net ≤ 4
unfolding host_width
host_small net = omega arith

pub nonzero : (w : ℕ) → (w ≡ 0 → ⊥) → 0 < w
nonzero w h = omega arith

module _ (gateway third : ℕ) where
  pub net_reads : (p : List ℕ) → net_width (get_or p 0 0) ≡ length p
      → Reads (net_row gateway third) p (record { net = big_endian p * host_span (length p); gateway = gateway; third = third } ∷ [])
  unfolding net_row row_of_width left_justified net_width
  net_reads [] e q = absurd (omega (arith, e))
  net_reads (a ∷ p) e q =
      let n : length ((a ∷ p) ++ q) ≡ length (a ∷ p) + length q = length-append (a ∷ p) q in
      rw (
        ne_eqb (suc (length (p ++ q))) 0 (λ z. omega arith),
        e,
        ne_eqb (suc (length p)) 0 (λ z. omega arith),
        le-ltb (suc (length (p ++ q))) (suc (length p)) (omega arith),
        take_at (a ∷ p) q (suc (length p)) refl,
        drop_at (a ∷ p) q (suc (length p)) refl,
      )

  pub net_front : (t : List ℕ) (w : ℕ) → net_width (get_or t 0 0) ≡ w → 0 < w → w ≤ length t
      → Front (net_row gateway third) t (record { net = left_justified w t; gateway = gateway; third = third } ∷ []) (drop w t)
  unfolding left_justified
  net_front t w e pos fits =
      let n : length (take w t) ≡ w = length-take-le w t fits in
      record {
        part = take w t;
        split = sym (take-append-drop w t);
        few = omega (arith, n);
        again =
            λ q.
            net_reads (take w t) (ap net_width (get_or-take w t 0 0 pos) ∙ e ∙ sym n) q
            ∙ ap (λ (k : ℕ). got (record { net = big_endian (take w t) * host_span k; gateway = gateway; third = third } ∷ []) q) n;
      }

  pub net_sound : Sounds (net_row gateway third)
  unfolding net_row row_of_width
  net_sound t =
      let w = net_width (get_or t 0 0) in
      cond_elim (Sound (net_row gateway third) t) (eqb (length t) 0) _ _ (λ a. zero-le)
      (λ a. cond_elim (Sound (net_row gateway third) t) (eqb w 0) _ _ (λ b. le_refl (length t))
      (λ b. cond_elim (Sound (net_row gateway third) t) (ltb (length t) w) _ _ (λ d. zero-le)
      (λ d. net_front t w refl (nonzero w (eqb-false w 0 b)) (ltb-false (length t) w d))))

module _ (side gateway : ℕ) where
  pub group_reads : (distance count : ℕ) (p : List ℕ) (xs : List Row)
      → Reads (many (net_row gateway (side + distance)) count) p xs → Reads (group_rows side gateway) (distance ∷ count ∷ p) xs
  group_reads distance count p xs h q = rw (group_rows_lem side gateway (distance ∷ count ∷ p ++ q), le-ltb (suc (suc (length (p ++ q)))) 2 (omega arith), h q)

  pub group_sound : Sounds (group_rows side gateway)
  group_sound [] = rw (group_rows_lem side gateway []) zero-le
  group_sound (d ∷ []) = rw (group_rows_lem side gateway (d ∷ [])) zero-le
  group_sound (d ∷ n ∷ t) =
      rw (group_rows_lem side gateway (d ∷ n ∷ t), le-ltb (suc (suc (length t))) 2 (omega arith))
      (go (many (net_row gateway (side + d)) n t) (many_sound (net_row gateway (side + d)) (net_sound gateway (side + d)) n t))
    where
      go : (g : Got (List Row)) → Sound (many (net_row gateway (side + d)) n) t g → Sound (group_rows side gateway) (d ∷ n ∷ t) g
      go (got xs r) a =
          record {
            part = d ∷ n ∷ a.part;
            split = ap (λ (l : List ℕ). d ∷ n ∷ l) a.split;
            few = omega (arith, a.few);
            again = group_reads d n a.part xs a.again;
          }
      go (stop left) a = omega (arith, a)

module _ (side net : ℕ) where
  pub block_reads : (host : List ℕ) (count : ℕ) (p : List ℕ) (xs : List Row) → length host ≡ host_width net
      → Reads (many (group_rows side (net + big_endian host)) count) p xs → Reads (block_rows side net) (host ++ (count ∷ p)) xs
  unfolding gateway_of
  block_reads host count p xs n h q =
      let k : length host < length (host ++ (count ∷ (p ++ q))) = simp length-append (omega arith) in
      rw (
        block_rows_lem side net ((host ++ (count ∷ p)) ++ q),
        append_assoc host (count ∷ p) q,
        ← n,
        lt-leb (length (host ++ (count ∷ (p ++ q)))) (length host) k,
        take-append_seam host (count ∷ (p ++ q)),
        get_or-append_seam host count (p ++ q) 0,
        drop-append-add host (count ∷ (p ++ q)) 1,
      )
      (h q)

  pub block_front : (t : List ℕ) (xs : List Row) (rest : List ℕ) → host_width net < length t
      → Front (many (group_rows side (gateway_of net t)) (get_or t (host_width net) 0)) (drop (host_width net + 1) t) xs rest → Front (block_rows side net) t xs rest
  unfolding gateway_of
  block_front t xs rest h a =
      let w = host_width net in
      record {
        part = take w t ++ (get_or t w 0 ∷ a.part);
        split =
            sym (take-append-drop w t)
            ∙ ap (λ (l : List ℕ). take w t ++ l) (drop-cons t w 0 h ∙ ap (λ (k : ℕ). get_or t w 0 ∷ drop k t) (sym (add-one w)) ∙ ap (λ (l : List ℕ). get_or t w 0 ∷ l) a.split)
            ∙ sym (append_assoc (take w t) (get_or t w 0 ∷ a.part) rest);
        few = simp length-append (omega (arith, a.few));
        again = block_reads (take w t) (get_or t w 0) a.part xs (length-take-le w t (omega arith)) a.again;
      }

  pub block_sound : Sounds (block_rows side net)
  block_sound t =
      let w = host_width net in
      rw (block_rows_lem side net t) (cond_elim (Sound (block_rows side net) t) (leb (length t) w) _ _ (λ a. zero-le)
      (λ a. go (leb-false (length t) w a) (many (group_rows side (gateway_of net t)) (get_or t w 0) (drop (w + 1) t))
      (many_sound (group_rows side (gateway_of net t)) (group_sound side (gateway_of net t)) (get_or t w 0) (drop (w + 1) t))))
    where
      go : host_width net < length t → (g : Got (List Row)) → Sound (many (group_rows side (gateway_of net t)) (get_or t (host_width net) 0)) (drop (host_width net + 1) t) g
          → Sound (block_rows side net) t g
      go h (got xs r) a = block_front t xs r h a
      go h (stop left) a = omega (arith, a, length-drop (host_width net + 1) t)

pub sides_sound : (net internal external : ℕ) → Sounds (both_sides net internal external)
sides_sound net internal external =
    subst (λ (f : List ℕ → Got (List Row)). Sounds f) (λ i. λ t. (sym (both_sides_lem net internal external t)) i)
    (in_turn_sound (many (block_rows 0 net) internal) (many (block_rows 256 net) external)
    (many_sound (block_rows 0 net) (block_sound 0 net) internal) (many_sound (block_rows 256 net) (block_sound 256 net) external))
