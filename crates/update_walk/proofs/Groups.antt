-- The nets of one distance group: how far they reach is the same for every side and gateway, and they are read from their part alone. Assumes nothing.
use Prim.Native.Nat.{ℕ, zero, suc, ◌+◌, ◌-◌, ◌≤◌}
use native.Mathlib.Omega.{arith}
use borrow.Author.Tests.{ltb-false, eqb-false, le-ltb}
use mathlib.Core.Path.{◌≡◌, refl, sym, ap, subst, ◌∙◌}
use mathlib.Core.Bool.{Bool, true, false, cond}
use mathlib.Core.List.{List, [], ◌∷◌, append-nil}
use lib.Dec.{ltb, eqb}
use lib.ListN.{length, take, drop, get_or, length-append}
use Rattle.checks.proofs.Laws.{cond_elim}
use Rattle.nets.specs.Classes.{net_width}
use Rattle.nets.specs.Rows.{Row}
use Rattle.update_walk.specs.Body.{Got, got, stop, and_then, after, many, left_justified, row_of_width, net_row, group_rows}
use Rattle.update_walk.specs.Walked.{taken, group_end, group_nets, NetsAlone}
use Rattle.update_walk.proofs.Flat.{group_rows_lem}
use Rattle.update_walk.proofs.Laws.{nonzero, Front, front_fits, front_part, many_sound, net_sound}
use Rattle.update_walk.proofs.Turns.{Stepped}

-- as many rows, and the same octets left
abbrev Alike : Got (List Row) → Got (List Row) → Type 0
Alike (got xs r) (got ys q) = (length xs ≡ length ys) × (r ≡ q)
Alike (got xs r) (stop k) = ⊥
Alike (stop k) (got ys q) = ⊥
Alike (stop k) (stop j) = k ≡ j

module _ (g d h e : ℕ) where
  net_alike : (t : List ℕ) → Alike (net_row g d t) (net_row h e t)
  unfolding net_row row_of_width
  net_alike t = go (eqb (length t) 0) (eqb (net_width (get_or t 0 0)) 0) (ltb (length t) (net_width (get_or t 0 0)))
    where
      shape : ℕ → ℕ → Bool → Bool → Bool → Got (List Row)
      shape g d a b c =
          cond a (stop 0) (cond b (stop (length t)) (cond c (stop 0)
          (got (record { net = left_justified (net_width (get_or t 0 0)) t; gateway = g; third = d } ∷ []) (drop (net_width (get_or t 0 0)) t))))

      go : (a b c : Bool) → Alike (shape g d a b c) (shape h e a b c)
      go true b c = refl
      go false true c = refl
      go false false true = refl
      go false false false = (refl, refl)

after_alike : (xs ys : List Row) (y z : Got (List Row)) → length xs ≡ length ys → Alike y z → Alike (after xs y) (after ys z)
after_alike xs ys (got us r) (got bs q) l a = (simp length-append (omega (arith, l, a.0)), a.1)
after_alike xs ys (got us r) (stop k) l a = a
after_alike xs ys (stop k) (got bs q) l a = a
after_alike xs ys (stop k) (stop j) l a = a

many_alike : (f h : List ℕ → Got (List Row)) → ((t : List ℕ) → Alike (f t) (h t)) → (n : ℕ) (t : List ℕ) → Alike (many f n t) (many h n t)
unfolding many
many_alike f h s zero t = (refl, refl)
many_alike f h s (suc n) t = go (f t) (h t) (s t) (many_alike f h s n)
  where
    go : (y z : Got (List Row)) → Alike y z → ((t : List ℕ) → Alike (many f n t) (many h n t))
        → Alike (and_then y (λ xs rest. after xs (many f n rest))) (and_then z (λ xs rest. after xs (many h n rest)))
    go (got xs r) (got ys q) a m =
        subst (λ (l : List ℕ). Alike (after xs (many f n r)) (after ys (many h n l))) a.1 (after_alike xs ys (many f n r) (many h n r) a.0 (m r))
    go (got xs r) (stop k) a m = absurd a
    go (stop k) (got ys q) a m = absurd a
    go (stop k) (stop j) a m = a

alike_taken : (t : List ℕ) (y z : Got (List Row)) → Alike y z → taken t y ≡ taken t z
unfolding taken
alike_taken t (got xs r) (got ys q) a = ap (λ (l : List ℕ). length t - length l) a.1
alike_taken t (got xs r) (stop k) a = absurd a
alike_taken t (stop k) (got ys q) a = absurd a
alike_taken t (stop k) (stop j) a = refl

group_alike : (side gateway : ℕ) (t : List ℕ) → Alike (group_rows 0 0 t) (group_rows side gateway t)
group_alike side gateway t = rw (group_rows_lem 0 0 t, group_rows_lem side gateway t) (go (ltb (length t) 2))
  where
    go : (b : Bool) → Alike (cond b (stop 0) (many (net_row 0 (0 + get_or t 0 0)) (get_or t 1 0) (drop 2 t))) (cond b (stop 0) (many (net_row gateway (side + get_or t 0 0)) (get_or t 1 0) (drop 2 t)))
    go true = refl
    go false = many_alike (net_row 0 (0 + get_or t 0 0)) (net_row gateway (side + get_or t 0 0)) (net_alike 0 (0 + get_or t 0 0) gateway (side + get_or t 0 0)) (get_or t 1 0) (drop 2 t)

pub end_any : (side gateway : ℕ) (t : List ℕ) → group_end t ≡ taken t (group_rows side gateway t)
unfolding group_end
end_any side gateway t = alike_taken t (group_rows 0 0 t) (group_rows side gateway t) (group_alike side gateway t)

-- a good group: its nets, read alone, give its rows with nothing left
pub record Alone (side gateway : ℕ) (t : List ℕ) (xs : List Row) (rest : List ℕ) : Type 0 where
  pub two : 2 ≤ length t
  pub alone : many (net_row gateway (side + get_or t 0 0)) (get_or t 1 0) (group_nets t) ≡ got xs []
  pub used : length (group_nets t) + 2 + length rest ≡ length t

module _ (side gateway : ℕ) where
  pub group_alone : (t : List ℕ) (xs : List Row) (rest : List ℕ) → group_rows side gateway t ≡ got xs rest → Alone side gateway t xs rest
  unfolding group_nets taken
  group_alone [] xs rest k = let e = rw (group_rows_lem side gateway []) at k in let z : ◌≡◌ {A = ℕ} 0 1 = cc in absurd (omega arith)
  group_alone (d ∷ []) xs rest k = let e = rw (group_rows_lem side gateway (d ∷ [])) at k in let z : ◌≡◌ {A = ℕ} 0 1 = cc in absurd (omega arith)
  group_alone (d ∷ n ∷ t) xs rest e =
      let f = many (net_row gateway (side + d)) n in
      let m : many (net_row gateway (side + d)) n t ≡ got xs rest = rw (group_rows_lem side gateway (d ∷ n ∷ t), le-ltb (suc (suc (length t))) 2 (omega arith)) at e in
      let s : Front (many (net_row gateway (side + d)) n) t xs rest = rw m at (many_sound (net_row gateway (side + d)) (net_sound gateway (side + d)) n t) in
      let k : group_end (d ∷ n ∷ t) - 2 ≡ length t - length rest =
      omega (arith, end_any side gateway (d ∷ n ∷ t) ∙ ap (taken (d ∷ n ∷ t)) e, front_fits s) in
      let p : group_nets (d ∷ n ∷ t) ≡ s.part = ap (λ (i : ℕ). take i t) k ∙ front_part s in
      record {
        two = omega arith;
        alone = ap f (p ∙ sym (append-nil s.part)) ∙ s.again [];
        used = omega (arith, ap length p, ap length s.split, length-append s.part rest);
      }

no_nets : (t : List ℕ) → group_end t ≡ 0 → group_nets t ≡ []
unfolding group_nets
no_nets t e = ap (λ (n : ℕ). take (n - 2) (drop 2 t)) e

pub nets_alone : NetsAlone
unfolding taken
nets_alone =
    record {
      rows = λ side gateway t rs rest e. (group_alone side gateway t rs rest e).alone;
      none = λ side gateway t left e. no_nets t (end_any side gateway t ∙ ap (taken t) e);
    }

-- a net that was read, from its first octet
module _ (gateway third : ℕ) where
  pub net_good : (t : List ℕ) (xs : List Row) (rest : List ℕ) → net_row gateway third t ≡ got xs rest → Stepped gateway third t (net_width (get_or t 0 0))
  unfolding net_row row_of_width
  net_good t xs rest e =
      let w = net_width (get_or t 0 0) in
      cond_elim (λ x. x ≡ got xs rest → Stepped gateway third t w) (eqb (length t) 0) _ _ (λ a h. bad 0 h)
      (λ a. cond_elim (λ x. x ≡ got xs rest → Stepped gateway third t w) (eqb w 0) _ _ (λ b h. bad (length t) h)
      (λ b. cond_elim (λ x. x ≡ got xs rest → Stepped gateway third t w) (ltb (length t) w) _ _ (λ c h. bad 0 h)
      (λ c h. record { is = rw (a, b, c); some = nonzero w (eqb-false w 0 b); fits = ltb-false (length t) w c })))
      e
    where
      bad : (k : ℕ) → stop k ≡ got xs rest → Stepped gateway third t (net_width (get_or t 0 0))
      bad k h = let z : ◌≡◌ {A = ℕ} 0 1 = cc in absurd (omega arith)
