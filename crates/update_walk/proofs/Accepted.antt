-- What an accepted Update says: its blocks are whole, its rows are good and no more than its octets. Assumes nothing.
use Prim.Native.Nat.{ℕ, ◌+◌, ◌^◌, ◌≤◌, ◌<◌}
use native.Mathlib.Omega.{arith}
use borrow.Author.Tests.{ltb-false, leb-true, le-leb, eqb-true}
use mathlib.Core.Path.{◌≡◌, refl, ap, subst}
use mathlib.Core.Bool.{Bool, true, false, cond, ◌&&◌}
use mathlib.Core.List.{List, [], ◌∷◌}
use lib.Dec.{ltb, leb, eqb}
use lib.ListN.{length, take, drop, get_or, length-drop}
use lib.Seq.{length-take-le}
use Rattle.checks.proofs.Laws.{cond_elim, and_left, and_right}
use Rattle.nets.specs.Classes.{good_net}
use Rattle.nets.specs.Rows.{Row}
use Rattle.update_walk.specs.Body.{big_endian, Got, got, stop, both_sides, Walk, whole, broken, nothing_left, body_of, further, net_at, walked_blocks, UpdateRead, accepted, broken_at, too_many, read_within, update_of, walked_of, rows_read}
use Rattle.std.specs.Prelude.{Ok}
use Rattle.update_walk.proofs.Laws.{Front, front_fits, sides_sound}
use Rattle.update_walk.proofs.Digits.{Octets, octets_drop, octets_take, big_below}
use Rattle.update_walk.proofs.Good.{GoodRow, All, sides_good}

-- blocks that are whole: of a message long enough, of a good net that is the common net, and with nothing left
pub record Whole (net : ℕ) (message : List ℕ) (rs : List Row) : Type 0 where
  pub long : 16 ≤ length message
  pub good : good_net net ≡ true
  pub said : net_at message ≡ net
  pub is : both_sides net (get_or message 10 0) (get_or message 11 0) (drop 16 message) ≡ got rs []

left_none : (n : ℕ) (y : Got (List Row)) (rs : List Row) → further 16 (nothing_left n y) ≡ whole rs → y ≡ got rs []
unfolding further nothing_left
left_none n (got ys []) rs h = cc
left_none n (got ys (o ∷ r)) rs h = cc
left_none n (stop k) rs h = cc

pub whole_is : (net : ℕ) (message : List ℕ) (rs : List Row) → walked_blocks net message ≡ whole rs → Whole net message rs
unfolding walked_blocks body_of
whole_is net message rs h =
    let y = both_sides net (get_or message 10 0) (get_or message 11 0) (drop 16 message) in
    cond_elim (λ x. x ≡ whole rs → Whole net message rs) (ltb (length message) 16) _ _ (λ a g. bad (length message) g)
    (λ a. cond_elim (λ x. x ≡ whole rs → Whole net message rs) (good_net net && eqb (net_at message) net) _ _
    (λ b g. record {
      long = ltb-false (length message) 16 a;
      good = and_left (good_net net) (eqb (net_at message) net) b;
      said = eqb-true (net_at message) net (and_right (good_net net) (eqb (net_at message) net) b);
      is = left_none (length (drop 16 message)) y rs g;
    })
    (λ b g. bad 12 g))
    h
  where
    bad : (k : ℕ) → broken k ≡ whole rs → Whole net message rs
    bad k g = let z : ◌≡◌ {A = ℕ} 0 1 = cc in absurd (omega arith)

pub record Accepted (room net : ℕ) (message : List ℕ) (rs : List Row) : Type 0 where
  pub is : walked_blocks net message ≡ whole rs
  pub fits : length rs ≤ room

judged_is : (room : ℕ) (w : Walk) (rs : List Row) → read_within room w ≡ accepted rs → (w ≡ whole rs) × (length rs ≤ room)
unfolding read_within
judged_is room (whole ys) rs e = go (leb (length ys) room) refl e
  where
    go : (b : Bool) → leb (length ys) room ≡ b → cond b (accepted ys) too_many ≡ accepted rs → (whole ys ≡ whole rs) × (length rs ≤ room)
    go true h k = let q : ys ≡ rs = cc in (ap whole q, subst (λ (l : List Row). length l ≤ room) q (leb-true (length ys) room h))
    go false h k = let z : ◌≡◌ {A = ℕ} 0 1 = cc in absurd (omega arith)
judged_is room (broken k) rs e = let z : ◌≡◌ {A = ℕ} 0 1 = cc in absurd (omega arith)

counted : (u : UpdateRead) (n : ℕ) → walked_of u ≡ Ok n → (u ≡ accepted (rows_read u)) × (length (rows_read u) ≡ n)
unfolding rows_read
counted (accepted rs) n e = (refl, cc)
counted (broken_at k) n e = let z : ◌≡◌ {A = ℕ} 0 1 = cc in absurd (omega arith)
counted too_many n e = let z : ◌≡◌ {A = ℕ} 0 1 = cc in absurd (omega arith)

module _ (room net : ℕ) (message : List ℕ) where
  pub accepted_is : (rs : List Row) → update_of room net message ≡ accepted rs → Accepted room net message rs
  unfolding update_of
  accepted_is rs e = let w = judged_is room (walked_blocks net message) rs e in record { is = w.0; fits = w.1 }

  pub accepted_of : (rs : List Row) → Accepted room net message rs → update_of room net message ≡ accepted rs
  unfolding update_of read_within
  accepted_of rs a = rw (a.is, le-leb (length rs) room a.fits)

  -- a walk that counted rows
  pub walked_rows_lem : (n : ℕ) → walked_of (update_of room net message) ≡ Ok n
      → (update_of room net message ≡ accepted (rows_read (update_of room net message))) × (length (rows_read (update_of room net message)) ≡ n)
  walked_rows_lem n e = counted (update_of room net message) n e

module _ (net : ℕ) (message : List ℕ) (rs : List Row) (w : Whole net message rs) where
  -- no more rows than octets
  pub whole_few : length rs + 16 ≤ length message
  whole_few =
      let s : Front (both_sides net (get_or message 10 0) (get_or message 11 0)) (drop 16 message) rs [] =
      rw w.is at (sides_sound net (get_or message 10 0) (get_or message 11 0) (drop 16 message)) in
      omega (arith, front_fits s, length-drop 16 message, w.long)

  pub whole_net : Octets message → net < 4294967296
  unfolding net_at
  whole_net o =
      let d = drop 12 message in
      let n : length (take 4 (drop 12 message)) ≡ 4 = length-take-le 4 d (simp length-drop (omega (arith, w.long))) in
      let b : big_endian (take 4 (drop 12 message)) < 256 ^ 4 = subst (λ (k : ℕ). big_endian (take 4 d) < 256 ^ k) n (big_below (take 4 d) (octets_take d 4 (octets_drop message 12 o))) in
      omega (arith, w.said, b)

  -- every row is good
  pub whole_good : Octets message → All (GoodRow net) rs
  whole_good o = sides_good net w.good (whole_net o) (get_or message 10 0) (get_or message 11 0) (drop 16 message) (octets_drop message 16 o) rs [] w.is
