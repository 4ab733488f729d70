-- Proofs of the claims. Assumes nothing.
use Prim.Native.Nat.{ℕ, zero, suc, ◌-◌, ◌*◌, ◌/◌, ◌%◌, ◌≤◌, ◌<◌}
use native.Mathlib.Omega.{arith}
use native.Mathlib.Nat.{le_refl}
use mathlib.Core.Bool.{Bool, true, false, cond, not, ◌&&◌}
use mathlib.Core.Path.{◌≡◌, refl, sym, ap, ◌∙◌}
use mathlib.Core.List.{List, [], ◌∷◌, ◌++◌}
use borrow.Author.Tests.{leb-true, le-leb, eqb-true, eqb-false, eq-eqb, ne_eqb}
use lib.Dec.{ltb, leb, eqb}
use lib.ListN.{length, length-append, length-take, length-drop}
use Rattle.checks.proofs.Laws.{and_left, and_right, and_both}
use Rattle.checks.specs.Lists.{every}
use Rattle.nets.specs.Classes.{net_width, first_octet, width_of, host_span, good_net, on_net}
use Rattle.nets.specs.Rows.{Row}
use Rattle.update_writing.specs.Blocks.{side_of, joined, side_rows, runs, distance_runs, each, address_octets, net_octets, host_octets, nets_octets, group_octets, groups_octets, block_octets, side_octets, blocks_written, internal_blocks, external_blocks}
use Rattle.update_writing.specs.Writable.{ordered, writable_row, writable_rows}
use Rattle.update_writing.specs.Claims.{ShortBlocks, Counts, Distances}
use Rattle.update_writing.proofs.Runs.{runs_front, runs_octets, runs_number, runs_whole, sides_within, sides_whole, thirds_fit}

pub width_most : (first : ℕ) → net_width first ≤ 3
unfolding net_width
width_most first = go (ltb first 128) (ltb first 192) (ltb first 224)
  where
    go : (a b c : Bool) → cond a 1 (cond b 2 (cond c 3 0)) ≤ 3
    go true b c = omega arith
    go false true c = omega arith
    go false false true = omega arith
    go false false false = omega arith

-- a width that was computed
pub width_fits : (width first : ℕ) → width ≡ net_width first → width ≤ 3
width_fits width first e = rw e (width_most first)

pub width_least : (net : ℕ) → good_net net ≡ true → 0 < width_of net
unfolding good_net
width_least net g = go (width_of net) (and_left (not (eqb (width_of net) 0)) (eqb (net % host_span (width_of net)) 0) g)
  where
    go : (width : ℕ) → not (eqb width 0) ≡ true → 0 < width
    go zero e = let z : ◌≡◌ {A = ℕ} 0 1 = cc in absurd (omega arith)
    go (suc n) e = omega arith

pub net_octets_lem : (net : ℕ) → length (net_octets net) ≡ width_of net
unfolding net_octets address_octets
net_octets_lem net = length-take (width_of net) _ ∙ omega (arith, width_most (first_octet net))

pub host_octets_lem : (net gateway : ℕ) → length (host_octets net gateway) ≡ 4 - width_of net
unfolding host_octets address_octets
host_octets_lem net gateway = length-drop (width_of net) _

nets_octets_lem : (rows : List Row) → length (nets_octets rows) ≤ 3 * length rows
unfolding nets_octets each
nets_octets_lem [] = omega arith
nets_octets_lem (r ∷ rs) =
    let a = length-append (net_octets r.net) (each (λ (row : Row). net_octets row.net) rs) in
    omega (arith, nets_octets_lem rs, net_octets_lem r.net, width_most (first_octet r.net))

group_octets_lem : (rows : List Row) → length (group_octets rows) ≤ 5 * length rows
unfolding group_octets
group_octets_lem [] = omega arith
group_octets_lem (r ∷ rs) = omega (arith, nets_octets_lem (r ∷ rs))

groups_octets_lem : (rows : List Row) → length (groups_octets rows) ≤ 5 * length rows
unfolding groups_octets
groups_octets_lem rows = runs_octets (λ row. row.third) group_octets 5 group_octets_lem rows

module _ (net : ℕ) (good : good_net net ≡ true) where
  block_octets_lem : (rows : List Row) → length (block_octets net rows) ≤ 9 * length rows
  unfolding block_octets
  block_octets_lem [] = omega arith
  block_octets_lem (r ∷ rs) =
      let a = length-append (host_octets net r.gateway) (length (distance_runs (r ∷ rs)) ∷ groups_octets (r ∷ rs)) in
      omega (arith, host_octets_lem net r.gateway, width_least net good, groups_octets_lem (r ∷ rs))

  side_octets_lem : (rows : List Row) → length (side_octets net rows) ≤ 9 * length rows
  unfolding side_octets
  side_octets_lem rows = runs_octets (λ row. row.gateway) (block_octets net) 9 block_octets_lem rows

  blocks_octets : (rows : List Row) → length (blocks_written net rows) ≤ 9 * length rows
  unfolding blocks_written
  blocks_octets rows =
      let a = length-append (side_octets net (side_rows 0 rows)) (side_octets net (side_rows 1 rows)) in
      omega (arith, side_octets_lem (side_rows 0 rows), side_octets_lem (side_rows 1 rows), sides_within rows)

pub rows_most : (net : ℕ) (rows : List Row) → writable_rows net rows ≡ true → length rows ≤ 128
unfolding writable_rows
rows_most net rows w = leb-true (length rows) 128 (search (and_left, and_right))

-- writable rows are those of the internal side and then those of the external one
thirds : (net : ℕ) (rows : List Row) → every (writable_row net) rows ≡ true → thirds_fit rows ≡ true
unfolding every writable_row
thirds net [] w = refl
thirds net (r ∷ rs) w =
    and_both (leb r.third 511) (thirds_fit rs)
    (and_right (good_net r.net && on_net net r.gateway) (leb r.third 511) (and_left (writable_row net r) (every (writable_row net) rs) w))
    (thirds net rs (and_right (writable_row net r) (every (writable_row net) rs) w))

pub writable_sides : (net : ℕ) (rows : List Row) → writable_rows net rows ≡ true → side_rows 0 rows ++ side_rows 1 rows ≡ rows
unfolding writable_rows
writable_sides net rows w =
    sides_whole rows
    (thirds net rows (and_right (leb (length rows) 128) (every (writable_row net) rows) (and_left (leb (length rows) 128 && every (writable_row net) rows) (ordered 0 rows) w)))
    (and_right (leb (length rows) 128 && every (writable_row net) rows) (ordered 0 rows) w)

pub short : ShortBlocks
short = record {
  blocks = λ net good rows. blocks_octets net good rows;
  most = λ net good rows w. omega (arith, blocks_octets net good rows, rows_most net rows w);
}

internal_most : (net : ℕ) (rows : List Row) → writable_rows net rows ≡ true → internal_blocks rows ≤ 128
unfolding internal_blocks
internal_most net rows w = omega (arith, rows_most net rows w, sides_within rows, runs_number (λ row. row.gateway) (side_rows 0 rows))

external_most : (net : ℕ) (rows : List Row) → writable_rows net rows ≡ true → external_blocks rows ≤ 128
unfolding external_blocks
external_most net rows w = omega (arith, rows_most net rows w, sides_within rows, runs_number (λ row. row.gateway) (side_rows 1 rows))

-- each of some lists is no longer than all of them together, and so no longer than anything longer than that
parts_within : (gs : List (List Row)) (most : ℕ) → length (each (λ (run : List Row). run) gs) ≤ most → every (λ run. leb (length run) most) gs ≡ true
unfolding each every
parts_within [] most h = refl
parts_within (g ∷ gs) most h =
    let a = length-append g (each (λ (run : List Row). run) gs) in
    and_both (leb (length g) most) (every (λ run. leb (length run) most) gs) (le-leb (length g) most (omega arith)) (parts_within gs most (omega arith))

pub counts : Counts
counts = record {
  internal = internal_most;
  external = external_most;
  number = runs_number;
  size = λ key rows. parts_within (runs key rows) (length rows) (rw (runs_whole key rows) (le_refl (length rows)));
}

-- on one side, third numbers agree where distances do
third_test : (a b side : ℕ) → a / 256 ≡ side → b / 256 ≡ side → eqb a b ≡ eqb (a % 256) (b % 256)
third_test a b side p q = go (eqb a b) refl
  where
    go : (t : Bool) → eqb a b ≡ t → eqb a b ≡ eqb (a % 256) (b % 256)
    go true e = e ∙ sym (eq-eqb (a % 256) (b % 256) (ap (λ (k : ℕ). k % 256) (eqb-true a b e)))
    go false e = e ∙ sym (ne_eqb (a % 256) (b % 256) (λ z. eqb-false a b e (omega arith)))

distance_runs_lem : (side : ℕ) (rows : List Row) → every (λ row. eqb (side_of row) side) rows ≡ true → distance_runs rows ≡ runs (λ row. row.third % 256) rows
unfolding every runs joined
distance_runs_lem side [] e = refl
distance_runs_lem side (r ∷ []) e = refl
distance_runs_lem side (r ∷ s ∷ ss) e =
    let f = and_right (eqb (side_of r) side) (eqb (side_of s) side && every (λ row. eqb (side_of row) side) ss) e in
    let p = eqb-true (side_of r) side (and_left (eqb (side_of r) side) (eqb (side_of s) side && every (λ row. eqb (side_of row) side) ss) e) in
    let q = eqb-true (side_of s) side (and_left (eqb (side_of s) side) (every (λ row. eqb (side_of row) side) ss) f) in
    let front = runs_front (λ row. row.third % 256) s ss in
    ap (joined (λ row. row.third) r) (distance_runs_lem side (s ∷ ss) f) ∙ ap (joined (λ row. row.third) r) front ∙ rw (third_test r.third s.third side p q) refl
    ∙ ap (joined (λ row. row.third % 256) r) (sym front)

pub distances : Distances
distances = record { same = distance_runs_lem }
