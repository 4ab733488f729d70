-- Proofs of the round trip. Assumes nothing.
use Prim.Native.Nat.{ℕ, ◌*◌, ◌≤◌}
use mathlib.Core.Bool.{Bool, true, false, cond, ◌&&◌}
use mathlib.Core.Path.{◌≡◌, refl, sym, ap, ap₂, subst, ◌∙◌}
use mathlib.Core.List.{List, [], ◌∷◌, ◌++◌, append-nil}
use native.Mathlib.Omega.{arith}
use borrow.Author.Tests.{eqb-true, le-leb}
use lib.Dec.{eqb, leb}
use lib.ListN.{length}
use Rattle.checks.proofs.Laws.{and_left, and_right}
use Rattle.checks.specs.Lists.{every}
use Rattle.nets.specs.Classes.{good_net, on_net}
use Rattle.nets.specs.Rows.{Row}
use Rattle.update_walk.specs.Body.{Got, got, stop, and_then, after, many, Block, block_at, sides_at, block_rows, both_sides, whole, nothing_left, body_of}
use Rattle.update_walk.proofs.Flat.{both_sides_lem}
use Rattle.update_writing.specs.Blocks.{side_of, side_rows, gateway_runs, each, side_octets, blocks_written, internal_blocks, external_blocks}
use Rattle.update_writing.specs.Writable.{ordered, writable_row, writable_rows}
use Rattle.update_writing.proofs.Claims.{writable_sides}
use Rattle.update_theorem.specs.Canonical.{full_side, full_sides, canonical}
use Rattle.update_theorem.specs.Trip.{octets_only, WritesReadBack, Read, WrittenBack, ReadsWriteBack}
use Rattle.update_theorem.proofs.Readings.{AllOf, every_all, all_every, all_map, all_append, octets_right, Reads, spread, Several, never}
use Rattle.update_theorem.proofs.Plain.{blocks_plain}
use Rattle.update_theorem.proofs.Sent.{block_sent, block_holds, BlockFact, blocks_read, blocks_unread, blocks_spread}
use Rattle.update_theorem.proofs.Grouped.{blocks_from, blocks_number, blocks_hold_lem, blocks_sent, Sound, blocks_facts, blocks_full, blocks_back, holds_sound}

-- the rows of a side that are written are sound on it
sound_row : (side net : ℕ) (row : Row) → writable_row net row ≡ true → side_of row ≡ side → Sound (side * 256) net row
unfolding writable_row
sound_row side net row w s =
    let front = and_left (good_net row.net && on_net net row.gateway) (leb row.third 511) w in
    record {
      good = and_left (good_net row.net) (on_net net row.gateway) front;
      on = and_right (good_net row.net) (on_net net row.gateway) front;
      far = omega arith;
    }

sound_side : (side net : ℕ) (rows : List Row) → AllOf (λ row. writable_row net row ≡ true) rows → AllOf (Sound (side * 256) net) (side_rows side rows)
unfolding side_rows
sound_side side net [] w = tt
sound_side side net (row ∷ rest) w = go (eqb (side_of row) side) refl (sound_side side net rest w.1)
  where
    go : (b : Bool) → eqb (side_of row) side ≡ b → AllOf (Sound (side * 256) net) (side_rows side rest) → AllOf (Sound (side * 256) net) (cond b (row ∷ side_rows side rest) (side_rows side rest))
    go true e h = (sound_row side net row w.0 (eqb-true (side_of row) side e), h)
    go false e h = h

-- rows whose sides are sound
record Sides (net : ℕ) (rows : List Row) : Type 0 where
  inside : AllOf (Sound 0 net) (side_rows 0 rows)
  outside : AllOf (Sound 256 net) (side_rows 1 rows)

writable_sound : (net : ℕ) (rows : List Row) → writable_rows net rows ≡ true → Sides net rows
unfolding writable_rows
writable_sound net rows w =
    let e = every_all (writable_row net) rows (and_right (leb (length rows) 128) (every (writable_row net) rows) (and_left (leb (length rows) 128 && every (writable_row net) rows) (ordered 0 rows) w)) in
    record { inside = sound_side 0 net rows e; outside = sound_side 1 net rows e }

-- what is written of sound rows is read as the blocks of their runs
side_reads : (side net : ℕ) → good_net net ≡ true → (rows : List Row) → AllOf (Sound side net) rows → Reads (many (block_at side net) (length (gateway_runs rows))) (side_octets net rows) (blocks_from rows)
side_reads side net good rows h q = rw (← (blocks_number rows), ← (blocks_sent net rows)) (blocks_read side net good (blocks_from rows) (blocks_facts side net rows h) q)

module _ (net : ℕ) (good : good_net net ≡ true) (rows : List Row) (s : Sides net rows) where
  inside_read : many (block_at 0 net) (internal_blocks rows) (blocks_written net rows) ≡ got (blocks_from (side_rows 0 rows)) (side_octets net (side_rows 1 rows))
  unfolding internal_blocks blocks_written
  inside_read = side_reads 0 net good (side_rows 0 rows) s.inside (side_octets net (side_rows 1 rows))

  outside_read : many (block_at 256 net) (external_blocks rows) (side_octets net (side_rows 1 rows)) ≡ got (blocks_from (side_rows 1 rows)) []
  unfolding external_blocks
  outside_read =
      ap (many (block_at 256 net) (length (gateway_runs (side_rows 1 rows)))) (sym (append-nil (side_octets net (side_rows 1 rows))))
      ∙ side_reads 256 net good (side_rows 1 rows) s.outside []

  written_canonical : canonical net (internal_blocks rows) (external_blocks rows) (blocks_written net rows) ≡ true
  unfolding canonical full_sides sides_at
  written_canonical = rw (inside_read, outside_read, blocks_full (side_rows 0 rows), blocks_full (side_rows 1 rows))

  written_both : both_sides net (internal_blocks rows) (external_blocks rows) (blocks_written net rows) ≡ got (side_rows 0 rows ++ side_rows 1 rows) []
  unfolding spread
  written_both =
      rw (
        both_sides_lem net (internal_blocks rows) (external_blocks rows) (blocks_written net rows),
        blocks_spread 0 net (internal_blocks rows) (blocks_written net rows),
        inside_read,
        blocks_spread 256 net (external_blocks rows) (side_octets net (side_rows 1 rows)),
        outside_read,
        blocks_hold_lem (side_rows 0 rows),
        blocks_hold_lem (side_rows 1 rows),
      )

read_back : (net : ℕ) → good_net net ≡ true → (rows : List Row) → writable_rows net rows ≡ true → body_of net (internal_blocks rows) (external_blocks rows) (blocks_written net rows) ≡ whole rows
unfolding body_of nothing_left
read_back net good rows w = rw (written_both net good rows (writable_sound net rows w), writable_sides net rows w)

pub writes_read_back : WritesReadBack
writes_read_back =
    record { rows = read_back; plain = blocks_plain; grouped = λ net good rows w. written_canonical net good rows (writable_sound net rows w) }

-- blocks that were read, as they were sent
record Sent (net internal external : ℕ) (octets : List ℕ) (rows : List Row) : Type 0 where
  inside : List Block
  outside : List Block
  middle : List ℕ
  read_inside : many (block_at 0 net) internal octets ≡ got inside middle
  read_outside : many (block_at 256 net) external middle ≡ got outside []
  holds : each block_holds inside ++ each block_holds outside ≡ rows

nothing_left_lem : (size : ℕ) (g : Got (List Row)) (rows : List Row) → nothing_left size g ≡ whole rows → g ≡ got rows []
unfolding nothing_left
nothing_left_lem size (got rs []) rows e = let p : rs ≡ rows = cc in ap (λ (l : List Row). got l []) p
nothing_left_lem size (got rs (octet ∷ rest)) rows e = let z : ◌≡◌ {A = ℕ} 0 1 = cc in absurd (omega arith)
nothing_left_lem size (stop left) rows e = let z : ◌≡◌ {A = ℕ} 0 1 = cc in absurd (omega arith)

module _ (net internal external : ℕ) (octets : List ℕ) (rows : List Row) where
  sent : body_of net internal external octets ≡ whole rows → Sent net internal external octets rows
  unfolding body_of spread
  sent e =
      go (many (block_at 0 net) internal octets) refl
      (rw (both_sides_lem net internal external octets, blocks_spread 0 net internal octets) at (nothing_left_lem (length octets) (both_sides net internal external octets) rows e))
    where
      go₂ : (inside : List Block) (middle : List ℕ) → many (block_at 0 net) internal octets ≡ got inside middle → (g : Got (List Block)) → many (block_at 256 net) external middle ≡ g
          → after (each block_holds inside) (spread block_holds g) ≡ got rows [] → Sent net internal external octets rows
      go₂ inside middle p (got outside rest) q e =
          let a : each block_holds inside ++ each block_holds outside ≡ rows = cc in
          let b : rest ≡ [] = cc in
          record { inside = inside; outside = outside; middle = middle; read_inside = p; read_outside = q ∙ ap (λ (l : List ℕ). got outside l) b; holds = a }
      go₂ inside middle p (stop left) q e = never e

      go : (g : Got (List Block)) → many (block_at 0 net) internal octets ≡ g → and_then (spread block_holds g) (λ xs rest. after xs (many (block_rows 256 net) external rest)) ≡ got rows [] → Sent net internal external octets rows
      go (got inside middle) p e = go₂ inside middle p (many (block_at 256 net) external middle) refl (rw (blocks_spread 256 net external middle) at e)
      go (stop left) p e = never e

-- rows of sound sides, one after the other
module _ (net : ℕ) where
  outside_only : (outside : List Row) → AllOf (Sound 256 net) outside → (side_rows 0 outside ≡ []) × (side_rows 1 outside ≡ outside)
  unfolding side_rows
  outside_only [] h = (refl, refl)
  outside_only (row ∷ rest) h =
      let e : side_of row ≡ 1 = omega (arith, h.0.far) in
      let p = outside_only rest h.1 in
      (rw e p.0, rw e (ap (λ (l : List Row). row ∷ l) p.1))

  sides_are : (inside outside : List Row) → AllOf (Sound 0 net) inside → AllOf (Sound 256 net) outside → (side_rows 0 (inside ++ outside) ≡ inside) × (side_rows 1 (inside ++ outside) ≡ outside)
  unfolding side_rows
  sides_are [] outside h k = outside_only outside k
  sides_are (row ∷ rest) outside h k =
      let e : side_of row ≡ 0 = omega (arith, h.0.far) in
      let p = sides_are rest outside h.1 k in
      (rw e (ap (λ (l : List Row). row ∷ l) p.0), rw e p.1)

  row_writable : (side : ℕ) → side ≤ 256 → (row : Row) → Sound side net row → writable_row net row ≡ true
  unfolding writable_row
  row_writable side s row h = rw (h.good, h.on) (le-leb row.third 511 (omega (arith, h.far)))

  outside_ordered : (side : ℕ) → side ≤ 1 → (outside : List Row) → AllOf (Sound 256 net) outside → ordered side outside ≡ true
  unfolding ordered
  outside_ordered side s [] h = refl
  outside_ordered side s (row ∷ rest) h =
      let e : side_of row ≡ 1 = omega (arith, h.0.far) in
      rw (e, le-leb side 1 s) (outside_ordered 1 (omega arith) rest h.1)

  both_ordered : (inside outside : List Row) → AllOf (Sound 0 net) inside → AllOf (Sound 256 net) outside → ordered 0 (inside ++ outside) ≡ true
  unfolding ordered
  both_ordered [] outside h k = outside_ordered 0 (omega arith) outside k
  both_ordered (row ∷ rest) outside h k =
      let e : side_of row ≡ 0 = omega (arith, h.0.far) in
      rw e (both_ordered rest outside h.1 k)

-- all that is known of blocks that were read
module _ (net internal external : ℕ) (octets : List ℕ) (rows : List Row) (read : Read net internal external octets rows) where
  s : Sent net internal external octets rows
  s = sent net internal external octets rows read.is

  inside_is : Several (block_sent net) (BlockFact 0 net) internal octets s.inside s.middle
  inside_is = blocks_unread 0 refl net read.good internal octets read.plain s.inside s.middle s.read_inside

  outside_is : Several (block_sent net) (BlockFact 256 net) external s.middle s.outside []
  outside_is =
      blocks_unread 256 refl net read.good external s.middle
      (octets_right (each (block_sent net) s.inside) s.middle (ap octets_only (sym inside_is.octets) ∙ read.plain)) s.outside [] s.read_outside

  inside_sound : AllOf (Sound 0 net) (each block_holds s.inside)
  inside_sound = holds_sound 0 net s.inside inside_is.facts

  outside_sound : AllOf (Sound 256 net) (each block_holds s.outside)
  outside_sound = holds_sound 256 net s.outside outside_is.facts

  inside_rows : side_rows 0 rows ≡ each block_holds s.inside
  inside_rows = ap (side_rows 0) (sym s.holds) ∙ (sides_are net (each block_holds s.inside) (each block_holds s.outside) inside_sound outside_sound).0

  outside_rows : side_rows 1 rows ≡ each block_holds s.outside
  outside_rows = ap (side_rows 1) (sym s.holds) ∙ (sides_are net (each block_holds s.inside) (each block_holds s.outside) inside_sound outside_sound).1

  all_octets : octets ≡ each (block_sent net) s.inside ++ each (block_sent net) s.outside
  all_octets = inside_is.octets ∙ ap (λ (l : List ℕ). each (block_sent net) s.inside ++ l) (outside_is.octets ∙ append-nil (each (block_sent net) s.outside))

  read_writable : length rows ≤ 128 → writable_rows net rows ≡ true
  unfolding writable_rows
  read_writable m =
      let a = each block_holds s.inside in
      let b = each block_holds s.outside in
      let fits : length (a ++ b) ≤ 128 = rw s.holds m in
      let rows_fit : every (writable_row net) (a ++ b) ≡ true =
      all_every (writable_row net) (a ++ b)
      (all_append (λ row. writable_row net row ≡ true) a b
      (all_map (λ row k. row_writable net 0 (omega arith) row k) a inside_sound)
      (all_map (λ row k. row_writable net 256 (omega arith) row k) b outside_sound)) in
      subst (λ (l : List Row). (leb (length l) 128 && every (writable_row net) l && ordered 0 l) ≡ true) s.holds
      (rw (le-leb (length (a ++ b)) 128 fits, rows_fit, both_ordered net a b inside_sound outside_sound))

  side_octets_lem : (side : ℕ) (blocks : List Block) → AllOf (BlockFact side net) blocks → full_side blocks ≡ true → side_octets net (each block_holds blocks) ≡ each (block_sent net) blocks
  side_octets_lem side blocks f full = sym (blocks_sent net (each block_holds blocks)) ∙ ap (each (block_sent net)) (blocks_back side net blocks f full)

  side_count : (side : ℕ) (blocks : List Block) → AllOf (BlockFact side net) blocks → full_side blocks ≡ true → length (gateway_runs (each block_holds blocks)) ≡ length blocks
  side_count side blocks f full = sym (blocks_number (each block_holds blocks)) ∙ ap length (blocks_back side net blocks f full)

  module _ (full : canonical net internal external octets ≡ true) where
    both_full : (full_side s.inside && full_side s.outside) ≡ true
    unfolding canonical full_sides sides_at
    both_full = rw (s.read_inside, s.read_outside) at full

    inside_full : full_side s.inside ≡ true
    inside_full = and_left (full_side s.inside) (full_side s.outside) both_full

    outside_full : full_side s.outside ≡ true
    outside_full = and_right (full_side s.inside) (full_side s.outside) both_full

    grouped : WrittenBack net internal external octets rows
    unfolding blocks_written internal_blocks external_blocks
    grouped =
        record {
          blocks =
              ap₂ (λ (a b : List Row). side_octets net a ++ side_octets net b) inside_rows outside_rows
              ∙ ap₂ (λ (a b : List ℕ). a ++ b) (side_octets_lem 0 s.inside inside_is.facts inside_full) (side_octets_lem 256 s.outside outside_is.facts outside_full)
              ∙ sym all_octets;
          inside = ap (λ (l : List Row). length (gateway_runs l)) inside_rows ∙ side_count 0 s.inside inside_is.facts inside_full ∙ inside_is.number;
          outside = ap (λ (l : List Row). length (gateway_runs l)) outside_rows ∙ side_count 256 s.outside outside_is.facts outside_full ∙ outside_is.number;
        }

  only : WrittenBack net internal external octets rows → canonical net internal external octets ≡ true
  only back =
      rw (← back.blocks, ← back.inside, ← back.outside)
      (written_canonical net read.good rows (record { inside = rw inside_rows inside_sound; outside = rw outside_rows outside_sound }))

pub reads_write_back : ReadsWriteBack
reads_write_back = record { writable = read_writable; grouped = λ net internal external octets rows read full. grouped net internal external octets rows read full; only = only }
