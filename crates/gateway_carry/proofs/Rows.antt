-- Laws of changing the rows of one slot in the table, and of the count that goes with them. Assumes nothing.
use Prim.Native.Nat.{ℕ, ◌+◌, ◌*◌, ◌-◌, ◌≤◌, ◌<◌}
use native.Mathlib.Omega.{arith}
use native.Mathlib.Nat.{add-sub_cancel_left}
use borrow.Author.Tests.{eqb-true, leb-true}
use borrow.Rule.Slice.PartMut.{put_mid}
use mathlib.Core.Path.{◌≡◌, refl, ◌∙◌}
use mathlib.Core.Bool.{true, false≢true}
use mathlib.Core.List.{List, []}
use lib.Dec.{leb, eqb}
use lib.ListN.{length, take, drop, length-drop}
use lib.Seq.{drop-drop, length-take-le}
use Rattle.checks.proofs.Laws.{and_left, and_right}
use Rattle.nets.specs.Rows.{Row, flat}
use Rattle.update_walk.specs.Body.{Walk, whole, broken, walked_blocks}
use Rattle.update_rows.specs.Storing.{zeros, padded, is_whole, walked_rows, Storable}
use Rattle.gateway_state.specs.declared.Slot.{Slot}
use Rattle.gateway_state.specs.Places.{place, with_part, write_rows}
use Rattle.gateway_rules.specs.declared.Effect.{Effect}
use Rattle.gateway_rules.specs.declared.Effect.TheVariants.{Keep, Clear, Replace}
use Rattle.gateway_rules.specs.declared.Verdict.{Verdict}
use Rattle.gateway_rules.specs.Carried.{table_after, count_after, slot_after}
use Rattle.gateway_carry.specs.Asked.{takes, change_of, ruling_of}

-- ---- rows that may be stored

module _ (count : ℕ) where
  pub taken_whole : (walk : Walk) → takes (Replace count) walk ≡ true → is_whole walk ≡ true
  unfolding takes is_whole
  taken_whole (whole rows) e = refl
  taken_whole (broken offset) e = absurd (false≢true e)

  pub taken_count : (walk : Walk) → takes (Replace count) walk ≡ true → (count ≡ length (walked_rows walk)) × (length (walked_rows walk) ≤ 128)
  unfolding takes walked_rows
  taken_count (whole rows) e = (
    eqb-true count (length rows) (and_left (eqb count (length rows)) (leb (length rows) 128) e),
    leb-true (length rows) 128 (and_right (eqb count (length rows)) (leb (length rows) 128) e),
  )
  taken_count (broken offset) e = absurd (false≢true e)

-- ---- the table

pub place_is : (i start : ℕ) → ((counts : List ℕ) → start ≡ place counts i) → start ≡ i * 384
unfolding place
place_is i start p = p []

pub place_room : (i start : ℕ) → i < 8 → ((counts : List ℕ) → start ≡ place counts i) → start + 384 ≤ 3072
place_room i start h p = omega (arith, place_is i start p, h)

module _ (table : List ℕ) (i : ℕ) (h : i < 8) (long : length table ≡ 3072) (start : ℕ) (p : (counts : List ℕ) → start ≡ place counts i) where
  -- the part that is lent has room for 128 rows
  part_length : length (take (start + 384 - start) (drop start table)) ≡ 384
  part_length =
      rw (add-sub_cancel_left start 384) (length-take-le 384 (drop start table) (simp length-drop (omega (arith, place_room i start h p, long))))

  part_put : (x : List ℕ) → put_mid start (start + 384 - start) table x ≡ with_part table i x
  unfolding with_part
  part_put x = rw (add-sub_cancel_left start 384, drop-drop, place_is i start p)

  module _ (effect : Effect) (rows : List Row) where
    pub change_keep : effect ≡ Keep → (counts : List ℕ) → table ≡ table_after table counts i (change_of effect rows)
    unfolding table_after change_of
    change_keep e counts = rw e

    pub change_clear : effect ≡ Clear → (x : List ℕ) → x ≡ zeros (length (take (start + 384 - start) (drop start table)))
        → (counts : List ℕ) → put_mid start (start + 384 - start) table x ≡ table_after table counts i (change_of effect rows)
    unfolding table_after change_of write_rows padded flat
    change_clear e x f counts = part_put x ∙ rw (e, f, part_length)

  module _ (effect : Effect) (count net : ℕ) (o : List ℕ) (e : effect ≡ Replace count) (t : takes effect (walked_blocks net o) ≡ true) where
    taken : takes (Replace count) (walked_blocks net o) ≡ true
    taken = rw e at t

    pub change_asked : Storable net o (take (start + 384 - start) (drop start table))
    change_asked =
        record {
          sound = taken_whole count (walked_blocks net o) taken;
          room = omega (arith, part_length, (taken_count count (walked_blocks net o) taken).1);
        }

    pub change_replace : (x : List ℕ) → x ≡ padded (length (take (start + 384 - start) (drop start table))) (flat (walked_rows (walked_blocks net o)))
        → (counts : List ℕ) → put_mid start (start + 384 - start) table x ≡ table_after table counts i (change_of effect (walked_rows (walked_blocks net o)))
    unfolding table_after change_of write_rows
    change_replace x f counts = part_put x ∙ rw (e, f, part_length)

-- ---- the count

module _ (count : ℕ) (effect : Effect) where
  pub count_keep : effect ≡ Keep → (walk : Walk) → takes effect walk ≡ true → count ≡ count_after count (change_of effect (walked_rows walk))
  unfolding count_after change_of
  count_keep e walk t = rw e

  pub count_clear : effect ≡ Clear → (walk : Walk) → takes effect walk ≡ true → 0 ≡ count_after count (change_of effect (walked_rows walk))
  unfolding count_after change_of
  count_clear e walk t = rw e

  pub count_replace : (new : ℕ) → effect ≡ Replace new → (walk : Walk) → takes effect walk ≡ true → new ≡ count_after count (change_of effect (walked_rows walk))
  unfolding count_after change_of
  count_replace new e walk t = rw e (taken_count new walk (rw e at t)).0

pub slot_is : (slot : Slot) (v : Verdict) (count : ℕ) → ((walk : Walk) → takes v.effect walk ≡ true → count ≡ count_after slot.rows (change_of v.effect (walked_rows walk)))
    → (walk : Walk) → takes v.effect walk ≡ true
    → ◌≡◌ {A = Slot} (record { address = slot.address; asn = slot.asn; neighbour = v.neighbour; rows = count; seconds = slot.seconds }) (slot_after slot (ruling_of v (walked_rows walk)))
unfolding slot_after ruling_of
slot_is slot v count f walk t = rw (f walk t)
