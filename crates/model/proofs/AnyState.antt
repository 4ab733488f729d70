-- Every state that passes check 1, with a table whose unused rows are zero, is that of a model. Assumes nothing.
use Prim.Native.Nat.{ℕ, zero, suc, ◌+◌, ◌*◌, ◌-◌, ◌≤◌, ◌<◌}
use native.Mathlib.Omega.{arith}
use mathlib.Core.Path.{◌≡◌, refl, sym, ◌∙◌, ap, subst}
use mathlib.Core.Bool.{Bool, true, false, not}
use mathlib.Core.List.{List, [], ◌∷◌, ◌++◌, map}
use lib.Dec.{eqb}
use lib.ListN.{length, take, drop, get_or, length-drop, length-map, take-append-drop}
use lib.Seq.{length-take-le, drop-drop}
use borrow.Author.Tests.{eqb-true}
use Rattle.checks.specs.Lists.{every, join}
use Rattle.nets.specs.Rows.{Row, rows_of, flat}
use Rattle.update_rows.specs.Storing.{zeros, padded}
use Rattle.gateway_state.specs.declared.Slot as Stored
use Rattle.gateway_state.specs.Slots.{free_slot, slot_at}
use Rattle.gateway_state.specs.Places.{row_counts, part_at, read_rows}
use Rattle.gateway_state.specs.Formed.{state_formed}
use Rattle.gateway_state.proofs.Theorems.{formed_slot, free_is_zero}
use Rattle.listing_lines.proofs.Laws.{count_at}
use Rattle.model.specs.Model.{Call, Slot, free, used, slot_in, model_from, said_from}
use Rattle.model.specs.Theorem.{Gateway, gateway_from, seen_from, cell, state_of, rows_held, part, table_of, shown, rows_at, carries_octets, lists_nothing, unused, Sensible, Listable, peer_from, slot_from, slots_from, model_of, FromAnyState}
use Rattle.model.proofs.Represent.{sound, Good}
use Rattle.model.proofs.Simulation.{represent}
use Rattle.model.proofs.Listed.{marked, Marked}
use Rattle.model.proofs.Theorem.{run_from, octets_heed, unlisted_heed, seen_from_lem, rows_read_lem}

-- whole rows, as many as there are threes of numbers
rows_count : (l : List ℕ) (k : ℕ) → length l ≡ 3 * k → length (rows_of l) ≡ k
unfolding rows_of
rows_count [] zero e = refl
rows_count [] (suc k) e = absurd (omega arith)
rows_count (a ∷ []) k e = absurd (omega arith)
rows_count (a ∷ b ∷ []) k e = absurd (omega arith)
rows_count (a ∷ b ∷ c ∷ l) zero e = absurd (omega arith)
rows_count (a ∷ b ∷ c ∷ l) (suc k) e = omega (arith, rows_count l k (omega arith))

flat_back : (l : List ℕ) (k : ℕ) → length l ≡ 3 * k → flat (rows_of l) ≡ l
unfolding rows_of flat
flat_back [] k e = refl
flat_back (a ∷ []) k e = absurd (omega arith)
flat_back (a ∷ b ∷ []) k e = absurd (omega arith)
flat_back (a ∷ b ∷ c ∷ l) zero e = absurd (omega arith)
flat_back (a ∷ b ∷ c ∷ l) (suc k) e = ap (λ (r : List ℕ). a ∷ b ∷ c ∷ r) (flat_back l k (omega arith))

-- what is known of one slot, its part and the rows read off it
record Known (slot : Stored.Slot) (numbers : List ℕ) (rows : List Row) : Type 0 where
  is_free_lem : slot.address ≡ 0 → slot ≡ free_slot
  few : slot.rows ≤ 128
  whole : length numbers ≡ 384
  zeroed : drop (3 * slot.rows) numbers ≡ zeros (384 - 3 * slot.rows)
  read : rows ≡ rows_of (take (3 * slot.rows) numbers)

module _ (slot : Stored.Slot) (numbers : List ℕ) (rows : List Row) (k : Known slot numbers rows) where
  front : length (take (3 * slot.rows) numbers) ≡ 3 * slot.rows
  front = length-take-le (3 * slot.rows) numbers (omega (arith, k.few, k.whole))

  slot_free : slot.address ≡ 0 → slot_from slot rows ≡ free
  unfolding slot_from
  slot_free e = rw e

  slot_used : eqb slot.address 0 ≡ false → slot_from slot rows ≡ used (peer_from slot rows)
  unfolding slot_from
  slot_used e = rw e

  cell_back : cell (slot_from slot rows) ≡ slot
  unfolding cell
  cell_back = go (eqb slot.address 0) refl
    where
      go : (b : Bool) → eqb slot.address 0 ≡ b → cell (slot_from slot rows) ≡ slot
      go true e = ap cell (slot_free (eqb-true slot.address 0 e)) ∙ sym (k.is_free_lem (eqb-true slot.address 0 e))
      go false e =
          let c : length rows ≡ slot.rows = ap length k.read ∙ rows_count (take (3 * slot.rows) numbers) slot.rows front in
          ap cell (slot_used e) ∙ (λ i. record { address = slot.address; asn = slot.asn; neighbour = slot.neighbour; rows = c i; seconds = slot.seconds })

  no_count : slot.address ≡ 0 → slot.rows ≡ 0
  unfolding free_slot
  no_count e = ap (λ (s : Stored.Slot). s.rows) (k.is_free_lem e)

  all_zero_lem : slot.address ≡ 0 → numbers ≡ zeros 384
  all_zero_lem e = rw (no_count e) at k.zeroed

  free_part : part free ≡ zeros 384
  unfolding part rows_held padded flat
  free_part = refl

  used_part : part (used (peer_from slot rows)) ≡ numbers
  unfolding part rows_held padded
  used_part =
      rw (k.read, flat_back (take (3 * slot.rows) numbers) slot.rows front, front, ← k.zeroed) (take-append-drop (3 * slot.rows) numbers)

  part_back : part (slot_from slot rows) ≡ numbers
  part_back = go (eqb slot.address 0) refl
    where
      go : (b : Bool) → eqb slot.address 0 ≡ b → part (slot_from slot rows) ≡ numbers
      go true e = ap part (slot_free (eqb-true slot.address 0 e)) ∙ free_part ∙ sym (all_zero_lem (eqb-true slot.address 0 e))
      go false e = ap part (slot_used e) ∙ used_part

  sound_back : sound (slot_from slot rows) ≡ true
  unfolding sound
  sound_back = go (eqb slot.address 0) refl
    where
      go : (b : Bool) → eqb slot.address 0 ≡ b → sound (slot_from slot rows) ≡ true
      go true e = ap sound (slot_free (eqb-true slot.address 0 e))
      go false e = ap sound (slot_used e) ∙ ap not e

every_below : {A : Type 0} (p : A → Bool) (l : List A) (d : A) → ((i : ℕ) → i < length l → p (get_or l i d) ≡ true) → every p l ≡ true
unfolding every
every_below p [] d h = refl
every_below p (x ∷ xs) d h = rw (h 0 (omega arith)) (every_below p xs d (λ i q. h (suc i) (omega (arith, q))))

-- ---- slot by slot, from index k on

module _ (table counts : List ℕ) where
  abbrev AllKnown : ℕ → List Stored.Slot → Type 0
  AllKnown k slots = (i : ℕ) → i < length slots → Known (get_or slots i free_slot) (part_at table (k + i)) (read_rows table counts (k + i))

  module _ (k : ℕ) (slot : Stored.Slot) (rest : List Stored.Slot) (h : AllKnown k (slot ∷ rest)) where
    known_tail : AllKnown (suc k) rest
    known_tail i l =
        let e : k + suc i ≡ suc k + i = omega arith in
        subst (λ (n : ℕ). Known (get_or rest i free_slot) (part_at table n) (read_rows table counts n)) e (h (suc i) (omega (arith, l)))

    known_head : Known slot (part_at table k) (read_rows table counts k)
    known_head =
        let e : k + 0 ≡ k = omega arith in
        subst (λ (n : ℕ). Known slot (part_at table n) (read_rows table counts n)) e (h 0 (omega arith))

  slots_back : (k : ℕ) (slots : List Stored.Slot) → AllKnown k slots → map cell (slots_from k slots table counts) ≡ slots
  unfolding slots_from
  slots_back k [] h = refl
  slots_back k (slot ∷ rest) h =
      rw (cell_back slot (part_at table k) (read_rows table counts k) (known_head k slot rest h))
      (ap (λ (l : List Stored.Slot). slot ∷ l) (slots_back (suc k) rest (known_tail k slot rest h)))

  -- the parts from index k on are the table from there
  parts_back : (k : ℕ) (slots : List Stored.Slot) → AllKnown k slots → length table ≡ (k + length slots) * 384
      → join (map part (slots_from k slots table counts)) ≡ drop (k * 384) table
  unfolding slots_from join part_at
  parts_back k [] h e = sym (nothing (drop (k * 384) table) (length-drop (k * 384) table ∙ omega (arith, e)))
    where
      nothing : (l : List ℕ) → length l ≡ 0 → l ≡ []
      nothing [] q = refl
      nothing (x ∷ xs) q = absurd (omega arith)
  parts_back k (slot ∷ rest) h e =
      let n : k * 384 + 384 ≡ suc k * 384 = omega arith in
      let d : drop 384 (drop (k * 384) table) ≡ drop (suc k * 384) table = drop-drop 384 (k * 384) table ∙ ap (λ (j : ℕ). drop j table) n in
      rw (part_back slot (part_at table k) (read_rows table counts k) (known_head k slot rest h))
      (ap (λ (l : List ℕ). take 384 (drop (k * 384) table) ++ l) (parts_back (suc k) rest (known_tail k slot rest h) (e ∙ omega arith) ∙ sym d)
      ∙ take-append-drop 384 (drop (k * 384) table))

  sounds_back : (k : ℕ) (slots : List Stored.Slot) → AllKnown k slots → every sound (slots_from k slots table counts) ≡ true
  unfolding slots_from every
  sounds_back k [] h = refl
  sounds_back k (slot ∷ rest) h =
      rw (sound_back slot (part_at table k) (read_rows table counts k) (known_head k slot rest h)) (sounds_back (suc k) rest (known_tail k slot rest h))

module _ (b : Gateway) (s : Sensible b) where
  known_at : (i : ℕ) → i < length b.state.slots → Known (get_or b.state.slots i free_slot) (part_at b.table i) (read_rows b.table (row_counts b.state) i)
  unfolding unused slot_at part_at read_rows
  known_at i h =
      let i8 : i < 8 = omega (arith, h, s.eight) in
      record {
        is_free_lem = λ e. free_is_zero b.state i s.formed e;
        few = (formed_slot b.state i s.formed).1.few;
        whole = length-take-le 384 (drop (i * 384) b.table) (rw (length-drop (i * 384) b.table) (omega (arith, i8, s.long)));
        zeroed = s.zero_unused i i8;
        read = rw (count_at b.state i);
      }

  known : AllKnown b.table (row_counts b.state) 0 b.state.slots
  known i h =
      let e : 0 + i ≡ i = omega arith in
      subst (λ (n : ℕ). Known (get_or b.state.slots i free_slot) (part_at b.table n) (read_rows b.table (row_counts b.state) n)) (sym e) (known_at i h)

  pub state_back : state_of (model_of b) ≡ b.state
  unfolding state_of model_of
  state_back = let e = slots_back b.table (row_counts b.state) 0 b.state.slots known in λ i. record { settings = b.state.settings; slots = e i }

  pub table_back : table_of (model_of b) ≡ b.table
  unfolding table_of model_of
  table_back = parts_back b.table (row_counts b.state) 0 b.state.slots known (omega (arith, s.eight, s.long))

  pub model_back : represent (model_of b) ≡ b
  unfolding represent
  model_back = λ i. record { state = state_back i; table = table_back i }

  eight_back : length (model_of b).slots ≡ 8
  unfolding model_of
  eight_back =
      sym (length-map (slots_from 0 b.state.slots b.table (row_counts b.state)) cell) ∙ ap length (slots_back b.table (row_counts b.state) 0 b.state.slots known) ∙ s.eight

  sounds : every sound (model_of b).slots ≡ true
  unfolding model_of
  sounds = sounds_back b.table (row_counts b.state) 0 b.state.slots known

  pub good_back : Good (model_of b)
  good_back = record { eight = eight_back; each = sounds; formed = ap state_formed state_back ∙ s.formed }

  run_back : (calls : List Call) → gateway_from b calls ≡ represent (model_from (model_of b) calls)
  run_back calls = ap (λ (x : Gateway). gateway_from x calls) (sym model_back) ∙ run_from (model_of b) good_back calls

  back_state : (calls : List Call) → (gateway_from b calls).state ≡ state_of (model_from (model_of b) calls)
  unfolding represent
  back_state calls = ap (λ (x : Gateway). x.state) (run_back calls)

  back_table : (calls : List Call) → (gateway_from b calls).table ≡ table_of (model_from (model_of b) calls)
  unfolding represent
  back_table calls = ap (λ (x : Gateway). x.table) (run_back calls)

  -- the rows read off the table are the model's
  slot_rows_lem : (j : ℕ) → j < 8 → rows_at b j ≡ rows_held (slot_in (model_of b) j)
  unfolding represent
  slot_rows_lem j j8 = ap (λ (x : Gateway). rows_at x j) (sym model_back) ∙ rows_read_lem (model_of b) good_back j j8

  marked_back : Listable b → Marked (model_of b)
  unfolding slot_in marked
  marked_back h = every_below marked (model_of b).slots free (λ j q. let j8 : j < 8 = omega (arith, q, eight_back) in rw (← (slot_rows_lem j j8)) (h j j8))

  back_seen : Listable b → (calls : List Call) → every carries_octets calls ≡ true → seen_from b calls ≡ shown calls (said_from (model_of b) calls)
  back_seen h calls e =
      ap (λ (x : Gateway). seen_from x calls) (sym model_back)
      ∙ seen_from_lem (model_of b) good_back calls (octets_heed (model_of b) good_back (marked_back h) calls e)

  back_unlisted : (calls : List Call) → every lists_nothing calls ≡ true → seen_from b calls ≡ shown calls (said_from (model_of b) calls)
  back_unlisted calls e =
      ap (λ (x : Gateway). seen_from x calls) (sym model_back) ∙ seen_from_lem (model_of b) good_back calls (unlisted_heed (model_of b) good_back calls e)

pub from_any_state : FromAnyState
from_any_state = record { is_state = state_back; is_table = table_back; state = back_state; table = back_table; seen = back_seen; seen_unlisted = back_unlisted }
