-- A model shown as state and table: look-up, slots and parts. Assumes nothing.
use Prim.Native.Nat.{ℕ, suc, ◌*◌, ◌-◌, ◌≤◌, ◌<◌}
use native.Mathlib.Omega.{arith}
use mathlib.Core.Path.{◌≡◌, refl, sym, ◌∙◌, ap}
use mathlib.Core.Bool.{Bool, true, false, not, false≢true}
use mathlib.Core.List.{List, [], ◌∷◌, map}
use lib.Dec.{eqb}
use lib.ListN.{length, take, get_or, length-map, get_or-map}
use lib.Seq.{take_at, map-set_same}
use borrow.Author.Tests.{eq-eqb, eqb-true, eqb-false, not-true}
use Rattle.checks.specs.Lists.{first, every, join}
use Rattle.nets.specs.Rows.{Row, rows_of, flat}
use Rattle.update_rows.specs.Storing.{zeros, padded}
use Rattle.update_rows.proofs.Laws.{flat_length, padded_length}
use Rattle.gateway_state.specs.declared.Slot as Stored
use Rattle.gateway_state.specs.Places.{row_count, row_counts, part_at, with_part, read_rows}
use Rattle.gateway_state.specs.Slots.{free_slot, slot_at, with_slot, address_of, addresses, clash, slot_of, is_none, lowest_free}
use Rattle.gateway_state.specs.Formed.{state_formed}
use Rattle.gateway_state.specs.Claims.{SlotGood}
use Rattle.gateway_state.proofs.ListLaws.{every_get_or, map_set}
use Rattle.gateway_state.proofs.SlotLaws.{clash_is, clash_not, clash_zero}
use Rattle.gateway_state.proofs.Theorems.{formed_slot}
use Rattle.gateway_theorems.specs.Claims.{FormedState}
use Rattle.listing_lines.proofs.Laws.{count_at}
use Rattle.model.specs.Model.{Slot, free, used, Model, slot_in, put, is_free, has_address, found_at, vacancy, Peer}
use Rattle.model.specs.Theorem.{cell, state_of, rows_held, part, table_of}
use Rattle.model.proofs.Lists.{first_map, map_map, is_part, join_length, join_put, join_part}

-- a used slot has an address
unfoldable pub sound : Slot → Bool
sound free = true
sound (used peer) = not (eqb peer.address 0)

-- a model of eight slots, shown as a well-formed state
pub record Good (m : Model) : Type 0 where
  pub eight : length m.slots ≡ 8
  pub each : every sound m.slots ≡ true
  pub formed : state_formed (state_of m) ≡ true

clash_address : (a : ℕ) (slot : Slot) → sound slot ≡ true → clash a (cell slot).address ≡ has_address a slot
unfolding cell has_address sound free_slot
clash_address a free s = go (eqb a 0) refl
  where
    go : (b : Bool) → eqb a 0 ≡ b → clash a 0 ≡ false
    go true e = clash_zero a 0 (eqb-true a 0 e)
    go false e = clash_not a 0 (eqb-false a 0 e)
clash_address a (used peer) s = go (eqb peer.address a) refl
  where
    go : (b : Bool) → eqb peer.address a ≡ b → clash a peer.address ≡ b
    go true e = clash_is a peer.address (λ z. eqb-false peer.address 0 (not-true (eqb peer.address 0) s) (eqb-true peer.address a e ∙ z)) (sym (eqb-true peer.address a e))
    go false e = clash_not a peer.address (λ q. eqb-false peer.address a e (sym q))

none_free : (slot : Slot) → sound slot ≡ true → is_none (cell slot).address ≡ is_free slot
unfolding cell is_free sound free_slot
none_free free s = refl
none_free (used peer) s = not-true (eqb peer.address 0) s

-- a slot that has the address looked for is a used one
pub used_at : (P : Slot → Type 0) (a : ℕ) → ((peer : Peer) → P (used peer))
    → (slot : Slot) → has_address a slot ≡ true → P slot
unfolding has_address
used_at P a h free e = absurd (false≢true e)
used_at P a h (used peer) e = h peer

part_long : (slot : Slot) → (cell slot).rows ≤ 128 → length (part slot) ≡ 384
unfolding cell part rows_held free_slot
part_long free h = padded_length 384 (flat []) (omega (arith, flat_length []))
part_long (used peer) h = padded_length 384 (flat peer.rows) (omega (arith, flat_length peer.rows))

rows_flat : (rows : List Row) → rows_of (flat rows) ≡ rows
unfolding rows_of flat
rows_flat [] = refl
rows_flat (r ∷ rest) = ap (λ (l : List Row). r ∷ l) (rows_flat rest)

-- the rows of a slot, read off its part by its count
read_back : (slot : Slot) → rows_of (take (3 * (cell slot).rows) (part slot)) ≡ rows_held slot
unfolding cell part rows_held padded free_slot rows_of
read_back free = refl
read_back (used peer) = ap rows_of (take_at (flat peer.rows) (zeros (384 - length (flat peer.rows))) (3 * length peer.rows) (flat_length peer.rows)) ∙ rows_flat peer.rows

module _ (m : Model) (ok : Good m) where
  addresses_of : addresses (state_of m) ≡ map (λ slot. (cell slot).address) m.slots
  unfolding addresses state_of
  addresses_of = map_map cell address_of m.slots

  pub slot_of_lem : (a : ℕ) → slot_of (state_of m) a ≡ found_at m a
  unfolding slot_of found_at
  slot_of_lem a =
      ap (first (clash a)) addresses_of
      ∙ first_map (clash a) (has_address a) (λ slot. (cell slot).address) sound (clash_address a) m.slots ok.each

  pub lowest_of : lowest_free (state_of m) ≡ vacancy m
  unfolding lowest_free vacancy
  lowest_of =
      ap (first is_none) addresses_of
      ∙ first_map is_none is_free (λ slot. (cell slot).address) sound none_free m.slots ok.each

  pub at_of : (i : ℕ) → slot_at (state_of m) i ≡ cell (slot_in m i)
  unfolding slot_at state_of slot_in cell
  at_of i = get_or-map cell m.slots i free

  pub count_of : (i : ℕ) → get_or (row_counts (state_of m)) i 0 ≡ (cell (slot_in m i)).rows
  count_of i = count_at (state_of m) i ∙ ap row_count (at_of i)

  pub eight_of : length (state_of m).slots ≡ 8
  unfolding state_of
  eight_of = length-map m.slots cell ∙ ok.eight

  pub state_ok : FormedState (state_of m)
  state_ok = record { formed = ok.formed; eight = eight_of }

  pub good_at : (i : ℕ) → SlotGood (cell (slot_in m i))
  good_at i = rw (← (at_of i)) (formed_slot (state_of m) i ok.formed).1

  pub sound_at : (i : ℕ) → sound (slot_in m i) ≡ true
  unfolding slot_in sound
  sound_at i = every_get_or sound m.slots i free ok.each refl

  pub state_with : (i : ℕ) (slot : Slot) → state_of (put m i slot) ≡ with_slot (state_of m) i (cell slot)
  unfolding state_of put with_slot
  state_with i slot = ap (λ (l : List Stored.Slot). record { settings = m.settings; slots = l }) (map_set cell m.slots i slot)

-- each slot's part is whole where no slot has more than 128 rows
parts_whole : (l : List Slot) → ((i : ℕ) → (cell (get_or l i free)).rows ≤ 128) → every is_part (map part l) ≡ true
unfolding every
parts_whole [] h = refl
parts_whole (x ∷ xs) h = rw (eq-eqb (length (part x)) 384 (part_long x (h 0))) (parts_whole xs (λ i. h (suc i)))

module _ (m : Model) (ok : Good m) where
  whole_parts : every is_part (map part m.slots) ≡ true
  unfolding slot_in
  whole_parts = parts_whole m.slots (λ i. (good_at m ok i).few)

  eight_parts : length (map part m.slots) ≡ 8
  eight_parts = length-map m.slots part ∙ ok.eight

  pub table_length : length (table_of m) ≡ 3072
  unfolding table_of
  table_length = join_length (map part m.slots) whole_parts ∙ omega (arith, eight_parts)

  pub part_of : (j : ℕ) → j < 8 → part_at (table_of m) j ≡ part (slot_in m j)
  unfolding table_of slot_in
  part_of j h = join_part (map part m.slots) j (part free) whole_parts (omega (arith, eight_parts)) ∙ get_or-map part m.slots j free

  -- the rows read off the table are those held
  pub read_of : (j : ℕ) → j < 8 → read_rows (table_of m) (row_counts (state_of m)) j ≡ rows_held (slot_in m j)
  unfolding read_rows
  read_of j h = rw (count_of m ok j, part_of j h) (read_back (slot_in m j))

  pub table_with : (i : ℕ) (slot : Slot) → i < 8 → table_of (put m i slot) ≡ with_part (table_of m) i (part slot)
  unfolding table_of put
  table_with i slot h =
      ap join (map_set part m.slots i slot) ∙ sym (join_put (map part m.slots) i (part slot) whole_parts (omega (arith, eight_parts)))

  pub table_same : (i : ℕ) (slot : Slot) → part slot ≡ part (slot_in m i) → table_of (put m i slot) ≡ table_of m
  unfolding table_of put slot_in
  table_same i slot e = ap join (map-set_same part m.slots i slot free e)
