-- A model in its widths fits the fields of a block and the words of a table. Assumes nothing.
use Prim.Native.Nat.{ℕ, zero, suc, ◌≤◌, ◌<◌}
use native.Mathlib.Omega.{arith}
use mathlib.Core.Path.{◌≡◌, refl}
use mathlib.Core.Bool.{Bool, true, false, cond, not, ◌&&◌, ◌||◌}
use mathlib.Core.List.{List, [], ◌∷◌, ◌++◌, map}
use lib.Dec.{leb, eqb}
use lib.ListN.{length, get_or}
use borrow.Author.Tests.{ltb-true, leb-true, eqb-true}
use Rattle.checks.specs.Lists.{every, join}
use Rattle.checks.proofs.Laws.{and_left, and_right, and_both}
use Rattle.octets_words.proofs.Words.{Words}
use Rattle.nets.specs.Rows.{Row, flat}
use Rattle.update_rows.specs.Storing.{zeros, padded}
use Rattle.neighbour.specs.declared.Phase.{Phase}
use Rattle.neighbour.specs.declared.Phase.TheVariants.{Idle, Acquisition, Down, Up, Cease}
use Rattle.neighbour.specs.declared.Mode.{Mode}
use Rattle.neighbour.specs.declared.Mode.TheVariants.{Unset, Active, Passive}
use Rattle.neighbour.specs.declared.Neighbour.{Neighbour}
use Rattle.neighbour.specs.Record.{under, acquired, phase_number, mode_number, idle}
use Rattle.neighbour_seconds.specs.declared.Seconds.{Seconds}
use Rattle.neighbour_seconds.specs.Seconds.{seconds_in, no_seconds, seconds_sum, most_seconds, seconds_formed}
use Rattle.neighbour_seconds.proofs.Laws.{seconds_laws}
use Rattle.neighbour_wellformed.specs.Formed.{is_unset, within, register_formed, agreed, intervals_formed, cause_formed, well_formed}
use Rattle.neighbour_wellformed.proofs.Formed.{pieces, below_numbers, counts_numbers}
use Rattle.gateway_state.specs.Slots.{free_slot}
use Rattle.gateway_state.specs.Claims.{SlotGood}
use Rattle.gateway_state.proofs.ListLaws.{every_get_or}
use Rattle.model.specs.Model.{Slot, free, used, Model, slot_in}
use Rattle.model.specs.Theorem.{cell, state_of, rows_held, part, table_of}
use Rattle.model.proofs.Represent.{good_at, eight_of}
use Rattle.host_state_block.specs.Layout.{Fit}
use Rattle.host_state_block.specs.Block.{slot_fields, slot_numbers}
use Rattle.host_state_block.specs.Claims.{SlotsFit, StateFits}
use Rattle.host_theorem.proofs.Narrow.{is_word, word_row, Narrow, narrow, narrow_fits, Kept}

-- ---- what a well-formed record bounds

pub phase_small : (p : Phase) → phase_number p ≤ 4
phase_small Idle = omega arith
phase_small Acquisition = omega arith
phase_small Down = omega arith
phase_small Up = omega arith
phase_small Cease = omega arith

pub mode_small : (m : Mode) → mode_number m ≤ 2
mode_small Unset = omega arith
mode_small Active = omega arith
mode_small Passive = omega arith

module _ (n : Neighbour) where
  register_below : register_formed n ≡ true → (n.register ≤ 15) × (n.heard ≤ 1)
  unfolding register_formed
  register_below h =
      let a = leb n.register 15 in
      let b = leb n.heard 1 in
      let k = and_left (a && b) (acquired n.phase || (eqb n.register 0 && eqb n.heard 0)) h in
      (leb-true n.register 15 (and_left a b k), leb-true n.heard 1 (and_right a b k))

  agreed_below : agreed n ≡ true → (n.period1 ≤ 122) × (n.period2 ≤ 482)
  unfolding agreed
  agreed_below h =
      let a = within 32 122 n.period1 in
      let b = within 122 482 n.period2 in
      let k = and_left (a && b) (not (is_unset n.mode)) h in (
        leb-true n.period1 122 (and_right (leb 32 n.period1) (leb n.period1 122) (and_left a b k)),
        leb-true n.period2 482 (and_right (leb 122 n.period2) (leb n.period2 482) (and_right a b k)),
      )

  intervals_below : intervals_formed n ≡ true → (n.period1 ≤ 122) × (n.period2 ≤ 482)
  unfolding intervals_formed
  intervals_below h = go (acquired n.phase) h
    where
      go : (b : Bool) → cond b (agreed n) (eqb n.period1 0 && eqb n.period2 0 && is_unset n.mode) ≡ true → (n.period1 ≤ 122) × (n.period2 ≤ 482)
      go true e = agreed_below e
      go false e =
          let a = eqb n.period1 0 in
          let b = eqb n.period2 0 in
          let k = and_left (a && b) (is_unset n.mode) e in
          let p = eqb-true n.period1 0 (and_left a b k) in
          let q = eqb-true n.period2 0 (and_right a b k) in
          omega arith

  cause_below : cause_formed n ≡ true → n.cause ≤ 6
  unfolding cause_formed under
  cause_below h = go n.phase h
    where
      none : eqb n.cause 0 ≡ true → n.cause ≤ 6
      none e = let z = eqb-true n.cause 0 e in omega arith

      either : (b : Bool) → eqb n.cause 5 ≡ b → (b || eqb n.cause 6) ≡ true → n.cause ≤ 6
      either true z e = let k = eqb-true n.cause 5 z in omega arith
      either false z e = let k = eqb-true n.cause 6 e in omega arith

      go : (p : Phase)
          → under p (eqb n.cause 0) (eqb n.cause 0) (eqb n.cause 0) (eqb n.cause 0) (eqb n.cause 5 || eqb n.cause 6) ≡ true
          → n.cause ≤ 6
      go Idle e = none e
      go Acquisition e = none e
      go Down e = none e
      go Up e = none e
      go Cease e = either (eqb n.cause 5) refl e

-- ---- the fields of a slot

-- 02: "with a sum of at most 4,294,967,295": so each of the five is of 32 bits
seconds_below : (s : Seconds) → seconds_formed s ≡ true → (p : Phase) → seconds_in p s < 4294967296
unfolding seconds_formed
seconds_below s f p = omega (arith, seconds_laws.below p s, leb-true (seconds_sum s) most_seconds f)

fields_fit : (address asn : ℕ) (n : Neighbour) (rows : ℕ) (z : Seconds) → address < 4294967296 → asn < 65536 → Narrow n → well_formed n ≡ true → rows ≤ 128
    → seconds_formed z ≡ true → Fit slot_fields (slot_numbers (record { address = address; asn = asn; neighbour = n; rows = rows; seconds = z }))
unfolding slot_numbers seconds_in
fields_fit address asn n rows z a b f h few k =
    let p = pieces n h in
    let t = below_numbers n p.below in
    let g = register_below n p.registers in
    let v = intervals_below n p.intervals in
    let c = cause_below n p.causes in
    let d = counts_numbers n p.counts in
    let s = f.s16 in
    let r = f.r16 in
    let x = phase_small n.phase in
    let y = mode_small n.mode in
    let z1 : z.idle < 4294967296 = seconds_below z k Idle in
    let z2 : z.acquisition < 4294967296 = seconds_below z k Acquisition in
    let z3 : z.down < 4294967296 = seconds_below z k Down in
    let z4 : z.up < 4294967296 = seconds_below z k Up in
    let z5 : z.cease < 4294967296 = seconds_below z k Cease in
    omega arith

cell_fits : (slot : Slot) → SlotGood (cell slot) → narrow slot ≡ true → Fit slot_fields (slot_numbers (cell slot))
unfolding cell free_slot idle
cell_fits free k e =
    fields_fit 0 0 idle 0 no_seconds (omega arith) (omega arith) (record { s16 = omega arith; r16 = omega arith }) k.neighbour (omega arith)
    k.seconds
cell_fits (used p) k e =
    let f = narrow_fits p e in
    fields_fit p.address p.asn p.neighbour (length p.rows) p.seconds f.address32 f.asn16 f.numbers k.neighbour k.few
    k.seconds

cells_fit : (l : List Slot) → ((i : ℕ) → SlotGood (cell (get_or l i free))) → every narrow l ≡ true → SlotsFit (map cell l)
unfolding every
cells_fit [] k e = tt
cells_fit (slot ∷ rest) k e = (
  cell_fits slot (k 0) (and_left (narrow slot) (every narrow rest) e),
  cells_fit rest (λ i. k (suc i)) (and_right (narrow slot) (every narrow rest) e),
)

module _ (m : Model) (k : Kept m) where
  pub state_fits : StateFits (state_of m)
  unfolding state_of slot_in
  state_fits = record { eight = eight_of m k.ok; own = k.own; slots = cells_fit m.slots (good_at m k.ok) k.each }

-- ---- the words of the table

words_append : (xs ys : List ℕ) → every is_word xs ≡ true → every is_word ys ≡ true → every is_word (xs ++ ys) ≡ true
unfolding every
words_append [] ys e f = f
words_append (x ∷ xs) ys e f =
    and_both (is_word x) (every is_word (xs ++ ys)) (and_left (is_word x) (every is_word xs) e) (words_append xs ys (and_right (is_word x) (every is_word xs) e) f)

words_zeros : (n : ℕ) → every is_word (zeros n) ≡ true
unfolding every zeros
words_zeros zero = refl
words_zeros (suc n) = words_zeros n

words_flat : (rows : List Row) → every word_row rows ≡ true → every is_word (flat rows) ≡ true
unfolding every flat word_row
words_flat [] e = refl
words_flat (row ∷ rest) e =
    let r = and_left (word_row row) (every word_row rest) e in
    let ab = and_left (is_word row.net && is_word row.gateway) (is_word row.third) r in
    rw (
      and_left (is_word row.net) (is_word row.gateway) ab,
      and_right (is_word row.net) (is_word row.gateway) ab,
      and_right (is_word row.net && is_word row.gateway) (is_word row.third) r,
    )
    (words_flat rest (and_right (word_row row) (every word_row rest) e))

held_words : (slot : Slot) → narrow slot ≡ true → every word_row (rows_held slot) ≡ true
unfolding rows_held every
held_words free e = refl
held_words (used p) e = (narrow_fits p e).rows32

part_words : (slot : Slot) → narrow slot ≡ true → every is_word (part slot) ≡ true
unfolding part padded
part_words slot e = words_append (flat (rows_held slot)) _ (words_flat (rows_held slot) (held_words slot e)) (words_zeros _)

parts_words : (l : List Slot) → every narrow l ≡ true → every is_word (join (map part l)) ≡ true
unfolding every join
parts_words [] e = refl
parts_words (slot ∷ rest) e =
    words_append (part slot) (join (map part rest)) (part_words slot (and_left (narrow slot) (every narrow rest) e))
    (parts_words rest (and_right (narrow slot) (every narrow rest) e))

pub table_words : (m : Model) → Kept m → Words (table_of m)
unfolding table_of
table_words m k i = ltb-true (get_or (table_of m) i 0) 4294967296 (every_get_or is_word (table_of m) i 0 (parts_words m.slots k.each) refl)
