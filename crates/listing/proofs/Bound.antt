-- The longest listing. Assumes nothing.
use Prim.Native.Nat.{ℕ, suc, ◌+◌, ◌*◌, ◌%◌, ◌≤◌, ◌<◌}
use native.Mathlib.Nat.{add-zero, zero-add}
use native.Mathlib.Omega.{arith}
use mathlib.Core.Bool.{Bool, true, false, cond}
use mathlib.Core.Path.{◌≡◌, refl, sym, ◌∙◌, ap}
use mathlib.Core.List.{List, [], ◌∷◌, map}
use lib.Dec.{leb, ltb, eqb}
use lib.ListN.{length, get_or, length-append, length-take}
use borrow.Author.Tests.{leb-true, ltb-true, ltb-false}
use Rattle.checks.specs.Lists.{join}
use Rattle.checks.proofs.Laws.{if_ok_holds}
use Rattle.octets.proofs.Buffer.{over_length}
use Rattle.neighbour.specs.Record.{is_up}
use Rattle.nets.specs.Rows.{Row}
use Rattle.update_writing.proofs.Lists.{rows_take}
use Rattle.text.specs.Text.{text, decimal, line}
use Rattle.text.proofs.Laws.{decimal_most, octet_length, word_length, dotted_length}
use Rattle.neighbour.specs.declared.Phase.{Phase}
use Rattle.neighbour.specs.declared.Phase.TheVariants.{Idle, Acquisition, Down, Up, Cease}
use Rattle.neighbour.specs.declared.Mode.{Mode}
use Rattle.neighbour.specs.declared.Mode.TheVariants.{Unset, Active, Passive}
use Rattle.neighbour_seconds.specs.declared.Seconds.{Seconds}
use Rattle.neighbour_seconds.specs.Seconds.{seconds_sum, most_seconds, seconds_formed}
use Rattle.gateway_state.specs.declared.Slot.{Slot}
use Rattle.gateway_state.specs.declared.State.{State}
use Rattle.gateway_state.specs.Slots.{free_slot, slot_at}
use Rattle.gateway_state.specs.Places.{part_at, row_counts, read_rows}
use Rattle.gateway_state.specs.Formed.{state_formed}
use Rattle.gateway_state.specs.Claims.{SlotGood}
use Rattle.gateway_state.specs.Outcomes.{refused_of}
use Rattle.gateway_state.proofs.Theorems.{formed_slot}
use Rattle.gateway_state.specs.declared.Outcome.{Outcome}
use Rattle.gateway_rules.proofs.Checks.{lent_passed}
use Rattle.listing_lines.specs.Lines.{state_word, mode_word, distance_in, side_word, seconds_lines, head_lines, row_lines, row_text, entry_text, listing_text}
use Rattle.listing_lines.specs.Listing.{entry_of, entries_from, entries, listing_checks, listing_outcome, listing_buffer}
use Rattle.listing_lines.proofs.Laws.{count_at}
use Rattle.listing.specs.Claims.{Typed, ShortListing}

line_length : (name value : List ℕ) → length (line name value) ≡ length name + length value + 1
unfolding line
line_length name value = simp length-append (omega arith)

-- ---- rows

side_length : (third : ℕ) → length (side_word third) ≡ 3
unfolding side_word text
side_length third = go (leb 256 third)
  where
    go : (b : Bool) → length (cond b (text "ext") (text "int")) ≡ 3
    go true = refl
    go false = refl

row_length : (row : Row) → length (row_text row) ≤ 57
unfolding row_text row_lines join distance_in text
row_length row =
    let a = dotted_length row.net in
    let b = dotted_length row.gateway in
    let c = octet_length (row.third % 256) (omega arith) in
    let d = side_length row.third in
    simp (length-append, line_length) (omega arith)

rows_length : (rows : List Row) → length (join (map row_text rows)) ≤ 57 * length rows
unfolding join
rows_length [] = omega arith
rows_length (row ∷ rows) = simp length-append (omega (arith, row_length row, rows_length rows))

-- no more rows are read than are counted
read_few : (table counts : List ℕ) (i : ℕ) → length (read_rows table counts i) ≤ get_or counts i 0
unfolding read_rows
read_few table counts i = rw (rows_take (get_or counts i 0) (part_at table i)) (simp length-take (omega arith))

-- ---- slots

-- a tenth digit takes 1,000,000,000 of the sum
count_length : (n : ℕ) → n ≤ most_seconds → 1000000000 * length (decimal n) ≤ 9000000000 + n
count_length n h = go (ltb n 1000000000) refl
  where
    go : (b : Bool) → ltb n 1000000000 ≡ b → 1000000000 * length (decimal n) ≤ 9000000000 + n
    go true e = let k = ltb-true n 1000000000 e in omega (arith, decimal_most 8 n (omega arith))
    go false e = omega (arith, ltb-false n 1000000000 e, decimal_most 9 n (omega arith))

-- so at most four of the five counts have one
seconds_length : (s : Seconds) → seconds_formed s ≡ true → length (join (seconds_lines s)) ≤ 82
unfolding seconds_lines seconds_formed seconds_sum join text
seconds_length s f =
    let h = leb-true (s.idle + s.acquisition + s.down + s.up + s.cease) most_seconds f in
    let a = count_length s.idle (omega arith) in
    let b = count_length s.acquisition (omega arith) in
    let c = count_length s.down (omega arith) in
    let d = count_length s.up (omega arith) in
    let e = count_length s.cease (omega arith) in
    simp (length-append, line_length) (omega arith)

mode_length : (mode : Mode) → length (mode_word mode) ≤ 7
unfolding mode_word text
mode_length Unset = omega arith
mode_length Active = omega arith
mode_length Passive = omega arith

-- outside Up the word may be longer, and there are no rows
state_length : (phase : Phase) (rows : ℕ) → rows ≤ 128 → (is_up phase ≡ false → rows ≡ 0) → length (state_word phase) + 57 * rows ≤ 7298
unfolding state_word text
state_length Idle rows h n = omega (arith, n refl)
state_length Acquisition rows h n = omega (arith, n refl)
state_length Down rows h n = omega (arith, n refl)
state_length Up rows h n = omega arith
state_length Cease rows h n = omega (arith, n refl)

entry_length : (i : ℕ) (slot : Slot) (table counts : List ℕ) → get_or counts i 0 ≡ slot.rows → i < 8 → slot.asn < 65536 → SlotGood slot
    → length (entry_text (entry_of i slot table counts)) ≤ 7446
unfolding entry_text entry_of head_lines join text
entry_length i slot table counts k h a g =
    let u = read_few table counts i in
    let r = rows_length (read_rows table counts i) in
    let s = state_length slot.neighbour.phase slot.rows g.few g.none in
    let m = mode_length slot.neighbour.mode in
    let p = decimal_most 0 i (omega arith) in
    let q = dotted_length slot.address in
    let t = word_length slot.asn a in
    let few : length (read_rows table counts i) < 256 = omega (arith, g.few, k) in
    let v = octet_length (length (read_rows table counts i)) few in
    let w = seconds_length slot.seconds g.seconds in
    simp (length-append, line_length) (omega arith)

-- slots from index i on, whose counts these are
module _ (table counts : List ℕ) where
  entries_length : (i : ℕ) (slots : List Slot) → i + length slots ≤ 8
      → ((j : ℕ) → (get_or counts (i + j) 0 ≡ (get_or slots j free_slot).rows) × ((get_or slots j free_slot).asn < 65536) × SlotGood (get_or slots j free_slot))
      → (length (entries_from i slots table counts) ≤ length slots) × (length (join (map entry_text (entries_from i slots table counts))) ≤ 7446 * length slots)
  unfolding entries_from join
  entries_length i [] h fine = (omega arith, omega arith)
  entries_length i (slot ∷ rest) h fine = go (eqb slot.address 0) (entries_length (suc i) rest (omega arith) (λ j. (ap (λ (k : ℕ). get_or counts k 0) (omega arith) ∙ (fine (suc j)).0, (fine (suc j)).1, (fine (suc j)).2)))
    where
      go : (b : Bool)
          → (length (entries_from (suc i) rest table counts) ≤ length rest) × (length (join (map entry_text (entries_from (suc i) rest table counts))) ≤ 7446 * length rest)
          → (length (cond b (entries_from (suc i) rest table counts) (entry_of i slot table counts ∷ entries_from (suc i) rest table counts)) ≤ suc (length rest))
          × (length (join (map entry_text (cond b (entries_from (suc i) rest table counts) (entry_of i slot table counts ∷ entries_from (suc i) rest table counts)))) ≤ 7446 * suc (length rest))
      go true r = (omega arith, omega arith)
      go false r = (
        omega arith,
        simp length-append (omega (arith, entry_length i slot table counts (ap (λ (k : ℕ). get_or counts k 0) (sym (add-zero i)) ∙ (fine 0).0) (omega arith) (fine 0).1 (fine 0).2)),
      )

-- ---- the whole

text_length : (st : State) (table : List ℕ) → Typed st → state_formed st ≡ true → length (listing_text (entries st table)) ≤ 59581
unfolding listing_text entries text slot_at
text_length st table t f =
    let e = entries_length table (row_counts st) 0 st.slots (omega (arith, t.eight))
    (λ j. (ap (λ (k : ℕ). get_or (row_counts st) k 0) (zero-add j) ∙ count_at st j, t.words j, (formed_slot st j f).1)) in
    let c = decimal_most 0 (length (entries_from 0 st.slots table (row_counts st))) (omega (arith, t.eight)) in
    simp (length-append, line_length) (omega (arith, t.eight))

room_kept : (st : State) (table buffer : List ℕ) → Typed st → length (listing_buffer st table buffer) ≡ length buffer
unfolding listing_buffer listing_checks
room_kept st table buffer t =
    if_ok_holds (listing_checks st table buffer) _ buffer (λ (b : List ℕ). length b ≡ length buffer)
    (λ e.
    let p = lent_passed st _ (leb 65536 (length buffer)) 0 e in
    over_length (listing_text (entries st table)) buffer (omega (arith, text_length st table t p.formed, leb-true 65536 (length buffer) p.octets)))
    refl

pub short : ShortListing
unfolding listing_outcome listing_checks refused_of
short =
    record {
      text = λ st table t f. omega (arith, text_length st table t f);
      reported = λ st table buffer t. if_ok_holds (listing_checks st table buffer) _ _ (λ (o : Outcome). o.first ≤ 59581) (λ e. text_length st table t (lent_passed st _ _ 0 e).formed) (omega arith);
      same = room_kept;
    }
