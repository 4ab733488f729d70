-- A call about one neighbour leaves the others. Assumes nothing.
use Prim.Native.Nat.{ℕ, ◌≤◌, ◌<◌}
use native.Mathlib.Omega.{arith}
use mathlib.Core.Path.{◌≡◌, refl, sym, ◌∙◌, ap}
use mathlib.Core.List.{List, [], map}
use lib.ListN.{length, get_or, set, get_or-map}
use lib.Seq.{map-set_same, get_or-set_other}
use Rattle.checks.proofs.Laws.{if_ok_holds}
use Rattle.nets.specs.Rows.{Row, flat, rows_of}
use Rattle.update_walk.proofs.Accepted.{accepted_is}
use Rattle.update_rows.specs.Storing.{padded}
use Rattle.update_rows.proofs.Laws.{flat_length, padded_length}
use Rattle.neighbour_machine.specs.Intrinsics.{Intrinsic, as_event}
use Rattle.gateway_state.specs.declared.Slot.{Slot}
use Rattle.gateway_state.specs.declared.State.{State}
use Rattle.gateway_state.specs.Slots.{newcomer, free_slot, slot_at, with_slot, slot_of, lowest_free}
use Rattle.gateway_state.specs.Places.{row_count, row_counts, part_at, read_rows, write_rows}
use Rattle.gateway_state.specs.Outcomes.{refused_of, silent_of}
use Rattle.gateway_state.proofs.ListLaws.{map_set}
use Rattle.gateway_state.proofs.Theorems.{other_slots, slot_stays}
use Rattle.gateway_slots.specs.Calls.{add_answer, add_of, remove_answer, remove_of}
use Rattle.gateway_rules.specs.Ruling.{Change, keep, clear, replace, Ruling}
use Rattle.gateway_rules.specs.Carried.{table_after, slot_after, outcome_after}
use Rattle.gateway_rules.specs.Calls.{event_checks, message_checks, update_room, event_ruling, message_ruling, event_outcome, event_table, message_outcome, message_table}
use Rattle.gateway_rules.proofs.Rulings.{Backed, stepped_backed, receive_backed}
use Rattle.gateway_rules.proofs.Seconds.{booked_address, booked_asn}
use Rattle.gateway_rules.proofs.Checks.{Passed, event_passed, message_passed}
use Rattle.gateway_theorems.specs.Claims.{Untouched, OthersUntouched}
use Rattle.gateway_theorems.proofs.Calls.{call_holds}
use Rattle.gateway_theorems.proofs.Parts.{part_laws, place_laws}

-- the rows that a ruling stores are no more than a slot has
unfoldable Few : Change → Type 0
Few keep = Unit {0}
Few clear = Unit {0}
Few (replace rows) = length rows ≤ 128

backed_few : (net : ℕ) (o : List ℕ) (change : Change) → Backed 128 net o change → Few change
unfolding Backed Few
backed_few net o keep b = tt
backed_few net o clear b = tt
backed_few net o (replace rows) b = (accepted_is 128 net o rows b).fits

padded_long : (rows : List Row) → length rows ≤ 128 → length (padded 384 (flat rows)) ≡ 384
padded_long rows h = padded_length 384 (flat rows) (omega (arith, flat_length rows))

-- the table, whatever becomes of slot i's rows
record TableParts (table₀ : List ℕ) (i : ℕ) (table₁ : List ℕ) : Type 0 where
  parts : (j : ℕ) → (j ≡ i → ⊥) → part_at table₁ j ≡ part_at table₀ j
  long : length table₁ ≡ length table₀

written_parts : (table counts : List ℕ) (i : ℕ) (rows : List Row) → length table ≡ 3072 → i < 8 → length rows ≤ 128 → TableParts table i (write_rows table counts i rows)
unfolding write_rows
written_parts table counts i rows t h r =
    let l = part_laws table (padded 384 (flat rows)) i t (padded_long rows r) h in record { parts = l.others; long = l.long }

table_parts : (table counts : List ℕ) (i : ℕ) (change : Change) → length table ≡ 3072 → i < 8 → Few change → TableParts table i (table_after table counts i change)
unfolding table_after Few
table_parts table counts i keep t h r = record { parts = λ j n. refl; long = refl }
table_parts table counts i clear t h r = written_parts table counts i [] t h (omega arith)
table_parts table counts i (replace rows) t h r = written_parts table counts i rows t h r

settings_stay : (st : State) (i : ℕ) (slot : Slot) → (with_slot st i slot).settings ≡ st.settings
unfolding with_slot
settings_stay st i slot = refl

address_stays : (slot : Slot) (v : Ruling) → (slot_after slot v).address ≡ slot.address
unfolding slot_after
address_stays slot v = refl

asn_stays : (slot : Slot) (v : Ruling) → (slot_after slot v).asn ≡ slot.asn
unfolding slot_after
asn_stays slot v = refl

-- what a slot that is written has in common with the one before it, every slot has
field_stays : (f : Slot → ℕ) (st : State) (i : ℕ) (slot : Slot) → f slot ≡ f (slot_at st i) → (j : ℕ) → f (slot_at (with_slot st i slot) j) ≡ f (slot_at st j)
unfolding slot_at with_slot
field_stays f st i slot e j =
    sym (get_or-map f (set st.slots i slot) j free_slot)
    ∙ ap (λ (l : List ℕ). get_or l j (f free_slot)) (map-set_same f st.slots i slot free_slot e)
    ∙ get_or-map f st.slots j free_slot

-- the count of another slot's rows
count_stays : (st : State) (i j : ℕ) (slot : Slot) → (j ≡ i → ⊥) → get_or (row_counts (with_slot st i slot)) j 0 ≡ get_or (row_counts st) j 0
unfolding row_counts with_slot
count_stays st i j slot n = rw (map_set row_count st.slots i slot) (get_or-set_other (map row_count st.slots) i j slot.rows 0 n)

rows_stay : (st : State) (table₀ table₁ : List ℕ) (i j : ℕ) (slot : Slot) → (j ≡ i → ⊥) → part_at table₁ j ≡ part_at table₀ j
    → read_rows table₁ (row_counts (with_slot st i slot)) j ≡ read_rows table₀ (row_counts st) j
unfolding read_rows
rows_stay st table₀ table₁ i j slot n e = rw (count_stays st i j slot n, e)

-- whatever the ruling, with the slot's address and AS
module _ (st : State) (table buffer : List ℕ) (a : ℕ) (slot : Slot) (address : slot.address ≡ (slot_at st (slot_of st a)).address)
    (asn : slot.asn ≡ (slot_at st (slot_of st a)).asn) (v : Ruling) (home : List Row) where
  carried_untouched : Passed st table buffer a → Few v.change
      → Untouched st table (slot_of st a) (outcome_after st (slot_of st a) slot v home).state (table_after table (row_counts st) (slot_of st a) v.change)
  unfolding outcome_after
  carried_untouched p r =
      let i = slot_of st a in
      let t = table_parts table (row_counts st) i v.change p.long p.found r in
      record {
        slots = λ j n. other_slots st i j (slot_after slot v) n;
        rows = λ j n. rows_stay st table _ i j (slot_after slot v) n (t.parts j n);
        parts = t.parts;
        settings = settings_stay st i (slot_after slot v);
        addresses = field_stays (λ s. s.address) st i (slot_after slot v) (address_stays slot v ∙ address);
        asns = field_stays (λ s. s.asn) st i (slot_after slot v) (asn_stays slot v ∙ asn);
        found = λ b. slot_stays st i (slot_after slot v) b (address_stays slot v ∙ address);
        long = t.long;
      }

untouched : (st : State) (table : List ℕ) (i : ℕ) → Untouched st table i st table
untouched st table i =
    record { slots = λ j n. refl; rows = λ j n. refl; parts = λ j n. refl; settings = refl; addresses = λ j. refl; asns = λ j. refl; found = λ b. refl; long = refl }

event_few : (event : Intrinsic) (st : State) (a : ℕ) → Few (event_ruling event st a).change
unfolding event_ruling
event_few event st a = backed_few st.settings.net [] _ (stepped_backed 128 st.settings.net [] _ _)

message_few : (st : State) (a : ℕ) (o : List ℕ) → Few (message_ruling st a o).change
unfolding message_ruling update_room
message_few st a o = backed_few st.settings.net o _ (receive_backed 128 st.settings _ _ o)

event_untouched : (event : Intrinsic) (st : State) (table buffer : List ℕ) (a : ℕ)
    → Untouched st table (slot_of st a) (event_outcome event st table buffer a).state (event_table event st table buffer a)
unfolding event_outcome event_table refused_of
event_untouched event st table buffer a =
    call_holds (λ r t b. Untouched st table (slot_of st a) r.state t) (event_checks event st table buffer a) _ _ _ _ buffer buffer
    (λ z. carried_untouched st table buffer a _ (booked_address (as_event event) _) (booked_asn (as_event event) _) (event_ruling event st a) [] (event_passed st table buffer a event z) (event_few event st a)) (λ _. untouched st table (slot_of st a))

message_untouched : (st : State) (table buffer home : List ℕ) (a : ℕ) (o : List ℕ)
    → Untouched st table (slot_of st a) (message_outcome st table buffer home a o).state (message_table st table buffer home a o)
unfolding message_outcome message_table refused_of
message_untouched st table buffer home a o =
    call_holds (λ r t b. Untouched st table (slot_of st a) r.state t) (message_checks st table buffer home a) _ _ _ _ buffer buffer
    (λ z. carried_untouched st table buffer a _ refl refl (message_ruling st a o) (rows_of home) (message_passed st table buffer a home z).0 (message_few st a o)) (λ _. untouched st table (slot_of st a))

-- a call that never replies
silent_others : (answer : ℕ) (st : State) (i : ℕ) (slot : Slot) (j : ℕ) → (j ≡ i → ⊥) → slot_at (silent_of answer (with_slot st i slot) st).state j ≡ slot_at st j
unfolding silent_of
silent_others answer st i slot j n =
    if_ok_holds answer (with_slot st i slot) st (λ s. slot_at s j ≡ slot_at st j) (λ _. other_slots st i j slot n) refl

add_others : (st : State) (address asn j : ℕ) → (j ≡ lowest_free st → ⊥) → slot_at (add_of st address asn).state j ≡ slot_at st j
unfolding add_of
add_others st address asn j n = silent_others (add_answer st address asn) st (lowest_free st) (newcomer address asn) j n

remove_others : (st : State) (address j : ℕ) → (j ≡ slot_of st address → ⊥) → slot_at (remove_of st address).state j ≡ slot_at st j
unfolding remove_of
remove_others st address j n = silent_others (remove_answer st address) st (slot_of st address) free_slot j n

pub others_untouched : OthersUntouched
others_untouched = record { law = part_laws; places = place_laws; events = event_untouched; messages = message_untouched; add = add_others; remove = remove_others }
