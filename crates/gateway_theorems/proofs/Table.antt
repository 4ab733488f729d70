-- What writes the table: leaving Up, and an accepted Update. Assumes nothing.
use Prim.Native.Nat.{ℕ, ◌<◌}
use native.Mathlib.Omega.{arith}
use mathlib.Core.Path.{◌≡◌, refl, sym, ◌∙◌, ap}
use mathlib.Core.Bool.{Bool, true, false, cond, ◌&&◌, true≢false}
use mathlib.Core.List.{List, []}
use lib.ListN.{length}
use Rattle.std.specs.Prelude.{Result, Ok}
use Rattle.checks.specs.declared.Refusal.{Refusal}
use Rattle.checks.proofs.Laws.{and_left, and_right}
use Rattle.neighbour.specs.Record.{is_up}
use Rattle.nets.specs.Rows.{Row, rows_of}
use Rattle.message.specs.Kinds.{kind_of}
use Rattle.message.specs.declared.Kind.TheVariants as K
use Rattle.message.specs.declared.Message.{Message}
use Rattle.message_reading.specs.Reading.{kind_in, decode_of}
use Rattle.update_walk.specs.Body.{update_of, rows_read}
use Rattle.neighbour.specs.declared.Phase.{Phase}
use Rattle.neighbour.specs.declared.Settings.{Settings}
use Rattle.neighbour.specs.declared.Neighbour.{Neighbour}
use Rattle.neighbour.specs.Rules.{same}
use Rattle.neighbour_machine.specs.Intrinsics.{Intrinsic}
use Rattle.neighbour_machine.specs.declared.Reply.{Reply}
use Rattle.gateway_state.specs.declared.Slot.{Slot}
use Rattle.gateway_state.specs.declared.State.{State}
use Rattle.gateway_state.specs.Slots.{slot_at, with_slot, slot_of}
use Rattle.gateway_state.specs.Places.{row_counts}
use Rattle.gateway_state.specs.Outcomes.{refused_of}
use Rattle.gateway_state.proofs.Theorems.{written_slot}
use Rattle.gateway_rules.specs.Number.{brings_rows, named_reply}
use Rattle.gateway_rules.specs.Ruling.{keep, clear, replace, Ruling, leaving, stepped, refuses, taken_step, change_by, carried_out, receive_ruling}
use Rattle.gateway_rules.specs.Carried.{table_after, slot_after, outcome_after}
use Rattle.gateway_rules.specs.Calls.{event_checks, message_checks, update_room, event_ruling, message_ruling, event_outcome, event_table, message_outcome, message_table}
use Rattle.gateway_rules.proofs.Number.{NumberPassed, number_passed}
use Rattle.gateway_rules.proofs.Rulings.{receive_holds}
use Rattle.gateway_rules.proofs.Checks.{event_passed, message_passed}
use Rattle.gateway_theorems.specs.Claims.{neighbour_of, is_up_in, decodes_update, TableWrites, TableKept}
use Rattle.gateway_theorems.proofs.Calls.{after_up, call_holds}

-- the same of a ruling's change, before it is carried out
pub record Writes (before : Phase) (update : Bool) (rows : List Row) (v : Ruling) : Type 0 where
  pub kept : is_up before ≡ false → v.change ≡ keep
  pub stayed : is_up v.neighbour.phase ≡ true → update ≡ false → v.change ≡ keep
  pub cleared : v.answer ≡ 0 → is_up before ≡ true → is_up v.neighbour.phase ≡ false → v.change ≡ clear
  pub put : v.answer ≡ 0 → is_up before ≡ true → update ≡ true → v.change ≡ replace rows

refuses_writes : (n : Neighbour) (update : Bool) (rows : List Row) (k : ℕ) (reply : Reply) → (k ≡ 0 → ⊥) → Writes n.phase update rows (refuses n k reply)
unfolding refuses
refuses_writes n update rows k reply z =
    record { kept = λ _. refl; stayed = λ _ _. refl; cleared = λ e _ _. absurd (z e); put = λ e _ _. absurd (z e) }

-- leaving Up or not, where no rows are brought
leaving_stays : (before now : Phase) → is_up now ≡ true → leaving before now ≡ keep
unfolding leaving
leaving_stays before now e = rw e (stays (is_up before))
  where
    stays : (b : Bool) → cond (b && false) clear keep ≡ keep
    stays true = refl
    stays false = refl

-- rows that are brought replace the neighbour's, which stays Up; else it leaves Up or not
module _ (n : Neighbour) (answer : ℕ) (reply : Reply) (after : Neighbour) (update : Bool) (rows : List Row) where
  abbrev changed : Bool → Ruling
  changed brings = record { answer = answer; reply = reply; neighbour = after; change = cond brings (replace rows) (leaving n.phase after.phase) }

  brought_writes : (update && is_up n.phase) ≡ true → is_up after.phase ≡ true → Writes n.phase update rows (changed true)
  brought_writes b up =
      record {
        kept = λ e. absurd (true≢false (sym (and_right update (is_up n.phase) b) ∙ e));
        stayed = λ _ e. absurd (true≢false (sym (and_left update (is_up n.phase) b) ∙ e));
        cleared = λ _ _ e. absurd (true≢false (sym up ∙ e));
        put = λ _ _ _. refl;
      }

  left_writes : (update && is_up n.phase) ≡ false → Writes n.phase update rows (changed false)
  unfolding leaving
  left_writes k =
      record {
        kept = λ e. rw e;
        stayed = λ e _. leaving_stays n.phase after.phase e;
        cleared = λ _ e f. rw (e, f);
        put = λ _ e f. absurd (true≢false (rw (f, e) at k));
      }

  change_writes : (brings : Bool) → brings ≡ (update && is_up n.phase) → (brings ≡ true → is_up after.phase ≡ true) → Writes n.phase update rows (changed brings)
  change_writes true e up = brought_writes (sym e) (up refl)
  change_writes false e up = left_writes (sym e)

-- whether the kind stage found an Update is whether the message is one
update_is : (d : Result Message Refusal) (m : Message) → d ≡ Ok m → decodes_update d ≡ same (kind_of m) K.Update
unfolding decodes_update
update_is d m e = rw e

module _ (g : Settings) (asn : ℕ) (n : Neighbour) (o : List ℕ) where
  carried_changes : (p : NumberPassed 128 g asn n o)
      → Writes n.phase (decodes_update (decode_of o)) (rows_read (update_of 128 g.net o)) (carried_out 128 g n o (taken_step g asn n o (decode_of o)))
  unfolding carried_out change_by taken_step
  carried_changes p =
      let u = update_is (decode_of o) p.message p.read in
      change_writes n 0 _ _ _ _ (brings_rows n.phase (kind_in o)) (rw u p.brings) (λ b. rw p.read (after_up g asn n o p.message (sym p.brings ∙ b)))

  pub receive_writes : Writes n.phase (decodes_update (decode_of o)) (rows_read (update_of 128 g.net o)) (receive_ruling 128 g asn n o)
  receive_writes =
      receive_holds 128 g asn n o (Writes n.phase (decodes_update (decode_of o)) (rows_read (update_of 128 g.net o)))
      (λ k z e. refuses_writes n _ _ k (named_reply g n o k) z)
      (λ e. carried_changes (number_passed 128 g asn n o e))

-- ---- carried out

module _ (st : State) (table : List ℕ) (i : ℕ) (slot : Slot) (update : Bool) (v : Ruling) (home rows : List Row) (h : i < length st.slots) where
  carried_writes : Writes (slot_at st i).neighbour.phase update rows v
      → TableWrites st table i update rows (outcome_after st i slot v home) (table_after table (row_counts st) i v.change)
  unfolding outcome_after slot_after table_after
  carried_writes w =
      let p : is_up_in (with_slot st i (slot_after slot v)) i ≡ is_up v.neighbour.phase =
      ap (λ (s : Slot). is_up s.neighbour.phase) (written_slot st i (slot_after slot v) h) in
      record {
        kept = λ e. ap (table_after table (row_counts st) i) (w.kept e);
        stayed = λ e f. ap (table_after table (row_counts st) i) (w.stayed (sym p ∙ e) f);
        cleared = λ z e f. ap (table_after table (row_counts st) i) (w.cleared z e (sym p ∙ f));
        replaced = λ z e f. ap (table_after table (row_counts st) i) (w.put z e f);
      }

refused_writes : (st : State) (table : List ℕ) (i : ℕ) (update : Bool) (rows : List Row) (k : ℕ) → (k ≡ 0 → ⊥) → TableWrites st table i update rows (refused_of st k) table
unfolding refused_of
refused_writes st table i update rows k z =
    record { kept = λ _. refl; stayed = λ _ _. refl; cleared = λ e _ _. absurd (z e); replaced = λ e _ _. absurd (z e) }

event_writes : (event : Intrinsic) (st : State) (a : ℕ) → Writes (neighbour_of st a).phase false [] (event_ruling event st a)
unfolding event_ruling stepped
event_writes event st a = left_writes (neighbour_of st a) 0 _ _ false [] refl

message_writes : (st : State) (a : ℕ) (o : List ℕ)
    → Writes (neighbour_of st a).phase (decodes_update (decode_of o)) (rows_read (update_of 128 st.settings.net o)) (message_ruling st a o)
unfolding message_ruling update_room
message_writes st a o = receive_writes st.settings (slot_at st (slot_of st a)).asn (neighbour_of st a) o

event_kept : (event : Intrinsic) (st : State) (table buffer : List ℕ) (a : ℕ) → length st.slots ≡ 8
    → TableWrites st table (slot_of st a) false [] (event_outcome event st table buffer a) (event_table event st table buffer a)
unfolding event_outcome event_table
event_kept event st table buffer a eight =
    call_holds (λ r t b. TableWrites st table (slot_of st a) false [] r t) (event_checks event st table buffer a) _ _ _ _ buffer buffer
    (λ z. carried_writes st table (slot_of st a) _ false (event_ruling event st a) [] [] (omega (arith, (event_passed st table buffer a event z).found)) (event_writes event st a))
    (λ z. refused_writes st table (slot_of st a) false [] (event_checks event st table buffer a) z)

message_kept : (st : State) (table buffer home : List ℕ) (a : ℕ) (o : List ℕ) → length st.slots ≡ 8
    → TableWrites st table (slot_of st a) (decodes_update (decode_of o)) (rows_read (update_of (update_room (row_counts st) (slot_of st a)) st.settings.net o))
    (message_outcome st table buffer home a o) (message_table st table buffer home a o)
unfolding message_outcome message_table update_room
message_kept st table buffer home a o eight =
    let u = decodes_update (decode_of o) in
    let rows = rows_read (update_of 128 st.settings.net o) in
    call_holds (λ r t b. TableWrites st table (slot_of st a) u rows r t) (message_checks st table buffer home a) _ _ _ _ buffer buffer
    (λ z. carried_writes st table (slot_of st a) _ u (message_ruling st a o) (rows_of home) rows (omega (arith, (message_passed st table buffer a home z).0.found)) (message_writes st a o))
    (λ z. refused_writes st table (slot_of st a) u rows (message_checks st table buffer home a) z)

pub table_kept : TableKept
table_kept = record { events = event_kept; messages = message_kept }
