-- Every call keeps a state well formed. Assumes nothing.
use Prim.Native.Nat.{ℕ, ◌≤◌, ◌<◌}
use mathlib.Core.Path.{◌≡◌, refl, sym, ◌∙◌}
use mathlib.Core.Bool.{Bool, true, false, ◌||◌}
use mathlib.Core.List.{List, []}
use borrow.Author.Tests.{le-leb}
use Rattle.std.specs.Prelude.{Result, Ok, Err}
use Rattle.checks.specs.declared.Refusal.{Refusal}
use Rattle.checks.proofs.Laws.{cond_elim}
use Rattle.message.specs.declared.Message.{Message}
use Rattle.neighbour.specs.Record.{is_up}
use Rattle.nets.specs.Rows.{Row, rows_of}
use Rattle.message_reading.specs.Reading.{kind_in, decode_of}
use Rattle.update_walk.proofs.Accepted.{accepted_is}
use Rattle.neighbour.specs.declared.Phase.{Phase}
use Rattle.neighbour.specs.declared.Settings.{Settings}
use Rattle.neighbour_wellformed.specs.Formed.{well_formed}
use Rattle.neighbour_messages.specs.declared.Head.{Head}
use Rattle.neighbour_machine.specs.Intrinsics.{Intrinsic, as_event}
use Rattle.neighbour_machine.specs.declared.Event.{Event}
use Rattle.neighbour_machine.specs.declared.Event.TheVariants.{Received}
use Rattle.neighbour_machine.specs.declared.Reply.{Reply}
use Rattle.neighbour_machine.specs.declared.After.{After}
use Rattle.neighbour_machine.specs.Table.{unanswered}
use Rattle.neighbour_machine.specs.Step.{step_of}
use Rattle.neighbour_machine.proofs.Theorems.{step_lawful}
use Rattle.neighbour_seconds.specs.Seconds.{seconds_formed}
use Rattle.gateway_state.specs.declared.Slot.{Slot}
use Rattle.gateway_state.specs.declared.State.{State}
use Rattle.gateway_state.specs.Slots.{slot_at, slot_of}
use Rattle.gateway_state.specs.Formed.{rows_formed, state_formed}
use Rattle.gateway_state.specs.Outcomes.{refused_of}
use Rattle.gateway_state.specs.Claims.{SlotGood}
use Rattle.gateway_state.proofs.SlotLaws.{slots_length}
use Rattle.gateway_state.proofs.Theorems.{formed_slot, step_formed}
use Rattle.gateway_slots.proofs.Theorems.{fresh_claim, add_claim, remove_claim}
use Rattle.gateway_rules.specs.Number.{brings_rows, error_head, named_reply}
use Rattle.gateway_rules.specs.Ruling.{Change, Ruling, leaving, stepped, refuses, taken_step, change_by, carried_out, receive_ruling}
use Rattle.gateway_rules.specs.Carried.{count_after, slot_after, outcome_after}
use Rattle.gateway_rules.specs.Calls.{event_checks, message_checks, no_head, update_room, event_ruling, message_ruling, event_outcome, message_outcome}
use Rattle.gateway_rules.proofs.Number.{NumberPassed, number_passed}
use Rattle.gateway_rules.proofs.Rulings.{receive_holds}
use Rattle.gateway_rules.proofs.Seconds.{booked_address, booked_asn, booked_rows, booked_formed}
use Rattle.gateway_rules.proofs.Checks.{event_passed, event_timed, message_passed}
use Rattle.gateway_theorems.specs.Claims.{FormedState, WellFormedKept}
use Rattle.gateway_theorems.proofs.Calls.{after_up, call_holds}
use Rattle.gateway_theorems.proofs.Listings.{listing_state, listing_formed}

-- a ruling that keeps a slot of so many rows well formed
pub record Sound (rows : ℕ) (v : Ruling) : Type 0 where
  pub neighbour : well_formed v.neighbour ≡ true
  pub count : rows_formed v.neighbour.phase (count_after rows v.change) ≡ true

-- 01: "row count at most 128 and 0 unless Up"
rows_up : (phase : Phase) (rows : ℕ) → is_up phase ≡ true → rows ≤ 128 → rows_formed phase rows ≡ true
unfolding rows_formed
rows_up phase rows up few = rw (le-leb rows 128 few, up)

rows_none : (phase : Phase) → rows_formed phase 0 ≡ true
unfolding rows_formed
rows_none phase = go (is_up phase)
  where
    go : (b : Bool) → (b || true) ≡ true
    go true = refl
    go false = refl

rows_kept : (phase : Phase) (rows : ℕ) → rows ≤ 128 → (is_up phase ≡ false → rows ≡ 0) → rows_formed phase rows ≡ true
rows_kept phase rows few none = go (is_up phase) refl
  where
    go : (b : Bool) → is_up phase ≡ b → rows_formed phase rows ≡ true
    go true e = rows_up phase rows e few
    go false e = rw (none e) (rows_none phase)

module _ (slot : Slot) (good : SlotGood slot) where
  refuses_sound : (k : ℕ) (reply : Reply) → Sound slot.rows (refuses slot.neighbour k reply)
  unfolding refuses count_after
  refuses_sound k reply = record { neighbour = good.neighbour; count = rows_kept slot.neighbour.phase slot.rows good.few good.none }

  -- leaving Up takes the rows along; they stay in Up, and there are none elsewhere
  stepped_count : (now : Phase) → rows_formed now (count_after slot.rows (leaving slot.neighbour.phase now)) ≡ true
  unfolding leaving count_after
  stepped_count now = go (is_up slot.neighbour.phase) refl (is_up now) refl
    where
      go : (b : Bool) → is_up slot.neighbour.phase ≡ b → (c : Bool) → is_up now ≡ c
          → rows_formed now (count_after slot.rows (leaving slot.neighbour.phase now)) ≡ true
      go true e true f = rw (e, f) (rows_up now slot.rows f good.few)
      go false e true f = rw e (rows_up now slot.rows f good.few)
      go true e false f = rw (e, f) (rows_none now)
      go false e false f = rw (e, good.none e) (rows_none now)

  stepped_sound : (after : After) → well_formed after.neighbour ≡ true → Sound slot.rows (stepped slot.neighbour after)
  unfolding stepped
  stepped_sound after f = record { neighbour = f; count = stepped_count after.neighbour.phase }

  step_sound : (g : Settings) (asn : ℕ) (event : Event) (head : Head) → Sound slot.rows (stepped slot.neighbour (step_of g asn slot.neighbour event head))
  step_sound g asn event head = stepped_sound _ (step_lawful g asn slot.neighbour event head good.neighbour).formed

  -- the step for a message that was read, or none
  after_formed : (g : Settings) (asn : ℕ) (o : List ℕ) (d : Result Message Refusal) → well_formed (taken_step g asn slot.neighbour o d).neighbour ≡ true
  unfolding taken_step unanswered
  after_formed g asn o (Ok m) = (step_lawful g asn slot.neighbour (Received m) (error_head o) good.neighbour).formed
  after_formed g asn o (Err refused) = good.neighbour

  change_count : (g : Settings) (asn : ℕ) (o : List ℕ) (p : NumberPassed 128 g asn slot.neighbour o)
      → rows_formed (taken_step g asn slot.neighbour o (decode_of o)).neighbour.phase (count_after slot.rows (change_by 128 g slot.neighbour o (taken_step g asn slot.neighbour o (decode_of o)))) ≡ true
  unfolding change_by count_after taken_step
  change_count g asn o p =
      cond_elim (λ (c : Change). rows_formed (taken_step g asn slot.neighbour o (decode_of o)).neighbour.phase (count_after slot.rows c) ≡ true)
      (brings_rows slot.neighbour.phase (kind_in o)) _ _
      (λ b. let up = sym p.brings ∙ b in
      rows_up _ _ (rw p.read (after_up g asn slot.neighbour o p.message up)) (accepted_is 128 g.net o _ (p.body up)).fits)
      (λ _. stepped_count _)

  receive_sound : (g : Settings) (asn : ℕ) (o : List ℕ) → Sound slot.rows (receive_ruling 128 g asn slot.neighbour o)
  unfolding carried_out
  receive_sound g asn o =
      receive_holds 128 g asn slot.neighbour o (Sound slot.rows)
      (λ k z e. refuses_sound k (named_reply g slot.neighbour o k))
      (λ e. record { neighbour = after_formed g asn o (decode_of o); count = change_count g asn o (number_passed 128 g asn slot.neighbour o e) })

-- ---- carried out

-- the slot that was found, but for its seconds
record Same (slot before : Slot) : Type 0 where
  pub address : slot.address ≡ before.address
  pub asn : slot.asn ≡ before.asn
  pub rows : slot.rows ≡ before.rows
  pub seconds : seconds_formed slot.seconds ≡ true

carried_formed : (st : State) (a : ℕ) (slot : Slot) (v : Ruling) (home : List Row) → FormedState st → slot_of st a < 8 → Same slot (slot_at st (slot_of st a))
    → Sound (slot_at st (slot_of st a)).rows v → FormedState (outcome_after st (slot_of st a) slot v home).state
unfolding outcome_after slot_after
carried_formed st a slot v home k h m s =
    let next = slot_after slot v in
    record {
      formed = step_formed st a next k.eight k.formed h m.address m.asn s.neighbour (rw m.rows s.count) m.seconds;
      eight = slots_length st (slot_of st a) next ∙ k.eight;
    }

event_sound : (event : Intrinsic) (st : State) (a : ℕ) → state_formed st ≡ true → Sound (slot_at st (slot_of st a)).rows (event_ruling event st a)
unfolding event_ruling
event_sound event st a f = step_sound (slot_at st (slot_of st a)) (formed_slot st (slot_of st a) f).1 st.settings _ (as_event event) no_head

message_sound : (st : State) (a : ℕ) (o : List ℕ) → state_formed st ≡ true → Sound (slot_at st (slot_of st a)).rows (message_ruling st a o)
unfolding message_ruling update_room
message_sound st a o f = receive_sound (slot_at st (slot_of st a)) (formed_slot st (slot_of st a) f).1 st.settings _ o

event_formed : (event : Intrinsic) (st : State) (table buffer : List ℕ) (a : ℕ) → FormedState st → FormedState (event_outcome event st table buffer a).state
unfolding event_outcome refused_of
event_formed event st table buffer a k =
    call_holds (λ r t b. FormedState r.state) (event_checks event st table buffer a) _ _ table table buffer buffer
    (λ z. carried_formed st a _ (event_ruling event st a) [] k (event_passed st table buffer a event z).found
    (record {
      address = booked_address (as_event event) _;
      asn = booked_asn (as_event event) _;
      rows = booked_rows (as_event event) _;
      seconds = booked_formed (as_event event) _ (formed_slot st (slot_of st a) k.formed).1.seconds (event_timed st table buffer a event z);
    })
    (event_sound event st a k.formed)) (λ _. k)

message_formed : (st : State) (table buffer home : List ℕ) (a : ℕ) (o : List ℕ) → FormedState st → FormedState (message_outcome st table buffer home a o).state
unfolding message_outcome refused_of
message_formed st table buffer home a o k =
    call_holds (λ r t b. FormedState r.state) (message_checks st table buffer home a) _ _ table table buffer buffer
    (λ z. carried_formed st a _ (message_ruling st a o) (rows_of home) k (message_passed st table buffer a home z).0.found
    (record { address = refl; asn = refl; rows = refl; seconds = (formed_slot st (slot_of st a) k.formed).1.seconds }) (message_sound st a o k.formed)) (λ _. k)

pub well_formed_kept : WellFormedKept
well_formed_kept =
    record {
      events = event_formed;
      messages = message_formed;
      add = λ st address asn k. let c = (add_claim st address asn k.eight).0 in record { formed = c.formed k.formed; eight = c.eight };
      remove = λ st address k. let c = (remove_claim st address k.eight).0 in record { formed = c.formed k.formed; eight = c.eight };
      listings = listing_formed;
      listed = listing_state;
      fresh = λ g z. let c = fresh_claim g in record { formed = c.formed z; eight = c.eight };
    }
