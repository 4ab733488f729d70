-- Every reply fits in the buffer. Assumes nothing.
use Prim.Native.Nat.{ℕ, ◌+◌, ◌≤◌}
use native.Mathlib.Omega.{arith}
use mathlib.Core.Path.{◌≡◌, refl}
use mathlib.Core.Bool.{true, false≢true}
use mathlib.Core.List.{List, [], ◌++◌}
use lib.ListN.{length, length-append}
use Rattle.octets.proofs.Buffer.{over_length}
use Rattle.nets.specs.Classes.{good_net}
use Rattle.nets.specs.Rows.{rows_of}
use Rattle.message.specs.declared.Message.{Message}
use Rattle.message.specs.declared.Message.TheVariants as M
use Rattle.update_writing.specs.Writable.{writable_numbers}
use Rattle.codec_writing.specs.Octets.{message_octets}
use Rattle.codec_writing.specs.Room.{rows_fit, room_for}
use Rattle.codec_writing.proofs.Laws.{octets_fit, room_most}
use Rattle.neighbour.specs.declared.Settings.{Settings}
use Rattle.neighbour_machine.specs.Intrinsics.{Intrinsic, as_event}
use Rattle.neighbour_machine.specs.declared.Reply.{Reply}
use Rattle.neighbour_machine.specs.Laws.{short, may_send}
use Rattle.neighbour_machine.proofs.Sends.{send_elim}
use Rattle.gateway_state.specs.declared.Slot.{Slot}
use Rattle.gateway_state.specs.declared.State.{State}
use Rattle.gateway_state.specs.Slots.{slot_of}
use Rattle.gateway_state.specs.Formed.{state_formed}
use Rattle.gateway_state.specs.Outcomes.{refused_of}
use Rattle.gateway_state.proofs.Theorems.{formed_settings}
use Rattle.gateway_rules.specs.Ruling.{Ruling}
use Rattle.gateway_rules.specs.Home.{good_home}
use Rattle.gateway_rules.specs.Carried.{first_octets, second_octets, reply_octets, outcome_after, buffer_after}
use Rattle.gateway_rules.specs.Calls.{event_checks, message_checks, no_head, event_ruling, message_ruling, event_outcome, event_buffer, message_outcome, message_buffer}
use Rattle.gateway_rules.proofs.Checks.{event_passed, message_passed}
use Rattle.gateway_rules.proofs.Sends.{stepped_sends, receive_sends}
use Rattle.gateway_home.proofs.Laws.{home_writable, none_writable}
use Rattle.gateway_theorems.specs.Claims.{neighbour_of, ReplyFits, RepliesFit}
use Rattle.gateway_theorems.proofs.Calls.{call_holds}

-- the Updates that a gateway with these settings sends can be written with this home list
abbrev Sendable : Settings → List ℕ → Type 0
Sendable g home = (a q s : ℕ) → rows_fit (M.Update a q s g.net) home ≡ true

sendable : (g : Settings) (home : List ℕ) → good_net g.net ≡ true → writable_numbers g.net home ≡ true → Sendable g home
unfolding rows_fit
sendable g home n w a q s = rw (n, w)

-- ---- what may be sent has its room

module _ (home : List ℕ) where
  short_fits : (m : Message) → short m ≡ true → (rows_fit m home ≡ true) × (room_for m ≤ 24)
  unfolding rows_fit room_for
  short_fits (M.Request a q s h p) e = (refl, omega arith)
  short_fits (M.Confirm a q s h p) e = (refl, omega arith)
  short_fits (M.Refuse a q s) e = (refl, omega arith)
  short_fits (M.Cease a q s) e = (refl, omega arith)
  short_fits (M.CeaseAck a q s) e = (refl, omega arith)
  short_fits (M.Hello a q s) e = (refl, omega arith)
  short_fits (M.IHeardYou a q s) e = (refl, omega arith)
  short_fits (M.Poll a q s n) e = (refl, omega arith)
  short_fits (M.Update a q s n) e = absurd (false≢true e)
  short_fits (M.Error a q s r x y z) e = (refl, omega arith)

  short_length : (m : Message) → short m ≡ true → length (message_octets m (rows_of home)) ≤ 24
  short_length m e = let f = short_fits m e in omega (arith, octets_fit m home f.0, f.1)

module _ (g : Settings) (home : List ℕ) (u : Sendable g home) where
  sent_length : (r : Reply) → may_send g r ≡ true → length (first_octets r (rows_of home)) + length (second_octets r (rows_of home)) ≤ 1168
  unfolding first_octets second_octets
  sent_length =
      send_elim g (λ r. length (first_octets r (rows_of home)) + length (second_octets r (rows_of home)) ≤ 1168) (omega arith)
      (λ m e. omega (arith, short_length home m e))
      (λ q. omega (arith, octets_fit (M.Update g.asn q 1 g.net) home (u _ _ _), room_most (M.Update g.asn q 1 g.net)))
      (λ m next e f. omega (arith, short_length home m e, short_length home next f))

-- ---- what the call leaves

-- the two lengths of a call's reply
abbrev Lengths : Ruling → List ℕ → Type 0
Lengths v home = length (first_octets v.reply (rows_of home)) + length (second_octets v.reply (rows_of home)) ≤ 1168

carried_fits : (st : State) (i : ℕ) (slot : Slot) (v : Ruling) (home buffer : List ℕ) → Lengths v home → 2048 ≤ length buffer → ReplyFits (outcome_after st i slot v (rows_of home)) buffer (buffer_after buffer v.reply (rows_of home))
unfolding outcome_after buffer_after reply_octets
carried_fits st i slot v home buffer l b =
    let first = first_octets v.reply (rows_of home) in
    let second = second_octets v.reply (rows_of home) in
    record { few = l; same = over_length (first ++ second) buffer (omega (arith, length-append first second)) }

refused_fits : (st : State) (k : ℕ) (buffer : List ℕ) → ReplyFits (refused_of st k) buffer buffer
unfolding refused_of
refused_fits st k buffer = record { few = omega arith; same = refl }

event_length : (event : Intrinsic) (st : State) (a : ℕ) → state_formed st ≡ true → Lengths (event_ruling event st a) []
unfolding event_ruling
event_length event st a f =
    sent_length st.settings [] (sendable st.settings [] (formed_settings st f).net (none_writable st.settings.net)) _
    (stepped_sends st.settings _ (neighbour_of st a) (as_event event) no_head)

message_length : (st : State) (home : List ℕ) (a : ℕ) (o : List ℕ) → state_formed st ≡ true → good_home st.settings home ≡ true
    → Lengths (message_ruling st a o) home
unfolding message_ruling
message_length st home a o f h =
    sent_length st.settings home (sendable st.settings home (formed_settings st f).net (home_writable st.settings home h)) _
    (receive_sends st.settings _ _ (neighbour_of st a) o)

event_fits : (event : Intrinsic) (st : State) (table buffer : List ℕ) (a : ℕ) → ReplyFits (event_outcome event st table buffer a) buffer (event_buffer event st table buffer a)
unfolding event_outcome event_buffer rows_of
event_fits event st table buffer a =
    call_holds (λ r t b. ReplyFits r buffer b) (event_checks event st table buffer a) _ _ table table _ _
    (λ z. let p = event_passed st table buffer a event z in carried_fits st (slot_of st a) _ (event_ruling event st a) [] buffer (event_length event st a p.formed) p.room)
    (λ _. refused_fits st (event_checks event st table buffer a) buffer)

message_fits : (st : State) (table buffer home : List ℕ) (a : ℕ) (o : List ℕ)
    → ReplyFits (message_outcome st table buffer home a o) buffer (message_buffer st table buffer home a o)
unfolding message_outcome message_buffer
message_fits st table buffer home a o =
    call_holds (λ r t b. ReplyFits r buffer b) (message_checks st table buffer home a) _ _ table table _ _
    (λ z. let p = message_passed st table buffer a home z in
    carried_fits st (slot_of st a) _ (message_ruling st a o) home buffer (message_length st home a o p.0.formed p.1) p.0.room)
    (λ _. refused_fits st (message_checks st table buffer home a) buffer)

pub replies_fit : RepliesFit
replies_fit = record { events = event_fits; messages = message_fits }
