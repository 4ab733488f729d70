-- Laws of the calls: a refusal, and a ruling carried out. Assumes nothing.
use Prim.Native.Nat.{ℕ, ◌≤◌, ◌<◌}
use mathlib.Core.Path.{◌≡◌, refl, sym, ◌∙◌, ap}
use mathlib.Core.Bool.{true}
use mathlib.Core.List.{List, []}
use lib.ListN.{length}
use Rattle.std.specs.Prelude.{Result, Ok}
use Rattle.checks.specs.Refusals.{answer_of}
use Rattle.checks.specs.declared.Refusal.{Refusal}
use Rattle.checks.proofs.Laws.{if_ok_new, if_ok_old}
use Rattle.octets.specs.Buffer.{over}
use Rattle.nets.specs.Rows.{rows_of}
use Rattle.message.specs.declared.Message.{Message}
use Rattle.update_walk.specs.Body.{walked_blocks}
use Rattle.update_rows.specs.Storing.{walked_rows}
use Rattle.neighbour.specs.declared.Phase.TheVariants.{Up}
use Rattle.neighbour.specs.declared.Settings.{Settings}
use Rattle.neighbour.specs.declared.Neighbour.{Neighbour}
use Rattle.neighbour_machine.specs.declared.Event.{Event}
use Rattle.neighbour_machine.specs.declared.Event.TheVariants.{Tick}
use Rattle.neighbour_machine.specs.declared.After.{After}
use Rattle.neighbour_machine.specs.declared.Reply.{Reply}
use Rattle.neighbour_machine.specs.Intrinsics.{Intrinsic, as_event}
use Rattle.neighbour_machine.specs.Table.{unanswered}
use Rattle.neighbour_machine.specs.Tick.{on_tick}
use Rattle.neighbour_machine.specs.Step.{step_of}
use Rattle.neighbour_machine.specs.Laws.{may_send}
use Rattle.gateway_state.specs.declared.Slot.{Slot}
use Rattle.gateway_state.specs.declared.State.{State}
use Rattle.gateway_state.specs.declared.Outcome.{Outcome}
use Rattle.gateway_state.specs.Slots.{slot_at, slot_of, with_slot}
use Rattle.gateway_state.specs.Places.{row_counts}
use Rattle.gateway_state.specs.Outcomes.{refused_of}
use Rattle.gateway_state.proofs.SlotLaws.{same_slot_lem}
use Rattle.gateway_state.proofs.Theorems.{formed_settings}
use Rattle.gateway_rules.specs.declared.Verdict.{Verdict}
use Rattle.gateway_rules.specs.Number.{message_number, named_reply}
use Rattle.gateway_rules.specs.Ruling.{keep, Ruling, stepped, refuses, receive_ruling, verdict_of}
use Rattle.gateway_rules.specs.Seconds.{booked}
use Rattle.gateway_rules.specs.Carried.{first_octets, second_octets, reply_octets, outcome_after, slot_after, count_after, table_after, refused_with, buffer_after}
use Rattle.gateway_rules.specs.Calls.{event_checks, message_checks, no_head, update_room, event_ruling, message_ruling, event_outcome, event_table, event_buffer, message_outcome, message_table, message_buffer}
use Rattle.gateway_rules.proofs.Checks.{Passed, message_passed}
use Rattle.gateway_rules.proofs.Seconds.{booked_neighbour, booked_asn}
use Rattle.gateway_rules.proofs.Rulings.{stepped_backed, receive_backed}
use Rattle.gateway_rules.proofs.Sends.{named_sends, stepped_sends, receive_sends}
use Rattle.gateway_home.proofs.Laws.{home_writable, none_writable}
use Rattle.gateway_stages.specs.Stages.{read_from, keeping}
use Rattle.gateway_stages.proofs.Reaching.{keeps}
use Rattle.gateway_stages.proofs.Laws.{read_number}
use Rattle.gateway_carry.specs.declared.Lengths.{Lengths}
use Rattle.gateway_carry.specs.Asked.{sendable, lengths_of, takes, change_of, ruling_of}
use Rattle.gateway_carry.proofs.Carrying.{carried}
use Rattle.gateway_calls.proofs.Replies.{ready, backed_takes, ruling_back}

-- ---- Start, Stop and tick

-- what the promise of such a call says of the outcome, the table and the buffer
pub record Happened (st : State) (table buffer : List ℕ) (a : ℕ) (event : Event) (out : Outcome) (t b : List ℕ) : Type 0 where
  pub outcome : (e : Intrinsic) → event ≡ as_event e → out ≡ event_outcome e st table buffer a
  pub rows : (e : Intrinsic) → event ≡ as_event e → t ≡ event_table e st table buffer a
  pub octets : (e : Intrinsic) → event ≡ as_event e → b ≡ event_buffer e st table buffer a

module _ (event : Event) (st : State) (table buffer : List ℕ) (a k : ℕ) (c : (e : Intrinsic) → event ≡ as_event e → k ≡ event_checks e st table buffer a) where
  pub event_refused : (k ≡ 0 → ⊥) → (out : Outcome) → out ≡ refused_of st k → Happened st table buffer a event out table buffer
  unfolding event_outcome event_table event_buffer
  event_refused n out f =
      record {
        outcome = λ e x. f ∙ ap (refused_of st) (c e x) ∙ sym (if_ok_old _ _ _ (λ q. n (c e x ∙ q)));
        rows = λ e x. sym (if_ok_old _ _ _ (λ q. n (c e x ∙ q)));
        octets = λ e x. sym (if_ok_old _ _ _ (λ q. n (c e x ∙ q)));
      }

  module _ (z : k ≡ 0) (found : Passed st table buffer a) where
    -- the slot that was found, with a tick booked
    module _ (i : ℕ) (slot : Slot) (after : After) (v : Verdict) (p : i ≡ slot_of st a) (s : slot ≡ booked event (slot_at st i))
        (m : after ≡ step_of st.settings slot.asn slot.neighbour event (record { first = 0; second = 0; third = 0 })) (w : v ≡ verdict_of (stepped slot.neighbour after)) where
      pub event_asked : (o : List ℕ)
          → ((i < 8) × (length table ≡ 3072) × (2048 ≤ length buffer)) × ((sendable v.reply [] ≡ true) × (takes v.effect (walked_blocks st.settings.net o) ≡ true))
      unfolding verdict_of
      event_asked o =
          let g = st.settings in
          let sends = stepped_sends g slot.asn slot.neighbour event (record { first = 0; second = 0; third = 0 }) in (
            (rw p found.found, found.long, found.room),
            (
              rw (w, m) (ready g [] (formed_settings st found.formed).net (none_writable g.net) _ sends),
              rw w (backed_takes g.net o _ (stepped_backed 128 g.net o slot.neighbour after)),
            ),
          )

      ruled : (e : Intrinsic) → event ≡ as_event e → stepped slot.neighbour after ≡ event_ruling e st a
      unfolding event_ruling no_head
      ruled e q = rw (m, s, booked_neighbour event (slot_at st i), booked_asn event (slot_at st i), p, q)

      module _ (o : List ℕ) (out : Outcome) (t b : List ℕ) (f : out ≡ outcome_after st i slot (ruling_of v (walked_rows (walked_blocks st.settings.net o))) (rows_of []))
          (r : t ≡ table_after table (row_counts st) i (change_of v.effect (walked_rows (walked_blocks st.settings.net o)))) (h : b ≡ buffer_after buffer v.reply (rows_of [])) where
        back : ruling_of v (walked_rows (walked_blocks st.settings.net o)) ≡ stepped slot.neighbour after
        back = rw w (ruling_back st.settings.net o (stepped slot.neighbour after) (stepped_backed 128 st.settings.net o slot.neighbour after))

        rule : (e : Intrinsic) → event ≡ as_event e → ruling_of v (walked_rows (walked_blocks st.settings.net o)) ≡ event_ruling e st a
        rule e q = back ∙ ruled e q

        pub event_done : Happened st table buffer a event out t b
        unfolding event_outcome event_table event_buffer rows_of ruling_of
        event_done =
            record {
              outcome = λ e q.
                  f ∙ rw (s, p, q) (ap (λ (x : Ruling). outcome_after st (slot_of st a) (booked (as_event e) (slot_at st (slot_of st a))) x []) (rule e q))
                  ∙ sym (if_ok_new _ _ _ (sym (c e q) ∙ z));
              rows = λ e q.
                  r ∙ rw p (ap (λ (x : Ruling). table_after table (row_counts st) (slot_of st a) x.change) (rule e q)) ∙ sym (if_ok_new _ _ _ (sym (c e q) ∙ z));
              octets = λ e q. h ∙ ap (λ (x : Ruling). buffer_after buffer x.reply []) (rule e q) ∙ sym (if_ok_new _ _ _ (sym (c e q) ∙ z));
            }

    -- a tick that only counts
    module _ (i : ℕ) (slot : Slot) (n : Neighbour) (next : Slot) (p : i ≡ slot_of st a) (s : slot ≡ booked event (slot_at st i)) (tick : event ≡ Tick) (up : slot.neighbour.phase ≡ Up)
        (left : (g : Settings) → unanswered n ≡ on_tick g slot.neighbour) (still : n.phase ≡ Up) (w : (x : Ruling) → x.neighbour ≡ n → x.change ≡ keep → next ≡ slot_after slot x) where
      counted_step : unanswered n ≡ step_of st.settings slot.asn slot.neighbour event (record { first = 0; second = 0; third = 0 })
      unfolding step_of
      counted_step = rw tick (left st.settings)

      counted_rule : (e : Intrinsic) → event ≡ as_event e → keeping (unanswered n) ≡ event_ruling e st a
      unfolding unanswered
      counted_rule e q =
          keeps slot.neighbour (unanswered n) up still
          ∙ ruled i slot (unanswered n) (verdict_of (stepped slot.neighbour (unanswered n))) p s counted_step refl e q

      pub event_counted : (state : State) → state ≡ with_slot st i next
          → Happened st table buffer a event (record { answer = 0; first = 0; second = 0; state = state }) table buffer
      unfolding event_outcome event_table event_buffer keeping unanswered table_after buffer_after reply_octets first_octets second_octets over lengths_of
      event_counted state f =
          record {
            outcome = λ e q.
                carried st i (keeping (unanswered n)) [] (record { first = 0; second = 0 }) slot next state refl (w (keeping (unanswered n)) refl refl) f
                ∙ rw (s, p, q) (ap (λ (x : Ruling). outcome_after st (slot_of st a) (booked (as_event e) (slot_at st (slot_of st a))) x []) (counted_rule e q))
                ∙ sym (if_ok_new _ _ _ (sym (c e q) ∙ z));
            rows = λ e q.
                ap (λ (x : Ruling). table_after table (row_counts st) (slot_of st a) x.change) (counted_rule e q) ∙ sym (if_ok_new _ _ _ (sym (c e q) ∙ z));
            octets = λ e q. ap (λ (x : Ruling). buffer_after buffer x.reply []) (counted_rule e q) ∙ sym (if_ok_new _ _ _ (sym (c e q) ∙ z));
          }

-- ---- a message

-- what the promise of the message call says
abbrev pub Received : State → List ℕ → List ℕ → List ℕ → ℕ → List ℕ → Outcome → List ℕ → List ℕ → Type 0
Received st table buffer home a o out t b =
    (out ≡ message_outcome st table buffer home a o) × ((t ≡ message_table st table buffer home a o) × (b ≡ message_buffer st table buffer home a o))

module _ (st : State) (table buffer home : List ℕ) (a : ℕ) (o : List ℕ) (k : ℕ) (e : k ≡ message_checks st table buffer home a) where
  pub message_refused : (k ≡ 0 → ⊥) → (out : Outcome) → out ≡ refused_of st k → Received st table buffer home a o out table buffer
  unfolding message_outcome message_table message_buffer
  message_refused n out f =
      let z : message_checks st table buffer home a ≡ 0 → ⊥ = λ q. n (e ∙ q) in
      (f ∙ ap (refused_of st) e ∙ sym (if_ok_old _ _ _ z), (sym (if_ok_old _ _ _ z), sym (if_ok_old _ _ _ z)))

  module _ (z : k ≡ 0) where
    met : Passed st table buffer a
    met = (message_passed st table buffer a home (sym e ∙ z)).0

    sent : (reply : Reply) → may_send st.settings reply ≡ true → sendable reply home ≡ true
    sent reply s =
        ready st.settings home (formed_settings st met.formed).net
        (home_writable st.settings home (message_passed st table buffer a home (sym e ∙ z)).1) reply s

    module _ (i : ℕ) (slot : Slot) (p : i ≡ slot_of st a) (s : slot ≡ slot_at st i) where
      -- a number that the ruling answers with
      module _ (number : ℕ) (x : number ≡ 0 → ⊥) (is : message_number 128 st.settings slot.asn slot.neighbour o ≡ number) (named : Reply)
          (named-is : named ≡ named_reply st.settings slot.neighbour o number) where
        pub number_asked : (sendable named home ≡ true) × (2048 ≤ length buffer)
        number_asked = (sent named (rw named-is (named_sends st.settings slot.neighbour o number)), met.room)

        refusal : message_ruling st a o ≡ refuses (slot_at st (slot_of st a)).neighbour number named
        unfolding message_ruling update_room receive_ruling
        refusal = rw (← p, ← s, named-is, is) (if_ok_old number _ _ x)

        pub number_done : (out : Outcome) (b : List ℕ) → out ≡ refused_with st number named (rows_of home) → b ≡ buffer_after buffer named (rows_of home)
            → Received st table buffer home a o out table b
        unfolding message_outcome message_table message_buffer outcome_after slot_after count_after table_after refused_with refuses
        number_done out b f g =
            let done : message_checks st table buffer home a ≡ 0 = sym e ∙ z in (
              f
                  ∙ (λ j. record {
                    answer = number;
                    first = length (first_octets named (rows_of home));
                    second = length (second_octets named (rows_of home));
                    state = sym (same_slot_lem st (slot_of st a)) j;
                  })
                  ∙ ap (λ (y : Ruling). outcome_after st (slot_of st a) (slot_at st (slot_of st a)) y (rows_of home)) (sym refusal) ∙ sym (if_ok_new _ _ _ done),
              (
                ap (λ (y : Ruling). table_after table (row_counts st) (slot_of st a) y.change) (sym refusal) ∙ sym (if_ok_new _ _ _ done),
                g ∙ ap (λ (y : Ruling). buffer_after buffer y.reply (rows_of home)) (sym refusal) ∙ sym (if_ok_new _ _ _ done),
              ),
            )

      pub read_is : (r : Result Message Refusal) (number : ℕ) → r ≡ read_from slot.asn o → ((x : Message) → r ≡ Ok x → ⊥) → number ≡ answer_of r
          → (number ≡ 0 → ⊥) × (message_number 128 st.settings slot.asn slot.neighbour o ≡ number)
      read_is r number = read_number 128 st.settings slot.asn slot.neighbour o r number

      -- a Hello or an I-H-U in Up
      module _ (after : After) (is : keeping after ≡ receive_ruling 128 st.settings slot.asn slot.neighbour o) where
        pub reach_asked : (sendable after.reply home ≡ true) × (2048 ≤ length buffer)
        unfolding keeping
        reach_asked = (
          sent after.reply
              (ap (λ (x : Ruling). may_send st.settings x.reply) is ∙ receive_sends st.settings 128 slot.asn slot.neighbour o),
          met.room,
        )

        reach_rule : keeping after ≡ message_ruling st a o
        unfolding message_ruling update_room
        reach_rule = is ∙ rw (s, p)

        pub reach_done : (lengths : Lengths) (next : Slot) (state : State) (b : List ℕ) → lengths ≡ lengths_of after.reply (rows_of home)
            → ((x : Ruling) → x.neighbour ≡ after.neighbour → x.change ≡ keep → next ≡ slot_after slot x) → state ≡ with_slot st i next
            → b ≡ buffer_after buffer after.reply (rows_of home)
            → Received st table buffer home a o (record { answer = 0; first = lengths.first; second = lengths.second; state = state }) table b
        unfolding message_outcome message_table message_buffer keeping table_after
        reach_done lengths next state b l w f h =
            let done : message_checks st table buffer home a ≡ 0 = sym e ∙ z in (
              carried st i (keeping after) (rows_of home) lengths slot next state l (w (keeping after) refl refl) f
                  ∙ rw (s, p) (ap (λ (x : Ruling). outcome_after st (slot_of st a) (slot_at st (slot_of st a)) x (rows_of home)) reach_rule) ∙ sym (if_ok_new _ _ _ done),
              (
                ap (λ (x : Ruling). table_after table (row_counts st) (slot_of st a) x.change) reach_rule ∙ sym (if_ok_new _ _ _ done),
                h ∙ ap (λ (x : Ruling). buffer_after buffer x.reply (rows_of home)) reach_rule ∙ sym (if_ok_new _ _ _ done),
              ),
            )

      module _ (v : Verdict) (w : v ≡ verdict_of (receive_ruling 128 st.settings slot.asn slot.neighbour o)) where
        pub message_asked : ((i < 8) × (length table ≡ 3072) × (2048 ≤ length buffer))
            × ((sendable v.reply home ≡ true) × (takes v.effect (walked_blocks st.settings.net o) ≡ true))
        unfolding verdict_of
        message_asked = (
          (rw p met.found, met.long, met.room),
          (
            rw w (sent _ (receive_sends st.settings 128 slot.asn slot.neighbour o)),
            rw w (backed_takes st.settings.net o _ (receive_backed 128 st.settings slot.asn slot.neighbour o)),
          ),
        )

        rule_is : ruling_of v (walked_rows (walked_blocks st.settings.net o)) ≡ message_ruling st a o
        unfolding message_ruling update_room
        rule_is =
            let x = receive_ruling 128 st.settings slot.asn slot.neighbour o in
            rw w (ruling_back st.settings.net o x (receive_backed 128 st.settings slot.asn slot.neighbour o) ∙ rw (s, p))

        pub message_done : (out : Outcome) (t b : List ℕ) → out ≡ outcome_after st i slot (ruling_of v (walked_rows (walked_blocks st.settings.net o))) (rows_of home)
            → t ≡ table_after table (row_counts st) i (change_of v.effect (walked_rows (walked_blocks st.settings.net o))) → b ≡ buffer_after buffer v.reply (rows_of home)
            → Received st table buffer home a o out t b
        unfolding message_outcome message_table message_buffer ruling_of
        message_done out t b f g h =
            let done : message_checks st table buffer home a ≡ 0 = sym e ∙ z in (
              f ∙ rw (s, p) (ap (λ (x : Ruling). outcome_after st (slot_of st a) (slot_at st (slot_of st a)) x (rows_of home)) rule_is) ∙ sym (if_ok_new _ _ _ done),
              (
                g ∙ rw p (ap (λ (x : Ruling). table_after table (row_counts st) (slot_of st a) x.change) rule_is) ∙ sym (if_ok_new _ _ _ done),
                h ∙ ap (λ (x : Ruling). buffer_after buffer x.reply (rows_of home)) rule_is ∙ sym (if_ok_new _ _ _ done),
              ),
            )
