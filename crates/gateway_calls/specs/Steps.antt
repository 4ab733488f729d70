-- What a call finds before anything is done: its neighbour's slot, or the check that fails first.
use Rattle.std.specs.Prelude.{ℕ, ◌<◌, ◌≡◌, true, List, Result, Ok, Err}
use Rattle.checks.specs.declared.Refusal.{Refusal}
use Rattle.checks.specs.Refusals.{number_of}
use Rattle.neighbour_machine.specs.declared.Event.{Event}
use Rattle.neighbour_machine.specs.Intrinsics.{Intrinsic, as_event}
use Rattle.gateway_state.specs.declared.State.{State}
use Rattle.gateway_state.specs.Slots.{slot_at, slot_of}
use Rattle.gateway_rules.specs.Seconds.{has_time}
use Rattle.gateway_rules.specs.Calls.{table_fits, buffer_fits, lent_checks, event_checks, message_checks}

-- of Start, Stop or tick: what is lent is as it must be, the neighbour is there, and its clock has room
abbrev pub EventSlot : Event → State → List ℕ → List ℕ → ℕ → Result ℕ Refusal → Type 0
EventSlot event st table buffer a (Err refusal) = (e : Intrinsic) → event ≡ as_event e → number_of refusal ≡ event_checks e st table buffer a
EventSlot event st table buffer a (Ok i) =
    (lent_checks st (table_fits table) (buffer_fits buffer) 0 ≡ 0) × (i ≡ slot_of st a) × (i < 8) × (has_time event (slot_at st i).seconds ≡ true)

-- of a message
abbrev pub MessageSlot : State → List ℕ → List ℕ → List ℕ → ℕ → Result ℕ Refusal → Type 0
MessageSlot st table buffer home a (Err refusal) = number_of refusal ≡ message_checks st table buffer home a
MessageSlot st table buffer home a (Ok i) = (0 ≡ message_checks st table buffer home a) × (i ≡ slot_of st a) × (i < 8)
