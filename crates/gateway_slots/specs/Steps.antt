-- What a call that never replies answers and leaves: the state that it makes, or the old one and why it is refused.
use Rattle.std.specs.Prelude.{ℕ, Result, Ok, Err}
use Rattle.checks.specs.declared.Refusal.{Refusal}
use Rattle.checks.specs.Refusals.{number_of}
use Rattle.gateway_state.specs.declared.Slot.{Slot}
use Rattle.gateway_state.specs.declared.State.{State}
use Rattle.gateway_state.specs.declared.Outcome.{Outcome}
use Rattle.gateway_state.specs.Slots.{with_slot}
use Rattle.gateway_state.specs.Outcomes.{refused_of, silent_of}

abbrev pub answered : State → Result State Refusal → Outcome
answered st (Ok new) = silent_of 0 new new
answered st (Err refusal) = refused_of st (number_of refusal)

-- the same where what is found is the place of this slot
abbrev pub placed : State → Slot → Result ℕ Refusal → Outcome
placed st slot (Ok i) = answered st (Ok (with_slot st i slot))
placed st slot (Err refusal) = answered st (Err refusal)
