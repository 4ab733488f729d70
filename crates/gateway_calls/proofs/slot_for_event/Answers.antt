use mathlib.Core.Path.{sym, ◌∙◌}
use Rattle.neighbour.specs.Record.{idle}
use Rattle.gateway_state.specs.Slots.{free_slot, slot_at}
use Rattle.gateway_state.proofs.OutcomeLaws.{number_used, handed_on}
use Rattle.gateway_calls.specs.Steps.{EventSlot}
use Rattle.gateway_calls.proofs.Checks.{event_lent, event_5, event_22}
use Rattle.gateway_calls.proofs.slot_for_event.Goals as goal

pub returns-in_err-check_lent : goal.returns-in_err-check_lent
returns-in_err-check_lent c = λ table buffer p q.
    handed_on (EventSlot c.args.event c.args.st.now table buffer c.args.address) _ _ c.from_residual.ensures.1
    (λ e x. event_lent _ table buffer _ _ (number_used _) (c.in_err-check_lent.ensures table buffer p q) e)

pub returns-in_default : goal.returns-in_default
returns-in_default c = λ table buffer p q e x. event_5 _ table buffer _ (c.in_ok-check_lent.ensures table buffer p q) c.in_default.ensures e

pub returns-then-not-has_time : goal.returns-then-not-has_time
unfolding slot_at free_slot idle
returns-then-not-has_time c = λ table buffer p q.
    event_22 _ table buffer _ (c.in_ok-check_lent.ensures table buffer p q) _ c.in-Some.ensures.0 c.in-Some.ensures.1 _ (sym c.has_time.ensures ∙ c.if-not-has_time.true)

pub returns : goal.returns
unfolding slot_at free_slot idle
returns c = λ table buffer p q.
    (sym (c.in_ok-check_lent.ensures table buffer p q), c.in-Some.ensures.0, c.in-Some.ensures.1, sym c.has_time.ensures ∙ c.if-not-has_time.false)
