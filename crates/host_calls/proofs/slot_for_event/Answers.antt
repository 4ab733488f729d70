use native.Mathlib.Omega.{arith}
use mathlib.Core.Path.{sym, ◌∙◌}
use Rattle.gateway_state.proofs.OutcomeLaws.{number_used, handed_on}
use Rattle.gateway_calls.proofs.Checks.{event_5, event_22}
use Rattle.host_rules.specs.Held.{table_in}
use Rattle.host_calls.specs.Steps.{EventSlot}
use Rattle.host_calls.proofs.Lent.{lent_then, lent_met, event_before}
use Rattle.host_calls.proofs.slot_for_event.Goals as goal

pub returns-in_err-check_lent : goal.returns-in_err-check_lent
returns-in_err-check_lent c = λ octets buffer p q.
    handed_on (EventSlot c.args.event c.args.block.now octets buffer c.args.address) _ _ c.from_residual.ensures.1
    (λ e x. event_before _ octets buffer _ (number_used _) (c.in_err-check_lent.ensures.value octets buffer p q) e _)

pub slot_of-requires : goal.slot_of-requires
slot_of-requires c = omega (arith, c.in_ok-check_lent.ensures.block_len)

pub slot_at-requires : goal.slot_at-requires
slot_at-requires c = (omega (arith, c.in_ok-check_lent.ensures.block_len), c.in-Some.ensures.1)

pub returns-in_default : goal.returns-in_default
returns-in_default c = λ octets buffer p q e x.
    let good = c.in_ok-check_lent.ensures.value octets buffer p q in
    event_5 _ (table_in octets) buffer _ (lent_met _ octets buffer good) c.in_default.ensures e ∙ sym (lent_then _ octets buffer good _)

pub returns-then-not-has_time : goal.returns-then-not-has_time
returns-then-not-has_time c = λ octets buffer p q e x.
    let good = c.in_ok-check_lent.ensures.value octets buffer p q in
    event_22 _ (table_in octets) buffer _ (lent_met _ octets buffer good) _ c.in-Some.ensures.0 c.in-Some.ensures.1 _ (rw c.slot_at.ensures at (sym c.has_time.ensures ∙ c.if-not-has_time.true)) e x
    ∙ sym (lent_then _ octets buffer good _)

pub returns : goal.returns
returns c = λ octets buffer p q.
    (c.in_ok-check_lent.ensures.value octets buffer p q, c.in-Some.ensures.0, c.in-Some.ensures.1, rw c.slot_at.ensures at (sym c.has_time.ensures ∙ c.if-not-has_time.false))
