use native.Mathlib.Omega.{arith}
use mathlib.Core.Path.{sym, ◌∙◌}
use Rattle.gateway_state.proofs.OutcomeLaws.{number_used, handed_on}
use Rattle.gateway_calls.proofs.Checks.{message_4, message_5}
use Rattle.host_home.specs.Home.{home_in}
use Rattle.host_rules.specs.Held.{table_in}
use Rattle.host_calls.specs.Steps.{MessageSlot}
use Rattle.host_calls.proofs.Lent.{lent_then, lent_met, message_before}
use Rattle.host_calls.proofs.slot_for_message.Goals as goal

pub returns-in_err-check_lent : goal.returns-in_err-check_lent
returns-in_err-check_lent c = λ octets buffer p q.
    handed_on (MessageSlot c.args.block.now octets buffer c.args.home.now c.args.address) _ _ c.from_residual.ensures.1
    (message_before _ octets buffer _ (number_used _) (c.in_err-check_lent.ensures.value octets buffer p q) _ _)

pub settings_of-requires : goal.settings_of-requires
settings_of-requires c = omega (arith, c.in_ok-check_lent.ensures.block_len)

pub slot_of-requires : goal.slot_of-requires
slot_of-requires c = omega (arith, c.in_ok-check_lent.ensures.block_len)

pub returns-then-not-good_home : goal.returns-then-not-good_home
returns-then-not-good_home c = λ octets buffer p q.
    let good = c.in_ok-check_lent.ensures.value octets buffer p q in
    message_4 _ (table_in octets) buffer _ (lent_met _ octets buffer good) (home_in c.args.home.now) (rw c.settings_of.ensures at (sym c.good_home.ensures ∙ c.if-not-good_home.true))
    ∙ sym (lent_then _ octets buffer good _)

pub returns-in_default : goal.returns-in_default
returns-in_default c = λ octets buffer p q.
    let good = c.in_ok-check_lent.ensures.value octets buffer p q in
    message_5 _ (table_in octets) buffer _ (lent_met _ octets buffer good) (home_in c.args.home.now) (rw c.settings_of.ensures at (sym c.good_home.ensures ∙ c.if-not-good_home.false)) c.in_default.ensures
    ∙ sym (lent_then _ octets buffer good _)

pub returns : goal.returns
returns c = λ octets buffer p q.
    (c.in_ok-check_lent.ensures.value octets buffer p q, rw c.settings_of.ensures at (sym c.good_home.ensures ∙ c.if-not-good_home.false), c.in-Some.ensures.0, c.in-Some.ensures.1)
