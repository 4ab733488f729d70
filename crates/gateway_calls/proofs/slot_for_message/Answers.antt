use mathlib.Core.Path.{sym, ◌∙◌}
use Rattle.gateway_state.proofs.OutcomeLaws.{number_used, handed_on}
use Rattle.gateway_calls.specs.Steps.{MessageSlot}
use Rattle.gateway_calls.proofs.Checks.{message_lent, message_4, message_5, message_0}
use Rattle.gateway_calls.proofs.slot_for_message.Goals as goal

pub returns-in_err-check_lent : goal.returns-in_err-check_lent
returns-in_err-check_lent c = λ table buffer p q.
    handed_on (MessageSlot c.args.st.now table buffer c.args.home.now c.args.address) _ _ c.from_residual.ensures.1
    (message_lent _ table buffer _ _ (number_used _) (c.in_err-check_lent.ensures table buffer p q) _)

pub returns-then-not-good_home : goal.returns-then-not-good_home
returns-then-not-good_home c = λ table buffer p q.
    message_4 _ table buffer _ (c.in_ok-check_lent.ensures table buffer p q) _ (sym c.good_home.ensures ∙ c.if-not-good_home.true)

pub returns-in_default : goal.returns-in_default
returns-in_default c = λ table buffer p q.
    message_5 _ table buffer _ (c.in_ok-check_lent.ensures table buffer p q) _ (sym c.good_home.ensures ∙ c.if-not-good_home.false) c.in_default.ensures

pub returns : goal.returns
returns c = λ table buffer p q. (
  message_0 _ table buffer _ (c.in_ok-check_lent.ensures table buffer p q) _ (sym c.good_home.ensures ∙ c.if-not-good_home.false) (rw c.in-Some.ensures.0 at c.in-Some.ensures.1),
  c.in-Some.ensures.0,
  c.in-Some.ensures.1,
)
