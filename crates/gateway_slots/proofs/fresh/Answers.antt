use mathlib.Core.Path.{sym, ◌∙◌}
use Rattle.gateway_slots.specs.Calls.{zero_state}
use Rattle.gateway_slots.proofs.CallLaws.{fresh_16, fresh_done}
use Rattle.gateway_slots.proofs.fresh.Goals as goal

pub returns-then-not-good_settings : goal.returns-then-not-good_settings
unfolding zero_state
returns-then-not-good_settings c = rw (c.refused.ensures, c.empty.ensures, c.from.ensures) (fresh_16 _ (sym c.good_settings.ensures ∙ c.if-not-good_settings.true))

pub returns : goal.returns
returns c = rw (c.carried_out.ensures, c.empty-2.ensures) (fresh_done _ (sym c.good_settings.ensures ∙ c.if-not-good_settings.false))
