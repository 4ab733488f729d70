-- `gateway_stages::tells_reach` meets its contract. Assumes nothing.
use borrow.Author.Tests.{eqb-true, not-true}
use mathlib.Core.Path.{sym, ◌∙◌}
use Rattle.gateway_stages.proofs.Reaching.{reach_hello, reach_heard}
use Rattle.gateway_stages.proofs.tells_reach.Goals as goal

pub returns-in-Hello : goal.returns-in-Hello
returns-in-Hello c = λ e. reach_hello _ _ (sym c.is_up.ensures ∙ c.if-not-is_up.false) _ _ _ c.in-Hello.is (sym c.is_too_quick.ensures ∙ not-true _ e)

pub returns-in-IHeardYou : goal.returns-in-IHeardYou
returns-in-IHeardYou c = λ e. reach_heard _ _ (sym c.is_up.ensures ∙ c.if-not-is_up.false) _ _ _ c.in-IHeardYou.is (eqb-true _ _ e)
