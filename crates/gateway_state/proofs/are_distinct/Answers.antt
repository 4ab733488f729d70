use mathlib.Core.Path.{sym, ◌∙◌}
use Rattle.gateway_state.specs.Slots.{apart}
use Rattle.gateway_state.proofs.Finding.{distinct_fails, distinct_goes, distinct_none}
use Rattle.gateway_state.proofs.are_distinct.Goals as goal

pub returns-then-not-is_apart_from : goal.returns-then-not-is_apart_from
returns-then-not-is_apart_from c = sym (c.loop-address.invariant ∙ distinct_fails apart _ _ _ c.in-Some.ensures.cases.0 (sym c.is_apart_from.ensures ∙ c.if-not-is_apart_from.true))

pub loop-address-preserved : goal.loop-address-preserved
loop-address-preserved c = c.loop-address.invariant ∙ distinct_goes apart _ _ _ c.in-Some.ensures.cases.0 (sym c.is_apart_from.ensures ∙ c.if-not-is_apart_from.false)

pub returns : goal.returns
returns c = sym (c.loop-address.invariant ∙ distinct_none apart _ c.in_default.ensures.cases)
