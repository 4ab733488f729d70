use mathlib.Core.Path.{◌∙◌, sym, ap}
use Rattle.gateway_rules.specs.Ruling.{verdict_of}
use Rattle.gateway_stages.proofs.Laws.{taken_13, taken_21, taken_update_lem, taken_step_lem}
use Rattle.gateway_stages.proofs.take.Goals as goal

pub returns-then-not-in_sequence : goal.returns-then-not-in_sequence
returns-then-not-in_sequence c = c.refuse.ensures ∙ ap verdict_of (taken_13 _ _ _ _ _ _ c.requires (sym c.in_sequence.ensures ∙ c.if-not-in_sequence.true))

pub returns-then-is_too_quick : goal.returns-then-is_too_quick
returns-then-is_too_quick c = c.refuse-then-is_too_quick.ensures ∙ ap verdict_of (taken_21 _ _ _ _ _ _ c.requires (sym c.in_sequence.ensures ∙ c.if-not-in_sequence.false) (sym c.is_too_quick.ensures ∙ c.if-is_too_quick.true))

pub returns-then-brings_rows : goal.returns-then-brings_rows
returns-then-brings_rows c = c.take_update.ensures ∙ ap verdict_of (taken_update_lem _ _ _ _ _ _ c.requires (sym c.in_sequence.ensures ∙ c.if-not-in_sequence.false) (sym c.is_too_quick.ensures ∙ c.if-is_too_quick.false) (sym c.brings_rows.ensures ∙ c.if-brings_rows.true))

pub returns : goal.returns
returns c = c.step_verdict.ensures ∙ rw c.step_for.ensures (ap verdict_of (taken_step_lem _ _ _ _ _ _ c.requires (sym c.in_sequence.ensures ∙ c.if-not-in_sequence.false) (sym c.is_too_quick.ensures ∙ c.if-is_too_quick.false) (sym c.brings_rows.ensures ∙ c.if-brings_rows.false)))
