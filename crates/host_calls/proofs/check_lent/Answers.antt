-- `host_calls::check_lent` meets its contract. Assumes nothing.
use mathlib.Core.Path.{sym, ◌∙◌}
use Rattle.host_calls.proofs.Lent.{lent_20, lent_1, lent_2, lent_3, lent_0}
use Rattle.host_calls.proofs.check_lent.Goals as goal

pub returns-then-block-ne-BLOCK-clause-value : goal.returns-then-block-ne-BLOCK-clause-value
returns-then-block-ne-BLOCK-clause-value c = lent_20 _ _ _ c.if-block-ne-BLOCK.true

pub returns-then-not-is_formed-clause-value : goal.returns-then-not-is_formed-clause-value
returns-then-not-is_formed-clause-value c = lent_1 _ _ _ c.if-block-ne-BLOCK.false (sym c.is_formed.ensures ∙ c.if-not-is_formed.true)

pub returns-then-table-ne-TABLE-clause-value : goal.returns-then-table-ne-TABLE-clause-value
returns-then-table-ne-TABLE-clause-value c = lent_2 _ _ _ c.if-block-ne-BLOCK.false (sym c.is_formed.ensures ∙ c.if-not-is_formed.false) c.if-table-ne-TABLE.true

pub returns-then-reply-lt2048-clause-value : goal.returns-then-reply-lt2048-clause-value
returns-then-reply-lt2048-clause-value c = lent_3 _ _ _ c.if-block-ne-BLOCK.false (sym c.is_formed.ensures ∙ c.if-not-is_formed.false) c.if-table-ne-TABLE.false c.if-reply-lt2048.true

pub returns-clause-value : goal.returns-clause-value
returns-clause-value c = lent_0 _ _ _ c.if-block-ne-BLOCK.false (sym c.is_formed.ensures ∙ c.if-not-is_formed.false) c.if-table-ne-TABLE.false c.if-reply-lt2048.false
