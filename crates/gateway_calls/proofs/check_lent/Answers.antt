use mathlib.Core.Path.{sym, ◌∙◌}
use Rattle.gateway_calls.proofs.Checks.{lent_1, lent_2, lent_3, lent_0}
use Rattle.gateway_calls.proofs.check_lent.Goals as goal

pub returns-then-not-is_well_formed : goal.returns-then-not-is_well_formed
returns-then-not-is_well_formed c = lent_1 _ _ _ (sym c.is_well_formed.ensures ∙ c.if-not-is_well_formed.true)

pub returns-then-numbers-ne3072 : goal.returns-then-numbers-ne3072
returns-then-numbers-ne3072 c = lent_2 _ _ _ (sym c.is_well_formed.ensures ∙ c.if-not-is_well_formed.false) c.if-numbers-ne3072.true

pub returns-then-octets-lt2048 : goal.returns-then-octets-lt2048
returns-then-octets-lt2048 c = lent_3 _ _ _ (sym c.is_well_formed.ensures ∙ c.if-not-is_well_formed.false) c.if-numbers-ne3072.false c.if-octets-lt2048.true

pub returns : goal.returns
returns c = lent_0 _ _ _ (sym c.is_well_formed.ensures ∙ c.if-not-is_well_formed.false) c.if-numbers-ne3072.false c.if-octets-lt2048.false
