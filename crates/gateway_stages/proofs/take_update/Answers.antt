use native.Mathlib.Omega.{arith}
use mathlib.Core.Path.{◌∙◌, sym}
use Rattle.gateway_stages.proofs.Laws.{update_small, rows_taken, refused_taken}
use Rattle.gateway_stages.proofs.take_update.Goals as goal

pub returns-in-Err : goal.returns-in-Err
returns-in-Err c = c.refuse.ensures ∙ rw c.from.ensures (refused_taken _ _ _ _ 0 _ _ (sym c.walk.ensures ∙ c.in-Err.is))

pub overflow_cast-result : goal.overflow_cast-result
overflow_cast-result c = omega (arith, update_small _ _ _ _ c.ranges.room.fits (sym c.walk.ensures ∙ c.in-Ok.is))

pub returns : goal.returns
returns c = rw (← c.step_for-after.ensures) (rows_taken _ _ _ _ _ _ (sym c.walk.ensures ∙ c.in-Ok.is))
