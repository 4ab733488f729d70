-- `listing::are_rows_marked` meets its contract. The loop keeps: the rows left decide for all. Assumes nothing.
use native.Mathlib.Omega.{arith}
use mathlib.Core.Path.{sym, ◌∙◌}
use Rattle.listing.proofs.Laws.{marked_not, marked_next, marked_end}
use Rattle.listing.proofs.are_rows_marked.Goals as goal

pub returns-then-row-gt511 : goal.returns-then-row-gt511
returns-then-row-gt511 c = let is = c.in-Some.ensures.steps.1 in sym (c.loop-row.invariant.1 ∙ marked_not c.in-Some.row.now _ is.0 (is.1 ∙ c.loop-row.invariant.0) c.if-row-gt511.true)

pub loop-row-preserved : goal.loop-row-preserved
loop-row-preserved c = let is = c.in-Some.ensures.steps.1 in (c.in-Some.ensures.steps.0 ∙ c.loop-row.invariant.0, c.loop-row.invariant.1 ∙ marked_next c.in-Some.row.now _ is.0 (is.1 ∙ c.loop-row.invariant.0) c.if-row-gt511.false)

pub returns : goal.returns
returns c = sym (c.loop-row.invariant.1 ∙ marked_end _ (omega (arith, c.in-None.ensures.steps.1.0, c.loop-row.invariant.0)))
