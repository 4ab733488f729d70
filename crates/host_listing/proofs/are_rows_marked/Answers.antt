-- `host_listing::are_rows_marked` meets its contract. The loop keeps: the rows left decide for all. Assumes nothing.
use native.Mathlib.Omega.{arith}
use mathlib.Core.Path.{sym, ◌∙◌}
use Rattle.host_listing.proofs.Laws.{octets_not, octets_next, octets_end}
use Rattle.host_listing.proofs.are_rows_marked.Goals as goal

pub returns-then-word32_at-gt511 : goal.returns-then-word32_at-gt511
returns-then-word32_at-gt511 c = let is = c.in-Some.ensures.steps.1 in sym (c.loop-row.invariant.1 ∙ octets_not c.in-Some.row.now _ is.0 (is.1 ∙ c.loop-row.invariant.0) (rw (← c.word32_at.ensures) c.if-word32_at-gt511.true))

pub loop-row-preserved : goal.loop-row-preserved
loop-row-preserved c = let is = c.in-Some.ensures.steps.1 in (c.in-Some.ensures.steps.0 ∙ c.loop-row.invariant.0, c.loop-row.invariant.1 ∙ octets_next c.in-Some.row.now _ is.0 (is.1 ∙ c.loop-row.invariant.0) (rw (← c.word32_at.ensures) c.if-word32_at-gt511.false))

pub returns : goal.returns
returns c = sym (c.loop-row.invariant.1 ∙ octets_end _ (omega (arith, c.in-None.ensures.steps.1.0, c.loop-row.invariant.0)))
