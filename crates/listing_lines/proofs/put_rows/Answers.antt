-- `listing_lines::put_rows` meets its contract. The loop keeps what is left to write. Assumes nothing.
use native.Mathlib.Omega.{arith}
use mathlib.Core.Path.{◌∙◌}
use Rattle.listing_lines.proofs.Laws.{row_room, row_less, rows_done}
use Rattle.listing_lines.proofs.put_rows.Goals as goal

pub put_row-requires : goal.put_row-requires
put_row-requires c = let is = c.in-Some.ensures.steps.1 in row_room _ c.loop-row.invariant.1 c.in-Some.row.now _ is.0 (is.1 ∙ c.loop-row.invariant.0)

pub loop-row-preserved : goal.loop-row-preserved
loop-row-preserved c = let is = c.in-Some.ensures.steps.1 in (c.in-Some.ensures.steps.0 ∙ c.loop-row.invariant.0, row_less _ c.loop-row.invariant.1 c.in-Some.row.now _ is.0 (is.1 ∙ c.loop-row.invariant.0) c.put_row.ensures)

pub returns : goal.returns
returns c = rows_done _ c.loop-row.invariant.1 (omega (arith, c.in-None.ensures.steps.1.0, c.loop-row.invariant.0))
