-- `recording_message::put_rows` meets its contract. The loop keeps what is written and room for the rest. Assumes nothing.
use native.Mathlib.Omega.{arith}
use mathlib.Core.Path.{◌∙◌}
use Rattle.recording_message.proofs.Laws.{rows_more, rows_done, row_room}
use Rattle.recording_message.proofs.put_rows.Goals as goal

pub put_row-requires : goal.put_row-requires
put_row-requires c = let is = c.in-Some.ensures.steps.1 in row_room _ c.loop-row.invariant.1 c.in-Some.row.now _ is.0 (is.1 ∙ c.loop-row.invariant.0) c.requires

pub loop-row-preserved : goal.loop-row-preserved
loop-row-preserved c = let is = c.in-Some.ensures.steps.1 in (c.in-Some.ensures.steps.0 ∙ c.loop-row.invariant.0, rows_more _ c.loop-row.invariant.1 c.in-Some.row.now _ is.0 (is.1 ∙ c.loop-row.invariant.0) c.put_row.ensures.written c.put_row.ensures.upper_bound)

pub returns : goal.returns
returns c = let both = rows_done _ c.loop-row.invariant.1 (omega (arith, c.in-None.ensures.steps.1.0, c.loop-row.invariant.0)) in record { written = both.0; upper_bound = both.1 }
