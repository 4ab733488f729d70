use Rattle.std.proofs.Common.{◌≡◌, map, drop}
use Rattle.update_writing.specs.Writable.{writable_rows}
use Rattle.update_writing.proofs.Loops.{allowed}
use Rattle.update_writing.proofs.are_writable.Given as goal

abbrev pub invariant-loop-row : goal.invariant-loop-row
invariant-loop-row g l = writable_rows l.net (map g.R.LentRow.as_row l.rows) ≡ allowed l.net l.side (map g.R.LentRow.as_row (drop l.row-index l.rows))
