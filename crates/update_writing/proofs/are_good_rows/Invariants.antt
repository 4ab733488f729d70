use Rattle.std.proofs.Common.{◌≡◌, length, map}
use Rattle.checks.specs.Lists.{every}
use Rattle.update_writing.specs.Writable.{good_row}
use Rattle.update_writing.proofs.are_good_rows.Given as goal

abbrev pub invariant-loop-row : goal.invariant-loop-row
invariant-loop-row g l = every (good_row l.common l.most) (map g.R.LentRow.as_row l.rows) ≡ every (good_row l.common l.most) (map g.R.LentRow.as_row l.rest)

abbrev pub decreases-loop-row : goal.decreases-loop-row
decreases-loop-row g l = length l.rest
