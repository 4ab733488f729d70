use Rattle.std.proofs.Common.{◌+◌, length}
use Rattle.update_writing.specs.Blocks.{group_octets}
use Rattle.update_writing.proofs.Loops.{Grouping}
use Rattle.update_writing.proofs.write_block.Given as goal

abbrev pub invariant-loop-rest : goal.invariant-loop-rest
invariant-loop-rest g l = Grouping g.R.LentRow.as_row (λ row. row.third) group_octets l.rows (l.host + 1) l.initial.out l.rest l.end l.count l.out

abbrev pub decreases-loop-rest : goal.decreases-loop-rest
decreases-loop-rest g l = length l.rest
