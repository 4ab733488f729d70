use Rattle.std.proofs.Common.{length}
use Rattle.update_writing.specs.Blocks.{block_octets}
use Rattle.update_writing.proofs.Loops.{Grouping}
use Rattle.update_writing.proofs.write_side.Given as goal

abbrev pub invariant-loop-block : goal.invariant-loop-block
invariant-loop-block g l = Grouping g.R.LentRow.as_row (λ row. row.gateway) (block_octets l.net) l.rows l.at l.fn.out l.rest l.end l.count l.out

abbrev pub decreases-loop-block : goal.decreases-loop-block
decreases-loop-block g l = length l.rest
