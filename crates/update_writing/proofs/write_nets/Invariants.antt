use Rattle.update_writing.proofs.Loops.{Nets}
use Rattle.update_writing.proofs.write_nets.Given as goal

abbrev pub invariant-loop-row : goal.invariant-loop-row
invariant-loop-row g l = Nets g.R.LentRow.as_row l.third l.rows l.at l.fn.out l.row-index l.end l.count l.out
