-- `program_driver::play` is safe: the numbers of the table that are lent are no more than it has. Assumes nothing.
use Rattle.std.proofs.Common.{◌≤◌}
use Rattle.program_driver.proofs.play.Given as goal

abbrev pub invariant-loop : goal.invariant-loop
invariant-loop g l = l.count ≤ 4096
