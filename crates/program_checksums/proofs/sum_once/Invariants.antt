-- `program_checksums::sum_once` meets its contract: what is left gets shorter with every message. Assumes nothing.
use Rattle.std.proofs.Common.{length}
use Rattle.program_checksums.proofs.sum_once.Given as goal

abbrev pub decreases-loop-rest : goal.decreases-loop-rest
decreases-loop-rest l = length l.rest
