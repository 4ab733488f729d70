-- `recording_gather::gather` meets its contract. The loop keeps: what is left of the piece, from the state reached, gives what the whole gives. Assumes nothing.
use Rattle.recording_gather.proofs.Laws.{Gathering}
use Rattle.recording_gather.proofs.gather.Given as goal

abbrev pub invariant-loop-i : goal.invariant-loop-i
invariant-loop-i l = Gathering l.initial.line l.held l.input l.line l.size l.i
