-- `recording_call::tell_silent` meets its contract: a line of the trace, or none. Assumes nothing.
use native.Mathlib.Omega.{arith}
use Rattle.recording_call.proofs.Laws.{silent_done}
use Rattle.recording_call.proofs.tell_silent.Goals as goal

pub trace-requires-clause-traced_value : goal.trace-requires-clause-traced_value
trace-requires-clause-traced_value c = (c.if-t.true, c.requires.in_bounds c.if-t.true)

pub trace-requires-clause-received_len_bound : goal.trace-requires-clause-received_len_bound
trace-requires-clause-received_len_bound c = (omega arith, omega (arith, c.requires.first_value.0, c.requires.first_value.1), omega arith)

pub returns : goal.returns
returns c = let both = silent_done c.args.t c.args.deed c.args.address c.args.st c.args.o c.args.out.now c.if-t.false c.requires.first_value.0 c.requires.first_value.1 c.told.ensures in record { value = both.0; out_after = both.1 }
