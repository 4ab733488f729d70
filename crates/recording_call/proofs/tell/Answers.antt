-- `recording_call::tell` meets its contract: a line of the trace, or the replies. Assumes nothing.
use native.Mathlib.Omega.{arith}
use Rattle.recording_call.proofs.Laws.{plain_done}
use Rattle.recording_call.proofs.tell.Goals as goal

pub trace-requires-clause-traced_value : goal.trace-requires-clause-traced_value
trace-requires-clause-traced_value c = (c.if-t.true, c.requires.in_bounds)

pub trace-requires-clause-received_len_bound : goal.trace-requires-clause-received_len_bound
trace-requires-clause-received_len_bound c = (c.requires.received_len_bound.0, omega (arith, c.requires.received_len_bound.1, c.requires.received_len_bound.2), omega (arith, c.requires.received_len_bound.2))

pub put_replies-written-requires : goal.put_replies-written-requires
put_replies-written-requires c = (c.requires.received_len_bound.1, c.requires.received_len_bound.2, omega (arith, c.requires.in_bounds))

pub returns : goal.returns
returns c = let both = plain_done c.args.t c.args.deed c.args.address c.args.received.now c.args.st c.args.o c.args.reply.now c.args.out.now c.if-t.false c.put_replies-written.ensures.value c.put_replies-written.ensures.out_after c.told.ensures in record { value = both.0; out_after = both.1 }
