-- `recording_call::trace` meets its contract: no line, or one. Assumes nothing.
use native.Mathlib.Omega.{arith}
use mathlib.Core.Path.{sym, ◌∙◌}
use Rattle.recording_call.proofs.Laws.{passed_done, traced_done}
use Rattle.recording_call.proofs.trace.Goals as goal

pub is_passed_over-requires : goal.is_passed_over-requires
is_passed_over-requires c = omega (arith, c.requires.received_len_bound.1)

pub returns-then-is_passed_over : goal.returns-then-is_passed_over
returns-then-is_passed_over c = let both = passed_done c.args.t c.args.deed c.args.address c.args.received.now c.args.st c.args.o c.args.reply.now c.args.out.now c.requires.traced_value.0 (sym (c.is_passed_over.ensures c.args.received.now) ∙ c.if-is_passed_over.true) c.one_more.ensures c.told.ensures in record { value = both.0; out_after = both.1 }

pub put_trace-written-requires-clause-received_len_bound : goal.put_trace-written-requires-clause-received_len_bound
put_trace-written-requires-clause-received_len_bound c = c.requires.received_len_bound

pub put_trace-written-requires-clause-in_bounds : goal.put_trace-written-requires-clause-in_bounds
put_trace-written-requires-clause-in_bounds c = c.requires.traced_value.1

pub returns : goal.returns
returns c = let both = traced_done c.args.t c.args.deed c.args.address c.args.received.now c.args.st c.args.o c.args.reply.now c.args.out.now c.requires.traced_value.0 (sym (c.is_passed_over.ensures c.args.received.now) ∙ c.if-is_passed_over.false) c.put_trace-written.ensures.value c.put_trace-written.ensures.out_after c.told-2.ensures in record { value = both.0; out_after = both.1 }
