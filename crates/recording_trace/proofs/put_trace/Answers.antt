-- `recording_trace::put_trace` meets its contract: front, record, messages, end of line. Assumes nothing.
use Rattle.std.proofs.Common.{rules}
use native.Mathlib.Omega.{arith}
use mathlib.Core.Path.{ap, ◌∙◌}
use lib.ListN.{length}
use Rattle.text.specs.Text.{text}
use Rattle.text.specs.Writer.{HasRoom}
use Rattle.text.proofs.Writing.{laid}
use Rattle.recording_trace.specs.Trace.{trace_text}
use Rattle.recording_trace.specs.Steps.{happened_in}
use Rattle.recording_trace.proofs.Laws.{line_written}
use Rattle.recording_trace.proofs.put_trace.Goals as goal

pub returns : goal.returns
unfolding text
returns c =
    let a = c.args in
    let w = line_written a.t a.deed a.address a.received.now a.st a.o a.reply.now c.slot_for-found.ensures c.slot_for-left.ensures c.told_slot-told.ensures c.sum-second.ensures c.put_front.ensures.written c.put_record.ensures.written c.put_messages.ensures.written c.put.ensures in
    let room : HasRoom c.new-writer.result (trace_text a.t (happened_in a.deed a.address a.received.now a.st a.o a.reply.now)) = omega (arith, w.after, c.new-writer.ensures.begun, ap length c.new-writer.ensures.after, c.requires.in_bounds, c.put_front.ensures.upper_bound, c.put_record.ensures.upper_bound, c.put_messages.ensures.upper_bound, c.put.ensures.after) in
    let both = laid c.new-writer.ensures.begun c.new-writer.ensures.after room w in
    record { value = c.end.ensures ∙ both.0; out_after = search (rules, both.1) }
