-- `recording_trace::put_messages` meets its contract. Assumes nothing.
use Rattle.text.proofs.Writing.{puts_both}
use Rattle.recording_trace.specs.Trace.{messages_text}
use Rattle.recording_trace.proofs.put_messages.Goals as goal

pub returns-clause-written : goal.returns-clause-written
unfolding messages_text
returns-clause-written c = puts_both c.put_received.ensures.written (puts_both c.put_sent.ensures.written c.put_sent-2.ensures.written)
