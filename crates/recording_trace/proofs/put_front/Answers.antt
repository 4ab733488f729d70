-- `recording_trace::put_front` meets its contract, part by part. Assumes nothing.
use Rattle.text.specs.Text.{text}
use Rattle.text.proofs.Writing.{puts_both}
use Rattle.recording_trace.specs.Trace.{front_text}
use Rattle.recording_trace.proofs.put_front.Goals as goal

pub returns-clause-written : goal.returns-clause-written
unfolding text front_text
returns-clause-written c = puts_both c.put_fields.ensures.written (puts_both c.put_address.ensures.written (puts_both c.put.ensures (puts_both (rw c.deed_word.ensures.word at c.put-2.ensures) c.put_fields-2.ensures.written)))
