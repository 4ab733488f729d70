-- `recording_message::put_fields` meets its contract. The loop keeps what is written and room for the rest. Assumes nothing.
use Rattle.recording_message.proofs.Laws.{Fields}
use Rattle.recording_message.proofs.put_fields.Given as goal

abbrev pub invariant-loop-value : goal.invariant-loop-value
invariant-loop-value l = Fields l.keys l.values l.initial.out l.rest l.value-index l.out
