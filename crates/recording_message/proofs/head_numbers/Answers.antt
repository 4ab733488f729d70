-- `recording_message::head_numbers` meets its contract. Assumes nothing.
use Rattle.recording_message.specs.Message.{head_numbers}
use Rattle.recording_message.proofs.head_numbers.Goals as goal

pub returns : goal.returns
unfolding head_numbers
returns c = rw (c.octet.ensures, c.word16_at.ensures, c.checksum.ensures, c.word16_at-2.ensures, c.word16_at-3.ensures)
