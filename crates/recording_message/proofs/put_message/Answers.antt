-- `recording_message::put_message` meets its contract. Assumes nothing.
use Rattle.recording_message.proofs.Readings.{count_few}
use Rattle.recording_message.specs.Message.{message_text}
use borrow.Author.Rules.{rules}
use Rattle.recording_message.proofs.put_message.Goals as goal

pub put_reading-requires-clause-rows_len : goal.put_reading-requires-clause-rows_len
put_reading-requires-clause-rows_len c = let f = count_few _ _ c.read-reading.ensures in search (rules, f)

pub returns-clause-written : goal.returns-clause-written
unfolding message_text
returns-clause-written c = rw (← c.read-reading.ensures) c.put_reading.ensures.written
