-- `recording_message::put_body` meets its contract. Assumes nothing.
use Rattle.recording_message.specs.Message.{body_fields}
use Rattle.text.proofs.Writing.{puts_nothing}
use Rattle.recording_message.proofs.put_body.Goals as goal

pub returns-in-Err-clause-written : goal.returns-in-Err-clause-written
unfolding body_fields
returns-in-Err-clause-written c = rw c.in-Err.is (puts_nothing c.args.out.now)

pub returns-in-Ok-clause-written : goal.returns-in-Ok-clause-written
unfolding body_fields
returns-in-Ok-clause-written c = rw c.in-Ok.is c.put_own.ensures.written

pub returns-in-Ok-clause-upper_bound : goal.returns-in-Ok-clause-upper_bound
unfolding body_fields
returns-in-Ok-clause-upper_bound c = c.put_own.ensures.upper_bound
