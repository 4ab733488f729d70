-- `recording_message::put_address` meets its contract: a dotted quad has at most 15 octets. Assumes nothing.
use native.Mathlib.Omega.{arith}
use Rattle.text.proofs.Laws.{dotted_length}
use Rattle.text.proofs.Writing.{puts_both}
use Rattle.recording_message.specs.Message.{address_field}
use Rattle.recording_message.proofs.put_address.Goals as goal

pub put-requires-2 : goal.put-requires-2
put-requires-2 c = omega (arith, dotted_length c.args.address, c.requires, c.put.ensures.after, c.put.ensures.long)

pub returns-clause-written : goal.returns-clause-written
unfolding address_field
returns-clause-written c = puts_both c.put.ensures c.put-2.ensures

pub returns-clause-upper_bound : goal.returns-clause-upper_bound
returns-clause-upper_bound c = omega (arith, dotted_length c.args.address, c.put.ensures.after, c.put-2.ensures.after)
