-- `recording_trace::put_received` meets its contract. Assumes nothing.
use native.Mathlib.Omega.{arith}
use Rattle.text.specs.Text.{text}
use Rattle.recording_trace.specs.Trace.{received_text}
use Rattle.recording_trace.proofs.Laws.{not_received}
use Rattle.recording_trace.proofs.put_received.Goals as goal

pub returns-in-Receive-clause-written : goal.returns-in-Receive-clause-written
unfolding text received_text
returns-in-Receive-clause-written c = rw c.in-Receive.is c.put_message.ensures.written

pub returns-in_default : goal.returns-in_default
returns-in_default c = record { written = not_received c.args.deed c.args.net c.args.message.now c.args.out.now c.in_default.not-Receive; upper_bound = omega arith }
