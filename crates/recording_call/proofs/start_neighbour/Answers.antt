-- `recording_call::start_neighbour` meets its contract: the call, and what is told of it. Assumes nothing.
use native.Mathlib.Omega.{arith}
use Rattle.neighbour_machine.specs.Intrinsics.{Start}
use Rattle.recording_call.proofs.Laws.{lent_is, event_made, made_done}
use Rattle.recording_call.specs.Told.{addressed_to, intrinsic_deed, deed_of, message_in, on}
use Rattle.recording_call.proofs.start_neighbour.Goals as goal

pub tell-requires : goal.tell-requires
tell-requires c = let m = event_made Start c.args.st c.args.table.now c.args.address lent_is c.start-o.ensures.value c.start-o.ensures.table_after c.start-o.ensures.reply_after in record { received_len_bound = (omega arith, m.few, m.long); in_bounds = c.requires }

pub returns : goal.returns
unfolding addressed_to intrinsic_deed deed_of message_in on
returns c = let both = made_done (event_made Start c.args.st c.args.table.now c.args.address lent_is c.start-o.ensures.value c.start-o.ensures.table_after c.start-o.ensures.reply_after) c.args.t c.args.out.now (c.tell.ensures.value, c.tell.ensures.out_after) in record { value = both.0; table_after = both.1.0; out_after = both.1.1 }
