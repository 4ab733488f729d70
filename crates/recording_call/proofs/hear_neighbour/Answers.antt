-- `recording_call::hear_neighbour` meets its contract: the octets read, the call, and what is told of it. Assumes nothing.
use Rattle.recording_call.proofs.Laws.{message_room, message_is, message_within, message_long, message_few, lent_is, receive_made, telt_as, made_done}
use Rattle.recording_trace.specs.declared.Deed.TheVariants as D
use Rattle.recording_call.specs.Told.{addressed_to, deed_of, message_in, on}
use Rattle.recording_call.proofs.hear_neighbour.Goals as goal

pub read_hex-size-requires : goal.read_hex-size-requires
read_hex-size-requires c = (c.requires.0, message_room c.args.digits.now c.requires.0 c.requires.1)

pub slice_bounds-octets-end : goal.slice_bounds-octets-end
slice_bounds-octets-end c = message_within c.args.digits.now _ c.read_hex-size.ensures.value c.read_hex-size.ensures.out_after

pub slice_bounds-receive-end-3 : goal.slice_bounds-receive-end-3
slice_bounds-receive-end-3 c = message_long c.args.digits.now _ c.read_hex-size.ensures.value c.read_hex-size.ensures.out_after

pub slice_bounds-octets-end-2 : goal.slice_bounds-octets-end-2
slice_bounds-octets-end-2 c = message_within c.args.digits.now _ c.read_hex-size.ensures.value c.read_hex-size.ensures.out_after

pub slice_bounds-tell-end : goal.slice_bounds-tell-end
slice_bounds-tell-end c = message_long c.args.digits.now _ c.read_hex-size.ensures.value c.read_hex-size.ensures.out_after

pub tell-requires : goal.tell-requires
tell-requires c = let m = receive_made c.args.st c.args.table.now c.args.address lent_is (message_is c.args.digits.now _ c.read_hex-size.ensures.value c.read_hex-size.ensures.out_after) c.receive-o.ensures.value c.receive-o.ensures.table_after c.receive-o.ensures.reply_after in record { received_len_bound = (message_few c.args.digits.now _ c.read_hex-size.ensures.value c.read_hex-size.ensures.out_after c.requires.0 c.requires.1, m.few, m.long); in_bounds = c.requires.2 }

pub returns : goal.returns
unfolding addressed_to deed_of message_in on
returns c = let both = made_done (receive_made c.args.st c.args.table.now c.args.address lent_is (message_is c.args.digits.now _ c.read_hex-size.ensures.value c.read_hex-size.ensures.out_after) c.receive-o.ensures.value c.receive-o.ensures.table_after c.receive-o.ensures.reply_after) c.args.t c.args.out.now (telt_as c.args.t D.Receive c.args.address c.args.st _ _ c.args.out.now (message_is c.args.digits.now _ c.read_hex-size.ensures.value c.read_hex-size.ensures.out_after) (c.tell.ensures.value, c.tell.ensures.out_after)) in record { value = both.0; table_after = both.1.0; out_after = both.1.1 }
