-- `recording_call::add_neighbour` meets its contract. Assumes nothing.
use Rattle.recording_call.proofs.Laws.{add_silent, add_done}
use Rattle.recording_call.proofs.add_neighbour.Goals as goal

pub tell_silent-requires-clause-first_value : goal.tell_silent-requires-clause-first_value
tell_silent-requires-clause-first_value c = add_silent c.args.st c.args.address c.args.asn c.add-o.ensures

pub tell_silent-requires-clause-in_bounds : goal.tell_silent-requires-clause-in_bounds
tell_silent-requires-clause-in_bounds c = c.requires

pub returns : goal.returns
returns c = let both = add_done c.args.t c.args.st c.args.address c.args.out.now c.args.asn c.add-o.ensures (c.tell_silent.ensures.value, c.tell_silent.ensures.out_after) in record { value = both.0; out_after = both.1 }
