-- `host_listing::put_slot` meets its contract: nothing of a free slot. Assumes nothing.
use Rattle.host_listing.proofs.Laws.{few_rows, address_is, few_numbers, used_room, used_written}
use Rattle.listing.proofs.Laws.{free_written}
use Rattle.host_state_block.specs.Block.{state_in}
use Rattle.octets_words.specs.Words.{words_of}
use mathlib.Core.Path.{◌∙◌}
use native.Mathlib.Omega.{arith}
use Rattle.host_listing.proofs.put_slot.Goals as goal

pub returns-then-slot-eq0 : goal.returns-then-slot-eq0
returns-then-slot-eq0 c = free_written (state_in c.args.block.now) c.args.i (words_of c.args.table.now) _ (address_is c.requires.lent.0 c.args.i c.slot_at-slot.ensures ∙ c.if-slot-eq0.true)

pub used_rows-requires : goal.used_rows-requires
used_rows-requires c = (c.requires.lent.1, few_rows c.requires.lent.0 c.args.i c.slot_at-slot.ensures, c.requires.lent.0.table_long)

pub put_used-requires-clause-i_bound : goal.put_used-requires-clause-i_bound
put_used-requires-clause-i_bound c = (omega (arith, c.requires.lent.1), few_numbers c.requires.lent.0 c.args.i c.slot_at-slot.ensures c.used_rows.ensures, omega arith)

pub put_used-requires-clause-room : goal.put_used-requires-clause-room
put_used-requires-clause-room c = used_room c.requires.lent.0 c.args.i c.slot_at-slot.ensures c.used_rows.ensures c.if-slot-eq0.false c.args.out.now c.requires.room

pub returns : goal.returns
returns c = used_written c.requires.lent.0 c.args.i c.slot_at-slot.ensures c.used_rows.ensures c.if-slot-eq0.false c.put_used.ensures
