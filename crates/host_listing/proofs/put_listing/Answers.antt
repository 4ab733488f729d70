-- `host_listing::put_listing` meets its contract: how many neighbours, then each. Assumes nothing.
use Rattle.std.proofs.Common.{rules}
use native.Mathlib.Omega.{arith}
use mathlib.Core.Path.{ap, ◌∙◌}
use lib.ListN.{length}
use Rattle.text.specs.Text.{text}
use Rattle.text.proofs.Writing.{laid}
use Rattle.octets_words.specs.Words.{words_of}
use Rattle.text.specs.Writer.{HasRoom}
use Rattle.listing_lines.specs.Lines.{listing_text}
use Rattle.listing_lines.specs.Listing.{entries}
use Rattle.listing.specs.Steps.{slots_text}
use Rattle.listing.proofs.Laws.{count_room, slots_room, all_done}
use Rattle.host_state_block.specs.Block.{state_in}
use Rattle.host_listing.proofs.put_listing.Goals as goal

pub put_line-requires : goal.put_line-requires
unfolding text
put_line-requires c = count_room (entries (state_in c.args.block.now) (words_of c.args.table.now)) c.neighbours.result (c.neighbours.ensures (words_of c.args.table.now)) c.new-writer.result (omega (arith, c.new-writer.ensures.begun, ap length c.new-writer.ensures.after, c.requires.room))

pub put_slots-requires-clause-room : goal.put_slots-requires-clause-room
unfolding text slots_text
put_slots-requires-clause-room c = slots_room (entries (state_in c.args.block.now) (words_of c.args.table.now)) c.neighbours.result (c.neighbours.ensures (words_of c.args.table.now)) c.new-writer.result (omega (arith, c.new-writer.ensures.begun, ap length c.new-writer.ensures.after, c.requires.room)) c.put_line.ensures

pub returns : goal.returns
unfolding text slots_text
returns c = let room : HasRoom c.new-writer.result (listing_text (entries (state_in c.args.block.now) (words_of c.args.table.now))) = omega (arith, c.new-writer.ensures.begun, ap length c.new-writer.ensures.after, c.requires.room) in
    let both = laid c.new-writer.ensures.begun c.new-writer.ensures.after room (all_done (entries (state_in c.args.block.now) (words_of c.args.table.now)) c.neighbours.result (c.neighbours.ensures (words_of c.args.table.now)) c.new-writer.result room c.put_line.ensures c.put_slots.ensures) in
    record { value = c.end.ensures ∙ both.0; out_after = search (rules, both.1) }
