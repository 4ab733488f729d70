-- `listing::put_listing` meets its contract: how many neighbours, then each. Assumes nothing.
use Rattle.std.proofs.Common.{rules}
use native.Mathlib.Omega.{arith}
use mathlib.Core.Path.{◌≡◌, ap, ◌∙◌}
use lib.ListN.{length}
use Rattle.gateway_state.specs.Places.{row_counts}
use Rattle.text.proofs.Writing.{laid}
use Rattle.listing.proofs.Laws.{used_count, count_room, slots_room, all_done}
use Rattle.listing.specs.Steps.{slots_text}
use Rattle.listing_lines.specs.Listing.{entries}
use Rattle.text.specs.Text.{text}
use Rattle.listing.proofs.put_listing.Goals as goal

pub put_line-requires : goal.put_line-requires
unfolding text entries
put_line-requires c = count_room (entries c.args.st c.args.table.now) c.neighbours.result (c.neighbours.ensures ∙ used_count 0 c.args.st.slots c.args.table.now (row_counts c.args.st)) c.new-writer.result (omega (arith, c.new-writer.ensures.begun, ap length c.new-writer.ensures.after, c.requires.room))

pub put_slots-requires-clause-room : goal.put_slots-requires-clause-room
unfolding text slots_text entries
put_slots-requires-clause-room c = slots_room (entries c.args.st c.args.table.now) c.neighbours.result (c.neighbours.ensures ∙ used_count 0 c.args.st.slots c.args.table.now (row_counts c.args.st)) c.new-writer.result (omega (arith, c.new-writer.ensures.begun, ap length c.new-writer.ensures.after, c.requires.room)) c.put_line.ensures

pub returns : goal.returns
unfolding text slots_text entries
returns c = let both = laid c.new-writer.ensures.begun c.new-writer.ensures.after (omega (arith, c.new-writer.ensures.begun, ap length c.new-writer.ensures.after, c.requires.room)) (all_done (entries c.args.st c.args.table.now) c.neighbours.result (c.neighbours.ensures ∙ used_count 0 c.args.st.slots c.args.table.now (row_counts c.args.st)) c.new-writer.result (omega (arith, c.new-writer.ensures.begun, ap length c.new-writer.ensures.after, c.requires.room)) c.put_line.ensures c.put_slots.ensures) in
    record { value = c.end.ensures ∙ both.0; out_after = search (rules, both.1) }
