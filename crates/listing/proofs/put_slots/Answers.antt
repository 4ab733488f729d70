-- `listing::put_slots` meets its contract. The loop keeps what is left to write. Assumes nothing.
use Rattle.text.proofs.Writing.{all_left, part_room, less_left, none_left}
use Rattle.listing.proofs.Laws.{left, text_left, text_turn, text_end}
use Rattle.listing.specs.Steps.{slot_text, slots_text}
use Rattle.listing_lines.specs.Listing.{entries}
use Rattle.gateway_state.proofs.ListLaws.{unmapped}
use lib.ListN.{length}
use mathlib.Core.Path.{◌≡◌}
use Prim.Native.Nat.{◌+◌}
use native.Mathlib.Omega.{arith}
use borrow.Author.Rules.{rules}
use Rattle.listing.proofs.put_slots.Goals as goal

pub loop-i-init : goal.loop-i-init
unfolding slots_text text_left left entries
loop-i-init c = all_left _ _ c.requires.room

pub put_slot-requires-clause-room : goal.put_slot-requires-clause-room
put_slot-requires-clause-room c = let eight : length c.args.st.slots ≡ 8 = search (rules, unmapped) in part_room c.loop-i.invariant (slot_text c.args.st c.loop-i.i c.args.table.now) (text_left c.args.st c.args.table.now (c.loop-i.i + 1)) (text_turn c.args.st c.args.table.now c.loop-i.i (omega arith))

pub loop-i-preserved : goal.loop-i-preserved
loop-i-preserved c = let eight : length c.args.st.slots ≡ 8 = search (rules, unmapped) in less_left c.loop-i.invariant (slot_text c.args.st c.loop-i.i c.args.table.now) (text_left c.args.st c.args.table.now (c.loop-i.i + 1)) (text_turn c.args.st c.args.table.now c.loop-i.i (omega arith)) c.put_slot.ensures

pub returns : goal.returns
returns c = let eight : length c.args.st.slots ≡ 8 = search (rules, unmapped) in none_left c.loop-i.invariant (text_end c.args.st c.args.table.now c.loop-i.i (omega arith))
