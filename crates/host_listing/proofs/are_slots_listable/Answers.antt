-- `host_listing::are_slots_listable` meets its contract. The loop keeps: the used slots left decide for all. Assumes
-- nothing.
use Rattle.host_listing.proofs.Laws.{eight}
use Rattle.listing.proofs.Laws.{left, listable_not, listable_more, listable_end}
use Rattle.listing_lines.specs.Listing.{entries}
use Rattle.host_state_block.specs.Block.{state_in}
use Rattle.octets_words.specs.Words.{words_of}
use mathlib.Core.Path.{refl, sym, ◌∙◌}
use native.Mathlib.Omega.{arith}
use Rattle.host_listing.proofs.are_slots_listable.Goals as goal

pub is_slot_listable-requires : goal.is_slot_listable-requires
is_slot_listable-requires c = (c.requires, c.loop-i-test.true)

pub returns-then-not-is_slot_listable : goal.returns-then-not-is_slot_listable
unfolding entries left
returns-then-not-is_slot_listable c = let e = eight c.args.block.now in sym (c.loop-i.invariant ∙ listable_not (state_in c.args.block.now) (words_of c.args.table.now) c.loop-i.i (omega arith) (sym c.is_slot_listable.ensures ∙ c.if-not-is_slot_listable.true))

pub loop-i-preserved : goal.loop-i-preserved
loop-i-preserved c = let e = eight c.args.block.now in c.loop-i.invariant ∙ listable_more (state_in c.args.block.now) (words_of c.args.table.now) c.loop-i.i (omega arith) (sym c.is_slot_listable.ensures ∙ c.if-not-is_slot_listable.false)

pub returns : goal.returns
unfolding entries left
returns c = let e = eight c.args.block.now in sym (c.loop-i.invariant ∙ listable_end (state_in c.args.block.now) (words_of c.args.table.now) c.loop-i.i (omega arith))
