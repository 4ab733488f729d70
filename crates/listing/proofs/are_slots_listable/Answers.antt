-- `listing::are_slots_listable` meets its contract. The loop keeps: the used slots left decide for all. Assumes nothing.
use Rattle.listing.proofs.Laws.{left, listable_not, listable_more, listable_end}
use Rattle.listing_lines.specs.Listing.{entries}
use Rattle.gateway_state.proofs.ListLaws.{unmapped}
use lib.ListN.{length}
use mathlib.Core.Path.{◌≡◌, sym, ◌∙◌}
use native.Mathlib.Omega.{arith}
use borrow.Author.Rules.{rules}
use Rattle.listing.proofs.are_slots_listable.Goals as goal

pub returns-then-not-is_slot_listable : goal.returns-then-not-is_slot_listable
unfolding entries left
returns-then-not-is_slot_listable c = let eight : length c.args.st.slots ≡ 8 = search (rules, unmapped) in sym (c.loop-i.invariant ∙ listable_not c.args.st c.args.table.now c.loop-i.i (omega arith) (sym c.is_slot_listable.ensures ∙ c.if-not-is_slot_listable.true))

pub loop-i-preserved : goal.loop-i-preserved
loop-i-preserved c = let eight : length c.args.st.slots ≡ 8 = search (rules, unmapped) in c.loop-i.invariant ∙ listable_more c.args.st c.args.table.now c.loop-i.i (omega arith) (sym c.is_slot_listable.ensures ∙ c.if-not-is_slot_listable.false)

pub returns : goal.returns
unfolding entries left
returns c = let eight : length c.args.st.slots ≡ 8 = search (rules, unmapped) in sym (c.loop-i.invariant ∙ listable_end c.args.st c.args.table.now c.loop-i.i (omega arith))
