-- `host_listing::check` meets its contract: the first check that fails answers. Assumes nothing.
use Rattle.host_listing.proofs.Calls.{other_length, unformed, unfit, lent, unmarked, short_buffer, all_passed}
use mathlib.Core.Path.{sym, ◌∙◌}
use Rattle.host_listing.proofs.check.Goals as goal

pub returns-then-block-ne-BLOCK : goal.returns-then-block-ne-BLOCK
returns-then-block-ne-BLOCK c = other_length c.args.block.now c.args.table.now c.args.octets c.if-block-ne-BLOCK.true

pub returns-then-not-is_formed : goal.returns-then-not-is_formed
returns-then-not-is_formed c = unformed c.args.block.now c.args.table.now c.args.octets c.if-block-ne-BLOCK.false (sym c.is_formed.ensures ∙ c.if-not-is_formed.true)

pub returns-then-table-ne12288 : goal.returns-then-table-ne12288
returns-then-table-ne12288 c = unfit c.args.block.now c.args.table.now c.args.octets c.if-block-ne-BLOCK.false (sym c.is_formed.ensures ∙ c.if-not-is_formed.false) c.if-table-ne12288.true

pub are_slots_listable-requires : goal.are_slots_listable-requires
are_slots_listable-requires c = lent c.args.block.now c.args.table.now c.args.octets c.if-block-ne-BLOCK.false (sym c.is_formed.ensures ∙ c.if-not-is_formed.false) c.if-table-ne12288.false

pub returns-then-not-are_slots_listable : goal.returns-then-not-are_slots_listable
returns-then-not-are_slots_listable c = unmarked c.args.block.now c.args.table.now c.args.octets c.if-block-ne-BLOCK.false (sym c.is_formed.ensures ∙ c.if-not-is_formed.false) c.if-table-ne12288.false (sym c.are_slots_listable.ensures ∙ c.if-not-are_slots_listable.true)

pub returns-then-octets-lt65536 : goal.returns-then-octets-lt65536
returns-then-octets-lt65536 c = short_buffer c.args.block.now c.args.table.now c.args.octets c.if-block-ne-BLOCK.false (sym c.is_formed.ensures ∙ c.if-not-is_formed.false) c.if-table-ne12288.false (sym c.are_slots_listable.ensures ∙ c.if-not-are_slots_listable.false) c.if-octets-lt65536.true

pub returns : goal.returns
returns c = all_passed c.args.block.now c.args.table.now c.args.octets c.if-block-ne-BLOCK.false (sym c.is_formed.ensures ∙ c.if-not-is_formed.false) c.if-table-ne12288.false (sym c.are_slots_listable.ensures ∙ c.if-not-are_slots_listable.false) c.if-octets-lt65536.false
