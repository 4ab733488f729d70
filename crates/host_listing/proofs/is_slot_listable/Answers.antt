-- `host_listing::is_slot_listable` meets its contract. Assumes nothing.
use Rattle.host_listing.proofs.Laws.{few_rows, address_is, used_listable}
use Rattle.listing.proofs.Laws.{free_listable}
use Rattle.host_state_block.specs.Block.{state_in}
use Rattle.octets_words.specs.Words.{words_of}
use mathlib.Core.Path.{sym, ◌∙◌}
use Rattle.host_listing.proofs.is_slot_listable.Goals as goal

pub returns-then-slot-eq0 : goal.returns-then-slot-eq0
returns-then-slot-eq0 c = sym (free_listable (state_in c.args.block.now) c.args.i (words_of c.args.table.now) (address_is c.requires.0 c.args.i c.slot_at-slot.ensures ∙ c.if-slot-eq0.true))

pub used_rows-requires : goal.used_rows-requires
used_rows-requires c = (c.requires.1, few_rows c.requires.0 c.args.i c.slot_at-slot.ensures, c.requires.0.table_long)

pub returns : goal.returns
returns c = c.are_rows_marked.ensures ∙ used_listable c.requires.0 c.args.i c.slot_at-slot.ensures c.used_rows.ensures c.if-slot-eq0.false
