-- `listing::check` meets its contract: the first check that fails answers. Assumes nothing.
use Rattle.listing.proofs.Calls.{unformed, unfit, unmarked, short_buffer, all_passed}
use mathlib.Core.Path.{sym, ◌∙◌}
use Rattle.listing.proofs.check.Goals as goal

pub returns-then-not-well_formed : goal.returns-then-not-well_formed
returns-then-not-well_formed c = unformed _ _ _ (sym c.well_formed-2.ensures ∙ c.if-not-well_formed.true)

pub returns-then-table-ne3072 : goal.returns-then-table-ne3072
returns-then-table-ne3072 c = unfit _ _ _ (sym c.well_formed-2.ensures ∙ c.if-not-well_formed.false) c.if-table-ne3072.true

pub returns-then-not-are_slots_listable : goal.returns-then-not-are_slots_listable
returns-then-not-are_slots_listable c = unmarked _ _ _ (sym c.well_formed-2.ensures ∙ c.if-not-well_formed.false) c.if-table-ne3072.false (sym c.are_slots_listable.ensures ∙ c.if-not-are_slots_listable.true)

pub returns-then-octets-lt65536 : goal.returns-then-octets-lt65536
returns-then-octets-lt65536 c = short_buffer _ _ _ (sym c.well_formed-2.ensures ∙ c.if-not-well_formed.false) c.if-table-ne3072.false (sym c.are_slots_listable.ensures ∙ c.if-not-are_slots_listable.false) c.if-octets-lt65536.true

pub returns : goal.returns
returns c = all_passed _ _ _ (sym c.well_formed-2.ensures ∙ c.if-not-well_formed.false) c.if-table-ne3072.false (sym c.are_slots_listable.ensures ∙ c.if-not-are_slots_listable.false) c.if-octets-lt65536.false
