-- What the functions that walk the slots promise.
use Rattle.std.specs.Prelude.{ℕ, Bool, true, cond, not, List, [], map, eqb}
use Rattle.checks.specs.Lists.{join}
use Rattle.gateway_state.specs.declared.Slot.{Slot}
use Rattle.gateway_state.specs.declared.State.{State}
use Rattle.gateway_state.specs.Slots.{slot_at}
use Rattle.gateway_state.specs.Places.{row_counts}
use Rattle.listing_lines.specs.Lines.{entry_text}
use Rattle.listing_lines.specs.Listing.{entry_of, entries, listable}

abbrev pub is_used : Slot → Bool
is_used slot = not (eqb slot.address 0)

-- slot i's part of the text: none of a free slot's
unfoldable pub slot_text : State → ℕ → List ℕ → List ℕ
slot_text st i table = cond (eqb (slot_at st i).address 0) [] (entry_text (entry_of i (slot_at st i) table (row_counts st)))

-- whether slot i can be listed: a free one always
unfoldable pub slot_listable : State → ℕ → List ℕ → Bool
slot_listable st i table = cond (eqb (slot_at st i).address 0) true (listable (entry_of i (slot_at st i) table (row_counts st)))

-- all used slots
unfoldable pub slots_text : State → List ℕ → List ℕ
slots_text st table = join (map entry_text (entries st table))
