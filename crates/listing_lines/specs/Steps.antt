-- What the functions that write the text of one slot promise.
use Rattle.std.specs.Prelude.{ℕ, List, map}
use Rattle.checks.specs.Lists.{join}
use Rattle.nets.specs.Rows.{Row}
use Rattle.gateway_state.specs.declared.Slot.{Slot}
use Rattle.listing_lines.specs.Lines.{Entry, entry_for, row_text}

-- what is listed of slot i where these are its used rows
abbrev pub slot_entry : ℕ → Slot → List Row → Entry
slot_entry i slot rows = entry_for i slot.address slot.asn slot.neighbour rows slot.seconds

-- the rows of a slot, one after the other
unfoldable pub rows_text : List Row → List ℕ
rows_text rows = join (map row_text rows)
