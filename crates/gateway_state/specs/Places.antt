-- Where the rows of a slot stand in the lent table. Nothing else knows the layout; it is said of the row counts of
-- all slots, of which today's asks only the slot's own.
use Rattle.std.specs.Prelude.{ℕ, ◌+◌, ◌*◌, List, map, ◌++◌, get_or, take, drop}
use Rattle.nets.specs.Rows.{Row, rows_of, flat}
use Rattle.update_rows.specs.Storing.{padded}
use Rattle.gateway_state.specs.declared.Slot.{Slot}
use Rattle.gateway_state.specs.declared.State.{State}

-- 01: "128 rows each", three numbers a row: the rows of a slot in the table
abbrev pub slot_rows : ℕ
slot_rows = 128

abbrev pub slot_numbers : ℕ
slot_numbers = 384

abbrev pub row_count : Slot → ℕ
row_count slot = slot.rows

-- the row counts of the slots, in their order
unfoldable pub row_counts : State → List ℕ
row_counts st = map row_count st.slots

-- 01: "slot by slot, three a row": the index of slot i's first number
unfoldable pub place : List ℕ → ℕ → ℕ
place counts i = i * slot_numbers

-- the numbers that are slot i's
unfoldable pub part_at : List ℕ → ℕ → List ℕ
part_at table i = take slot_numbers (drop (i * slot_numbers) table)

unfoldable pub with_part : List ℕ → ℕ → List ℕ → List ℕ
with_part table i part = take (i * slot_numbers) table ++ (part ++ drop (i * slot_numbers + slot_numbers) table)

-- the rows of slot i: those below its count
unfoldable pub read_rows : List ℕ → List ℕ → ℕ → List Row
read_rows table counts i = rows_of (take (3 * get_or counts i 0) (part_at table i))

-- 01: "replacing rows writes the slot's 128 rows, the rest zero": the table once slot i has these rows
unfoldable pub write_rows : List ℕ → List ℕ → ℕ → List Row → List ℕ
write_rows table counts i rows = with_part table i (padded slot_numbers (flat rows))
