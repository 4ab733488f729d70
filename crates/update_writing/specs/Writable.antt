-- The rows that the writer takes. 01: "The writer refuses 16 for a field the reader would refuse or never gives, more than 128 rows, or an internal row after an external one."
use Rattle.std.specs.Prelude.{ℕ, ◌%◌, Bool, true, ◌&&◌, List, [], ◌∷◌, eqb, leb, length}
use Rattle.checks.specs.Lists.{every}
use Rattle.nets.specs.Classes.{good_net, on_net}
use Rattle.nets.specs.Rows.{Row, rows_of}
use Rattle.update_writing.specs.Blocks.{side_of}

-- a row with a left-justified A, B or C net, a gateway on the common net, and at most this third number
abbrev pub good_row : ℕ → ℕ → Row → Bool
good_row common most row = good_net row.net && on_net common row.gateway && leb row.third most

-- a row that the reader can give: its net is a left-justified A, B or C net, its gateway is on the Update's net, its third number at most 511
unfoldable pub writable_row : ℕ → Row → Bool
writable_row net row = good_row net 511 row

-- no row's side is below that of the row before it; the first comes after one of the side given
unfoldable pub ordered : ℕ → List Row → Bool
ordered side [] = true
ordered side (row ∷ rest) = leb side (side_of row) && ordered (side_of row) rest

-- 01: "more than 128 rows": how many rows the writer takes
abbrev pub most_written : ℕ
most_written = 128

-- the rows' part of refusal 16
unfoldable pub writable_rows : ℕ → List Row → Bool
writable_rows net rows = leb (length rows) most_written && every (writable_row net) rows && ordered 0 rows

-- the same for rows that come as numbers, three a row; false where the last row is not whole
unfoldable pub writable_numbers : ℕ → List ℕ → Bool
writable_numbers net numbers = eqb (length numbers % 3) 0 && writable_rows net (rows_of numbers)
