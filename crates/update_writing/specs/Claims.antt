-- What holds of the blocks that are written. The proofs are in proofs/Claims.antt.
use Rattle.std.specs.Prelude.{ℕ, ◌*◌, ◌%◌, ◌≤◌, true, ◌≡◌, List, leb, eqb, length}
use Rattle.checks.specs.Lists.{every}
use Rattle.nets.specs.Classes.{good_net}
use Rattle.nets.specs.Rows.{Row}
use Rattle.update_writing.specs.Blocks.{side_of, runs, distance_runs, blocks_written, internal_blocks, external_blocks}
use Rattle.update_writing.specs.Writable.{most_written, writable_rows}

-- at most 9 octets a row, so at most 1,152 octets in all
pub record ShortBlocks : Type 0 where
  pub blocks : (net : ℕ) → good_net net ≡ true → (rows : List Row) → length (blocks_written net rows) ≤ 9 * length rows
  pub most : (net : ℕ) → good_net net ≡ true → (rows : List Row) → writable_rows net rows ≡ true → length (blocks_written net rows) ≤ 9 * most_written

-- no count exceeds the number of rows: of gateways on a side, of distances or nets in a run
pub record Counts : Type 0 where
  pub internal : (net : ℕ) (rows : List Row) → writable_rows net rows ≡ true → internal_blocks rows ≤ most_written
  pub external : (net : ℕ) (rows : List Row) → writable_rows net rows ≡ true → external_blocks rows ≤ most_written
  pub number : (key : Row → ℕ) (rows : List Row) → length (runs key rows) ≤ length rows
  pub size : (key : Row → ℕ) (rows : List Row) → every (λ run. leb (length run) (length rows)) (runs key rows) ≡ true

-- among rows of one side the runs of equal third numbers are the runs of equal distances
pub record Distances : Type 0 where
  pub same : (side : ℕ) (rows : List Row) → every (λ row. eqb (side_of row) side) rows ≡ true → distance_runs rows ≡ runs (λ row. row.third % 256) rows
