-- The round trip. The proofs are in proofs/Trip.antt.
use Rattle.std.specs.Prelude.{ℕ, ◌≤◌, Bool, true, ◌≡◌, List, ltb, length}
use Rattle.checks.specs.Lists.{every}
use Rattle.nets.specs.Classes.{good_net}
use Rattle.nets.specs.Rows.{Row}
use Rattle.update_walk.specs.Body.{body_of, whole}
use Rattle.update_writing.specs.Blocks.{blocks_written, internal_blocks, external_blocks}
use Rattle.update_writing.specs.Writable.{most_written, writable_rows}
use Rattle.update_theorem.specs.Canonical.{canonical}

-- a list of octets
unfoldable pub octets_only : List ℕ → Bool
octets_only octets = every (λ octet. ltb octet 256) octets

-- 01: "Otherwise reading gives back exactly the rows."
pub record WritesReadBack : Type 0 where
  pub rows : (net : ℕ) → good_net net ≡ true → (rows : List Row) → writable_rows net rows ≡ true
      → body_of net (internal_blocks rows) (external_blocks rows) (blocks_written net rows) ≡ whole rows
  -- what is written are octets, and grouped
  pub plain : (net : ℕ) (rows : List Row) → writable_rows net rows ≡ true → octets_only (blocks_written net rows) ≡ true
  pub grouped : (net : ℕ) → good_net net ≡ true → (rows : List Row) → writable_rows net rows ≡ true
      → canonical net (internal_blocks rows) (external_blocks rows) (blocks_written net rows) ≡ true

-- blocks that were read: of octets with these counts, on a good net, whole, with these rows
pub record Read (net internal external : ℕ) (octets : List ℕ) (rows : List Row) : Type 0 where
  pub good : good_net net ≡ true
  pub plain : octets_only octets ≡ true
  pub is : body_of net internal external octets ≡ whole rows

-- writing these rows gives back the octets and the counts
pub record WrittenBack (net internal external : ℕ) (octets : List ℕ) (rows : List Row) : Type 0 where
  pub blocks : blocks_written net rows ≡ octets
  pub inside : internal_blocks rows ≡ internal
  pub outside : external_blocks rows ≡ external

-- 01: "Octets come back only where the Update was so grouped with no empty group or block": exactly there
pub record ReadsWriteBack : Type 0 where
  pub writable : (net internal external : ℕ) (octets : List ℕ) (rows : List Row) → Read net internal external octets rows → length rows ≤ most_written → writable_rows net rows ≡ true
  pub grouped : (net internal external : ℕ) (octets : List ℕ) (rows : List Row) → Read net internal external octets rows
      → canonical net internal external octets ≡ true → WrittenBack net internal external octets rows
  pub only : (net internal external : ℕ) (octets : List ℕ) (rows : List Row) → Read net internal external octets rows
      → WrittenBack net internal external octets rows → canonical net internal external octets ≡ true
