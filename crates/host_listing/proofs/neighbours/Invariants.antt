-- `host_listing::neighbours` meets its contract. The loop keeps: used slots counted and those left are all. Assumes
-- nothing.
use Rattle.listing.proofs.Laws.{left}
use Rattle.host_state_block.specs.Block.{state_in}
use lib.ListN.{length}
use mathlib.Core.List.{List}
use mathlib.Core.Path.{◌≡◌}
use Prim.Native.Nat.{ℕ, ◌+◌, ◌≤◌}
use Rattle.host_listing.proofs.neighbours.Given as goal

abbrev pub invariant-loop-i : goal.invariant-loop-i
invariant-loop-i l = (l.count ≤ l.i) × ((table : List ℕ) → length (left (state_in l.block) table 0) ≡ l.count + length (left (state_in l.block) table l.i))
