-- `update_walk::skip_each` meets its contract: what is left to skip comes to the same as the whole. Assumes nothing.
use Rattle.update_walk.proofs.Turns.{Skipping}
use Rattle.update_walk.specs.Body.{Got, many}
use Rattle.update_walk.specs.Walked.{Skipped}
use Rattle.nets.specs.Rows.{Row}
use Prim.Native.Nat.{ℕ, ◌-◌, ◌+◌, ◌≤◌}
use mathlib.Core.List.{List}
use lib.ListN.{length}
use Rattle.update_walk.proofs.skip_each.Given as goal

abbrev pub invariant-loop-element : goal.invariant-loop-element
invariant-loop-element g l =
    (l.rows + length l.rest ≤ length l.t)
    × ((f : List ℕ → Got (List Row)) → ((u : _) (r : _) → goal.F-post g l.skip u r → Skipped (f u.now) r)
    → Skipping (many f l.count l.t) l.rows f (l.count - l._element) l.rest)
