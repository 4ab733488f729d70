-- `listing::are_slots_listable` meets its contract. The loop keeps: the used slots left decide for all. Assumes nothing.
use Rattle.checks.specs.Lists.{every}
use Rattle.listing.proofs.Laws.{left}
use Rattle.listing_lines.specs.Listing.{listable}
use mathlib.Core.Path.{◌≡◌}
use Rattle.listing.proofs.are_slots_listable.Given as goal

abbrev pub invariant-loop-i : goal.invariant-loop-i
invariant-loop-i l = every listable (left l.st l.table 0) ≡ every listable (left l.st l.table l.i)
