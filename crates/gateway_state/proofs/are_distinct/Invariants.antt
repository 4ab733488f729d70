use mathlib.Core.Path.{◌≡◌}
use lib.ListN.{length}
use Rattle.checks.specs.Lists.{distinct}
use Rattle.gateway_state.specs.Slots.{apart}
use Rattle.gateway_state.proofs.are_distinct.Given as goal

abbrev pub invariant-loop-address : goal.invariant-loop-address
invariant-loop-address l = distinct apart l.fn.addresses ≡ distinct apart l.rest

abbrev pub decreases-loop-address : goal.decreases-loop-address
decreases-loop-address l = length l.rest
