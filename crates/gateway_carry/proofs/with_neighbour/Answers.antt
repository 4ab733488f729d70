use Rattle.gateway_rules.specs.Carried.{slot_after, count_after}
use Rattle.gateway_carry.proofs.with_neighbour.Goals as goal

pub returns : goal.returns
unfolding slot_after count_after
returns c = λ x p q. rw (p, q)
