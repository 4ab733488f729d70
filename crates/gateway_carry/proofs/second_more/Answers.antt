use Rattle.gateway_rules.specs.Seconds.{second_more}
use Rattle.gateway_carry.proofs.second_more.Goals as goal

pub returns : goal.returns
unfolding second_more
returns c = rw c.count.ensures
