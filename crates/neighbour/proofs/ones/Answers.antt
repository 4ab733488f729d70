use Rattle.neighbour.proofs.Counting.{ones_counted}
use Rattle.neighbour.proofs.ones.Goals as goal

pub returns : goal.returns
returns c = ones_counted c.args.register
