-- `host_rows::clear` meets its contract: zeros. Assumes nothing.
use Rattle.std.proofs.Common.{rules}
use Rattle.update_rows.specs.Storing.{zeros}
use Rattle.host_rows.proofs.clear.Goals as goal

pub returns : goal.returns
unfolding zeros
returns c = c.fill.ensures.after (λ y h. search rules)
