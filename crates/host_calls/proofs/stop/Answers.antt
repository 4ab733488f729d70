-- `host_calls::stop` meets its contract. Assumes nothing.
use mathlib.Core.Path.{refl}
use Rattle.neighbour_machine.specs.Intrinsics.{Stop}
use Rattle.host_calls.proofs.stop.Goals as goal

pub returns : goal.returns
returns c = record { value = c.happen.ensures.value Stop refl; block_after = c.happen.ensures.block_after Stop refl; table_after = c.happen.ensures.table_after Stop refl; reply_after = c.happen.ensures.reply_after Stop refl }
