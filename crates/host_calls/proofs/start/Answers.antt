-- `host_calls::start` meets its contract. Assumes nothing.
use mathlib.Core.Path.{refl}
use Rattle.neighbour_machine.specs.Intrinsics.{Start}
use Rattle.host_calls.proofs.start.Goals as goal

pub returns : goal.returns
returns c = record { value = c.happen.ensures.value Start refl; block_after = c.happen.ensures.block_after Start refl; table_after = c.happen.ensures.table_after Start refl; reply_after = c.happen.ensures.reply_after Start refl }
