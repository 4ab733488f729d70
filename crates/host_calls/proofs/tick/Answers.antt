-- `host_calls::tick` meets its contract. Assumes nothing.
use mathlib.Core.Path.{refl}
use Rattle.neighbour_machine.specs.Intrinsics.{Tick}
use Rattle.host_calls.proofs.tick.Goals as goal

pub returns : goal.returns
returns c = record { value = c.happen.ensures.value Tick refl; block_after = c.happen.ensures.block_after Tick refl; table_after = c.happen.ensures.table_after Tick refl; reply_after = c.happen.ensures.reply_after Tick refl }
