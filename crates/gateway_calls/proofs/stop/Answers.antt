-- `gateway_calls::stop` meets its contract. Assumes nothing.
use mathlib.Core.Path.{refl}
use Rattle.neighbour_machine.specs.Intrinsics.{Stop}
use Rattle.gateway_calls.proofs.stop.Goals as goal

pub returns-clause-value : goal.returns-clause-value
returns-clause-value c = c.happen.ensures.value Stop refl

pub returns-clause-table_after : goal.returns-clause-table_after
returns-clause-table_after c = c.happen.ensures.table_after Stop refl

pub returns-clause-reply_after : goal.returns-clause-reply_after
returns-clause-reply_after c = c.happen.ensures.reply_after Stop refl
