-- `gateway_calls::tick` meets its contract. Assumes nothing.
use mathlib.Core.Path.{refl}
use Rattle.neighbour_machine.specs.Intrinsics.{Tick}
use Rattle.gateway_calls.proofs.tick.Goals as goal

pub returns-clause-value : goal.returns-clause-value
returns-clause-value c = c.happen.ensures.value Tick refl

pub returns-clause-table_after : goal.returns-clause-table_after
returns-clause-table_after c = c.happen.ensures.table_after Tick refl

pub returns-clause-reply_after : goal.returns-clause-reply_after
returns-clause-reply_after c = c.happen.ensures.reply_after Tick refl
