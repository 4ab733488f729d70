-- `gateway_carry::refuse` meets its contract. Assumes nothing.
use Rattle.gateway_carry.proofs.Carrying.{refused}
use Rattle.gateway_carry.proofs.refuse.Goals as goal

pub returns-clause-value : goal.returns-clause-value
returns-clause-value c = refused _ _ _ _ _ c.send-lengths.ensures.value

pub returns-clause-buffer_after : goal.returns-clause-buffer_after
returns-clause-buffer_after c = c.send-lengths.ensures.buffer_after
