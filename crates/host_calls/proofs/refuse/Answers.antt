-- `host_calls::refuse` meets its contract. Assumes nothing.
use Rattle.host_calls.proofs.Sending.{packed_lengths}
use Rattle.host_calls.proofs.refuse.Goals as goal

pub returns-clause-value : goal.returns-clause-value
returns-clause-value c = packed_lengths _ _ _ _ c.pack.ensures c.send-lengths.ensures.value

pub returns-clause-buffer_after : goal.returns-clause-buffer_after
returns-clause-buffer_after c = c.send-lengths.ensures.buffer_after
