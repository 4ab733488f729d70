use Rattle.octets.specs.Buffer.{over}
use Rattle.octets.proofs.store.Goals as goal

pub returns-clause-buffer_after : goal.returns-clause-buffer_after
unfolding over
returns-clause-buffer_after c = rw c.copy_from_slice.ensures.after
