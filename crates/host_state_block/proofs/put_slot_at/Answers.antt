use Rattle.host_state_block.proofs.Written.{slot_put}
use Rattle.host_state_block.proofs.put_slot_at.Goals as goal

pub returns : goal.returns
returns c = slot_put c.args.out.now _ _ c.args.at c.args.slot c.requires c.slot_octets.ensures c.store.ensures.buffer_after
