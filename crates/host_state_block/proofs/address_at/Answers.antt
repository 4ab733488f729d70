use mathlib.Core.Path.{◌∙◌}
use Rattle.octets.proofs.Back.{quad_bytes}
use Rattle.host_state_block.proofs.Read.{address_start}
use Rattle.host_state_block.proofs.address_at.Goals as goal

pub returns : goal.returns
returns c = c.from_be_bytes.ensures ∙ quad_bytes _ _ _ _ ∙ address_start c.args.block.now c.args.i c.slot_start-at.result c.requires.1 c.slot_start-at.ensures
