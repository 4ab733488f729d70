use mathlib.Core.Path.{◌∙◌}
use Rattle.host_state_block.proofs.Read.{slot_part}
use Rattle.host_state_block.proofs.slot_at.Goals as goal

pub returns : goal.returns
returns c = c.read_slot.ensures ∙ slot_part c.args.block.now c.args.i c.slot_start-start.result c.requires.1 c.slot_start-start.ensures
