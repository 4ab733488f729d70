use mathlib.Core.Path.{◌∙◌}
use Rattle.host_state_block.proofs.Checked.{slots_checked}
use Rattle.host_state_block.proofs.are_slots_formed.Goals as goal

pub returns : goal.returns
returns c =
    c.are_formed.ensures
    ∙ slots_checked c.args.settings c.args.slots.now c.as_chunks.result.0.now c.first_to_check-from.result c.requires c.as_chunks.ensures.front c.first_to_check-from.ensures.parts_value
