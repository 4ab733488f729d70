use mathlib.Core.Path.{◌∙◌}
use Rattle.octets.proofs.Back.{quad_bytes}
use Rattle.host_state_block.specs.Layout.{numbers_at}
use Rattle.host_state_block.specs.Block.{seconds_of, slot_of, slot_in}
use Rattle.host_state_block.proofs.read_seconds.Goals as goal

pub returns : goal.returns
unfolding slot_in slot_of seconds_of numbers_at
returns c = λ i.
    record {
      idle = (c.from_be_bytes.ensures ∙ quad_bytes _ _ _ _) i;
      acquisition = (c.from_be_bytes-2.ensures ∙ quad_bytes _ _ _ _) i;
      down = (c.from_be_bytes-3.ensures ∙ quad_bytes _ _ _ _) i;
      up = (c.from_be_bytes-4.ensures ∙ quad_bytes _ _ _ _) i;
      cease = (c.from_be_bytes-5.ensures ∙ quad_bytes _ _ _ _) i;
    }
