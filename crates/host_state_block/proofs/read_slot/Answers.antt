use mathlib.Core.Path.{◌∙◌}
use Rattle.octets.proofs.Back.{quad_bytes}
use Rattle.host_state_block.specs.Layout.{numbers_at}
use Rattle.host_state_block.specs.Block.{slot_of, slot_in}
use Rattle.host_state_block.proofs.read_slot.Goals as goal

pub returns : goal.returns
unfolding slot_in slot_of numbers_at
returns c = λ i.
    record {
      address = (c.from_be_bytes.ensures ∙ quad_bytes _ _ _ _) i;
      asn = c.from_be_bytes-2.ensures i;
      neighbour = c.read_neighbour.ensures i;
      rows = c.from_be_bytes-3.ensures i;
      seconds = c.read_seconds.ensures i;
    }
