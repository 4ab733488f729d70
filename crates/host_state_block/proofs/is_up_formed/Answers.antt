use mathlib.Core.Path.{sym, ap, ◌∙◌}
use Rattle.checks.proofs.Laws.{and_both}
use Rattle.gateway_state.specs.Formed.{slot_formed}
use Rattle.octets.proofs.Back.{quad_bytes}
use Rattle.host_state_block.specs.Layout.{numbers_at}
use Rattle.host_state_block.specs.Block.{slot_of, slot_in}
use Rattle.host_state_block.specs.Steps.{part_formed}
use Rattle.host_state_block.proofs.is_up_formed.Goals as goal

pub returns-then-is_in_range : goal.returns-then-is_in_range
unfolding part_formed slot_in slot_of numbers_at
returns-then-is_in_range c = λ e.
    and_both _ _ (sym c.is_in_range.ensures ∙ c.if-is_in_range.true)
    (sym (ap (slot_formed c.args.settings)
    (λ i. record {
      address = (c.from_be_bytes.ensures ∙ quad_bytes _ _ _ _) i;
      asn = c.from_be_bytes-then-is_in_range.ensures i;
      neighbour = c.read_neighbour.ensures i;
      rows = c.from_be_bytes-then-is_in_range-2.ensures i;
      seconds = c.read_seconds.ensures i;
    }))
    ∙ c.is_up_slot_formed.ensures e)
