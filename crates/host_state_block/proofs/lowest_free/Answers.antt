use mathlib.Core.Path.{◌∙◌}
use Rattle.gateway_state.specs.Slots.{addresses, is_none, lowest_free}
use Rattle.gateway_state.proofs.SlotLaws.{addresses_length}
use Rattle.gateway_state.proofs.Finding.{finds}
use Rattle.host_state_block.specs.Block.{state_in}
use Rattle.host_state_block.proofs.Read.{state_eight}
use Rattle.host_state_block.proofs.lowest_free.Goals as goal

pub returns : goal.returns
unfolding lowest_free
returns c =
    let st = state_in c.args.block.now in
    rw (c.first_free.ensures, c.addresses_of.ensures) (finds is_none (addresses st) (addresses_length st ∙ state_eight c.args.block.now))
