use mathlib.Core.Path.{◌∙◌}
use Rattle.gateway_state.specs.Slots.{addresses, clash, slot_of}
use Rattle.gateway_state.proofs.SlotLaws.{addresses_length}
use Rattle.gateway_state.proofs.Finding.{finds}
use Rattle.host_state_block.specs.Block.{state_in}
use Rattle.host_state_block.proofs.Read.{state_eight}
use Rattle.host_state_block.proofs.slot_of.Goals as goal

pub returns : goal.returns
unfolding slot_of
returns c =
    let st = state_in c.args.block.now in
    rw (c.index_of.ensures, c.addresses_of.ensures) (finds (clash c.args.address) (addresses st) (addresses_length st ∙ state_eight c.args.block.now))
