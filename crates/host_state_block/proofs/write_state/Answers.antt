use mathlib.Core.Path.{◌≡◌}
use lib.ListN.{length}
use Rattle.gateway_state.proofs.ListLaws.{unmapped}
use Rattle.host_state_block.proofs.Written.{block_written}
use borrow.Author.Rules.{rules}
use Rattle.host_state_block.proofs.write_state.Goals as goal

pub returns : goal.returns
returns c =
    let eight : length c.args.st.slots ≡ 8 = search (rules, unmapped) in
    block_written c.args.out.now _ _ _ c.args.st eight c.requires c.settings_octets.ensures c.store.ensures.buffer_after c.put_slots.ensures
