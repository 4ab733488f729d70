use mathlib.Core.Path.{◌≡◌, ◌∙◌}
use lib.ListN.{length}
use borrow.Author.Rules.{rules}
use Rattle.gateway_state.specs.Slots.{addresses, clash, slot_of}
use Rattle.gateway_state.proofs.ListLaws.{unmapped}
use Rattle.gateway_state.proofs.SlotLaws.{addresses_length}
use Rattle.gateway_state.proofs.Finding.{finds}
use Rattle.gateway_state.proofs.slot_of.Goals as goal

pub returns : goal.returns
unfolding slot_of
returns c =
    let eight : length c.args.st.slots ≡ 8 = search (rules, unmapped) in
    rw (c.index_of.ensures, c.addresses_of.ensures) (finds (clash c.args.address) (addresses c.args.st) (addresses_length c.args.st ∙ eight))
