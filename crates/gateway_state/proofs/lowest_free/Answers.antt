use mathlib.Core.Path.{◌≡◌, ◌∙◌}
use lib.ListN.{length}
use borrow.Author.Rules.{rules}
use Rattle.gateway_state.specs.Slots.{addresses, is_none, lowest_free}
use Rattle.gateway_state.proofs.ListLaws.{unmapped}
use Rattle.gateway_state.proofs.SlotLaws.{addresses_length}
use Rattle.gateway_state.proofs.Finding.{finds}
use Rattle.gateway_state.proofs.lowest_free.Goals as goal

pub returns : goal.returns
unfolding lowest_free
returns c =
    let eight : length c.args.st.slots ≡ 8 = search (rules, unmapped) in
    rw (c.first_free.ensures, c.addresses_of.ensures) (finds is_none (addresses c.args.st) (addresses_length c.args.st ∙ eight))
