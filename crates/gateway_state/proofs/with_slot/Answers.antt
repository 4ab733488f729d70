use mathlib.Core.Path.{◌≡◌, refl}
use lib.ListN.{length}
use Rattle.gateway_state.specs.Slots.{with_slot}
use Rattle.gateway_state.proofs.ListLaws.{unmapped}
use Rattle.gateway_state.proofs.SlotLaws.{with_past}
use borrow.Author.Rules.{rules}
use Rattle.gateway_state.proofs.with_slot.Goals as goal

pub returns-then-i-lt-SLOTS : goal.returns-then-i-lt-SLOTS
unfolding with_slot
returns-then-i-lt-SLOTS c = refl

pub returns-else-i-lt-SLOTS : goal.returns-else-i-lt-SLOTS
returns-else-i-lt-SLOTS c =
    let eight : length c.args.st.slots ≡ 8 = search (rules, unmapped) in
    with_past c.args.st c.args.i c.args.slot eight c.if-i-lt-SLOTS.false
