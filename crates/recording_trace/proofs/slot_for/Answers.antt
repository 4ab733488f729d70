-- `recording_trace::slot_for` meets its contract. Assumes nothing.
use mathlib.Core.Path.{◌≡◌, ◌∙◌}
use lib.ListN.{length}
use borrow.Author.Rules.{rules}
use Rattle.neighbour.specs.Record.{idle}
use Rattle.gateway_state.specs.Slots.{free_slot, slot_at}
use Rattle.gateway_state.proofs.ListLaws.{unmapped}
use Rattle.gateway_state.proofs.SlotLaws.{slot_past}
use Rattle.recording_trace.specs.Trace.{slot_for}
use Rattle.recording_trace.proofs.slot_for.Goals as goal

pub returns-in-Some : goal.returns-in-Some
unfolding slot_for slot_at free_slot idle
returns-in-Some c = rw c.in-Some.ensures.0

pub returns-in-None : goal.returns-in-None
unfolding slot_for
returns-in-None c =
    let eight : length c.args.st.slots ≡ 8 = search (rules, unmapped) in
    c.free_slot.ensures ∙ slot_past c.args.st _ eight c.in-None.ensures
