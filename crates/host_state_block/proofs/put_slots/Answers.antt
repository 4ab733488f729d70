use native.Mathlib.Omega.{arith}
use mathlib.Core.Path.{◌≡◌, sym, ap, ◌∙◌}
use Prim.Native.Nat.{ℕ}
use lib.ListN.{length, get_or}
use lib.Seq.{sets}
use Rattle.neighbour.specs.Record.{idle}
use Rattle.gateway_state.specs.Slots.{free_slot}
use Rattle.gateway_state.proofs.ListLaws.{unmapped}
use Rattle.host_state_block.specs.Block.{slot_start, slot_octets}
use Rattle.host_state_block.proofs.Written.{slot_kept, slots_next, slots_done}
use borrow.Author.Rules.{rules}
use Rattle.host_state_block.proofs.put_slots.Goals as goal

pub loop-i-preserved : goal.loop-i-preserved
unfolding free_slot idle
loop-i-preserved c =
    let l = c.loop-i in
    let eight : length c.args.st.slots ≡ 8 = search (rules, unmapped) in
    let w = c.put_slot_at.ensures ∙ ap (λ (n : ℕ). sets l.out n (slot_octets (get_or c.args.st.slots l.i free_slot))) c.slot_start.ensures in
    (slot_kept l.out _ _ _ c.put_slot_at.ensures ∙ l.invariant.0, l.invariant.1 ∙ slots_next l.out _ c.args.st.slots l.i free_slot (omega (arith, eight, c.loop-i-test.true)) w)

pub returns : goal.returns
returns c =
    let eight : length c.args.st.slots ≡ 8 = search (rules, unmapped) in
    sym (c.loop-i.invariant.1 ∙ slots_done c.loop-i.out (slot_start c.loop-i.i) c.args.st.slots c.loop-i.i (omega (arith, eight, c.loop-i-test.false)))
