use Prim.Native.Nat.{ℕ}
use native.Mathlib.Omega.{arith}
use mathlib.Core.Path.{◌≡◌, sym, ◌∙◌}
use mathlib.Core.List.{map}
use lib.ListN.{length, get_or, length-map, length-set, get_or-map}
use Rattle.std.proofs.lemmas.List.FromFn.{fill_by_all}
use Rattle.std.proofs.lemmas.List.Edits.{fill_by_more}
use borrow.Author.Rules.{rules}
use Rattle.neighbour.specs.Record.{idle}
use Rattle.gateway_state.specs.Slots.{free_slot, address_of, addresses}
use Rattle.gateway_state.proofs.ListLaws.{unmapped}
use Rattle.gateway_state.proofs.addresses_of.Goals as goal

pub loop-i-preserved : goal.loop-i-preserved
unfolding free_slot idle
loop-i-preserved c =
    let l = c.loop-i in (
      length-set l.addresses l.i (get_or c.args.st.now.slots l.i free_slot).address ∙ l.invariant.0,
      fill_by_more (λ (k : ℕ). (get_or c.args.st.now.slots k free_slot).address) l.addresses l.i 0 (omega (arith, l.invariant.0, c.loop-i-test.true)) l.invariant.1,
    )

pub returns : goal.returns
unfolding addresses free_slot
returns c =
    let l = c.args.st.now.slots in
    let eight : length l ≡ 8 = search (rules, unmapped) in
    let at = λ (k : ℕ). (get_or l k free_slot).address in
    fill_by_all at c.loop-i.addresses 8 0 c.loop-i.invariant.0 (λ k h. c.loop-i.invariant.1 k (omega (arith, h, c.loop-i-test.false)))
    ∙ sym (fill_by_all at (map address_of l) 8 0 (length-map l address_of ∙ eight) (λ k h. get_or-map address_of l k free_slot))
