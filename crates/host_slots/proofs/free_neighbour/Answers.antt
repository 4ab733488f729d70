-- `host_slots::free_neighbour` meets its contract. Assumes nothing.
use native.Mathlib.Omega.{arith}
use mathlib.Core.Path.{refl, sym, ◌∙◌}
use Rattle.host_slots.proofs.Laws.{kept_20, remove_1, remove_5, remove_18, remove_done}
use Rattle.host_slots.proofs.free_neighbour.Goals as goal

pub returns-then-block-ne-BLOCK : goal.returns-then-block-ne-BLOCK
returns-then-block-ne-BLOCK c = kept_20 _ c.args.block.now c.if-block-ne-BLOCK.true

pub returns-then-not-is_formed : goal.returns-then-not-is_formed
returns-then-not-is_formed c = remove_1 c.args.block.now _ c.if-block-ne-BLOCK.false (sym c.is_formed.ensures ∙ c.if-not-is_formed.true)

pub returns-in_default : goal.returns-in_default
returns-in_default c = remove_5 c.args.block.now _ c.if-block-ne-BLOCK.false (sym c.is_formed.ensures ∙ c.if-not-is_formed.false) _ refl c.in_default.ensures

pub returns-then-not-is_idle : goal.returns-then-not-is_idle
returns-then-not-is_idle c =
    remove_18 c.args.block.now _ c.if-block-ne-BLOCK.false (sym c.is_formed.ensures ∙ c.if-not-is_formed.false) _ c.in-Some.ensures.0 c.in-Some.ensures.1 _ c.slot_at.ensures
    (sym c.is_idle.ensures ∙ c.if-not-is_idle.true)

pub returns : goal.returns
returns c =
    remove_done c.args.block.now _ c.if-block-ne-BLOCK.false (sym c.is_formed.ensures ∙ c.if-not-is_formed.false) _ c.in-Some.ensures.0 c.in-Some.ensures.1 _ c.slot_at.ensures
    (λ i. omega (arith, c.slice_known-1.given i)) (sym c.is_idle.ensures ∙ c.if-not-is_idle.false) _ _ c.free_slot.ensures c.put_slot.ensures
