-- `host_slots::put_neighbour` meets its contract. Assumes nothing.
use native.Mathlib.Omega.{arith}
use mathlib.Core.Path.{refl, sym, ◌∙◌}
use Rattle.gateway_state.proofs.Finding.{finds_some, finds_none}
use Rattle.host_slots.proofs.Laws.{kept_20, add_1, add_16, add_present, add_17, add_done}
use Rattle.host_slots.proofs.put_neighbour.Goals as goal

pub returns-then-block-ne-BLOCK : goal.returns-then-block-ne-BLOCK
returns-then-block-ne-BLOCK c = kept_20 _ c.args.block.now c.if-block-ne-BLOCK.true

pub returns-then-not-is_formed : goal.returns-then-not-is_formed
returns-then-not-is_formed c = add_1 c.args.block.now _ _ c.if-block-ne-BLOCK.false (sym c.is_formed.ensures ∙ c.if-not-is_formed.true)

pub returns-then-not-good_peer : goal.returns-then-not-good_peer
returns-then-not-good_peer c = add_16 c.args.block.now _ _ c.if-block-ne-BLOCK.false (sym c.is_formed.ensures ∙ c.if-not-is_formed.false) (rw c.settings_of.ensures at (sym c.good_peer.ensures ∙ c.if-not-good_peer.true))

pub returns-then-is_some : goal.returns-then-is_some
returns-then-is_some c =
    add_present c.args.block.now _ _ c.if-block-ne-BLOCK.false (sym c.is_formed.ensures ∙ c.if-not-is_formed.false) (rw c.settings_of.ensures at (sym c.good_peer.ensures ∙ c.if-not-good_peer.false)) _ refl
    (finds_some _ _ c.slot_of.ensures (sym c.is_some.ensures ∙ c.if-is_some.true))

pub returns-in_default : goal.returns-in_default
returns-in_default c =
    add_17 c.args.block.now _ _ c.if-block-ne-BLOCK.false (sym c.is_formed.ensures ∙ c.if-not-is_formed.false) (rw c.settings_of.ensures at (sym c.good_peer.ensures ∙ c.if-not-good_peer.false)) _ refl
    (finds_none _ _ c.slot_of.ensures (sym c.is_some.ensures ∙ c.if-is_some.false)) _ refl c.in_default.ensures

pub returns : goal.returns
returns c =
    add_done c.args.block.now _ _ c.if-block-ne-BLOCK.false (sym c.is_formed.ensures ∙ c.if-not-is_formed.false) (rw c.settings_of.ensures at (sym c.good_peer.ensures ∙ c.if-not-good_peer.false)) _ refl
    (finds_none _ _ c.slot_of.ensures (sym c.is_some.ensures ∙ c.if-is_some.false)) _ c.in-Some.ensures.0 (λ i. omega (arith, c.slice_known-1.given i)) c.in-Some.ensures.1 _ _ c.new_slot.ensures c.put_slot.ensures
