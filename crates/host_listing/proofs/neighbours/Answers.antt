-- `host_listing::neighbours` meets its contract. The loop keeps: used slots counted and those left are all. Assumes
-- nothing.
use Rattle.host_listing.proofs.Laws.{eight}
use Rattle.listing.proofs.Laws.{left, count_free, count_used, count_end}
use Rattle.listing_lines.specs.Listing.{entries}
use Rattle.gateway_state.specs.Slots.{address_of}
use Rattle.host_state_block.specs.Block.{state_in}
use mathlib.Core.Path.{◌≡◌, sym, ap, ◌∙◌}
use Prim.Native.Nat.{◌+◌}
use native.Mathlib.Omega.{arith}
use Rattle.host_listing.proofs.neighbours.Goals as goal
use Rattle.host_listing.proofs.neighbours.Goals.{then-slot_at-ne0, else-slot_at-ne0}

pub loop-i-init : goal.loop-i-init
loop-i-init c = (omega arith, λ table. omega arith)

pub slot_at-requires : goal.slot_at-requires
slot_at-requires c = (omega (arith, c.requires), c.loop-i-test.true)

pub loop-i-preserved : goal.loop-i-preserved
loop-i-preserved c = let e = eight c.args.block.now in let a = ap address_of c.slot_at.ensures in elim c.if-slot_at-ne0.branch [
  | then-slot_at-ne0 w ↦
      let k : c.if-slot_at-ne0.count ≡ c.loop-i.count + 1 = w.count-is in
      (omega arith, λ table. omega (arith, c.loop-i.invariant.1 table, count_used (state_in c.args.block.now) table c.loop-i.i (omega arith) (λ z. w.if-slot_at-ne0.true (a ∙ z))))
  | else-slot_at-ne0 w ↦
      let k : c.if-slot_at-ne0.count ≡ c.loop-i.count = w.count-is in
      (omega arith, λ table. omega (arith, c.loop-i.invariant.1 table, count_free (state_in c.args.block.now) table c.loop-i.i (omega arith) (sym a ∙ w.if-slot_at-ne0.false)))
]

pub returns : goal.returns
unfolding entries left
returns c = let e = eight c.args.block.now in λ table. omega (arith, c.loop-i.invariant.1 table, count_end (state_in c.args.block.now) table c.loop-i.i (omega arith))
