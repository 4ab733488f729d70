-- `host_slots::fresh` meets its contract. Assumes nothing.
use mathlib.Core.Path.{refl}
use Rattle.host_slots.proofs.Laws.{fresh_20, fresh_refused, fresh_done}
use Rattle.host_slots.proofs.fresh.Goals as goal

pub returns-then-block-ne-BLOCK : goal.returns-then-block-ne-BLOCK
returns-then-block-ne-BLOCK c = rw c.alone.ensures (fresh_20 _ c.args.block.now c.if-block-ne-BLOCK.true)

pub returns-then-o-ne0 : goal.returns-then-o-ne0
returns-then-o-ne0 c = rw c.alone-then-o-ne0.ensures (fresh_refused _ c.args.block.now c.if-block-ne-BLOCK.false _ c.fresh-o.ensures _ refl c.if-o-ne0.true)

pub returns : goal.returns
returns c = rw c.alone-2.ensures (fresh_done _ c.args.block.now c.if-block-ne-BLOCK.false _ c.fresh-o.ensures c.if-o-ne0.false _ c.write_state.ensures)
