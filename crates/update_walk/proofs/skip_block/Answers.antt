-- `update_walk::skip_block` meets its contract: what its groups come to. Assumes nothing.
use Rattle.std.proofs.Common.{of_calls}
use Rattle.update_walk.proofs.Laws.{group_sound}
use Rattle.update_walk.proofs.Turns.{block_short, block_skips, within}
use Rattle.update_walk.specs.Body.{group_rows}
use mathlib.Core.Path.{refl}
use Rattle.update_walk.proofs.skip_block.Goals as goal

pub returns-then-t-host : goal.returns-then-t-host
returns-then-t-host c = block_short _ _ _ c.host_width-host.ensures c.if-t-host.true _ refl

pub skip_each-requires : goal.skip_each-requires
skip_each-requires c κs = ((refl, tt), (search of_calls, λ u r h. within (group_rows 0 0) (group_sound 0 0) u.now r (h 0 0)))

pub returns : goal.returns
returns c = block_skips _ _ _ c.host_width-host.ensures _ c.if-t-host.false (λ side gateway. c.skip_each.ensures (group_rows side gateway) (λ u r h. h side gateway))
