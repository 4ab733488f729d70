-- `update_walk::skip_blocks` meets its contract: what its blocks come to. Assumes nothing.
use Rattle.std.proofs.Common.{of_calls, rules}
use Rattle.update_walk.proofs.Laws.{block_sound}
use Rattle.update_walk.proofs.Turns.{within}
use Rattle.update_walk.specs.Body.{block_rows}
use mathlib.Core.Path.{refl}
use Rattle.update_walk.proofs.skip_blocks.Goals as goal

pub skip_each-requires : goal.skip_each-requires
skip_each-requires c κs = ((refl, tt), (search of_calls, λ u r h. within (block_rows 0 c.args.net) (block_sound 0 c.args.net) u.now r (search rules)))

pub returns : goal.returns
returns c = λ side. c.skip_each.ensures (block_rows side c.args.net) (λ u r h. search rules)
