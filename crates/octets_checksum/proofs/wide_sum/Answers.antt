-- `wide_sum` meets its contract: eight words from each turn, and the octets behind the last. Assumes nothing.
use native.Mathlib.Omega.{arith}
use Rattle.std.proofs.Common.{◌∙◌, ◌*◌, drop}
use Rattle.octets_checksum.specs.Wide.{wide_total}
use Rattle.octets_checksum.proofs.Wide.{turn_taken, rest_taken, fold_taken, roomy_again, roomy_below}
use Rattle.octets_checksum.proofs.wide_sum.Goals as goal

pub overflow_add-sum : goal.overflow_add-sum
overflow_add-sum c = omega (arith, roomy_below c.loop-turn.sum, c.with_room.ensures, c.block_sum.ensures.upper_bound)

pub loop-turn-preserved : goal.loop-turn-preserved
loop-turn-preserved c =
    let octets = c.args.octets.now in
    let turn = turn_taken octets _ c.loop-turn.turn-index _ c.as_chunks.ensures.front (omega arith) c.block_sum.ensures.total in (
      rw c.with_room.ensures (fold_taken _ _ _ _ turn ∙ roomy_again c.loop-turn.sum (wide_total (drop (c.loop-turn.turn-index * 32) octets)) ∙ c.loop-turn.invariant.0),
      omega (arith, roomy_below c.loop-turn.sum, c.with_room.ensures, c.block_sum.ensures.upper_bound),
    )

pub block_sum-requires-2 : goal.block_sum-requires-2
block_sum-requires-2 c = omega (arith, c.as_chunks.ensures.back_len)

pub overflow_add-result : goal.overflow_add-result
overflow_add-result c = omega (arith, c.loop-turn.invariant.1, c.block_sum-2.ensures.upper_bound)

pub returns : goal.returns
returns c = rest_taken c.args.octets.now _ c.loop-turn.turn-index _ _ _ c.as_chunks.ensures.back (omega arith) c.block_sum-2.ensures.total c.loop-turn.invariant.0
