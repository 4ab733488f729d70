-- `block_sum` meets its contract: a word from each turn, and the octets behind the last. Assumes nothing.
use native.Mathlib.Omega.{arith}
use Rattle.octets_checksum.proofs.Wide.{word_taken, tail_taken}
use Rattle.octets_checksum.proofs.block_sum.Goals as goal

pub loop-word-preserved : goal.loop-word-preserved
loop-word-preserved c = (
  omega (arith, word_taken c.args.octets.now _ c.loop-word.word-index _ c.as_chunks.ensures.front (omega arith) c.from_be_bytes.ensures),
  omega arith,
)

pub returns-clause-total : goal.returns-clause-total
returns-clause-total c = tail_taken c.args.octets.now _ c.loop-word.word-index _ _ c.as_chunks.ensures.back (omega arith) c.word32_at.ensures c.loop-word.invariant.0
