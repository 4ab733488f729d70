use native.Mathlib.Omega.{arith}
use Rattle.octets_checksum.proofs.Wide.{fold_fits, fold_four}
use Rattle.octets_checksum.proofs.fold.Goals as goal

pub overflow_cast-result : goal.overflow_cast-result
overflow_cast-result c = let k = fold_fits c.args.sum c.carries_round-once.result c.carries_round-twice.result c.carries_round.result c.ranges.sum.fits c.carries_round-once.ensures c.carries_round-twice.ensures c.carries_round.ensures in omega (arith, k)

pub returns : goal.returns
returns c = fold_four c.args.sum c.carries_round-once.result c.carries_round-twice.result c.carries_round.result c.ranges.sum.fits c.carries_round-once.ensures c.carries_round-twice.ensures c.carries_round.ensures
