-- `update_walk::value` meets its contract: the number so far, continued by the octets ahead, is the number of them all; it is below 256 to the power of the octets passed. Assumes nothing.
use Rattle.update_walk.proofs.Digits.{digits_turn, digits_done, one_more_lem}
use mathlib.Core.Path.{sym, ◌∙◌}
use native.Mathlib.Omega.{arith}
use Rattle.update_walk.proofs.value.Goals as goal

pub loop-octet-preserved : goal.loop-octet-preserved
loop-octet-preserved c = (
  rw c.from.ensures (c.loop-octet.invariant.0 ∙ digits_turn c.loop-octet.sum c.loop-octet.octet-index c.args.octets.now c.loop-octet-test.true),
  one_more_lem c.loop-octet.sum c.loop-octet.octet-index c.from.result c.loop-octet.invariant.1 (omega (arith, c.from.ensures, c.type_inv.octets c.loop-octet.octet-index)),
)

pub returns-clause-number : goal.returns-clause-number
returns-clause-number c = sym (c.loop-octet.invariant.0 ∙ digits_done c.loop-octet.sum c.loop-octet.octet-index c.args.octets.now (omega arith))
