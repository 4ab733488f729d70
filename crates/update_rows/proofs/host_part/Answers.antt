-- `update_rows::host_part` meets its contract: the octets of this width. Assumes nothing.
use Rattle.update_rows.proofs.Laws.{host_three, host_two, host_one}
use Rattle.octets.proofs.Back.{quad_bytes}
use mathlib.Core.Path.{◌∙◌}
use native.Mathlib.Omega.{arith}
use Rattle.update_rows.proofs.host_part.Goals as goal

pub returns-then-host-eq3-clause-number : goal.returns-then-host-eq3-clause-number
returns-then-host-eq3-clause-number c = host_three c.args.t.now c.args.host _ c.requires.2 c.if-host-eq3.true (c.from_be_bytes.ensures ∙ quad_bytes 0 _ _ _)

pub returns-then-host-eq2-clause-number : goal.returns-then-host-eq2-clause-number
returns-then-host-eq2-clause-number c = host_two c.args.t.now c.args.host _ c.requires.2 c.if-host-eq2.true (c.from_be_bytes-then-host-eq2.ensures ∙ quad_bytes 0 0 _ _)

pub returns-else-host-eq2-clause-number : goal.returns-else-host-eq2-clause-number
returns-else-host-eq2-clause-number c = host_one c.args.t.now c.args.host _ c.requires.2 (omega (arith, c.requires.0, c.requires.1, c.if-host-eq3.false, c.if-host-eq2.false)) c.from.ensures
