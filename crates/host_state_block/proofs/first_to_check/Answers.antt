use Rattle.std.proofs.Common.{rules, tests}
use Rattle.std.proofs.lemmas.Iterator.{YieldsList-from_slice, IsFirst-from_position}
use Rattle.host_state_block.specs.Steps.{part_formed}
use Rattle.gateway_state.proofs.Checked.{Passed, first_found}
use Rattle.host_state_block.proofs.first_to_check.Goals as goal

pub returns : goal.returns
returns c =
    let f = first_found (part_formed c.args.settings) c.args.parts.now c.position.result
    (IsFirst-from_position _ _ c.position.result (λ _. Unit {0}) (Passed (part_formed c.args.settings)) c.position.ensures.ran
    (YieldsList-from_slice c.args.parts.now cc) (λ x q k. tt) (λ x q k. search (rules, tests))) in
    rw c.unwrap_or.ensures (record { upper_bound = f.0; parts_value = f.1 })
