use Rattle.std.proofs.Common.{rules, tests}
use Rattle.std.proofs.lemmas.Iterator.{YieldsList-from_slice, IsFirst-from_position}
use Rattle.gateway_state.specs.Formed.{slot_formed}
use Rattle.gateway_state.proofs.Checked.{Passed, first_found}
use Rattle.gateway_state.proofs.first_to_check.Goals as goal

pub returns : goal.returns
returns c =
    let f = first_found (slot_formed c.args.settings) c.args.slots.now c.position.result
    (IsFirst-from_position _ _ c.position.result (λ _. Unit {0}) (Passed (slot_formed c.args.settings)) c.position.ensures.ran
    (YieldsList-from_slice c.args.slots.now cc) (λ x q k. tt) (λ x q k. search (rules, tests))) in
    rw c.unwrap_or.ensures (record { upper_bound = f.0; slots_value = f.1 })
