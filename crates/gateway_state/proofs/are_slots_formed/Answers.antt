use Prim.Native.Nat.{◌-◌}
use native.Mathlib.Omega.{arith}
use mathlib.Core.Path.{sym, ap, ◌∙◌}
use lib.ListN.{length, drop, length-drop}
use lib.Seq.{take_all}
use Rattle.std.specs.List.{list_all}
use Rattle.gateway_state.specs.Formed.{slot_formed}
use Rattle.gateway_state.proofs.are_slots_formed.Goals as goal

pub returns : goal.returns
returns c =
    let a = c.args in
    let from = c.first_to_check-from.result in
    c.are_formed.ensures
    ∙ ap (list_all (slot_formed a.settings)) (take_all (length a.slots.now - from) (drop from a.slots.now) (omega (arith, length-drop from a.slots.now)))
    ∙ sym c.first_to_check-from.ensures.slots_value
