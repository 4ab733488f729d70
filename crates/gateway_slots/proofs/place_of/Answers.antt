use mathlib.Core.Path.{sym, ◌∙◌}
use Rattle.gateway_slots.proofs.CallLaws.{remove_1, remove_5, remove_18, remove_done}
use Rattle.gateway_slots.proofs.place_of.Goals as goal

pub returns-then-not-well_formed : goal.returns-then-not-well_formed
returns-then-not-well_formed c = remove_1 c.args.st c.args.address (sym c.well_formed-2.ensures ∙ c.if-not-well_formed.true)

pub returns-in_default : goal.returns-in_default
returns-in_default c = remove_5 c.args.st c.args.address (sym c.well_formed-2.ensures ∙ c.if-not-well_formed.false) c.in_default.ensures

pub returns-then-not-is_idle : goal.returns-then-not-is_idle
returns-then-not-is_idle c =
    let e = rw c.in-Some.ensures.0 at c.slot_at.ensures in
    remove_18 c.args.st c.args.address (sym c.well_formed-2.ensures ∙ c.if-not-well_formed.false) (rw c.in-Some.ensures.0 at c.in-Some.ensures.1) (rw e at (sym c.is_idle.ensures ∙ c.if-not-is_idle.true))

pub returns : goal.returns
returns c =
    let e = rw c.in-Some.ensures.0 at c.slot_at.ensures in
    rw c.in-Some.ensures.0 (remove_done c.args.st c.args.address (sym c.well_formed-2.ensures ∙ c.if-not-well_formed.false) (rw c.in-Some.ensures.0 at c.in-Some.ensures.1) (rw e at (sym c.is_idle.ensures ∙ c.if-not-is_idle.false)))
