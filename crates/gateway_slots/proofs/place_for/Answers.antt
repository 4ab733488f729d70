use mathlib.Core.Path.{sym, ◌∙◌}
use Rattle.gateway_state.proofs.Finding.{finds_some, finds_none}
use Rattle.gateway_slots.proofs.CallLaws.{add_1, add_16, add_present, add_17, add_done}
use Rattle.gateway_slots.proofs.place_for.Goals as goal

pub returns-then-not-well_formed : goal.returns-then-not-well_formed
returns-then-not-well_formed c = add_1 c.args.st c.args.address c.args.asn (sym c.well_formed-2.ensures ∙ c.if-not-well_formed.true)

pub returns-then-not-good_peer : goal.returns-then-not-good_peer
returns-then-not-good_peer c = add_16 c.args.st c.args.address c.args.asn (sym c.well_formed-2.ensures ∙ c.if-not-well_formed.false) (sym c.good_peer.ensures ∙ c.if-not-good_peer.true)

pub returns-then-is_some : goal.returns-then-is_some
returns-then-is_some c = add_present c.args.st c.args.address c.args.asn (sym c.well_formed-2.ensures ∙ c.if-not-well_formed.false) (sym c.good_peer.ensures ∙ c.if-not-good_peer.false) (finds_some _ _ c.slot_of.ensures (sym c.is_some.ensures ∙ c.if-is_some.true))

pub returns-in_default : goal.returns-in_default
returns-in_default c = add_17 c.args.st c.args.address c.args.asn (sym c.well_formed-2.ensures ∙ c.if-not-well_formed.false) (sym c.good_peer.ensures ∙ c.if-not-good_peer.false) (finds_none _ _ c.slot_of.ensures (sym c.is_some.ensures ∙ c.if-is_some.false)) c.in_default.ensures

pub returns : goal.returns
returns c = rw c.in-Some.ensures.0 (add_done c.args.st c.args.address c.args.asn (sym c.well_formed-2.ensures ∙ c.if-not-well_formed.false) (sym c.good_peer.ensures ∙ c.if-not-good_peer.false) (finds_none _ _ c.slot_of.ensures (sym c.is_some.ensures ∙ c.if-is_some.false)) (rw c.in-Some.ensures.0 at c.in-Some.ensures.1))
