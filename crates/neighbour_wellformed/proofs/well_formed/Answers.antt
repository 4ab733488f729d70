use mathlib.Core.Path.{sym, ◌∙◌}
use borrow.Author.Tests.{eq-eqb, ne_eqb}
use Rattle.neighbour.specs.Record.{idle}
use Rattle.neighbour_wellformed.proofs.ByState.{formed_idle, formed_acquisition, formed_down, formed_cease}
use Rattle.neighbour_wellformed.proofs.well_formed.Goals as goal

pub returns-in-Idle : goal.returns-in-Idle
unfolding idle
returns-in-Idle c = (rw c.idle.ensures at c.eq.ensures) ∙ formed_idle c.args.n c.in-Idle.is

pub returns-then-n-eq0 : goal.returns-then-n-eq0
returns-then-n-eq0 c = c.is_waiting_formed.ensures ∙ (rw (eq-eqb _ _ c.if-n-eq0.true) at (formed_acquisition c.args.n c.in-Acquisition.is))

pub returns-else-n-eq0 : goal.returns-else-n-eq0
returns-else-n-eq0 c = rw (ne_eqb _ _ c.if-n-eq0.false) (rw (ne_eqb _ _ c.if-n-eq0.false) at (formed_acquisition c.args.n c.in-Acquisition.is))

pub returns-in-Down : goal.returns-in-Down
returns-in-Down c = c.is_reached_formed.ensures ∙ formed_down c.args.n c.in-Down.is

pub returns-then-is_cause : goal.returns-then-is_cause
returns-then-is_cause c = c.is_waiting_formed-then-is_cause.ensures ∙ (rw (sym c.is_cause.ensures ∙ c.if-is_cause.true) at (formed_cease c.args.n c.in-Cease.is))

pub returns-else-is_cause : goal.returns-else-is_cause
returns-else-is_cause c =
    c.if-is_cause.false ∙ (rw (sym c.is_cause.ensures ∙ c.if-is_cause.false) at (formed_cease c.args.n c.in-Cease.is))
