use mathlib.Core.Path.{sym, ◌∙◌}
use mathlib.Core.Bool.{true}
use Rattle.neighbour_wellformed.proofs.ByState.{formed_in_up}
use Rattle.neighbour_wellformed.proofs.is_up_formed.Goals as goal

pub returns-then-is_up : goal.returns-then-is_up
returns-then-is_up c = c.is_reached_formed.ensures ∙ formed_in_up c.args.n true (sym c.is_up.ensures ∙ c.if-is_up.true)
