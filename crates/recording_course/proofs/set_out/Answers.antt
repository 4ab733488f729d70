-- `recording_course::set_out` meets its contract. Assumes nothing.
use mathlib.Core.Path.{ap}
use Rattle.recording_player.specs.declared.Player.{Player}
use Rattle.recording_course.specs.declared.Stage.TheVariants.{Read}
use Rattle.recording_course.specs.Course.{set_out}
use Rattle.recording_course.proofs.set_out.Goals as goal

pub returns : goal.returns
unfolding set_out
returns c = ap (λ (p : Player). record { player = p; stage = Read; from = 0; to = 0 }) c.begin.ensures
