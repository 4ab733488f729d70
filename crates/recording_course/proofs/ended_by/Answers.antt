-- `recording_course::ended_by` meets its contract. Assumes nothing.
use Rattle.recording_course.proofs.Laws.{ended_by_lem}
use Rattle.recording_course.proofs.ended_by.Goals as goal

pub returns : goal.returns
returns c = λ s line table e. ended_by_lem c.args.c s c.args.stage line table c.args.told e
