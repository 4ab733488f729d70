-- `recording_course::advance` meets its contract. Assumes nothing.
use mathlib.Core.Path.{refl}
use Rattle.recording_player.specs.Player.{roomy, close_step, finish_step}
use Rattle.recording_course.specs.declared.Stage.TheVariants.{Play, Close, List as Listing}
use Rattle.recording_course.specs.Course.{close_on, list_on, ended_by, course_at}
use Rattle.recording_course.proofs.Laws.{at_step, still}
use Rattle.recording_course.proofs.advance.Goals as goal

pub returns-in-Read : goal.returns-in-Read
returns-in-Read c = let a = c.args in still a.out.now a.c a.line.now a.table.now a.piece.now c.in-Read.is

pub returns-in-Play : goal.returns-in-Play
unfolding course_at
returns-in-Play c = let a = c.args in at_step a.out.now a.c a.line.now a.table.now a.piece.now Play c.in-Play.is _ _ _ _ c.play_on.ensures

pub returns-in-Close : goal.returns-in-Close
unfolding course_at close_on ended_by
returns-in-Close c =
    let a = c.args in
    let step = close_step (roomy a.out.now) a.c.player a.table.now in
    at_step a.out.now a.c a.line.now a.table.now a.piece.now Close c.in-Close.is _ _ _ _
    (record { value = c.ended_by.ensures step a.line.now a.table.now (c.close.ensures.value a.table.now); line_after = refl; table_after = refl; out_after = c.close.ensures.out_after a.table.now })

pub returns-in-List : goal.returns-in-List
unfolding course_at list_on ended_by
returns-in-List c =
    let a = c.args in
    let step = finish_step a.out.now a.c.player a.table.now in
    at_step a.out.now a.c a.line.now a.table.now a.piece.now Listing c.in-List.is _ _ _ _
    (record { value = c.ended_by-in-List.ensures step a.line.now a.table.now c.finish.ensures.value; line_after = refl; table_after = refl; out_after = c.finish.ensures.out_after })
