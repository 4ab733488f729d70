-- `recording_program::go_on` is safe, and what is held is what was held and what the step wrote. Assumes nothing.
use Rattle.std.proofs.Common.{List, ℕ}
use Rattle.recording_course.specs.Course.{Stepped, course_step}
use Rattle.recording_program.proofs.Laws.{held_fits, held_more}
use Rattle.recording_program.proofs.go_on.Goals as goal

pub returns-clause-out_after : goal.returns-clause-out_after
returns-clause-out_after c =
    let a = c.args in
    let step : List ℕ → Stepped = λ l. course_step l a.c a.line.now a.table.now a.piece.now in
    held_more step c.advance.result a.held a.out.now _ c.requires c.advance.ensures.value c.advance.ensures.out_after c.advance.auto.out

pub returns-clause-written_in_bounds : goal.returns-clause-written_in_bounds
returns-clause-written_in_bounds c =
    let a = c.args in
    let step : List ℕ → Stepped = λ l. course_step l a.c a.line.now a.table.now a.piece.now in
    held_fits step c.advance.result a.held a.out.now _ c.requires c.advance.ensures.value c.advance.ensures.out_after c.advance.auto.out
