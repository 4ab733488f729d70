-- `recording_course::play_on` meets its contract. Assumes nothing.
use native.Mathlib.Omega.{arith}
use Rattle.recording_course.proofs.Laws.{played_on, used_fits, from_fits}
use Rattle.recording_course.proofs.play_on.Goals as goal

pub overflow_sub-rest : goal.overflow_sub-rest
overflow_sub-rest c = used_fits _ _ _ _ _ _ c.turn-t.ensures.value

pub overflow_add-result : goal.overflow_add-result
overflow_add-result c =
    omega (arith, from_fits _ _ _ _ _ _ c.turn-t.ensures.value _ _ _ c.rest_of-rest.ensures, c.well_formed.1.1.1.0)

pub returns : goal.returns
returns c = let a = c.args in let t = c.turn-t in
    let both = played_on a.c a.out.now a.line.now a.table.now a.piece.now _ c.rest_of-rest.ensures t.result t.ensures.value _ c.next_stage.ensures _ _ _ t.ensures.line_after t.ensures.table_after t.ensures.out_after in
    record { value = both.0; line_after = both.1.0; table_after = both.1.1.0; out_after = both.1.1.1 }
