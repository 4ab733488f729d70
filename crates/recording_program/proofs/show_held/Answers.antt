-- `recording_program::show_held` is safe, and what is held behind it leaves room for a step. Assumes nothing.
use Rattle.std.proofs.Common.{◌-◌, ◌≤◌, arith, length}
use Rattle.recording_program.proofs.Laws.{room_left}
use Rattle.recording_program.proofs.show_held.Goals as goal

pub returns-then-not-is_due : goal.returns-then-not-is_due
returns-then-not-is_due g c =
    let room : 65536 ≤ length c.args.out.now - c.args.held = room_left _ _ c.is_due.result c.is_due.ensures c.if-not-is_due.true in
    omega (arith, c.requires.held_in_bounds)
