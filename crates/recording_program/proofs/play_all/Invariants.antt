-- `recording_program::play_all` is safe and ends: the sizes of what is lent stay, and what is held leaves room for a
-- step. Assumes nothing.
use Rattle.std.proofs.Common.{◌+◌, ◌≤◌}
use Rattle.recording_program.specs.Rooms.{Rooms}
use Rattle.recording_program.proofs.play_all.Given as goal

abbrev pub invariant-loop : goal.invariant-loop
invariant-loop g l = Rooms l.line l.table l.out × (l.held + 65536 ≤ 131072)
