-- `recording_player::skip_line` meets its contract. Assumes nothing.
use Rattle.std.proofs.Common.{arith}
use Rattle.recording_player.specs.Player.{bad_step}
use Rattle.recording_player.proofs.Laws.{for_each, reported_not, reported_so, bad_told, line_told}
use Rattle.recording_player.proofs.skip_line.Goals as goal

pub returns-then-out-lt-ROOM : goal.returns-then-out-lt-ROOM
unfolding bad_step
returns-then-out-lt-ROOM c = let both = for_each (λ table. reported_not c.args.p table c.args.out.now c.args.used (bad_step c.args.p table) _ c.if-out-lt-ROOM.true (λ z. absurd (omega (arith, z))) (rw c.from-bad_line.ensures at (c.silent.ensures table))) in record { value = both.0; out_after = both.1 }

pub returns : goal.returns
unfolding bad_step
returns c = let both = for_each (λ table. reported_so c.args.p table c.args.out.now c.args.used (bad_step c.args.p table) _ c.if-out-lt-ROOM.false _ (rw c.from-bad_line.ensures (bad_told c.args.p _ c.next_line-player.ensures table _ c.put_bad-written.ensures.value c.args.used)) (line_told c.args.p _ c.next_line-player.ensures c.args.out.now _ c.put_bad-written.ensures.out_after)) in record { value = both.0; out_after = both.1 }
