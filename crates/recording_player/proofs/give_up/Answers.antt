-- `recording_player::give_up` meets its contract. Assumes nothing.
use Rattle.std.proofs.Common.{refl}
use Rattle.recording_player.specs.Player.{broken_step, breaking}
use Rattle.recording_player.proofs.Laws.{for_each, reported_not, reported_so, broken_told, line_told}
use Rattle.recording_player.proofs.give_up.Goals as goal

pub returns-then-out-lt-ROOM : goal.returns-then-out-lt-ROOM
unfolding broken_step
returns-then-out-lt-ROOM c = let both = for_each (λ table. reported_not c.args.p table c.args.out.now c.args.used (broken_step c.args.p table c.args.answer) _ c.if-out-lt-ROOM.true c.requires (c.silent.ensures table)) in record { value = both.0; out_after = both.1 }

pub returns : goal.returns
unfolding broken_step breaking
returns c = let both = for_each (λ table. reported_so c.args.p table c.args.out.now c.args.used (broken_step c.args.p table c.args.answer) _ c.if-out-lt-ROOM.false _ (broken_told c.args.p _ c.next_line-next.ensures table _ c.put_bad-written.ensures.value c.args.answer c.args.used _ refl) (line_told c.args.p _ c.next_line-next.ensures c.args.out.now _ c.put_bad-written.ensures.out_after)) in record { value = both.0; out_after = both.1 }
