-- `recording_player::close` meets its contract. Assumes nothing.
use Rattle.recording_player.specs.Player.{roomy}
use Rattle.recording_player.proofs.Laws.{for_each, taken_as, silent_taken, close_broken, close_missing, close_unended, close_ended}
use Rattle.recording_player.proofs.close.Goals as goal

pub returns-then-p : goal.returns-then-p
returns-then-p c = let both = for_each (λ table. silent_taken _ c.args.p table 0 _ c.args.out.now (close_broken (roomy c.args.out.now) c.args.p table c.if-p.true) (c.silent.ensures table)) in record { value = both.0; out_after = both.1 }

pub returns-then-p-lt4 : goal.returns-then-p-lt4
returns-then-p-lt4 c = let both = for_each (λ table. taken_as c.args.out.now (close_missing (roomy c.args.out.now) c.args.p table c.if-p.false c.if-p-lt4.true) (rw c.from.ensures at (c.give_up.ensures.value table), rw c.from.ensures at (c.give_up.ensures.out_after table))) in record { value = both.0; out_after = both.1 }

pub returns-then-p-gt0 : goal.returns-then-p-gt0
returns-then-p-gt0 c = let both = for_each (λ table. taken_as c.args.out.now (close_unended (roomy c.args.out.now) c.args.p table c.if-p.false c.if-p-lt4.false c.if-p-gt0.true) (c.skip_line.ensures.value table, c.skip_line.ensures.out_after table)) in record { value = both.0; out_after = both.1 }

pub returns : goal.returns
returns c = let both = for_each (λ table. silent_taken _ c.args.p table 0 _ c.args.out.now (close_ended (roomy c.args.out.now) c.args.p table c.if-p.false c.if-p-lt4.false c.if-p-gt0.false) (c.silent-2.ensures table)) in record { value = both.0; out_after = both.1 }
