-- `recording_player::take_piece` meets its contract. Assumes nothing.
use mathlib.Core.Path.{refl}
use borrow.Author.Tests.{not-true, not-false}
use Rattle.recording_player.specs.Player.{holding}
use Rattle.recording_player.proofs.Laws.{turn_held, turn_line}
use Rattle.recording_player.proofs.take_piece.Goals as goal

pub returns-then-not-g : goal.returns-then-not-g
unfolding holding
returns-then-not-g c = let both = turn_held c.args.p c.args.line.now c.args.table.now c.args.input.now c.args.out.now _ c.requires.0 c.requires.1 c.requires.2 c.join_piece-g.result c.join_piece-g.ensures.value (not-true c.join_piece-g.result.ended c.if-not-g.true) _ (c.silent.ensures c.args.table.now) refl _ c.gather.ensures.line_after in record { value = both.0; line_after = both.1.0; table_after = both.1.1.0; out_after = both.1.1.1 }

pub returns : goal.returns
returns c = let both = turn_line c.args.p c.args.line.now c.args.table.now c.args.input.now c.args.out.now _ c.requires.0 c.requires.1 c.requires.2 c.join_piece-g.result c.join_piece-g.ensures.value (not-false c.join_piece-g.result.ended c.if-not-g.false) _ c.join_piece-g.ensures.whole_after _ _ (rw c.held_line.ensures at c.take_line.ensures.value, (rw c.held_line.ensures at c.take_line.ensures.table_after, rw c.held_line.ensures at c.take_line.ensures.out_after)) in record { value = both.0; line_after = both.1.0; table_after = both.1.1.0; out_after = both.1.1.1 }
