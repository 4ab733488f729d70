-- `recording_player::turn` meets its contract. Assumes nothing.
use mathlib.Core.Path.{refl}
use Rattle.recording_player.proofs.Laws.{turn_broken, turn_tick, turn_unfit}
use Rattle.recording_player.proofs.turn.Goals as goal

pub returns-then-p : goal.returns-then-p
returns-then-p c = let both = turn_broken c.args.p c.args.line.now c.args.table.now c.args.input.now c.args.out.now _ c.if-p.true _ (c.silent.ensures c.args.table.now) refl in record { value = both.0; line_after = both.1.0; table_after = both.1.1.0; out_after = both.1.1.1 }

pub returns-then-p-gt0 : goal.returns-then-p-gt0
returns-then-p-gt0 c = let both = turn_tick c.args.p c.args.line.now c.args.table.now c.args.input.now c.args.out.now _ c.if-p.false c.if-p-gt0.true _ _ (c.make_tick.ensures.value, (c.make_tick.ensures.table_after, c.make_tick.ensures.out_after)) in record { value = both.0; line_after = both.1.0; table_after = both.1.1.0; out_after = both.1.1.1 }

pub returns-then-line-lt4118 : goal.returns-then-line-lt4118
returns-then-line-lt4118 c = let both = turn_unfit c.args.p c.args.line.now c.args.table.now c.args.input.now c.args.out.now _ c.if-p.false c.if-p-gt0.false c.if-line-lt4118.true (rw c.from.ensures at (c.silent-then-line-lt4118.ensures c.args.table.now)) in record { value = both.0; line_after = both.1.0; table_after = both.1.1.0; out_after = both.1.1.1 }

pub returns : goal.returns
returns c = c.take_piece.ensures
