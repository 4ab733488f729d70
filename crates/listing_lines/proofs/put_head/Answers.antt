-- `listing_lines::put_head` meets its contract, line by line, then the lines of its seconds by one call. Assumes nothing.
use Rattle.std.proofs.lemmas.Grind.{common_steps}
use native.Mathlib.Omega.{arith}
use Rattle.checks.specs.Lists.{join}
use Rattle.text.specs.Text.{text}
use Rattle.text.proofs.Writing.{puts_both, room_behind}
use Rattle.update_writing.proofs.Lists.{rows_length}
use Rattle.listing_lines.specs.Lines.{head_lines}
use Rattle.listing_lines.proofs.put_head.Goals as goal

pub returns : goal.returns
unfolding join text head_lines
returns c = puts_both c.put_line.ensures (puts_both c.put_line-2.ensures (puts_both (rw c.from.ensures at c.put_line-3.ensures) (puts_both (rw c.state_word.ensures at c.put_line-4.ensures) (puts_both (rw c.mode_word.ensures at c.put_line-5.ensures) (puts_both (rw (← rows_length c.args.rows.now) at c.put_line-6.ensures) c.put_seconds.ensures)))))

pub put_line-requires-6 : goal.put_line-requires-6
unfolding join text head_lines
put_line-requires-6 c = rw (← rows_length c.args.rows.now) (grind (arith, common_steps))

pub put_seconds-requires : goal.put_seconds-requires
unfolding join text head_lines
put_seconds-requires c = room_behind _ (rw (← rows_length c.args.rows.now) at c.put_line-6.ensures) (room_behind _ (rw c.mode_word.ensures at c.put_line-5.ensures) (room_behind _ (rw c.state_word.ensures at c.put_line-4.ensures) (room_behind _ (rw c.from.ensures at c.put_line-3.ensures) (room_behind _ c.put_line-2.ensures (room_behind _ c.put_line.ensures c.requires.rows_in_bounds)))))
