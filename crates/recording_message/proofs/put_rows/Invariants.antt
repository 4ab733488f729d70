-- `recording_message::put_rows` meets its contract. The loop keeps what is written and room for the rest. Assumes nothing.
use mathlib.Core.Path.{◌≡◌}
use Rattle.std.specs.Slice.Iter.{chunks_exact_size, chunks_exact_rest}
use Rattle.recording_message.proofs.Laws.{Rows}
use Rattle.recording_message.proofs.put_rows.Given as goal

abbrev pub invariant-loop-row : goal.invariant-loop-row
invariant-loop-row l = (chunks_exact_size l.row-iterator ≡ 3) × Rows l.rows l.initial.out (chunks_exact_rest l.row-iterator) l.out
