-- `listing_lines::put_rows` meets its contract. The loop keeps what is left to write. Assumes nothing.
use mathlib.Core.Path.{◌≡◌}
use Rattle.std.specs.Slice.Iter.{chunks_exact_size, chunks_exact_rest}
use Rattle.nets.specs.Rows.{rows_of}
use Rattle.text.proofs.Writing.{Left}
use Rattle.listing_lines.specs.Steps.{rows_text}
use Rattle.listing_lines.proofs.put_rows.Given as goal

abbrev pub invariant-loop-row : goal.invariant-loop-row
invariant-loop-row l = (chunks_exact_size l.row-iterator ≡ 3) × Left (rows_text (rows_of l.rows)) l.initial.out (rows_text (rows_of (chunks_exact_rest l.row-iterator))) l.out
