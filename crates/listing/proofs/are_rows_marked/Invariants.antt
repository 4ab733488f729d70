-- `listing::are_rows_marked` meets its contract. The loop keeps: the rows left decide for all. Assumes nothing.
use mathlib.Core.Path.{◌≡◌}
use Rattle.std.specs.Slice.Iter.{chunks_exact_size, chunks_exact_rest}
use Rattle.checks.specs.Lists.{every}
use Rattle.nets.specs.Rows.{rows_of}
use Rattle.listing_lines.specs.Listing.{marked_row}
use Rattle.listing.proofs.are_rows_marked.Given as goal

abbrev pub invariant-loop-row : goal.invariant-loop-row
invariant-loop-row l = (chunks_exact_size l.row-iterator ≡ 3) × (every marked_row (rows_of l.rows) ≡ every marked_row (rows_of (chunks_exact_rest l.row-iterator)))
