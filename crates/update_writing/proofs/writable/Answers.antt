use Rattle.std.proofs.Common.{refl, ◌/◌, length}
use Rattle.update_writing.specs.Writable.{writable_numbers}
use Rattle.update_writing.proofs.Lists.{rows_chunks}
use Rattle.update_writing.proofs.writable.Goals as goal

pub returns-then-is_empty : goal.returns-then-is_empty
unfolding writable_numbers
returns-then-is_empty c =
    rw (← c.as_chunks.ensures.back_len, ← c.is_empty.ensures, c.if-is_empty.true, ← rows_chunks (length c.args.rows.now / 3) c.args.rows.now refl, ← c.as_chunks.ensures.front) c.are_writable.ensures

pub returns-else-is_empty : goal.returns-else-is_empty
unfolding writable_numbers
returns-else-is_empty c = rw (← c.as_chunks.ensures.back_len, ← c.is_empty.ensures, c.if-is_empty.false)
