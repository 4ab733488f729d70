-- `recording_message::put_row` meets its contract, part by part. Assumes nothing.
use native.Mathlib.Omega.{arith}
use mathlib.Core.Path.{ap, ◌∙◌}
use lib.ListN.{length}
use Rattle.text.specs.Text.{text}
use Rattle.text.proofs.Writing.{puts_both}
use Rattle.listing_lines.specs.Lines.{distance_in}
use Rattle.recording_message.specs.Message.{side_field, row_fields}
use Rattle.recording_message.proofs.Laws.{side_length}
use Rattle.recording_message.proofs.put_row.Goals as goal

pub put-requires-2 : goal.put-requires-2
put-requires-2 c = omega (arith, side_length c.args.third, ap length c.side_word.ensures, c.requires, c.put_address.ensures.upper_bound, c.put_address-2.ensures.upper_bound, c.put_fields.ensures.upper_bound, c.put.ensures.after, c.put_address.ensures.written.long, c.put_address-2.ensures.written.long, c.put_fields.ensures.written.long, c.put.ensures.long)

pub returns-clause-written : goal.returns-clause-written
unfolding text side_field row_fields distance_in
returns-clause-written c = puts_both c.put_address.ensures.written (puts_both c.put_address-2.ensures.written (puts_both c.put_fields.ensures.written (puts_both c.put.ensures (rw c.side_word.ensures at c.put-2.ensures))))

pub returns-clause-upper_bound : goal.returns-clause-upper_bound
returns-clause-upper_bound c = omega (arith, side_length c.args.third, ap length c.side_word.ensures, c.put_address.ensures.upper_bound, c.put_address-2.ensures.upper_bound, c.put_fields.ensures.upper_bound, c.put.ensures.after, c.put-2.ensures.after)
