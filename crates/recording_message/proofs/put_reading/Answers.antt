-- `recording_message::put_reading` meets its contract, part by part. Assumes nothing.
use native.Mathlib.Omega.{arith}
use Prim.Native.Nat.{◌*◌}
use mathlib.Core.Path.{refl}
use lib.Seq.{length-take-le}
use Rattle.text.specs.Text.{text}
use Rattle.text_values.proofs.Readings.{hexes}
use Rattle.recording_message.proofs.Laws.{reading_done}
use Rattle.recording_message.proofs.put_reading.Goals as goal

pub put_hex-requires : goal.put_hex-requires
put_hex-requires c = omega (arith, hexes.twice c.args.message.now, length-take-le (c.args.count * 3) c.args.rows.now (omega (arith, c.requires.rows_len.0, c.requires.rows_len.1)), c.requires.rows_len.1, c.requires.rows_len.2, c.meaning_word.ensures.upper_bound, c.put.ensures.after, c.put-2.ensures.after, c.put_fields.ensures.upper_bound, c.put_body.ensures.upper_bound, c.put_rows.ensures.upper_bound, c.put-3.ensures.after, c.requires.room, c.put.ensures.long, c.put-2.ensures.long, c.put_fields.ensures.written.long, c.put_body.ensures.written.long, c.put_rows.ensures.written.long, c.put-3.ensures.long)

pub returns-clause-written : goal.returns-clause-written
unfolding text
returns-clause-written c = reading_done c.args.key.now c.args.meaning c.args.count c.args.rows.now c.args.message.now c.reading_number.ensures c.head_numbers.ensures refl c.meaning_word.ensures.word c.put.ensures c.put-2.ensures c.put_fields.ensures.written c.put_body.ensures.written c.put_rows.ensures.written c.put-3.ensures c.put_hex.ensures

pub returns-clause-upper_bound : goal.returns-clause-upper_bound
returns-clause-upper_bound c = omega (arith, hexes.twice c.args.message.now, length-take-le (c.args.count * 3) c.args.rows.now (omega (arith, c.requires.rows_len.0, c.requires.rows_len.1)), c.requires.rows_len.1, c.requires.rows_len.2, c.meaning_word.ensures.upper_bound, c.put.ensures.after, c.put-2.ensures.after, c.put_fields.ensures.upper_bound, c.put_body.ensures.upper_bound, c.put_rows.ensures.upper_bound, c.put-3.ensures.after, c.put_hex.ensures.after)
