-- `recording_trace::put_record` meets its contract, part by part. Assumes nothing.
use native.Mathlib.Omega.{arith}
use mathlib.Core.Path.{ap}
use lib.ListN.{length}
use Rattle.text.specs.Text.{text}
use Rattle.recording_trace.proofs.Laws.{record_done, numbers_long, slot_length, mode_length}
use Rattle.recording_trace.proofs.put_record.Goals as goal

pub put-requires-2 : goal.put-requires-2
put-requires-2 c = omega (arith, c.requires, slot_length c.args.found, ap length c.slot_word.ensures, c.put.ensures.after, c.put.ensures.long)

pub put-requires-3 : goal.put-requires-3
put-requires-3 c = omega (arith, c.requires, slot_length c.args.found, ap length c.slot_word.ensures, c.put.ensures.after, c.put.ensures.long, c.put-2.ensures.after, c.put-2.ensures.long)

pub put-requires-4 : goal.put-requires-4
put-requires-4 c = omega (arith, c.requires, slot_length c.args.found, ap length c.slot_word.ensures, slot_length c.args.left, ap length c.slot_word-2.ensures, c.put.ensures.after, c.put.ensures.long, c.put-2.ensures.after, c.put-2.ensures.long, c.put-3.ensures.after, c.put-3.ensures.long)

pub put-requires-5 : goal.put-requires-5
put-requires-5 c = omega (arith, c.requires, slot_length c.args.found, ap length c.slot_word.ensures, slot_length c.args.left, ap length c.slot_word-2.ensures, c.put.ensures.after, c.put.ensures.long, c.put-2.ensures.after, c.put-2.ensures.long, c.put-3.ensures.after, c.put-3.ensures.long, c.put-4.ensures.after, c.put-4.ensures.long)

pub put-requires-6 : goal.put-requires-6
put-requires-6 c = omega (arith, c.requires, slot_length c.args.found, ap length c.slot_word.ensures, slot_length c.args.left, ap length c.slot_word-2.ensures, mode_length c.told_slot-told.result.neighbour.mode, ap length c.mode_word.ensures, c.put.ensures.after, c.put.ensures.long, c.put-2.ensures.after, c.put-2.ensures.long, c.put-3.ensures.after, c.put-3.ensures.long, c.put-4.ensures.after, c.put-4.ensures.long, c.put-5.ensures.after, c.put-5.ensures.long)

pub put_fields-requires : goal.put_fields-requires
put_fields-requires c = omega (arith, c.requires, slot_length c.args.found, ap length c.slot_word.ensures, slot_length c.args.left, ap length c.slot_word-2.ensures, mode_length c.told_slot-told.result.neighbour.mode, ap length c.mode_word.ensures, numbers_long c.args.passed c.args.found c.args.left c.told_slot-told.ensures c.record_numbers.ensures, c.put.ensures.after, c.put.ensures.long, c.put-2.ensures.after, c.put-2.ensures.long, c.put-3.ensures.after, c.put-3.ensures.long, c.put-4.ensures.after, c.put-4.ensures.long, c.put-5.ensures.after, c.put-5.ensures.long, c.put-6.ensures.after, c.put-6.ensures.long)

pub returns-clause-written : goal.returns-clause-written
unfolding text
returns-clause-written c = record_done c.args.passed c.args.found c.args.left c.told_slot-told.ensures c.record_numbers.ensures c.slot_word.ensures c.slot_word-2.ensures c.mode_word.ensures c.put.ensures c.put-2.ensures c.put-3.ensures c.put-4.ensures c.put-5.ensures c.put-6.ensures c.put_fields.ensures.written

pub returns-clause-upper_bound : goal.returns-clause-upper_bound
returns-clause-upper_bound c = omega (arith, slot_length c.args.found, ap length c.slot_word.ensures, slot_length c.args.left, ap length c.slot_word-2.ensures, mode_length c.told_slot-told.result.neighbour.mode, ap length c.mode_word.ensures, numbers_long c.args.passed c.args.found c.args.left c.told_slot-told.ensures c.record_numbers.ensures, c.put.ensures.after, c.put-2.ensures.after, c.put-3.ensures.after, c.put-4.ensures.after, c.put-5.ensures.after, c.put-6.ensures.after, c.put_fields.ensures.upper_bound)
