-- `gateway_carry::send` meets its contract, reply by reply. Assumes nothing.
use Rattle.gateway_carry.proofs.Sending.{send_nothing, one_asked, one_short, send_one, first_asked, first_short, first_within, second_asked, second_short, send_two}
use native.Mathlib.Omega.{arith}
use Rattle.gateway_carry.proofs.send.Goals as goal

pub write_message-first-requires : goal.write_message-first-requires
write_message-first-requires c = let both = one_asked _ c.args.home.now c.args.buffer.now c.requires.0 c.requires.1 c.in-One.m c.in-One.is in record { rows_value = both.0; message_in_bounds = both.1 }

pub overflow_cast-result : goal.overflow_cast-result
overflow_cast-result c = omega (arith, one_short _ c.args.home.now c.args.buffer.now c.requires.0 c.requires.1 c.in-One.m c.in-One.is _ c.write_message-first.ensures.value)

pub write_message-first-requires-in-Two : goal.write_message-first-requires-in-Two
write_message-first-requires-in-Two c = let both = first_asked _ c.args.home.now c.args.buffer.now c.requires.0 c.requires.1 c.in-Two.m c.in-Two.next c.in-Two.is in record { rows_value = both.0; message_in_bounds = both.1 }

pub slice_bounds-write_message-count : goal.slice_bounds-write_message-count
slice_bounds-write_message-count c = first_within _ c.args.home.now c.args.buffer.now c.requires.0 c.requires.1 c.in-Two.m c.in-Two.next c.in-Two.is _ c.write_message-first-in-Two.new.buffer c.write_message-first-in-Two.ensures.value c.write_message-first-in-Two.ensures.buffer_after

pub slice_bounds-write_message-start : goal.slice_bounds-write_message-start
slice_bounds-write_message-start c = first_within _ c.args.home.now c.args.buffer.now c.requires.0 c.requires.1 c.in-Two.m c.in-Two.next c.in-Two.is _ c.write_message-first-in-Two.new.buffer c.write_message-first-in-Two.ensures.value c.write_message-first-in-Two.ensures.buffer_after

pub write_message-second-requires : goal.write_message-second-requires
write_message-second-requires c = let both = second_asked _ c.args.home.now c.args.buffer.now c.requires.0 c.requires.1 c.in-Two.m c.in-Two.next c.in-Two.is _ c.write_message-first-in-Two.new.buffer c.write_message-first-in-Two.ensures.value c.write_message-first-in-Two.ensures.buffer_after in record { rows_value = both.0; message_in_bounds = both.1 }

pub overflow_cast-result-in-Two : goal.overflow_cast-result-in-Two
overflow_cast-result-in-Two c = omega (arith, first_short _ c.args.home.now c.args.buffer.now c.requires.0 c.requires.1 c.in-Two.m c.in-Two.next c.in-Two.is _ c.write_message-first-in-Two.new.buffer c.write_message-first-in-Two.ensures.value c.write_message-first-in-Two.ensures.buffer_after)

pub overflow_cast-result-in-Two-2 : goal.overflow_cast-result-in-Two-2
overflow_cast-result-in-Two-2 c = omega (arith, second_short _ c.args.home.now c.args.buffer.now c.requires.0 c.requires.1 c.in-Two.m c.in-Two.next c.in-Two.is _ c.write_message-first-in-Two.new.buffer c.write_message-first-in-Two.ensures.value c.write_message-first-in-Two.ensures.buffer_after _ _ c.write_message-second.ensures.value c.write_message-second.ensures.buffer_after)

pub returns-in-Nothing : goal.returns-in-Nothing
returns-in-Nothing c = let both = send_nothing _ _ _ c.requires.0 c.requires.1 c.in-Nothing.is in record { value = both.0; buffer_after = both.1 }

pub returns-in-One : goal.returns-in-One
returns-in-One c = let both = send_one _ c.args.home.now c.args.buffer.now c.requires.0 c.requires.1 c.in-One.m c.in-One.is _ _ c.write_message-first.ensures.value c.write_message-first.ensures.buffer_after in record { value = both.0; buffer_after = both.1 }

pub returns-in-Two : goal.returns-in-Two
returns-in-Two c = let both = send_two _ c.args.home.now c.args.buffer.now c.requires.0 c.requires.1 c.in-Two.m c.in-Two.next c.in-Two.is _ c.write_message-first-in-Two.new.buffer c.write_message-first-in-Two.ensures.value c.write_message-first-in-Two.ensures.buffer_after _ _ c.write_message-second.ensures.value c.write_message-second.ensures.buffer_after in record { value = both.0; buffer_after = both.1 }
