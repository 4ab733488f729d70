use mathlib.Core.Path.{sym, ◌∙◌}
use Rattle.std.proofs.Common.{refl, ◌/◌, length}
use Rattle.update_writing.proofs.Lists.{rows_chunks}
use Rattle.octets_checksum.proofs.Laws.{sealed_length}
use Rattle.codec_writing.specs.Octets.{plain_octets, message_octets}
use Rattle.codec_writing.specs.Room.{room_for}
use Rattle.codec_writing.proofs.Laws.{update_asked, rows_asked}
use Rattle.codec_writing.proofs.write_message.Goals as goal

pub write_intervals-requires : goal.write_intervals-requires
unfolding room_for
write_intervals-requires c = rw c.in-Request.is at c.requires.message_in_bounds

pub write_intervals-requires-in-Confirm : goal.write_intervals-requires-in-Confirm
unfolding room_for
write_intervals-requires-in-Confirm c = rw c.in-Confirm.is at c.requires.message_in_bounds

pub write_short-requires : goal.write_short-requires
unfolding room_for
write_short-requires c = rw c.in-Refuse.is at c.requires.message_in_bounds

pub write_short-requires-in-Cease : goal.write_short-requires-in-Cease
unfolding room_for
write_short-requires-in-Cease c = rw c.in-Cease.is at c.requires.message_in_bounds

pub write_short-requires-in-CeaseAck : goal.write_short-requires-in-CeaseAck
unfolding room_for
write_short-requires-in-CeaseAck c = rw c.in-CeaseAck.is at c.requires.message_in_bounds

pub write_short-requires-in-Hello : goal.write_short-requires-in-Hello
unfolding room_for
write_short-requires-in-Hello c = rw c.in-Hello.is at c.requires.message_in_bounds

pub write_short-requires-in-IHeardYou : goal.write_short-requires-in-IHeardYou
unfolding room_for
write_short-requires-in-IHeardYou c = rw c.in-IHeardYou.is at c.requires.message_in_bounds

pub write_poll-requires : goal.write_poll-requires
unfolding room_for
write_poll-requires c = rw c.in-Poll.is at c.requires.message_in_bounds

pub write_update-requires : goal.write_update-requires
write_update-requires c = let both = update_asked _ _ c.args.rows.now _ _ _ c.in-Update.net c.in-Update.is (c.requires.rows_value, c.requires.message_in_bounds) in record { net_value = (both.0.0, rw (← c.as_chunks.ensures.front) at (rows_asked _ (length c.args.rows.now / 3) c.args.rows.now refl both.0.1)); in_bounds = both.1 }

pub write_error-requires : goal.write_error-requires
unfolding room_for
write_error-requires c = rw c.in-Error.is at c.requires.message_in_bounds

pub returns-in-Request : goal.returns-in-Request
unfolding message_octets plain_octets
returns-in-Request c = rw c.in-Request.is (record { value = c.write_intervals.ensures.value ∙ sym (sealed_length _); buffer_after = c.write_intervals.ensures.buffer_after })

pub returns-in-Confirm : goal.returns-in-Confirm
unfolding message_octets plain_octets
returns-in-Confirm c = rw c.in-Confirm.is (record { value = c.write_intervals-in-Confirm.ensures.value ∙ sym (sealed_length _); buffer_after = c.write_intervals-in-Confirm.ensures.buffer_after })

pub returns-in-Refuse : goal.returns-in-Refuse
unfolding message_octets plain_octets
returns-in-Refuse c = rw c.in-Refuse.is (record { value = c.write_short.ensures.value ∙ sym (sealed_length _); buffer_after = c.write_short.ensures.buffer_after })

pub returns-in-Cease : goal.returns-in-Cease
unfolding message_octets plain_octets
returns-in-Cease c = rw c.in-Cease.is (record { value = c.write_short-in-Cease.ensures.value ∙ sym (sealed_length _); buffer_after = c.write_short-in-Cease.ensures.buffer_after })

pub returns-in-CeaseAck : goal.returns-in-CeaseAck
unfolding message_octets plain_octets
returns-in-CeaseAck c = rw c.in-CeaseAck.is (record { value = c.write_short-in-CeaseAck.ensures.value ∙ sym (sealed_length _); buffer_after = c.write_short-in-CeaseAck.ensures.buffer_after })

pub returns-in-Hello : goal.returns-in-Hello
unfolding message_octets plain_octets
returns-in-Hello c = rw c.in-Hello.is (record { value = c.write_short-in-Hello.ensures.value ∙ sym (sealed_length _); buffer_after = c.write_short-in-Hello.ensures.buffer_after })

pub returns-in-IHeardYou : goal.returns-in-IHeardYou
unfolding message_octets plain_octets
returns-in-IHeardYou c = rw c.in-IHeardYou.is (record { value = c.write_short-in-IHeardYou.ensures.value ∙ sym (sealed_length _); buffer_after = c.write_short-in-IHeardYou.ensures.buffer_after })

pub returns-in-Poll : goal.returns-in-Poll
unfolding message_octets plain_octets
returns-in-Poll c = rw c.in-Poll.is (record { value = c.write_poll.ensures.value ∙ sym (sealed_length _); buffer_after = c.write_poll.ensures.buffer_after })

pub returns-in-Update : goal.returns-in-Update
returns-in-Update c = rw (c.in-Update.is, ← rows_chunks (length c.args.rows.now / 3) c.args.rows.now refl, ← c.as_chunks.ensures.front) (record { value = c.write_update.ensures.value; buffer_after = c.write_update.ensures.buffer_after })

pub returns-in-Error : goal.returns-in-Error
unfolding message_octets plain_octets
returns-in-Error c = rw c.in-Error.is (record { value = c.write_error.ensures.value ∙ sym (sealed_length _); buffer_after = c.write_error.ensures.buffer_after })
