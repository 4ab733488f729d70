-- from specs/Cases.antt TraceCases
-- Made by ./unfoldings from the line above: all definitions that it rests on. To unfold `opened` is to unfold them all.
use Prim.Native.Nat.{ℕ}
use Rattle.checks.specs.Lists as Lists
use Rattle.octets_checksum.specs.Checksum as Checksum
use Rattle.nets.specs.Classes as Classes
use Rattle.nets.specs.Rows as Rows
use Rattle.text.specs.Text as Text
use Rattle.text_values.specs.Hex as Hex
use Rattle.text_values.specs.Places as Places
use Rattle.message.specs.Kinds as Kinds
use Rattle.message_reading.specs.Reading as MessageReadingReading
use Rattle.update_walk.specs.Body as Body
use Rattle.update_rows.specs.Storing as Storing
use Rattle.codec.specs.Reading as CodecReading
use Rattle.neighbour.specs.Record as Record
use Rattle.neighbour_seconds.specs.Seconds as Seconds
use Rattle.gateway_state.specs.Slots as Slots
use Rattle.listing_lines.specs.Lines as Lines
use Rattle.recording_message.specs.Message as Message
use Rattle.recording_trace.specs.Trace as Trace
use Rattle.recording_trace.specs.Cases as Cases

unfoldable pub opened : ℕ
unfolding Lists.first Lists.join Checksum.ones_add Checksum.ones_sum Checksum.checksum_of Classes.net_width Classes.host_span Classes.good_net Rows.flat Rows.rows_of Text.text Text.digit Text.digits Text.decimal Text.dotted Hex.hex_digit Hex.hex_text Places.index_of Kinds.kind_at Kinds.plain_status Kinds.refusal_status Kinds.marked_status MessageReadingReading.header_of MessageReadingReading.meaning_of MessageReadingReading.decode_as MessageReadingReading.decode_of Body.extended Body.many Body.left_justified Body.row_of_width Body.net_row Body.group_at Body.host_width Body.gateway_of Body.block_at Body.sides_at Body.groups_hold Body.blocks_hold Body.sides_hold Body.read_as Body.both_sides Body.nothing_left Body.body_of Body.further Body.net_at Body.walked_blocks Body.read_within Body.update_of Storing.zeros Storing.padded CodecReading.refusal CodecReading.rowless CodecReading.update_reading CodecReading.meaning_reading CodecReading.meaning_read CodecReading.reading_after CodecReading.read_of Record.idle Seconds.seconds_sum Slots.free_slot Slots.slot_at Slots.addresses Slots.clash Slots.slot_of Lines.state_word Lines.mode_word Lines.distance_in Lines.side_word Message.key_size Message.fields Message.address_field Message.kind_word Message.meaning_word Message.head_numbers Message.interval_fields Message.error_fields Message.own_fields Message.body_fields Message.side_field Message.row_fields Message.rows_fields Message.reading_text Message.message_text Trace.deed_word Trace.slot_for Trace.told_slot Trace.slot_word Trace.record_numbers Trace.front_text Trace.record_text Trace.received_text Trace.sent_text Trace.messages_text Trace.slots_text Trace.trace_text Trace.is_tick Trace.is_unchanged Trace.is_quiet_tick Trace.is_passed_over Cases.numbered Cases.slot_of_five Cases.was_up Cases.is_down Cases.holding Cases.called Cases.ticked Cases.telling
opened = 0
