-- from specs/Cases.antt PlayedCases
-- Made by ./unfoldings from the line above: all definitions that it rests on. To unfold `opened` is to unfold them all.
use Prim.Native.Nat.{ℕ}
use Rattle.checks.specs.Checks as Checks
use Rattle.checks.specs.Lists as Lists
use Rattle.octets_checksum.specs.Checksum as Checksum
use Rattle.nets.specs.Classes as Classes
use Rattle.nets.specs.Rows as Rows
use Rattle.text.specs.Text as Text
use Rattle.text_values.specs.Numbers as Numbers
use Rattle.text_values.specs.Hex as Hex
use Rattle.text_values.specs.Places as Places
use Rattle.message.specs.Kinds as Kinds
use Rattle.message_reading.specs.Reading as MessageReadingReading
use Rattle.message_writing.specs.Writing as Writing
use Rattle.update_walk.specs.Body as Body
use Rattle.update_rows.specs.Storing as Storing
use Rattle.codec_writing.specs.Octets as Octets
use Rattle.codec.specs.Reading as CodecReading
use Rattle.neighbour.specs.Record as Record
use Rattle.neighbour.specs.Rules as Rules
use Rattle.neighbour_seconds.specs.Seconds as Seconds
use Rattle.neighbour_machine.specs.Table as Table
use Rattle.neighbour_machine.specs.Tick as Tick
use Rattle.neighbour_machine.specs.Step as Step
use Rattle.gateway_state.specs.Slots as Slots
use Rattle.gateway_state.specs.Formed as Formed
use Rattle.gateway_state.specs.Outcomes as Outcomes
use Rattle.gateway_slots.specs.Calls as Calls
use Rattle.gateway_rules.specs.Home as Home
use Rattle.listing_lines.specs.Lines as ListingLinesLines
use Rattle.model.specs.Model as Model
use Rattle.model.specs.Theorem as Theorem
use Rattle.recording_lines.specs.Lines as RecordingLinesLines
use Rattle.recording_bad_line.specs.BadLine as BadLine
use Rattle.recording_message.specs.Message as Message
use Rattle.recording_trace.specs.Trace as Trace
use Rattle.recording_call.specs.Told as Told
use Rattle.recording_theorem.specs.Output as Output
use Rattle.recording_theorem.specs.Cases as Cases

unfoldable pub opened : ℕ
unfolding Checks.check Checks.if_ok Lists.first Lists.every Lists.join Checksum.ones_add Checksum.ones_sum Checksum.checksum_of Checksum.sealed Classes.net_width Classes.host_span Classes.good_net Classes.on_net Rows.flat Rows.rows_of Text.text Text.digit Text.digits Text.decimal Text.dotted Text.line Numbers.when_number Numbers.is_digit Numbers.digits_of Numbers.leads_with_zero Numbers.decimal_of Numbers.dotted_from Numbers.dotted_of Hex.hex_digit Hex.hex_text Hex.nibble Hex.is_hex Hex.hex_octets Places.index_of Places.starts_with Kinds.kind_at Kinds.plain_status Kinds.refusal_status Kinds.marked_status MessageReadingReading.header_of MessageReadingReading.header_answer MessageReadingReading.meaning_of MessageReadingReading.decode_as MessageReadingReading.decode_of Writing.head_of Body.extended Body.many Body.left_justified Body.row_of_width Body.net_row Body.group_at Body.host_width Body.gateway_of Body.block_at Body.sides_at Body.groups_hold Body.blocks_hold Body.sides_hold Body.read_as Body.both_sides Body.nothing_left Body.body_of Body.further Body.net_at Body.walked_blocks Body.read_within Body.update_of Body.rows_read Storing.zeros Storing.padded Octets.plain_octets Octets.message_octets CodecReading.refusal CodecReading.rowless CodecReading.update_reading CodecReading.meaning_reading CodecReading.meaning_read CodecReading.reading_after CodecReading.read_of Record.under Record.with_numbers Record.with_timers Record.with_reach Record.idle Record.left_idle Record.waiting Record.initialised Record.heard_from Record.shifted Record.enter_up Record.leave_up Record.polled Record.one_more Record.aged Rules.in_sequence Rules.commanded Rules.indicates Rules.noted Rules.too_quick Rules.recounted Rules.period1_of Rules.period2_of Rules.unacceptable Rules.mode_of Rules.offer_of Rules.ones_of Rules.goes_up Rules.goes_down Rules.judged Seconds.seconds_sum Seconds.clock_full Seconds.counted Table.followed Table.unanswered Table.answers Table.says Table.hello_if Table.does_a Table.does_b Table.ceases Table.repeats_cease Table.acquires Table.stray Table.on_request Table.settles Table.on_confirm Table.on_refuse Table.on_cease Table.on_cease_ack Table.on_hello Table.on_i_heard_you Table.answers_poll Table.on_poll Table.on_update Table.on_start Table.on_stop Tick.expired Tick.repeats Tick.listens Tick.polls Tick.polls_on_entry Tick.takes_t2 Tick.polls_in_up Tick.tick_on Tick.tick_outside Tick.on_tick Step.on_message Step.step_of Slots.free_slot Slots.slot_at Slots.addresses Slots.clash Slots.slot_of Formed.good_settings Outcomes.silent_of Calls.free_slots Calls.empty_state Calls.zero_state Calls.fresh_answer Calls.fresh_of Home.home_row Home.own_first Home.good_home ListingLinesLines.state_word ListingLinesLines.mode_word ListingLinesLines.distance_in ListingLinesLines.side_word ListingLinesLines.seconds_lines ListingLinesLines.head_lines ListingLinesLines.row_lines ListingLinesLines.row_text ListingLinesLines.entry_text ListingLinesLines.listing_text Model.empty Model.slot_in Model.put Model.is_free Model.has_address Model.found_at Model.is_present Model.vacancy Model.silent Model.spoken Model.addable Model.answer_to_add Model.is_idle_slot Model.answer_to_remove Model.add_turn Model.remove_turn Model.no_move Model.rows_in_phase Model.moved Model.no_octets Model.seconds_after Model.event_move Model.body_answer Model.is_update Model.kind_answer Model.answer_to Model.first_twelve Model.error_reply Model.refuse_reply Model.refusal_reply Model.after_message Model.rows_after Model.message_move Model.is_late Model.event_answer Model.message_answer Model.turn_at Model.event_turn Model.message_turn Model.listed_from Model.listed Model.listing_answer Model.listing_said Model.listing_turn Model.step Model.model_from Model.model Theorem.cell Theorem.state_of RecordingLinesLines.behind RecordingLinesLines.own_as_of RecordingLinesLines.own_of RecordingLinesLines.capability_of RecordingLinesLines.net_of RecordingLinesLines.quiet_of RecordingLinesLines.alone RecordingLinesLines.slashed RecordingLinesLines.add_event RecordingLinesLines.tick_event RecordingLinesLines.rx_event RecordingLinesLines.event_of BadLine.bad_text BadLine.one_more Message.key_size Message.fields Message.address_field Message.kind_word Message.meaning_word Message.head_numbers Message.interval_fields Message.error_fields Message.own_fields Message.body_fields Message.side_field Message.row_fields Message.rows_fields Message.reading_text Message.message_text Trace.deed_word Trace.slot_for Trace.told_slot Trace.slot_word Trace.record_numbers Trace.front_text Trace.record_text Trace.received_text Trace.sent_text Trace.messages_text Trace.slots_text Trace.trace_text Trace.is_tick Trace.is_unchanged Trace.is_quiet_tick Trace.is_passed_over Told.tx_text Told.lent Told.addressed_to Told.intrinsic_deed Told.deed_of Told.message_in Told.tell_text Told.passed_after Output.lines_from Output.lines_of Output.event_in Output.value_in Output.from_quiet Output.taken_by Output.from_net Output.from_capability Output.from_own Output.opening_of Output.ticks Output.calls_of Output.good_calls Output.happened Output.telling Output.calls_told Output.event_told Output.told_from Output.told_text Output.events_text Output.opening_text Output.output_of Cases.head Cases.stray_hello Cases.drawn Cases.idle_listing
opened = 0
