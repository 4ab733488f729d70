-- from specs/Sheet.antt Sheet
-- Made by ./unfoldings from the line above: all definitions that it rests on. To unfold `opened` is to unfold them all.
use Prim.Native.Nat.{ℕ}
use Rattle.checks.specs.Checks as Checks
use Rattle.checks.specs.Lists as Lists
use Rattle.octets.specs.Buffer as Buffer
use Rattle.octets_checksum.specs.Checksum as Checksum
use Rattle.nets.specs.Classes as Classes
use Rattle.nets.specs.Rows as Rows
use Rattle.text.specs.Text as Text
use Rattle.text_values.specs.Numbers as Numbers
use Rattle.text_values.specs.Hex as Hex
use Rattle.text_values.specs.Places as TextValuesPlaces
use Rattle.update_rows.specs.Storing as Storing
use Rattle.neighbour.specs.Record as Record
use Rattle.neighbour.specs.Rules as Rules
use Rattle.neighbour_wellformed.specs.Formed as NeighbourWellformedFormed
use Rattle.neighbour_seconds.specs.Seconds as NeighbourSecondsSeconds
use Rattle.gateway_state.specs.Slots as Slots
use Rattle.gateway_state.specs.Places as GatewayStatePlaces
use Rattle.gateway_state.specs.Formed as GatewayStateFormed
use Rattle.gateway_state.specs.Outcomes as Outcomes
use Rattle.gateway_slots.specs.Calls as GatewaySlotsCalls
use Rattle.gateway_rules.specs.Home as Home
use Rattle.gateway_rules.specs.Number as Number
use Rattle.gateway_rules.specs.Ruling as Ruling
use Rattle.gateway_rules.specs.Seconds as GatewayRulesSeconds
use Rattle.gateway_rules.specs.Carried as Carried
use Rattle.gateway_rules.specs.Calls as GatewayRulesCalls
use Rattle.listing_lines.specs.Lines as ListingLinesLines
use Rattle.listing_lines.specs.Listing as Listing
use Rattle.model.specs.Theorem as Theorem
use Rattle.recording_lines.specs.Lines as RecordingLinesLines
use Rattle.recording_gather.specs.Gathering as Gathering
use Rattle.recording_bad_line.specs.BadLine as BadLine
use Rattle.recording_replies.specs.Replies as Replies
use Rattle.recording_message.specs.Message as Message
use Rattle.recording_trace.specs.Trace as Trace
use Rattle.recording_trace.specs.Steps as Steps
use Rattle.recording_call.specs.Told as Told
use Rattle.recording_player.specs.Player as Player
use Rattle.recording_player.specs.Sheet as Sheet

unfoldable pub opened : ℕ
unfolding Checks.check Checks.if_ok Lists.first Lists.every Lists.distinct Lists.join Buffer.over Checksum.ones_add Checksum.ones_sum Checksum.checksum_of Checksum.sealed Classes.net_width Classes.host_span Classes.good_net Classes.on_net Rows.flat Rows.rows_of Text.text Text.digit Text.digits Text.decimal Text.dotted Text.line Numbers.when_number Numbers.is_digit Numbers.digits_of Numbers.leads_with_zero Numbers.decimal_of Numbers.dotted_from Numbers.dotted_of Hex.hex_digit Hex.hex_text Hex.nibble Hex.is_hex Hex.hex_octets TextValuesPlaces.index_of TextValuesPlaces.starts_with Storing.zeros Storing.padded Record.under Record.with_numbers Record.with_timers Record.with_reach Record.idle Record.left_idle Record.waiting Record.initialised Record.heard_from Record.shifted Record.enter_up Record.leave_up Record.polled Record.one_more Record.aged Rules.in_sequence Rules.commanded Rules.indicates Rules.noted Rules.too_quick Rules.recounted Rules.period1_of Rules.period2_of Rules.unacceptable Rules.mode_of Rules.offer_of Rules.ones_of Rules.goes_up Rules.goes_down Rules.judged NeighbourWellformedFormed.all_zero NeighbourWellformedFormed.idle_formed NeighbourWellformedFormed.timers_below NeighbourWellformedFormed.timers_run NeighbourWellformedFormed.t2_formed NeighbourWellformedFormed.register_formed NeighbourWellformedFormed.agreed NeighbourWellformedFormed.intervals_formed NeighbourWellformedFormed.cause_formed NeighbourWellformedFormed.counts_formed NeighbourWellformedFormed.well_formed NeighbourSecondsSeconds.seconds_sum NeighbourSecondsSeconds.seconds_formed NeighbourSecondsSeconds.are_none NeighbourSecondsSeconds.clock_full NeighbourSecondsSeconds.counted Slots.free_slot Slots.slot_at Slots.with_slot Slots.addresses Slots.clash Slots.slot_of Slots.lowest_free GatewayStatePlaces.row_counts GatewayStatePlaces.part_at GatewayStatePlaces.with_part GatewayStatePlaces.read_rows GatewayStatePlaces.write_rows GatewayStateFormed.good_settings GatewayStateFormed.good_peer GatewayStateFormed.rows_formed GatewayStateFormed.free_formed GatewayStateFormed.used_formed GatewayStateFormed.slot_formed GatewayStateFormed.state_formed Outcomes.refused_of Outcomes.silent_of GatewaySlotsCalls.free_slots GatewaySlotsCalls.empty_state GatewaySlotsCalls.zero_state GatewaySlotsCalls.fresh_answer GatewaySlotsCalls.fresh_of GatewaySlotsCalls.add_answer GatewaySlotsCalls.add_of GatewaySlotsCalls.remove_answer GatewaySlotsCalls.remove_of Home.home_row Home.own_first Home.good_home Number.sequence_fits Number.spacing_fits Number.brings_rows Number.body_number Number.message_number Number.error_head Number.error_to Number.refuse_to Number.named_reply Ruling.leaving Ruling.stepped Ruling.refuses Ruling.taken_step Ruling.change_by Ruling.carried_out Ruling.receive_ruling GatewayRulesSeconds.has_time GatewayRulesSeconds.second_more GatewayRulesSeconds.booked Carried.first_octets Carried.second_octets Carried.reply_octets Carried.table_after Carried.count_after Carried.slot_after Carried.outcome_after Carried.buffer_after GatewayRulesCalls.lent_checks GatewayRulesCalls.event_checks GatewayRulesCalls.message_checks GatewayRulesCalls.no_head GatewayRulesCalls.update_room GatewayRulesCalls.event_ruling GatewayRulesCalls.message_ruling GatewayRulesCalls.event_outcome GatewayRulesCalls.event_table GatewayRulesCalls.event_buffer GatewayRulesCalls.message_outcome GatewayRulesCalls.message_table GatewayRulesCalls.message_buffer ListingLinesLines.state_word ListingLinesLines.mode_word ListingLinesLines.distance_in ListingLinesLines.side_word ListingLinesLines.seconds_lines ListingLinesLines.head_lines ListingLinesLines.row_lines ListingLinesLines.row_text ListingLinesLines.entry_text ListingLinesLines.listing_text Listing.entry_of Listing.entries_from Listing.entries Listing.marked_row Listing.listable Listing.listing_checks Listing.listing_outcome Listing.listing_buffer Theorem.outcome_of Theorem.table_left Theorem.buffer_left Theorem.seen_of RecordingLinesLines.behind RecordingLinesLines.own_as_of RecordingLinesLines.own_of RecordingLinesLines.capability_of RecordingLinesLines.net_of RecordingLinesLines.quiet_of RecordingLinesLines.alone RecordingLinesLines.slashed RecordingLinesLines.add_event RecordingLinesLines.tick_event RecordingLinesLines.rx_event RecordingLinesLines.event_of Gathering.longer Gathering.gathered Gathering.line_after Gathering.line_held BadLine.bad_text BadLine.one_more Replies.tx_text Message.key_size Message.fields Message.address_field Message.kind_word Message.meaning_word Message.head_numbers Message.interval_fields Message.error_fields Message.own_fields Message.body_fields Message.side_field Message.row_fields Message.rows_fields Message.reading_text Message.message_text Trace.deed_word Trace.slot_for Trace.told_slot Trace.slot_word Trace.record_numbers Trace.front_text Trace.record_text Trace.received_text Trace.sent_text Trace.messages_text Trace.slots_text Trace.trace_text Trace.is_tick Trace.is_unchanged Trace.is_quiet_tick Trace.is_passed_over Steps.happened_in Told.lent Told.addressed_to Told.intrinsic_deed Told.deed_of Told.message_in Told.tell_text Told.passed_after Told.happened_by Told.call_text Told.on Player.next_line Player.holding Player.breaking Player.due Player.settled Player.having Player.passing Player.telling_of Player.silent_step Player.with_used Player.line_fits Player.formed_check Player.report_check Player.given Player.reported Player.bad_step Player.broken_step Player.with_as Player.with_own Player.with_capability Player.with_net Player.setting_step Player.fresh_step Player.net_step Player.quiet_line_step Player.head_step Player.is_setting Player.call_step Player.only_step Player.event_step Player.event_checked Player.line_step Player.line_checked Player.tick_step Player.ended_line Player.free_step Player.turn_checked Player.turn_step Player.close_step Player.listed_in Player.finish_step Sheet.summary Sheet.start_state Sheet.settings_with Sheet.playing Sheet.player_at Sheet.tracing Sheet.player_set Sheet.quiet_after Sheet.player_unformed Sheet.player_late Sheet.through_turns Sheet.on_turn
opened = 0
