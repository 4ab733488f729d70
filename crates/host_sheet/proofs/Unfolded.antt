-- from specs/Sheet.antt HostSheet
-- Made by ./unfoldings from the line above: all definitions that it rests on. To unfold `opened` is to unfold them all.
use Prim.Native.Nat.{ℕ}
use Rattle.checks.specs.Checks as Checks
use Rattle.checks.specs.Lists as Lists
use Rattle.octets.specs.Buffer as Buffer
use Rattle.octets_checksum.specs.Checksum as Checksum
use Rattle.octets_words.specs.Words as Words
use Rattle.nets.specs.Classes as Classes
use Rattle.nets.specs.Rows as Rows
use Rattle.text.specs.Text as Text
use Rattle.message.specs.Kinds as Kinds
use Rattle.message_reading.specs.Reading as MessageReadingReading
use Rattle.message_writing.specs.Writing as MessageWritingWriting
use Rattle.update_walk.specs.Body as Body
use Rattle.update_rows.specs.Storing as Storing
use Rattle.update_writing.specs.Blocks as Blocks
use Rattle.update_writing.specs.Writable as Writable
use Rattle.codec_writing.specs.Octets as Octets
use Rattle.codec_writing.specs.Room as Room
use Rattle.codec.specs.Writing as CodecWriting
use Rattle.codec.specs.Reading as CodecReading
use Rattle.neighbour.specs.Record as Record
use Rattle.neighbour.specs.Rules as Rules
use Rattle.neighbour_wellformed.specs.Formed as NeighbourWellformedFormed
use Rattle.neighbour_seconds.specs.Seconds as NeighbourSecondsSeconds
use Rattle.neighbour_machine.specs.Table as Table
use Rattle.neighbour_machine.specs.Tick as Tick
use Rattle.neighbour_machine.specs.Step as Step
use Rattle.gateway_state.specs.Slots as Slots
use Rattle.gateway_state.specs.Places as Places
use Rattle.gateway_state.specs.Formed as GatewayStateFormed
use Rattle.gateway_state.specs.Outcomes as Outcomes
use Rattle.gateway_slots.specs.Calls as GatewaySlotsCalls
use Rattle.gateway_rules.specs.Home as Home
use Rattle.gateway_rules.specs.Number as Number
use Rattle.gateway_rules.specs.Ruling as Ruling
use Rattle.gateway_rules.specs.Seconds as GatewayRulesSeconds
use Rattle.gateway_rules.specs.Carried as Carried
use Rattle.gateway_rules.specs.Calls as GatewayRulesCalls
use Rattle.listing_lines.specs.Lines as Lines
use Rattle.listing_lines.specs.Listing as Listing
use Rattle.gateway_check_sheet.specs.Given as GatewayCheckSheetGiven
use Rattle.model.specs.Theorem as Theorem
use Rattle.host_result.specs.Packed as Packed
use Rattle.host_meaning.specs.Meaning as Meaning
use Rattle.host_codec.specs.Codec as Codec
use Rattle.host_state_block.specs.Layout as HostStateBlockLayout
use Rattle.host_state_block.specs.Block as Block
use Rattle.host_state_block.specs.Formed as HostStateBlockFormed
use Rattle.host_rules.specs.Held as Held
use Rattle.host_rules.specs.Calls as HostRulesCalls
use Rattle.host_sheet.specs.Given as HostSheetGiven
use Rattle.host_sheet.specs.Layout as HostSheetLayout
use Rattle.host_sheet.specs.Ranges as Ranges
use Rattle.host_sheet.specs.Line as Line
use Rattle.host_sheet.specs.Numbers as Numbers
use Rattle.host_sheet.specs.Results as Results
use Rattle.host_sheet.specs.Effects as Effects
use Rattle.host_sheet.specs.Seconds as HostSheetSeconds
use Rattle.host_sheet.specs.Readings as Readings
use Rattle.host_sheet.specs.Writings as Writings

unfoldable pub opened : ℕ
unfolding Checks.check Checks.if_ok Lists.first Lists.every Lists.distinct Lists.join Buffer.over Checksum.ones_add Checksum.ones_sum Checksum.checksum_of Checksum.sealed Words.words_of Words.word_octets Words.row_numbers Classes.net_width Classes.host_span Classes.good_net Classes.on_net Rows.flat Rows.rows_of Text.text Text.digit Text.digits Text.decimal Text.dotted Text.line Kinds.kind_at Kinds.plain_status Kinds.refusal_status Kinds.marked_status MessageReadingReading.header_of MessageReadingReading.is_known MessageReadingReading.status_fits MessageReadingReading.length_fits MessageReadingReading.meaning_of MessageReadingReading.decode_as MessageReadingReading.decode_of MessageWritingWriting.head_of Body.extended Body.many Body.left_justified Body.row_of_width Body.net_row Body.group_at Body.host_width Body.gateway_of Body.block_at Body.sides_at Body.groups_hold Body.blocks_hold Body.sides_hold Body.read_as Body.both_sides Body.nothing_left Body.body_of Body.further Body.net_at Body.walked_blocks Body.read_within Body.update_of Body.update_number Body.rows_read Storing.zeros Storing.padded Blocks.side_rows Blocks.joined Blocks.runs Blocks.each Blocks.address_octets Blocks.net_octets Blocks.host_octets Blocks.nets_octets Blocks.group_octets Blocks.groups_octets Blocks.block_octets Blocks.side_octets Blocks.blocks_written Blocks.internal_blocks Blocks.external_blocks Writable.writable_row Writable.ordered Writable.writable_rows Writable.writable_numbers Octets.plain_octets Octets.message_octets Room.rows_fit CodecWriting.rows_allowed CodecWriting.writable CodecReading.refusal CodecReading.rowless CodecReading.update_reading CodecReading.meaning_reading CodecReading.meaning_read CodecReading.reading_after CodecReading.read_of Record.under Record.with_numbers Record.with_timers Record.with_reach Record.idle Record.left_idle Record.waiting Record.initialised Record.heard_from Record.shifted Record.enter_up Record.leave_up Record.polled Record.one_more Record.aged Rules.in_sequence Rules.commanded Rules.indicates Rules.noted Rules.too_quick Rules.recounted Rules.period1_of Rules.period2_of Rules.unacceptable Rules.mode_of Rules.offer_of Rules.ones_of Rules.goes_up Rules.goes_down Rules.judged NeighbourWellformedFormed.all_zero NeighbourWellformedFormed.idle_formed NeighbourWellformedFormed.timers_below NeighbourWellformedFormed.timers_run NeighbourWellformedFormed.t2_formed NeighbourWellformedFormed.register_formed NeighbourWellformedFormed.agreed NeighbourWellformedFormed.intervals_formed NeighbourWellformedFormed.cause_formed NeighbourWellformedFormed.counts_formed NeighbourWellformedFormed.well_formed NeighbourSecondsSeconds.seconds_sum NeighbourSecondsSeconds.seconds_formed NeighbourSecondsSeconds.are_none NeighbourSecondsSeconds.clock_full NeighbourSecondsSeconds.counted Table.followed Table.unanswered Table.answers Table.says Table.hello_if Table.does_a Table.does_b Table.ceases Table.repeats_cease Table.acquires Table.stray Table.on_request Table.settles Table.on_confirm Table.on_refuse Table.on_cease Table.on_cease_ack Table.on_hello Table.on_i_heard_you Table.answers_poll Table.on_poll Table.on_update Table.on_start Table.on_stop Tick.expired Tick.repeats Tick.listens Tick.polls Tick.polls_on_entry Tick.takes_t2 Tick.polls_in_up Tick.tick_on Tick.tick_outside Tick.on_tick Step.on_message Step.step_of Slots.free_slot Slots.slot_at Slots.with_slot Slots.addresses Slots.clash Slots.slot_of Slots.lowest_free Places.row_counts Places.part_at Places.with_part Places.read_rows Places.write_rows GatewayStateFormed.good_settings GatewayStateFormed.good_peer GatewayStateFormed.rows_formed GatewayStateFormed.free_formed GatewayStateFormed.used_formed GatewayStateFormed.slot_formed GatewayStateFormed.state_formed Outcomes.refused_of Outcomes.silent_of GatewaySlotsCalls.free_slots GatewaySlotsCalls.empty_state GatewaySlotsCalls.zero_state GatewaySlotsCalls.fresh_answer GatewaySlotsCalls.fresh_of GatewaySlotsCalls.add_answer GatewaySlotsCalls.add_of GatewaySlotsCalls.remove_answer GatewaySlotsCalls.remove_of Home.home_row Home.own_first Home.good_home Number.sequence_fits Number.spacing_fits Number.brings_rows Number.body_number Number.message_number Number.error_head Number.error_to Number.refuse_to Number.named_reply Ruling.leaving Ruling.stepped Ruling.refuses Ruling.taken_step Ruling.change_by Ruling.carried_out Ruling.receive_ruling GatewayRulesSeconds.has_time GatewayRulesSeconds.second_more GatewayRulesSeconds.booked Carried.first_octets Carried.second_octets Carried.reply_octets Carried.table_after Carried.count_after Carried.slot_after Carried.outcome_after Carried.buffer_after GatewayRulesCalls.lent_checks GatewayRulesCalls.event_checks GatewayRulesCalls.message_checks GatewayRulesCalls.no_head GatewayRulesCalls.update_room GatewayRulesCalls.event_ruling GatewayRulesCalls.message_ruling GatewayRulesCalls.event_outcome GatewayRulesCalls.event_table GatewayRulesCalls.event_buffer GatewayRulesCalls.message_outcome GatewayRulesCalls.message_table GatewayRulesCalls.message_buffer Lines.state_word Lines.mode_word Lines.distance_in Lines.side_word Lines.seconds_lines Lines.head_lines Lines.row_lines Lines.row_text Lines.entry_text Lines.listing_text Listing.entry_of Listing.entries_from Listing.entries Listing.marked_row Listing.listable Listing.listing_checks Listing.listing_outcome Listing.listing_buffer GatewayCheckSheetGiven.hex_value GatewayCheckSheetGiven.hex GatewayCheckSheetGiven.repeated GatewayCheckSheetGiven.ip GatewayCheckSheetGiven.common GatewayCheckSheetGiven.ours GatewayCheckSheetGiven.set GatewayCheckSheetGiven.nine_with GatewayCheckSheetGiven.settled GatewayCheckSheetGiven.made GatewayCheckSheetGiven.since GatewayCheckSheetGiven.resting GatewayCheckSheetGiven.timed GatewayCheckSheetGiven.slot GatewayCheckSheetGiven.vacant GatewayCheckSheetGiven.state GatewayCheckSheetGiven.without_neighbours Theorem.outcome_of Theorem.table_left Theorem.buffer_of Theorem.buffer_left Packed.packed Meaning.intervals_at Meaning.plain_at Meaning.net_message_at Meaning.error_at Meaning.meaning_at Meaning.field_octets Meaning.meaning_octets Codec.reading_number Codec.found_octets Codec.reading_octets Codec.reading_buffer Codec.reading_result Codec.same_octets Codec.is_meaning Codec.writing_number Codec.writing_octets Codec.writing_buffer Codec.writing_result HostStateBlockLayout.numbers_at HostStateBlockLayout.octets_for Block.own_numbers Block.settings_of Block.slot_numbers Block.record_of Block.seconds_of Block.slot_of Block.own_octets Block.slot_octets Block.slots_octets Block.block_of Block.settings_in Block.slot_in Block.slots_in Block.state_in HostStateBlockFormed.in_range HostStateBlockFormed.all_in_range HostStateBlockFormed.block_in_range HostStateBlockFormed.block_formed Held.table_in Held.held Held.holds_state Held.as_gateway HostRulesCalls.held_outcome HostRulesCalls.number_of HostRulesCalls.result_of HostRulesCalls.block_after HostRulesCalls.table_after HostRulesCalls.buffer_after HostRulesCalls.fresh_number HostRulesCalls.fresh_block HostRulesCalls.fresh_result HostSheetGiven.block HostSheetGiven.own HostSheetGiven.own_quiet HostSheetGiven.free HostSheetGiven.tenth HostSheetGiven.fifth HostSheetGiven.sound HostSheetGiven.exchanged HostSheetGiven.slot0 HostSheetGiven.slot1 HostSheetGiven.slot2 HostSheetGiven.slot4 HostSheetGiven.slot5 HostSheetGiven.slot6 HostSheetGiven.slot7 HostSheetGiven.changed HostSheetGiven.quiet_sound HostSheetGiven.full HostSheetGiven.shorter HostSheetGiven.longer HostSheetGiven.without_seconds HostSheetGiven.without_quiet HostSheetGiven.without_counts HostSheetGiven.eights HostSheetGiven.sevens HostSheetGiven.table HostSheetGiven.room HostSheetGiven.page HostSheetGiven.block_of_u HostSheetGiven.table_of_u HostSheetGiven.in_slot0 HostSheetGiven.in_slot1 HostSheetGiven.in_slot2 HostSheetGiven.in_slot3 HostSheetGiven.in_slot4 HostSheetGiven.in_slot6 HostSheetGiven.in_slot7 HostSheetGiven.nobody HostSheetGiven.row HostSheetGiven.rows HostSheetLayout.every_field HostSheetLayout.every_octet HostSheetLayout.both_kinds HostSheetLayout.both_blocks HostSheetLayout.places_computed HostSheetLayout.places_written Ranges.computed Ranges.written Ranges.ranges Line.keeps Line.two_rows Line.front Line.computed Line.replied Line.written Numbers.hello Numbers.hello_cut Numbers.good_calls Numbers.bad_calls Numbers.of_length Numbers.before_others Numbers.lengths Numbers.of_form Numbers.before_table Numbers.forms Numbers.of_table Numbers.before_buffer Numbers.tables Numbers.others Results.packed_computed Results.packed_written Results.listing_of_u Results.results Effects.effects HostSheetSeconds.last_second HostSheetSeconds.timed_u HostSheetSeconds.seconds Readings.filled Readings.computed Readings.written Readings.common Readings.case_h Readings.case_q Readings.case_u Readings.case_v Readings.error Readings.nine Readings.readings Writings.computed Writings.written Writings.meaning_of_h Writings.meaning_of_u Writings.rows_of_u Writings.first_of_u Writings.writings
opened = 0
