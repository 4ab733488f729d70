-- from specs/Sheet.antt CheckSheet
-- Made by ./unfoldings from the line above: all definitions that it rests on. To unfold `opened` is to unfold them all.
use Prim.Native.Nat.{ℕ}
use Rattle.checks.specs.Checks as Checks
use Rattle.checks.specs.Lists as Lists
use Rattle.octets.specs.Buffer as Buffer
use Rattle.octets_checksum.specs.Checksum as Checksum
use Rattle.nets.specs.Classes as Classes
use Rattle.nets.specs.Rows as Rows
use Rattle.text.specs.Text as Text
use Rattle.message.specs.Kinds as MessageKinds
use Rattle.message_reading.specs.Reading as MessageReadingReading
use Rattle.message_writing.specs.Writing as MessageWritingWriting
use Rattle.update_walk.specs.Body as Body
use Rattle.update_rows.specs.Storing as Storing
use Rattle.update_writing.specs.Blocks as Blocks
use Rattle.update_writing.specs.Writable as Writable
use Rattle.codec_writing.specs.Octets as Octets
use Rattle.codec_writing.specs.Room as Room
use Rattle.codec.specs.Writing as CodecWriting
use Rattle.codec.specs.Reading as CodecReading
use Rattle.neighbour.specs.Record as Record
use Rattle.neighbour.specs.Rules as Rules
use Rattle.neighbour_wellformed.specs.Formed as NeighbourWellformedFormed
use Rattle.neighbour_seconds.specs.Seconds as NeighbourSecondsSeconds
use Rattle.neighbour_machine.specs.Table as Table
use Rattle.neighbour_machine.specs.Tick as Tick
use Rattle.neighbour_machine.specs.Step as Step
use Rattle.gateway_state.specs.Slots as Slots
use Rattle.gateway_state.specs.Places as Places
use Rattle.gateway_state.specs.Formed as GatewayStateFormed
use Rattle.gateway_state.specs.Outcomes as Outcomes
use Rattle.gateway_slots.specs.Calls as GatewaySlotsCalls
use Rattle.gateway_rules.specs.Home as Home
use Rattle.gateway_rules.specs.Number as Number
use Rattle.gateway_rules.specs.Ruling as Ruling
use Rattle.gateway_rules.specs.Seconds as GatewayRulesSeconds
use Rattle.gateway_rules.specs.Carried as Carried
use Rattle.gateway_rules.specs.Calls as GatewayRulesCalls
use Rattle.listing_lines.specs.Lines as Lines
use Rattle.listing_lines.specs.Listing as Listing
use Rattle.gateway_check_sheet.specs.Given as Given
use Rattle.gateway_check_sheet.specs.Line as Line
use Rattle.gateway_check_sheet.specs.Numbers as Numbers
use Rattle.gateway_check_sheet.specs.Orders as Orders
use Rattle.gateway_check_sheet.specs.Replies as Replies
use Rattle.gateway_check_sheet.specs.Formed as GatewayCheckSheetFormed
use Rattle.gateway_check_sheet.specs.Homes as Homes
use Rattle.gateway_check_sheet.specs.Settings as Settings
use Rattle.gateway_check_sheet.specs.Kinds as GatewayCheckSheetKinds
use Rattle.gateway_check_sheet.specs.Sequences as Sequences
use Rattle.gateway_check_sheet.specs.Bodies as Bodies
use Rattle.gateway_check_sheet.specs.Writings as Writings
use Rattle.gateway_check_sheet.specs.Listings as Listings
use Rattle.gateway_check_sheet.specs.Effects as Effects
use Rattle.gateway_check_sheet.specs.Indications as Indications
use Rattle.gateway_check_sheet.specs.Spacings as Spacings
use Rattle.gateway_check_sheet.specs.Strays as Strays
use Rattle.gateway_check_sheet.specs.Seconds as GatewayCheckSheetSeconds

unfoldable pub opened : ℕ
unfolding Checks.check Checks.if_ok Lists.first Lists.every Lists.distinct Lists.join Buffer.over Checksum.ones_add Checksum.ones_sum Checksum.checksum_of Checksum.sealed Classes.net_width Classes.host_span Classes.good_net Classes.on_net Rows.flat Rows.rows_of Text.text Text.digit Text.digits Text.decimal Text.dotted Text.line MessageKinds.kind_at MessageKinds.plain_status MessageKinds.refusal_status MessageKinds.marked_status MessageReadingReading.header_of MessageReadingReading.is_known MessageReadingReading.status_fits MessageReadingReading.length_fits MessageReadingReading.meaning_of MessageReadingReading.decode_as MessageReadingReading.decode_of MessageWritingWriting.head_of Body.extended Body.many Body.left_justified Body.row_of_width Body.net_row Body.group_at Body.host_width Body.gateway_of Body.block_at Body.sides_at Body.groups_hold Body.blocks_hold Body.sides_hold Body.read_as Body.both_sides Body.nothing_left Body.body_of Body.further Body.net_at Body.walked_blocks Body.read_within Body.update_of Body.update_number Body.rows_read Storing.zeros Storing.padded Blocks.side_rows Blocks.joined Blocks.runs Blocks.each Blocks.address_octets Blocks.net_octets Blocks.host_octets Blocks.nets_octets Blocks.group_octets Blocks.groups_octets Blocks.block_octets Blocks.side_octets Blocks.blocks_written Blocks.internal_blocks Blocks.external_blocks Writable.writable_row Writable.ordered Writable.writable_rows Writable.writable_numbers Octets.plain_octets Octets.message_octets Room.rows_fit CodecWriting.rows_allowed CodecWriting.writable CodecWriting.write_of CodecWriting.write_answer CodecWriting.write_length CodecReading.refusal CodecReading.rowless CodecReading.update_reading CodecReading.meaning_reading CodecReading.meaning_read CodecReading.reading_after CodecReading.read_of Record.under Record.with_numbers Record.with_timers Record.with_reach Record.idle Record.left_idle Record.waiting Record.initialised Record.heard_from Record.shifted Record.enter_up Record.leave_up Record.polled Record.one_more Record.aged Rules.in_sequence Rules.commanded Rules.indicates Rules.noted Rules.too_quick Rules.recounted Rules.period1_of Rules.period2_of Rules.unacceptable Rules.mode_of Rules.offer_of Rules.ones_of Rules.goes_up Rules.goes_down Rules.judged NeighbourWellformedFormed.all_zero NeighbourWellformedFormed.idle_formed NeighbourWellformedFormed.timers_below NeighbourWellformedFormed.timers_run NeighbourWellformedFormed.t2_formed NeighbourWellformedFormed.register_formed NeighbourWellformedFormed.agreed NeighbourWellformedFormed.intervals_formed NeighbourWellformedFormed.cause_formed NeighbourWellformedFormed.counts_formed NeighbourWellformedFormed.well_formed NeighbourSecondsSeconds.seconds_sum NeighbourSecondsSeconds.seconds_formed NeighbourSecondsSeconds.are_none NeighbourSecondsSeconds.clock_full NeighbourSecondsSeconds.counted Table.followed Table.unanswered Table.answers Table.says Table.hello_if Table.does_a Table.does_b Table.ceases Table.repeats_cease Table.acquires Table.stray Table.on_request Table.settles Table.on_confirm Table.on_refuse Table.on_cease Table.on_cease_ack Table.on_hello Table.on_i_heard_you Table.answers_poll Table.on_poll Table.on_update Table.on_start Table.on_stop Tick.expired Tick.repeats Tick.listens Tick.polls Tick.polls_on_entry Tick.takes_t2 Tick.polls_in_up Tick.tick_on Tick.tick_outside Tick.on_tick Step.on_message Step.step_of Slots.free_slot Slots.slot_at Slots.with_slot Slots.addresses Slots.clash Slots.slot_of Slots.lowest_free Places.row_counts Places.part_at Places.with_part Places.read_rows Places.write_rows GatewayStateFormed.good_settings GatewayStateFormed.good_peer GatewayStateFormed.rows_formed GatewayStateFormed.free_formed GatewayStateFormed.used_formed GatewayStateFormed.slot_formed GatewayStateFormed.state_formed Outcomes.refused_of Outcomes.silent_of GatewaySlotsCalls.free_slots GatewaySlotsCalls.empty_state GatewaySlotsCalls.zero_state GatewaySlotsCalls.fresh_answer GatewaySlotsCalls.fresh_of GatewaySlotsCalls.add_answer GatewaySlotsCalls.add_of GatewaySlotsCalls.remove_answer GatewaySlotsCalls.remove_of Home.home_row Home.own_first Home.good_home Number.sequence_fits Number.spacing_fits Number.brings_rows Number.body_number Number.message_number Number.error_head Number.error_to Number.refuse_to Number.named_reply Ruling.leaving Ruling.stepped Ruling.refuses Ruling.taken_step Ruling.change_by Ruling.carried_out Ruling.receive_ruling GatewayRulesSeconds.has_time GatewayRulesSeconds.second_more GatewayRulesSeconds.booked Carried.first_octets Carried.second_octets Carried.reply_octets Carried.table_after Carried.count_after Carried.slot_after Carried.outcome_after Carried.buffer_after GatewayRulesCalls.lent_checks GatewayRulesCalls.event_checks GatewayRulesCalls.message_checks GatewayRulesCalls.no_head GatewayRulesCalls.update_room GatewayRulesCalls.event_ruling GatewayRulesCalls.message_ruling GatewayRulesCalls.event_outcome GatewayRulesCalls.event_table GatewayRulesCalls.event_buffer GatewayRulesCalls.message_outcome GatewayRulesCalls.message_table GatewayRulesCalls.message_buffer Lines.state_word Lines.mode_word Lines.distance_in Lines.side_word Lines.seconds_lines Lines.head_lines Lines.row_lines Lines.row_text Lines.entry_text Lines.listing_text Listing.entry_of Listing.entries_from Listing.entries Listing.marked_row Listing.listable Listing.listing_checks Listing.listing_outcome Listing.listing_buffer Given.hex_value Given.hex Given.repeated Given.ip Given.common Given.ours Given.theirs Given.others Given.nobody Given.set Given.nine_with Given.nine Given.settled Given.made Given.since Given.resting Given.asking Given.falling Given.reporting Given.ceasing Given.timed Given.slot Given.vacant Given.state Given.without_neighbours Given.nothing Given.clocked Given.in_slot_two Given.in_idle Given.in_acquisition Given.in_down Given.in_up Given.in_cease Given.unsound Given.full Line.heard Line.after_refusal Line.refused_state Line.front Line.rows_of_two Line.seen Line.computed Line.written Numbers.numbers Orders.orders Replies.replies GatewayCheckSheetFormed.formed GatewayCheckSheetFormed.unformed GatewayCheckSheetFormed.known GatewayCheckSheetFormed.beside GatewayCheckSheetFormed.forms Homes.good Homes.bad Homes.on_a Homes.on_c Homes.homes Settings.setting_lines GatewayCheckSheetKinds.kinds Sequences.sequences Bodies.bodies Writings.wrote Writings.unwritten Writings.news Writings.writings Listings.listed_state Listings.table Listings.listings Effects.eights Effects.sevens Effects.computed Effects.carried Effects.written Effects.kept Effects.zeroed Effects.heard_alone Effects.at_active Effects.effects Effects.read_on_c Effects.written_on_c Indications.computed Indications.written Indications.hears_update Indications.passive_down Indications.passive_up Indications.active_down Indications.active_up Indications.indication_lines Spacings.hears Spacings.spacings Strays.quietly Strays.quiet_idle Strays.idle_at258 Strays.answered Strays.ignored Strays.strays Strays.refused_strays GatewayCheckSheetSeconds.first GatewayCheckSheetSeconds.counting GatewayCheckSheetSeconds.spread GatewayCheckSheetSeconds.ticks GatewayCheckSheetSeconds.untimed GatewayCheckSheetSeconds.computed GatewayCheckSheetSeconds.written GatewayCheckSheetSeconds.full GatewayCheckSheetSeconds.refused_ticks GatewayCheckSheetSeconds.free_for GatewayCheckSheetSeconds.third GatewayCheckSheetSeconds.timed_forms GatewayCheckSheetSeconds.listed_rows GatewayCheckSheetSeconds.listed_computed GatewayCheckSheetSeconds.listed_written
opened = 0
