-- from specs/Sheet.antt BenchSheet
-- Made by ./unfoldings from the line above: all definitions that it rests on. To unfold `opened` is to unfold them all.
use Prim.Native.Nat.{ℕ}
use Rattle.checks.specs.Checks as Checks
use Rattle.checks.specs.Lists as Lists
use Rattle.octets.specs.Buffer as Buffer
use Rattle.octets_checksum.specs.Checksum as Checksum
use Rattle.nets.specs.Classes as Classes
use Rattle.nets.specs.Rows as Rows
use Rattle.message.specs.Kinds as Kinds
use Rattle.message_reading.specs.Reading as MessageReadingReading
use Rattle.message_writing.specs.Writing as MessageWritingWriting
use Rattle.update_walk.specs.Body as Body
use Rattle.update_rows.specs.Storing as Storing
use Rattle.update_writing.specs.Blocks as Blocks
use Rattle.update_writing.specs.Writable as Writable
use Rattle.codec_writing.specs.Octets as Octets
use Rattle.codec_writing.specs.Room as Room
use Rattle.codec.specs.Writing as CodecWriting
use Rattle.codec.specs.Reading as CodecReading
use Rattle.neighbour.specs.Record as Record
use Rattle.neighbour.specs.Rules as Rules
use Rattle.neighbour_wellformed.specs.Formed as NeighbourWellformedFormed
use Rattle.neighbour_seconds.specs.Seconds as Seconds
use Rattle.neighbour_machine.specs.Table as Table
use Rattle.neighbour_machine.specs.Tick as Tick
use Rattle.neighbour_machine.specs.Step as Step
use Rattle.gateway_state.specs.Slots as Slots
use Rattle.gateway_state.specs.Places as Places
use Rattle.gateway_state.specs.Formed as GatewayStateFormed
use Rattle.gateway_state.specs.Outcomes as Outcomes
use Rattle.gateway_rules.specs.Home as Home
use Rattle.gateway_rules.specs.Number as Number
use Rattle.gateway_rules.specs.Ruling as Ruling
use Rattle.gateway_rules.specs.Carried as Carried
use Rattle.gateway_rules.specs.Calls as Calls
use Rattle.gateway_bench_sheet.specs.Same as Same
use Rattle.gateway_bench_sheet.specs.Cases as Cases
use Rattle.gateway_bench_sheet.specs.Sheet as Sheet

unfoldable pub opened : ℕ
unfolding Checks.check Checks.if_ok Lists.first Lists.every Lists.distinct Lists.join Buffer.over Checksum.ones_add Checksum.ones_sum Checksum.checksum_of Checksum.sealed Classes.net_width Classes.host_span Classes.good_net Classes.on_net Rows.flat Rows.rows_of Kinds.kind_at Kinds.plain_status Kinds.refusal_status Kinds.marked_status MessageReadingReading.header_of MessageReadingReading.is_known MessageReadingReading.status_fits MessageReadingReading.length_fits MessageReadingReading.meaning_of MessageReadingReading.decode_as MessageReadingReading.decode_of MessageWritingWriting.head_of Body.extended Body.many Body.left_justified Body.row_of_width Body.net_row Body.group_at Body.host_width Body.gateway_of Body.block_at Body.sides_at Body.groups_hold Body.blocks_hold Body.sides_hold Body.read_as Body.both_sides Body.nothing_left Body.body_of Body.further Body.net_at Body.walked_blocks Body.read_within Body.update_of Body.update_number Body.rows_read Storing.zeros Storing.padded Blocks.side_rows Blocks.joined Blocks.runs Blocks.each Blocks.address_octets Blocks.net_octets Blocks.host_octets Blocks.nets_octets Blocks.group_octets Blocks.groups_octets Blocks.block_octets Blocks.side_octets Blocks.blocks_written Blocks.internal_blocks Blocks.external_blocks Writable.writable_row Writable.ordered Writable.writable_rows Writable.writable_numbers Octets.plain_octets Octets.message_octets Room.rows_fit CodecWriting.rows_allowed CodecWriting.writable CodecReading.refusal CodecReading.rowless CodecReading.update_reading CodecReading.meaning_reading CodecReading.meaning_read CodecReading.reading_after CodecReading.read_of Record.under Record.with_numbers Record.with_timers Record.with_reach Record.idle Record.left_idle Record.waiting Record.initialised Record.heard_from Record.shifted Record.enter_up Record.leave_up Record.polled Record.one_more Record.aged Rules.in_sequence Rules.commanded Rules.indicates Rules.noted Rules.too_quick Rules.recounted Rules.period1_of Rules.period2_of Rules.unacceptable Rules.mode_of Rules.offer_of Rules.ones_of Rules.goes_up Rules.goes_down Rules.judged NeighbourWellformedFormed.all_zero NeighbourWellformedFormed.idle_formed NeighbourWellformedFormed.timers_below NeighbourWellformedFormed.timers_run NeighbourWellformedFormed.t2_formed NeighbourWellformedFormed.register_formed NeighbourWellformedFormed.agreed NeighbourWellformedFormed.intervals_formed NeighbourWellformedFormed.cause_formed NeighbourWellformedFormed.counts_formed NeighbourWellformedFormed.well_formed Seconds.seconds_sum Seconds.seconds_formed Seconds.are_none Table.followed Table.unanswered Table.answers Table.says Table.hello_if Table.does_a Table.does_b Table.ceases Table.repeats_cease Table.acquires Table.stray Table.on_request Table.settles Table.on_confirm Table.on_refuse Table.on_cease Table.on_cease_ack Table.on_hello Table.on_i_heard_you Table.answers_poll Table.on_poll Table.on_update Table.on_start Table.on_stop Tick.expired Tick.repeats Tick.listens Tick.polls Tick.polls_on_entry Tick.takes_t2 Tick.polls_in_up Tick.tick_on Tick.tick_outside Tick.on_tick Step.on_message Step.step_of Slots.free_slot Slots.slot_at Slots.with_slot Slots.addresses Slots.clash Slots.slot_of Places.row_counts Places.with_part Places.write_rows GatewayStateFormed.good_settings GatewayStateFormed.good_peer GatewayStateFormed.rows_formed GatewayStateFormed.free_formed GatewayStateFormed.used_formed GatewayStateFormed.slot_formed GatewayStateFormed.state_formed Outcomes.refused_of Home.home_row Home.own_first Home.good_home Number.sequence_fits Number.spacing_fits Number.brings_rows Number.body_number Number.message_number Number.error_head Number.error_to Number.refuse_to Number.named_reply Ruling.leaving Ruling.stepped Ruling.refuses Ruling.taken_step Ruling.change_by Ruling.carried_out Ruling.receive_ruling Ruling.effect_of Ruling.verdict_of Carried.first_octets Carried.second_octets Carried.reply_octets Carried.table_after Carried.count_after Carried.slot_after Carried.outcome_after Carried.buffer_after Calls.lent_checks Calls.message_checks Calls.no_head Calls.update_room Calls.message_ruling Calls.message_outcome Calls.message_table Calls.message_buffer Same.same_numbers Same.message_numbers Same.same_message Same.same_meaning Same.same_reading Same.neighbour_numbers Same.same_neighbour Same.same_reply Same.same_effect Same.same_verdict Same.seconds_numbers Same.same_seconds Same.same_slot Same.same_slots Same.same_settings Same.same_state Same.same_outcome Cases.good_reading Cases.bad_reading Cases.zero_table Cases.zero_buffer Cases.leaves Cases.passes Sheet.nine Sheet.seven Sheet.settled Sheet.neighbour_as Sheet.resting Sheet.asked Sheet.agreed_on Sheet.agreed_on_thirty Sheet.reached Sheet.polling Sheet.no_time Sheet.vacant Sheet.one_neighbour Sheet.sheet
opened = 0
