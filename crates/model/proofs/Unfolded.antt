-- from proofs/Computed.antt
-- Made by ./unfoldings from the line above: all definitions that it rests on. To unfold `opened` is to unfold them all.
use Prim.Native.Nat.{ℕ}
use Rattle.checks.specs.Checks as Checks
use Rattle.checks.specs.Lists as Lists
use Rattle.octets_checksum.specs.Checksum as Checksum
use Rattle.nets.specs.Classes as Classes
use Rattle.nets.specs.Rows as Rows
use Rattle.message.specs.Kinds as Kinds
use Rattle.message_reading.specs.Reading as Reading
use Rattle.message_writing.specs.Writing as Writing
use Rattle.update_walk.specs.Body as Body
use Rattle.update_rows.specs.Storing as Storing
use Rattle.update_writing.specs.Blocks as Blocks
use Rattle.codec_writing.specs.Octets as Octets
use Rattle.neighbour.specs.Record as Record
use Rattle.neighbour.specs.Rules as Rules
use Rattle.neighbour_wellformed.specs.Formed as NeighbourWellformedFormed
use Rattle.neighbour_seconds.specs.Seconds as Seconds
use Rattle.neighbour_machine.specs.Table as Table
use Rattle.neighbour_machine.specs.Tick as Tick
use Rattle.neighbour_machine.specs.Step as Step
use Rattle.gateway_state.specs.Slots as Slots
use Rattle.gateway_state.specs.Formed as GatewayStateFormed
use Rattle.gateway_rules.specs.Home as Home
use Rattle.listing_lines.specs.Lines as Lines
use Rattle.model.specs.Model as Model
use Rattle.model.specs.History as History
use Rattle.model.specs.Ticks as Ticks
use Rattle.model.specs.Theorem as Theorem
use Rattle.model.specs.Windows as Windows
use Rattle.model.specs.Corollaries as Corollaries
use Rattle.model.specs.Quick as Quick
use Rattle.model.specs.Example as Example

unfoldable pub opened : ℕ
unfolding Checks.check Checks.if_ok Lists.first Lists.every Lists.distinct Lists.join Checksum.ones_add Checksum.ones_sum Checksum.checksum_of Checksum.sealed Classes.net_width Classes.host_span Classes.good_net Classes.on_net Rows.rows_of Kinds.kind_at Kinds.plain_status Kinds.refusal_status Kinds.marked_status Reading.header_of Reading.header_answer Reading.meaning_of Reading.decode_as Reading.decode_of Writing.head_of Body.extended Body.many Body.left_justified Body.row_of_width Body.net_row Body.group_at Body.host_width Body.gateway_of Body.block_at Body.sides_at Body.groups_hold Body.blocks_hold Body.sides_hold Body.read_as Body.both_sides Body.nothing_left Body.body_of Body.further Body.net_at Body.walked_blocks Body.read_within Body.update_of Body.rows_read Storing.zeros Blocks.side_rows Blocks.joined Blocks.runs Blocks.each Blocks.address_octets Blocks.net_octets Blocks.host_octets Blocks.nets_octets Blocks.group_octets Blocks.groups_octets Blocks.block_octets Blocks.side_octets Blocks.blocks_written Blocks.internal_blocks Blocks.external_blocks Octets.plain_octets Octets.message_octets Record.under Record.with_numbers Record.with_timers Record.with_reach Record.idle Record.left_idle Record.waiting Record.initialised Record.heard_from Record.shifted Record.enter_up Record.leave_up Record.polled Record.one_more Record.aged Rules.in_sequence Rules.commanded Rules.indicates Rules.noted Rules.too_quick Rules.recounted Rules.period1_of Rules.period2_of Rules.unacceptable Rules.mode_of Rules.offer_of Rules.ones_of Rules.goes_up Rules.goes_down Rules.judged NeighbourWellformedFormed.all_zero NeighbourWellformedFormed.idle_formed NeighbourWellformedFormed.timers_below NeighbourWellformedFormed.timers_run NeighbourWellformedFormed.t2_formed NeighbourWellformedFormed.register_formed NeighbourWellformedFormed.agreed NeighbourWellformedFormed.intervals_formed NeighbourWellformedFormed.cause_formed NeighbourWellformedFormed.counts_formed NeighbourWellformedFormed.well_formed Seconds.seconds_sum Seconds.seconds_formed Seconds.are_none Seconds.clock_full Seconds.counted Table.followed Table.unanswered Table.answers Table.says Table.hello_if Table.does_a Table.does_b Table.ceases Table.repeats_cease Table.acquires Table.stray Table.on_request Table.settles Table.on_confirm Table.on_refuse Table.on_cease Table.on_cease_ack Table.on_hello Table.on_i_heard_you Table.answers_poll Table.on_poll Table.on_update Table.on_start Table.on_stop Tick.expired Tick.repeats Tick.listens Tick.polls Tick.polls_on_entry Tick.takes_t2 Tick.polls_in_up Tick.tick_on Tick.tick_outside Tick.on_tick Step.on_message Step.step_of Slots.free_slot Slots.addresses Slots.clash GatewayStateFormed.good_settings GatewayStateFormed.good_peer GatewayStateFormed.rows_formed GatewayStateFormed.free_formed GatewayStateFormed.used_formed GatewayStateFormed.slot_formed GatewayStateFormed.state_formed Home.home_row Home.own_first Home.good_home Lines.state_word Lines.mode_word Lines.distance_in Lines.side_word Lines.seconds_lines Lines.head_lines Lines.row_lines Lines.row_text Lines.entry_text Lines.listing_text Model.empty Model.slot_in Model.put Model.is_free Model.has_address Model.found_at Model.is_present Model.vacancy Model.silent Model.spoken Model.addable Model.answer_to_add Model.is_idle_slot Model.answer_to_remove Model.add_turn Model.remove_turn Model.no_move Model.rows_in_phase Model.moved Model.no_octets Model.seconds_after Model.event_move Model.body_answer Model.is_update Model.kind_answer Model.answer_to Model.first_twelve Model.error_reply Model.refuse_reply Model.refusal_reply Model.after_message Model.rows_after Model.message_move Model.is_late Model.event_answer Model.message_answer Model.turn_at Model.event_turn Model.message_turn Model.listed_from Model.listed Model.listing_answer Model.listing_said Model.listing_turn Model.step Model.model_from Model.model History.is_up_slot History.says_update History.accepts History.rows_said Ticks.ticks Ticks.phase_of Ticks.finds Ticks.changes_hands Ticks.keeps_hands Ticks.tally_since Ticks.ticks_since Ticks.ticks_finding Theorem.cell Theorem.state_of Theorem.rows_held Windows.is_indication Windows.is_evaluation Windows.is_restart Windows.record_in Windows.said_event Windows.done_for Windows.event_for Windows.holds_of Windows.brings Windows.restarts_none Windows.windows Windows.latest Corollaries.reports Quick.says_hello_up Quick.hello_comes Quick.is_ticked Quick.is_other_hello Quick.due_after Quick.keeps_time Quick.hello_every_tick Example.some_settings Example.quiet_settings Example.lent_buffer Example.class_a Example.tick_seconds Example.says_hello Example.reporting_calls Example.eight Example.poll_rounds Example.almost_up Example.acquired_calls Example.greeted Example.abandoned Example.hello_seconds Example.slow Example.through_all Example.briefly Example.anew Example.filled Example.long_added Example.late Example.late_first
opened = 0
