-- from specs/Sheet.antt MachineSheet
-- Made by ./unfoldings from the line above: all definitions that it rests on. To unfold `opened` is to unfold them all.
use Prim.Native.Nat.{ℕ}
use Rattle.neighbour.specs.Record as Record
use Rattle.neighbour.specs.Rules as Rules
use Rattle.neighbour_machine.specs.Table as Table
use Rattle.neighbour_machine.specs.Tick as Tick
use Rattle.neighbour_machine.specs.Step as Step
use Rattle.neighbour_machine.specs.Sheet as Sheet

unfoldable pub opened : ℕ
unfolding Record.under Record.with_numbers Record.with_timers Record.with_reach Record.idle Record.left_idle Record.waiting Record.initialised Record.heard_from Record.shifted Record.enter_up Record.leave_up Record.polled Record.one_more Record.aged Rules.commanded Rules.indicates Rules.noted Rules.recounted Rules.period1_of Rules.period2_of Rules.unacceptable Rules.mode_of Rules.offer_of Rules.ones_of Rules.goes_up Rules.goes_down Rules.judged Table.followed Table.unanswered Table.answers Table.says Table.hello_if Table.does_a Table.does_b Table.ceases Table.repeats_cease Table.acquires Table.stray Table.on_request Table.settles Table.on_confirm Table.on_refuse Table.on_cease Table.on_cease_ack Table.on_hello Table.on_i_heard_you Table.answers_poll Table.on_poll Table.on_update Table.on_start Table.on_stop Tick.expired Tick.repeats Tick.listens Tick.polls Tick.polls_on_entry Tick.takes_t2 Tick.polls_in_up Tick.tick_on Tick.tick_outside Tick.on_tick Step.on_message Step.step_of Sheet.at Sheet.g0 Sheet.g1 Sheet.g2 Sheet.q1 Sheet.words Sheet.computed Sheet.written Sheet.by_request Sheet.by_confirm Sheet.mode_by_request Sheet.mode_by_confirm Sheet.hears Sheet.stays_down_active Sheet.rises_active Sheet.stays_down_passive Sheet.rises_passive Sheet.stays_up_active Sheet.falls_active Sheet.stays_up_passive Sheet.falls_passive Sheet.acceptable_row Sheet.unacceptable_row Sheet.confirm_row Sheet.refuse_row Sheet.cease_row Sheet.cease_ack_row Sheet.hello_row Sheet.poll_row Sheet.update_row Sheet.start_row Sheet.stop_row Sheet.i_heard_you_received Sheet.strays Sheet.error_received Sheet.intervals Sheet.modes Sheet.indications Sheet.tick_idle Sheet.tick_t3 Sheet.tick_retry Sheet.tick_listening Sheet.registers Sheet.tick_poll Sheet.tick_s Sheet.tick_counts Sheet.sheet
opened = 0
