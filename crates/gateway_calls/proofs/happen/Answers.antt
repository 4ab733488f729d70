use mathlib.Core.Path.{refl}
use mathlib.Core.List.{[]}
use Rattle.neighbour.specs.Record.{idle}
use Rattle.gateway_state.specs.Slots.{free_slot, slot_at, with_slot}
use Rattle.gateway_state.proofs.OutcomeLaws.{number_used}
use Rattle.gateway_state.proofs.Theorems.{formed_slot}
use Rattle.gateway_calls.proofs.Checks.{slot_met, slot_checks}
use Rattle.gateway_calls.proofs.Calls.{event_refused, event_asked, event_done, event_counted}
use Rattle.gateway_calls.proofs.happen.Goals as goal

pub returns-in-Err : goal.returns-in-Err
returns-in-Err c =
    let h = event_refused c.args.event c.args.st c.args.table.now c.args.reply.now _ _ (c.in-Err.ensures _ _ refl refl) (number_used _) _ (rw c.from.ensures at c.refused.ensures) in
    record { value = h.outcome; table_after = h.rows; reply_after = h.octets }

pub book-slot-requires : goal.book-slot-requires
unfolding slot_at free_slot idle
book-slot-requires c =
    let f = c.in-Ok.ensures c.args.table.now c.args.reply.now refl refl in
    let m = slot_met c.args.event c.args.st c.args.table.now c.args.reply.now _ _ f in
    ((formed_slot c.args.st _ m.formed).1.seconds, f.3)

pub returns-then-only_counts : goal.returns-then-only_counts
unfolding slot_at free_slot idle with_slot
returns-then-only_counts c =
    let f = c.in-Ok.ensures c.args.table.now c.args.reply.now refl refl in
    let m = slot_met c.args.event c.args.st c.args.table.now c.args.reply.now _ _ f in
    let o = c.only_counts.ensures c.if-only_counts.true in
    let h = event_counted c.args.event c.args.st c.args.table.now c.args.reply.now _ 0 (slot_checks c.args.event c.args.st c.args.table.now c.args.reply.now _ _ f) refl m _ _ _ _ f.1 c.book-slot.ensures o.0 o.1 c.count_down.ensures.result_value c.count_down.ensures.phase_value c.with_neighbour.ensures _ refl in
    record { value = h.outcome; table_after = h.rows; reply_after = h.octets }

pub apply-requires : goal.apply-requires
unfolding slot_at free_slot idle
apply-requires c =
    let f = c.in-Ok.ensures c.args.table.now c.args.reply.now refl refl in
    let m = slot_met c.args.event c.args.st c.args.table.now c.args.reply.now _ _ f in
    let both = event_asked c.args.event c.args.st c.args.table.now c.args.reply.now _ 0 (slot_checks c.args.event c.args.st c.args.table.now c.args.reply.now _ _ f) refl m _ _ _ _ f.1 c.book-slot.ensures c.step-after.ensures c.step_verdict-v.ensures [] in
    record { i_bound = both.0; home_value = both.1 }

pub returns : goal.returns
unfolding slot_at free_slot idle
returns c =
    let f = c.in-Ok.ensures c.args.table.now c.args.reply.now refl refl in
    let m = slot_met c.args.event c.args.st c.args.table.now c.args.reply.now _ _ f in
    let h = event_done c.args.event c.args.st c.args.table.now c.args.reply.now _ 0 (slot_checks c.args.event c.args.st c.args.table.now c.args.reply.now _ _ f) refl m _ _ _ _ f.1 c.book-slot.ensures c.step-after.ensures c.step_verdict-v.ensures [] _ _ _ c.apply.ensures.value c.apply.ensures.table_after c.apply.ensures.buffer_after in
    record { value = h.outcome; table_after = h.rows; reply_after = h.octets }
