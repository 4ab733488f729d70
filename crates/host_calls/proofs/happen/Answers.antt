-- `host_calls::happen` meets its contract: a refusal, a tick that only counts, or the ruling carried out. Assumes nothing.
use native.Mathlib.Omega.{arith}
use mathlib.Core.Path.{refl, sym, ◌∙◌}
use Rattle.gateway_state.proofs.OutcomeLaws.{number_used}
use Rattle.host_calls.proofs.Lent.{lent_long}
use Rattle.host_calls.proofs.Events.{happen_refused, found_formed, found_room, happen_counted, happen_asked, happen_done}
use Rattle.host_calls.proofs.happen.Goals as goal

pub returns-in-Err : goal.returns-in-Err
returns-in-Err c =
    let both = happen_refused c.args.event c.args.block.now c.args.table.now c.args.reply.now c.args.address _ (number_used _) (c.in-Err.ensures _ _ refl refl) in
    rw c.answered.ensures (record { value = both.0; block_after = both.1.0; table_after = both.1.1.0; reply_after = both.1.1.1 })

pub slot_at-requires : goal.slot_at-requires
slot_at-requires c =
    let f = c.in-Ok.ensures c.args.table.now c.args.reply.now refl refl in
    (lent_long c.args.block.now c.args.table.now c.args.reply.now f.0, f.2)

pub book-slot-requires : goal.book-slot-requires
book-slot-requires c =
    let f = c.in-Ok.ensures c.args.table.now c.args.reply.now refl refl in
    (found_formed c.args.event c.args.block.now c.args.table.now c.args.reply.now c.args.address f.0 _ f.1 f.2 _ c.slot_at.ensures, rw c.slot_at.ensures f.3)

pub count_down-requires : goal.count_down-requires
count_down-requires c = let h = c.only_counts.ensures c.if-only_counts.true in (h.1, h.2, h.3, h.4)

pub put_slot-requires : goal.put_slot-requires
put_slot-requires c =
    let f = c.in-Ok.ensures c.args.table.now c.args.reply.now refl refl in
    (lent_long c.args.block.now c.args.table.now c.args.reply.now f.0, f.2)

pub returns-then-only_counts : goal.returns-then-only_counts
returns-then-only_counts c =
    let f = c.in-Ok.ensures c.args.table.now c.args.reply.now refl refl in
    let o = c.only_counts.ensures c.if-only_counts.true in
    let both = happen_counted c.args.event c.args.block.now c.args.table.now c.args.reply.now c.args.address f.0 _ f.1 f.2 _ c.slot_at.ensures f.3 _ c.book-slot.ensures (λ i. omega (arith, c.slice_known-1.given i)) (λ i. omega (arith, c.slice_known-2-1.given i)) _ _ o.0 o.1 c.count_down.ensures.result_value c.count_down.ensures.phase_value c.with_neighbour-next.ensures in
    rw (c.alone.ensures, c.put_slot.ensures) (record { value = both.0; block_after = both.1.0; table_after = both.1.1.0; reply_after = both.1.1.1 })

pub settings_of-settings-requires : goal.settings_of-settings-requires
settings_of-settings-requires c =
    let f = c.in-Ok.ensures c.args.table.now c.args.reply.now refl refl in
    lent_long c.args.block.now c.args.table.now c.args.reply.now f.0

pub apply-requires : goal.apply-requires
apply-requires c =
    let f = c.in-Ok.ensures c.args.table.now c.args.reply.now refl refl in
    rw c.settings_of-settings.ensures (record { block_len = found_room c.args.event c.args.block.now c.args.table.now c.args.reply.now c.args.address f.0 _ f.1 f.2 _ c.slot_at.ensures; home_value = happen_asked c.args.event c.args.block.now c.args.table.now c.args.reply.now c.args.address f.0 _ f.1 f.2 _ c.slot_at.ensures f.3 _ c.book-slot.ensures (λ i. omega (arith, c.slice_known-1.given i)) (λ i. omega (arith, c.slice_known-2-1.given i)) _ _ (rw c.settings_of-settings.ensures at c.step-after.ensures) c.step_verdict-v.ensures })

pub returns : goal.returns
returns c =
    let f = c.in-Ok.ensures c.args.table.now c.args.reply.now refl refl in
    let both = happen_done c.args.event c.args.block.now c.args.table.now c.args.reply.now c.args.address f.0 _ f.1 f.2 _ c.slot_at.ensures f.3 _ c.book-slot.ensures (λ i. omega (arith, c.slice_known-1.given i)) (λ i. omega (arith, c.slice_known-2-1.given i)) _ _ (rw c.settings_of-settings.ensures at c.step-after.ensures) c.step_verdict-v.ensures _ _ _ _ c.apply.ensures.value (rw c.settings_of-settings.ensures at c.apply.ensures.block_after) (rw c.settings_of-settings.ensures at c.apply.ensures.table_after) c.apply.ensures.buffer_after in
    record { value = both.0; block_after = both.1.0; table_after = both.1.1.0; reply_after = both.1.1.1 }
