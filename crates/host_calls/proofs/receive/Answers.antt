-- `host_calls::receive` meets its contract: a refusal, or the ruling carried out. Assumes nothing.
use native.Mathlib.Omega.{arith}
use mathlib.Core.Path.{refl, sym, ◌∙◌}
use Rattle.gateway_state.proofs.OutcomeLaws.{number_used}
use Rattle.gateway_stages.proofs.Laws.{read_number}
use Rattle.host_state_block.specs.Block.{state_in}
use Rattle.host_calls.proofs.Lent.{lent_long}
use Rattle.host_calls.proofs.Messages.{receive_refused, heard_room, refuse_asked, refuse_done, note_asked, note_done, take_asked, take_done}
use Rattle.host_calls.proofs.receive.Goals as goal

pub returns-in-Err : goal.returns-in-Err
returns-in-Err c =
    let both = receive_refused c.args.block.now c.args.table.now c.args.reply.now c.args.home.now c.args.address c.args.message.now _ (number_used _) (c.in-Err.ensures _ _ refl refl) in
    rw c.answered.ensures (record { value = both.0; block_after = both.1.0; table_after = both.1.1.0; reply_after = both.1.1.1 })

pub settings_of-settings-requires : goal.settings_of-settings-requires
settings_of-settings-requires c =
    let f = c.in-Ok.ensures c.args.table.now c.args.reply.now refl refl in
    lent_long c.args.block.now c.args.table.now c.args.reply.now f.0

pub slot_at-slot-requires : goal.slot_at-slot-requires
slot_at-slot-requires c =
    let f = c.in-Ok.ensures c.args.table.now c.args.reply.now refl refl in
    (lent_long c.args.block.now c.args.table.now c.args.reply.now f.0, f.3)

pub refuse-requires : goal.refuse-requires
refuse-requires c =
    let f = c.in-Ok.ensures c.args.table.now c.args.reply.now refl refl in
    let k = read_number 128 (state_in c.args.block.now).settings _ _ c.args.message.now _ _ c.read-meaning.ensures c.in_default.not-Ok c.answer_of-number.ensures in refuse_asked c.args.block.now c.args.table.now c.args.reply.now c.args.home.now c.args.address c.args.message.now f.0 f.1 _ _ f.2 f.3 c.slot_at-slot.ensures _ k.0 k.1 _ (rw c.settings_of-settings.ensures at c.reply_to-named.ensures)

pub returns-in_default : goal.returns-in_default
returns-in_default c =
    let f = c.in-Ok.ensures c.args.table.now c.args.reply.now refl refl in
    let k = read_number 128 (state_in c.args.block.now).settings _ _ c.args.message.now _ _ c.read-meaning.ensures c.in_default.not-Ok c.answer_of-number.ensures in
    let both = refuse_done c.args.block.now c.args.table.now c.args.reply.now c.args.home.now c.args.address c.args.message.now f.0 f.1 _ _ f.2 f.3 c.slot_at-slot.ensures _ k.0 k.1 _ (rw c.settings_of-settings.ensures at c.reply_to-named.ensures) _ _ c.refuse.ensures.value c.refuse.ensures.buffer_after in
    record { value = both.0; block_after = both.1.0; table_after = both.1.1.0; reply_after = both.1.1.1 }

pub note_reach-after-requires : goal.note_reach-after-requires
note_reach-after-requires c = c.tells_reach.ensures c.if-tells_reach.true

pub send-lengths-requires : goal.send-lengths-requires
send-lengths-requires c =
    let f = c.in-Ok.ensures c.args.table.now c.args.reply.now refl refl in
    note_asked c.args.block.now c.args.table.now c.args.reply.now c.args.home.now c.args.address c.args.message.now f.0 f.1 _ _ f.2 f.3 c.slot_at-slot.ensures (λ i. omega (arith, c.slice_known-1.given i)) (λ i. omega (arith, c.slice_known-2-1.given i)) _ (rw c.settings_of-settings.ensures at (c.note_reach-after.ensures 128 _ _ (sym c.read-meaning.ensures ∙ c.in-Ok-meaning.is)))

pub returns-then-tells_reach : goal.returns-then-tells_reach
returns-then-tells_reach c =
    let f = c.in-Ok.ensures c.args.table.now c.args.reply.now refl refl in
    let both = note_done c.args.block.now c.args.table.now c.args.reply.now c.args.home.now c.args.address c.args.message.now f.0 f.1 _ _ f.2 f.3 c.slot_at-slot.ensures (λ i. omega (arith, c.slice_known-1.given i)) (λ i. omega (arith, c.slice_known-2-1.given i)) _ (rw c.settings_of-settings.ensures at (c.note_reach-after.ensures 128 _ _ (sym c.read-meaning.ensures ∙ c.in-Ok-meaning.is))) _ _ _ _ _ c.send-lengths.ensures.value c.with_neighbour-next.ensures c.pack.ensures c.put_slot.ensures c.send-lengths.ensures.buffer_after in
    record { value = both.0; block_after = both.1.0; table_after = both.1.1.0; reply_after = both.1.1.1 }

pub take-v-requires : goal.take-v-requires
take-v-requires c = (sym c.read-meaning.ensures ∙ c.in-Ok-meaning.is)

pub put_slot-requires : goal.put_slot-requires
put_slot-requires c =
    let f = c.in-Ok.ensures c.args.table.now c.args.reply.now refl refl in
    (lent_long c.args.block.now c.args.table.now c.args.reply.now f.0, f.3)

pub apply-requires : goal.apply-requires
apply-requires c =
    let f = c.in-Ok.ensures c.args.table.now c.args.reply.now refl refl in
    rw c.settings_of-settings.ensures (record { block_len = heard_room c.args.block.now c.args.table.now c.args.reply.now c.args.home.now c.args.address c.args.message.now f.0 f.1 _ _ f.2 f.3 c.slot_at-slot.ensures; home_value = take_asked c.args.block.now c.args.table.now c.args.reply.now c.args.home.now c.args.address c.args.message.now f.0 f.1 _ _ f.2 f.3 c.slot_at-slot.ensures (λ i. omega (arith, c.slice_known-1.given i)) (λ i. omega (arith, c.slice_known-2-1.given i)) _ (rw c.settings_of-settings.ensures at c.take-v.ensures) })

pub returns : goal.returns
returns c =
    let f = c.in-Ok.ensures c.args.table.now c.args.reply.now refl refl in
    let both = take_done c.args.block.now c.args.table.now c.args.reply.now c.args.home.now c.args.address c.args.message.now f.0 f.1 _ _ f.2 f.3 c.slot_at-slot.ensures (λ i. omega (arith, c.slice_known-1.given i)) (λ i. omega (arith, c.slice_known-2-1.given i)) _ (rw c.settings_of-settings.ensures at c.take-v.ensures) _ _ _ _ c.apply.ensures.value (rw c.settings_of-settings.ensures at c.apply.ensures.block_after) (rw c.settings_of-settings.ensures at c.apply.ensures.table_after) c.apply.ensures.buffer_after in
    record { value = both.0; block_after = both.1.0; table_after = both.1.1.0; reply_after = both.1.1.1 }
