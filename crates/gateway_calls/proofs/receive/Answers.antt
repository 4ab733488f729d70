-- `gateway_calls::receive` meets its contract: a refusal, or the ruling carried out. Assumes nothing.
use mathlib.Core.Path.{refl, sym, ap, ◌∙◌}
use Rattle.neighbour.specs.Record.{idle}
use Rattle.gateway_state.specs.Slots.{free_slot, slot_at, with_slot}
use Rattle.gateway_state.proofs.OutcomeLaws.{number_used}
use Rattle.gateway_calls.proofs.Calls.{message_refused, number_asked, number_done, read_is, reach_asked, reach_done, message_asked, message_done}
use Rattle.gateway_calls.proofs.receive.Goals as goal

pub returns-in-Err : goal.returns-in-Err
returns-in-Err c =
    let both = message_refused c.args.st c.args.table.now c.args.reply.now c.args.home.now _ c.args.message.now _ (c.in-Err.ensures _ _ refl refl) (number_used _) _ (rw c.from.ensures at c.refused.ensures) in
    record { value = both.0; table_after = both.1.0; reply_after = both.1.1 }

pub refuse-requires : goal.refuse-requires
unfolding slot_at free_slot idle
refuse-requires c =
    let f = c.in-Ok.ensures c.args.table.now c.args.reply.now refl refl in
    let k = read_is c.args.st c.args.table.now c.args.reply.now c.args.home.now _ c.args.message.now 0 f.0 refl _ _ f.1 refl _ _ c.read-meaning.ensures c.in_default.not-Ok c.answer_of-number.ensures in number_asked c.args.st c.args.table.now c.args.reply.now c.args.home.now _ c.args.message.now 0 f.0 refl _ _ f.1 refl _ k.0 k.1 _ c.reply_to-named.ensures

pub returns-in_default : goal.returns-in_default
unfolding slot_at free_slot idle
returns-in_default c =
    let f = c.in-Ok.ensures c.args.table.now c.args.reply.now refl refl in
    let k = read_is c.args.st c.args.table.now c.args.reply.now c.args.home.now _ c.args.message.now 0 f.0 refl _ _ f.1 refl _ _ c.read-meaning.ensures c.in_default.not-Ok c.answer_of-number.ensures in
    let both = number_done c.args.st c.args.table.now c.args.reply.now c.args.home.now _ c.args.message.now 0 f.0 refl _ _ f.1 refl _ k.0 k.1 _ c.reply_to-named.ensures _ _ c.refuse.ensures.value c.refuse.ensures.buffer_after in
    record { value = both.0; table_after = both.1.0; reply_after = both.1.1 }

pub note_reach-after-requires : goal.note_reach-after-requires
note_reach-after-requires c = c.tells_reach.ensures c.if-tells_reach.true

pub send-lengths-requires : goal.send-lengths-requires
unfolding slot_at free_slot idle
send-lengths-requires c =
    let f = c.in-Ok.ensures c.args.table.now c.args.reply.now refl refl in
    reach_asked c.args.st c.args.table.now c.args.reply.now c.args.home.now _ c.args.message.now 0 f.0 refl _ _ f.1 refl _ (c.note_reach-after.ensures 128 _ _ (sym c.read-meaning.ensures ∙ c.in-Ok-meaning.is))

pub returns-then-tells_reach : goal.returns-then-tells_reach
unfolding slot_at free_slot idle with_slot
returns-then-tells_reach c =
    let f = c.in-Ok.ensures c.args.table.now c.args.reply.now refl refl in
    let both = reach_done c.args.st c.args.table.now c.args.reply.now c.args.home.now _ c.args.message.now 0 f.0 refl _ _ f.1 refl _ (c.note_reach-after.ensures 128 _ _ (sym c.read-meaning.ensures ∙ c.in-Ok-meaning.is)) _ _ _ _ c.send-lengths.ensures.value c.with_neighbour.ensures refl c.send-lengths.ensures.buffer_after in
    record { value = both.0; table_after = both.1.0; reply_after = both.1.1 }

pub take-v-requires : goal.take-v-requires
take-v-requires c = sym c.read-meaning.ensures ∙ c.in-Ok-meaning.is

pub apply-requires : goal.apply-requires
unfolding slot_at free_slot idle
apply-requires c =
    let f = c.in-Ok.ensures c.args.table.now c.args.reply.now refl refl in
    let both = message_asked c.args.st c.args.table.now c.args.reply.now c.args.home.now _ c.args.message.now 0 f.0 refl _ _ f.1 refl _ c.take-v.ensures in
    record { i_bound = both.0; home_value = both.1 }

pub returns : goal.returns
unfolding slot_at free_slot idle
returns c =
    let f = c.in-Ok.ensures c.args.table.now c.args.reply.now refl refl in
    let both = message_done c.args.st c.args.table.now c.args.reply.now c.args.home.now _ c.args.message.now 0 f.0 refl _ _ f.1 refl _ c.take-v.ensures _ _ _ c.apply.ensures.value c.apply.ensures.table_after c.apply.ensures.buffer_after in
    record { value = both.0; table_after = both.1.0; reply_after = both.1.1 }
