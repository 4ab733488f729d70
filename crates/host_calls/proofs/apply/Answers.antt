-- `host_calls::apply` meets its contract: a refusal, or carried out. Assumes nothing.
use native.Mathlib.Omega.{arith}
use mathlib.Core.Path.{sym, ap, ◌∙◌}
use lib.Seq.{sets}
use Rattle.checks.proofs.Laws.{if_ok_new, if_ok_old}
use Rattle.gateway_state.specs.declared.Slot.{Slot}
use Rattle.host_state_block.specs.Block.{slot_start, slot_octets}
use Rattle.host_calls.proofs.Sending.{packed_lengths}
use Rattle.host_calls.proofs.apply.Goals as goal

pub returns-then-v-ne0-clause-value : goal.returns-then-v-ne0-clause-value
returns-then-v-ne0-clause-value c = packed_lengths _ _ _ _ c.pack-result.ensures c.send-lengths.ensures.value

pub returns-then-v-ne0-clause-block_after : goal.returns-then-v-ne0-clause-block_after
returns-then-v-ne0-clause-block_after c = sym (if_ok_old _ _ _ c.if-v-ne0.true)

pub returns-then-v-ne0-clause-table_after : goal.returns-then-v-ne0-clause-table_after
returns-then-v-ne0-clause-table_after c = λ counts. sym (if_ok_old _ _ _ c.if-v-ne0.true)

pub returns-then-v-ne0-clause-buffer_after : goal.returns-then-v-ne0-clause-buffer_after
returns-then-v-ne0-clause-buffer_after c = c.send-lengths.ensures.buffer_after

pub put_slot-requires : goal.put_slot-requires
put_slot-requires c = (omega (arith, c.requires.block_len.0), c.requires.block_len.1)

pub returns-clause-value : goal.returns-clause-value
returns-clause-value c = packed_lengths _ _ _ _ c.pack-result.ensures c.send-lengths.ensures.value

pub returns-clause-block_after : goal.returns-clause-block_after
returns-clause-block_after c = c.put_slot.ensures ∙ ap (λ (y : Slot). sets c.args.block.now (slot_start c.args.i) (slot_octets y)) (c.slot_after.ensures _ c.requires.home_value.1) ∙ sym (if_ok_new _ _ _ c.if-v-ne0.false)

pub returns-clause-table_after : goal.returns-clause-table_after
returns-clause-table_after c = λ counts. c.change_rows.ensures counts ∙ sym (if_ok_new _ _ _ c.if-v-ne0.false)

pub returns-clause-buffer_after : goal.returns-clause-buffer_after
returns-clause-buffer_after c = c.send-lengths.ensures.buffer_after
