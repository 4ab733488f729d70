use mathlib.Core.Path.{◌∙◌, sym, ap}
use native.Mathlib.Omega.{arith}
use Prim.Native.Nat.{ℕ}
use Rattle.std.specs.Prelude.{Ok}
use Rattle.codec_writing.proofs.Laws.{room_most}
use Rattle.codec.proofs.Laws.{allowed_fits, octets_short, refused_leaves, write_3, write_16, write_0, written_leaves, write_rows_lem}
use Rattle.codec.proofs.write.Goals as goal

pub returns-then-buffer-lt2048-clause-value : goal.returns-then-buffer-lt2048-clause-value
returns-then-buffer-lt2048-clause-value c = sym (write_3 _ _ _ c.if-buffer-lt2048.true)

pub returns-then-buffer-lt2048-clause-buffer_after : goal.returns-then-buffer-lt2048-clause-buffer_after
returns-then-buffer-lt2048-clause-buffer_after c = refused_leaves _ _ _ _ (write_3 _ _ _ c.if-buffer-lt2048.true)

pub returns-then-not-is_writable-clause-value : goal.returns-then-not-is_writable-clause-value
returns-then-not-is_writable-clause-value c = sym (write_16 _ _ _ c.if-buffer-lt2048.false (sym c.is_writable.ensures ∙ c.if-not-is_writable.true))

pub returns-then-not-is_writable-clause-buffer_after : goal.returns-then-not-is_writable-clause-buffer_after
returns-then-not-is_writable-clause-buffer_after c = refused_leaves _ _ _ _ (write_16 _ _ _ c.if-buffer-lt2048.false (sym c.is_writable.ensures ∙ c.if-not-is_writable.true))

pub write_message-requires-clause-rows_value : goal.write_message-requires-clause-rows_value
write_message-requires-clause-rows_value c = allowed_fits _ _ (write_rows_lem _ _ c.args.rows.now (sym c.is_writable.ensures ∙ c.if-not-is_writable.false))

pub write_message-requires-clause-message_in_bounds : goal.write_message-requires-clause-message_in_bounds
write_message-requires-clause-message_in_bounds c = omega (arith, room_most c.args.message)

pub overflow_cast-result : goal.overflow_cast-result
overflow_cast-result c = omega (arith, c.write_message.ensures.value, octets_short c.args.message c.args.rows.now (write_rows_lem _ _ c.args.rows.now (sym c.is_writable.ensures ∙ c.if-not-is_writable.false)))

pub returns-clause-value : goal.returns-clause-value
returns-clause-value c = ap (λ (n : ℕ). Ok n) c.write_message.ensures.value ∙ sym (write_0 _ _ _ c.if-buffer-lt2048.false (sym c.is_writable.ensures ∙ c.if-not-is_writable.false))

pub returns-clause-buffer_after : goal.returns-clause-buffer_after
returns-clause-buffer_after c = written_leaves _ _ _ _ _ (write_0 _ _ _ c.if-buffer-lt2048.false (sym c.is_writable.ensures ∙ c.if-not-is_writable.false)) c.write_message.ensures.buffer_after
