-- `recording_replies::put_tx` meets its contract: nothing, or name, address, slash, octets, end of line. Assumes nothing.
use native.Mathlib.Omega.{arith}
use borrow.Author.Tests.{eqb-true, eqb-false}
use mathlib.Core.Path.{sym, ◌∙◌}
use Rattle.text.proofs.Writing.{puts_both}
use Rattle.recording_replies.proofs.Laws.{tx_parts, tx_long, nothing_done}
use Rattle.recording_replies.proofs.put_tx.Goals as goal

pub returns-then-is_empty : goal.returns-then-is_empty
returns-then-is_empty c = nothing_done c.args.address c.args.message.now (eqb-true _ _ (sym c.is_empty.ensures ∙ c.if-is_empty.true)) c.args.out.now

pub put-requires : goal.put-requires
put-requires c = omega (arith, c.requires, tx_long c.args.address c.args.message.now (eqb-false _ _ (sym c.is_empty.ensures ∙ c.if-is_empty.false)))

pub put-requires-2 : goal.put-requires-2
put-requires-2 c = omega (arith, c.requires, tx_long c.args.address c.args.message.now (eqb-false _ _ (sym c.is_empty.ensures ∙ c.if-is_empty.false)), c.put.ensures.after, c.put.ensures.long)

pub put-requires-3 : goal.put-requires-3
put-requires-3 c = omega (arith, c.requires, tx_long c.args.address c.args.message.now (eqb-false _ _ (sym c.is_empty.ensures ∙ c.if-is_empty.false)), c.put.ensures.after, c.put.ensures.long, c.put-2.ensures.after, c.put-2.ensures.long)

pub put_hex-requires : goal.put_hex-requires
put_hex-requires c = omega (arith, c.requires, tx_long c.args.address c.args.message.now (eqb-false _ _ (sym c.is_empty.ensures ∙ c.if-is_empty.false)), c.put.ensures.after, c.put.ensures.long, c.put-2.ensures.after, c.put-2.ensures.long, c.put-3.ensures.after, c.put-3.ensures.long)

pub put-requires-4 : goal.put-requires-4
put-requires-4 c = omega (arith, c.requires, tx_long c.args.address c.args.message.now (eqb-false _ _ (sym c.is_empty.ensures ∙ c.if-is_empty.false)), c.put.ensures.after, c.put.ensures.long, c.put-2.ensures.after, c.put-2.ensures.long, c.put-3.ensures.after, c.put-3.ensures.long, c.put_hex.ensures.after, c.put_hex.ensures.long)

pub returns : goal.returns
returns c =
    rw (tx_parts c.args.address c.args.message.now (eqb-false _ _ (sym c.is_empty.ensures ∙ c.if-is_empty.false)))
    (puts_both c.put.ensures (puts_both c.put-2.ensures (puts_both c.put-3.ensures (puts_both c.put_hex.ensures c.put-4.ensures))))
