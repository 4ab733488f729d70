-- `recording_replies::put_replies` meets its contract: the first message's line, then the second's. Assumes nothing.
use Rattle.std.proofs.Common.{rules}
use mathlib.Core.Path.{sym, ◌∙◌}
use Rattle.text.proofs.Writing.{laid}
use Rattle.recording_replies.proofs.Laws.{first_length, first_room, second_room, both_room, both_done}
use Rattle.recording_replies.proofs.put_replies.Goals as goal

pub slice_bounds-put_tx-end : goal.slice_bounds-put_tx-end
slice_bounds-put_tx-end c = sym (first_length c.args.address c.args.o c.args.reply.now c.args.out.now c.requires)

pub put_tx-requires : goal.put_tx-requires
put_tx-requires c = let a = c.args in first_room a.address a.o a.reply.now a.out.now c.requires c.new-writer.result c.new-writer.ensures.begun c.new-writer.ensures.after

pub put_tx-requires-2 : goal.put_tx-requires-2
put_tx-requires-2 c = let a = c.args in second_room a.address a.o a.reply.now a.out.now c.requires c.new-writer.ensures.begun c.new-writer.ensures.after c.put_tx.ensures

pub returns : goal.returns
returns c =
    let a = c.args in let w = c.new-writer.ensures in
    let both = laid w.begun w.after (both_room a.address a.o a.reply.now a.out.now c.requires c.new-writer.result w.begun w.after) (both_done a.address a.o a.reply.now a.out.now c.requires c.put_tx.ensures c.put_tx-2.ensures) in
    record { value = c.end.ensures ∙ both.0; out_after = search (rules, both.1) }
