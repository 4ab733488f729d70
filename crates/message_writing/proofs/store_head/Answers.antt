use lib.ListN.{length-set}
use Rattle.message_writing.proofs.Laws.{head_written, head_same}
use borrow.Author.Rules.{rules}
use Rattle.message_writing.proofs.store_head.Goals as goal

pub bounds-buffer-11 : goal.bounds-buffer-11
bounds-buffer-11 c = simp length-set (search rules)

pub put32-requires : goal.put32-requires
put32-requires c = simp (length-set, length-set) (search rules)

pub shape_of-buffer : goal.shape_of-buffer
shape_of-buffer c =
    head_same c.args.buffer.now _ c.args.internal c.args.external c.args.asn c.args.sequence c.args.status c.args.net
    (head_written c.args.buffer.now _ _ c.args.internal c.args.external c.args.asn c.args.sequence c.args.status c.args.net c.header.ensures c.store.ensures.buffer_after c.requires _ c.put32.ensures) c.requires

pub returns : goal.returns
returns c = head_written c.args.buffer.now _ _ c.args.internal c.args.external c.args.asn c.args.sequence c.args.status c.args.net c.header.ensures c.store.ensures.buffer_after c.requires _ c.put32.ensures
