use Rattle.message_writing.proofs.Laws.{intervals_written}
use Rattle.message_writing.proofs.write_intervals.Goals as goal

pub returns-clause-value : goal.returns-clause-value
returns-clause-value c = c.seal_front.ensures.value

pub returns-clause-buffer_after : goal.returns-clause-buffer_after
returns-clause-buffer_after c = intervals_written c.args.buffer.now _ _ c.args.kind c.args.asn c.args.sequence c.args.status c.header.ensures c.store.ensures.buffer_after c.requires c.args.hello c.args.poll _ _ _ c.put16.ensures c.put16-2.ensures c.seal_front.ensures.buffer_after
