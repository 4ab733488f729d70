use Rattle.message_writing.proofs.Laws.{net_written}
use Rattle.message.specs.declared.Kind.TheVariants.{Poll}
use Rattle.message_writing.proofs.write_poll.Goals as goal

pub returns-clause-value : goal.returns-clause-value
returns-clause-value c = c.seal_front.ensures.value

pub returns-clause-buffer_after : goal.returns-clause-buffer_after
returns-clause-buffer_after c = net_written c.args.buffer.now _ _ Poll c.args.asn c.args.sequence c.args.status c.header.ensures c.store.ensures.buffer_after c.requires c.args.net _ _ _ c.put16.ensures c.put32.ensures c.seal_front.ensures.buffer_after
