use Rattle.message_writing.proofs.Laws.{words_written}
use Rattle.message.specs.declared.Kind.TheVariants.{Error}
use Rattle.message_writing.proofs.write_error.Goals as goal

pub returns-clause-value : goal.returns-clause-value
returns-clause-value c = c.seal_front.ensures.value

pub returns-clause-buffer_after : goal.returns-clause-buffer_after
returns-clause-buffer_after c = words_written c.args.buffer.now _ _ Error c.args.asn c.args.sequence c.args.status c.header.ensures c.store.ensures.buffer_after c.requires c.args.reason c.args.first c.args.second c.args.third _ _ _ _ _ c.put16.ensures c.put32.ensures c.put32-2.ensures c.put32-3.ensures c.seal_front.ensures.buffer_after
