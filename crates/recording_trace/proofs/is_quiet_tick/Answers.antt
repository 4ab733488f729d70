-- `recording_trace::is_quiet_tick` meets its contract. Assumes nothing.
use Rattle.recording_trace.proofs.Laws.{passed_sent, passed_silent}
use Rattle.recording_trace.proofs.is_quiet_tick.Goals as goal

pub returns-then-o-ne0 : goal.returns-then-o-ne0
returns-then-o-ne0 c = λ received. passed_sent c.args.deed c.args.address received c.args.st c.args.o c.args.reply.now c.requires c.if-o-ne0.true

pub returns : goal.returns
returns c = λ received. passed_silent c.args.deed c.args.address received c.args.st c.args.o c.args.reply.now c.requires c.if-o-ne0.false c.slot_for.ensures c.slot_for-2.ensures c.is_unchanged.ensures
