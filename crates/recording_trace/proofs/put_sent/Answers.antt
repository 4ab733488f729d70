-- `recording_trace::put_sent` meets its contract. Assumes nothing.
use Rattle.text.specs.Text.{text}
use borrow.Author.Tests.{eqb-true, eqb-false}
use mathlib.Core.Path.{sym, ◌∙◌}
use Rattle.recording_trace.proofs.Laws.{not_sent, is_sent}
use Rattle.recording_trace.proofs.put_sent.Goals as goal

pub returns-then-not-is_empty-clause-written : goal.returns-then-not-is_empty-clause-written
unfolding text
returns-then-not-is_empty-clause-written c = rw (is_sent c.args.net c.args.message.now (eqb-false _ _ (sym c.is_empty.ensures ∙ c.if-not-is_empty.true))) c.put_message.ensures.written

pub returns-else-not-is_empty-clause-written : goal.returns-else-not-is_empty-clause-written
returns-else-not-is_empty-clause-written c = not_sent c.args.net c.args.message.now (eqb-true _ _ (sym c.is_empty.ensures ∙ c.if-not-is_empty.false)) c.args.out.now
