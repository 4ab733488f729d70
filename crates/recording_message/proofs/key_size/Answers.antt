-- `recording_message::key_size` meets its contract: the key up to its sign, or all of it. Assumes nothing.
use Rattle.std.proofs.Common.{add-one, sym, ◌∙◌}
use borrow.Author.Tests.{lt-ltb, le-ltb, leb-true}
use Rattle.recording_message.specs.Message.{key_size}
use Rattle.text_values.proofs.Laws.{cut_here, cut_none}
use Rattle.recording_message.proofs.key_size.Goals as goal

pub returns-in-Some : goal.returns-in-Some
unfolding key_size
returns-in-Some c =
    let here = cut_here 61 c.args.keys.now c.in-Some.sign (sym c.index_of.ensures ∙ c.in-Some.is) in
    rw (← here.0, lt-ltb _ _ here.1) (add-one _)

pub returns-in-None : goal.returns-in-None
unfolding key_size
returns-in-None c = rw (le-ltb _ _ (leb-true _ _ (cut_none 61 c.args.keys.now (sym c.index_of.ensures ∙ c.in-None.is))))
