-- `gateway_stages::note_reach` meets its contract. Assumes nothing.
use mathlib.Core.Path.{◌∙◌, ap}
use Rattle.neighbour_machine.specs.declared.Reply.TheVariants.{One}
use Rattle.gateway_stages.proofs.Reaching.{left_by, hello_says, other_says}
use Rattle.gateway_stages.proofs.note_reach.Goals as goal

pub returns-in-Hello : goal.returns-in-Hello
returns-in-Hello c = left_by _ _ _ c.requires _ _ _ c.set_r.ensures c.note.ensures c.recount-next.ensures _ (ap One c.i_heard_you_message.ensures ∙ hello_says _ _ _ _ _ _ c.in-Hello.is)

pub returns-in_default : goal.returns-in_default
returns-in_default c = left_by _ _ _ c.requires _ _ _ c.set_r.ensures c.note.ensures c.recount-next.ensures _ (other_says _ _ c.args.m c.in_default.not-Hello)
