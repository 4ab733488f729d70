use mathlib.Core.Path.{sym, ◌∙◌}
use Rattle.codec.specs.Writing.{rows_allowed}
use Rattle.codec_writing.specs.Room.{rows_fit}
use Rattle.codec.proofs.Laws.{other_rows}
use Rattle.codec.proofs.rows_allowed.Goals as goal

pub returns-then-good_net : goal.returns-then-good_net
unfolding rows_allowed rows_fit
returns-then-good_net c = rw (c.in-Update.is, ← c.good_net.ensures, c.if-good_net.true) c.writable.ensures

pub returns-else-good_net : goal.returns-else-good_net
unfolding rows_allowed rows_fit
returns-else-good_net c = rw (c.in-Update.is, ← c.good_net.ensures, c.if-good_net.false)

pub returns-in_default : goal.returns-in_default
returns-in_default c = c.is_empty.ensures ∙ sym (other_rows _ _ c.in_default.not-Update)
