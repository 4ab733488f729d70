-- `recording_bad_line::one_more` meets its contract. Assumes nothing.
use native.Mathlib.Omega.{arith}
use mathlib.Core.Path.{◌∙◌}
use Rattle.recording_bad_line.proofs.Laws.{counted}
use Rattle.recording_bad_line.proofs.one_more.Goals as goal

pub returns : goal.returns
returns c = c.saturating_add.ensures ∙ counted c.args.lines (omega arith)
