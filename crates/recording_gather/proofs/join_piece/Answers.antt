-- `recording_gather::join_piece` meets its contract. Assumes nothing.
use mathlib.Core.Path.{sym}
use lib.Seq.{length-take-le}
use Rattle.recording_gather.proofs.Laws.{front_fits, joined}
use Rattle.recording_gather.proofs.join_piece.Goals as goal

pub slice_bounds-put-end : goal.slice_bounds-put-end
slice_bounds-put-end c = sym (length-take-le 4118 c.args.line.now c.requires.0)

pub put-requires : goal.put-requires
put-requires c = front_fits c.args.line.now c.args.whole.now c.requires.0 c.requires.1

pub returns-clause-value : goal.returns-clause-value
returns-clause-value c = c.gather.ensures.value

pub returns-clause-whole_after : goal.returns-clause-whole_after
returns-clause-whole_after c = joined c.args.line.now c.args.whole.now c.requires.0 c.requires.1 c.args.held c.args.input.now _ _ c.put.ensures.list c.gather.ensures.line_after
