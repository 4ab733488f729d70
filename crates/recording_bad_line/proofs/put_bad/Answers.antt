-- `recording_bad_line::put_bad` meets its contract: the report is a line of text, at the front. Assumes nothing.
use Rattle.std.proofs.Common.{rules}
use native.Mathlib.Omega.{arith}
use mathlib.Core.Path.{ap, ◌∙◌}
use lib.ListN.{length}
use Rattle.text.specs.Text.{text}
use Rattle.text.specs.Writer.{HasRoom}
use Rattle.text.proofs.Writing.{laid}
use Rattle.recording_bad_line.specs.BadLine.{bad_text}
use Rattle.recording_bad_line.proofs.Laws.{bad_length}
use Rattle.recording_bad_line.proofs.put_bad.Goals as goal

pub put_line-requires : goal.put_line-requires
unfolding text bad_text
put_line-requires c = omega (arith, bad_length c.args.number (omega arith), c.new-writer.ensures.begun, ap length c.new-writer.ensures.after, c.requires)

pub returns : goal.returns
unfolding text bad_text
returns c =
    let room : HasRoom c.new-writer.result (bad_text c.args.number) = omega (arith, bad_length c.args.number (omega arith), c.new-writer.ensures.begun, ap length c.new-writer.ensures.after, c.requires) in
    let both = laid c.new-writer.ensures.begun c.new-writer.ensures.after room c.put_line.ensures in
    record { value = c.end.ensures ∙ both.0; out_after = search (rules, both.1) }
