-- `recording_lines::own` meets its contract. Assumes nothing.
use Rattle.std.proofs.Common.{None, sym, ◌∙◌}
use Rattle.text.specs.Text.{text}
use Rattle.text_values.specs.Numbers.{dotted_of}
use Rattle.recording_lines.specs.Lines.{own_of}
use Rattle.recording_lines.proofs.Reader.{with_key, without_key}
use Rattle.recording_lines.proofs.own.Goals as goal

pub returns-in_err-strip_prefix : goal.returns-in_err-strip_prefix
unfolding own_of text
returns-in_err-strip_prefix c =
    c.from_residual.ensures ∙ sym (without_key (text "own=") dotted_of None c.args.line.now c.in_err-strip_prefix.ensures.cases)

pub returns : goal.returns
unfolding own_of text
returns c =
    let there = c.in_ok-strip_prefix.ensures.cases in
    c.read_dotted.ensures ∙ with_key (text "own=") dotted_of None c.args.line.now there.0 there.1
