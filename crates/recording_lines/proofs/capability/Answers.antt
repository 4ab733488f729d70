-- `recording_lines::capability` meets its contract. Assumes nothing.
use Rattle.std.proofs.Common.{None, sym, ◌∙◌}
use Rattle.text.specs.Text.{text}
use Rattle.text_values.specs.Numbers.{decimal_of}
use Rattle.recording_lines.specs.Lines.{capability_of}
use Rattle.recording_lines.proofs.Reader.{with_key, without_key}
use Rattle.recording_lines.proofs.capability.Goals as goal

pub returns-in_err-strip_prefix : goal.returns-in_err-strip_prefix
unfolding capability_of text
returns-in_err-strip_prefix c =
    c.from_residual.ensures ∙ sym (without_key (text "cap=") (decimal_of 255) None c.args.line.now c.in_err-strip_prefix.ensures.cases)

pub returns : goal.returns
unfolding capability_of text
returns c =
    let there = c.in_ok-strip_prefix.ensures.cases in
    c.read_decimal.ensures ∙ with_key (text "cap=") (decimal_of 255) None c.args.line.now there.0 there.1
