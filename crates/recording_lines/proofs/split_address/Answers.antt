-- `recording_lines::split_address` meets its contract. Assumes nothing.
use Rattle.std.proofs.Common.{sym, ◌∙◌}
use Rattle.recording_lines.proofs.Reader.{no_slash, no_address, address_read}
use Rattle.recording_lines.proofs.split_address.Goals as goal

pub returns-in_err-front : goal.returns-in_err-front
returns-in_err-front c = λ event. rw c.from_residual.ensures (no_slash event c.args.value.now c.in_err-front.ensures)

pub returns-in_err-read_dotted : goal.returns-in_err-read_dotted
returns-in_err-read_dotted c =
    λ event. rw c.from_residual-in_err-read_dotted.ensures (no_address event c.args.value.now c.in_ok-front.ensures (sym c.read_dotted.ensures ∙ c.in_err-read_dotted.was))

pub returns : goal.returns
returns c = λ event. address_read event c.args.value.now c.in_ok-front.ensures _ (sym c.read_dotted.ensures ∙ c.in_ok-read_dotted.was)
