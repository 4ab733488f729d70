-- `listing_lines::put_seconds` meets its contract, line by line. Assumes nothing.
use Rattle.checks.specs.Lists.{join}
use Rattle.text.specs.Text.{text}
use Rattle.text.proofs.Writing.{puts_nothing, puts_both}
use Rattle.listing_lines.specs.Lines.{seconds_lines}
use Rattle.listing_lines.proofs.put_seconds.Goals as goal

pub returns : goal.returns
unfolding join text seconds_lines
returns c = puts_both c.put_line.ensures (puts_both c.put_line-2.ensures (puts_both c.put_line-3.ensures (puts_both c.put_line-4.ensures (puts_both c.put_line-5.ensures (puts_nothing _)))))
