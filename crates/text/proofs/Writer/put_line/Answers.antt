-- `text::Writer::put_line` meets its contract: name, value, end of line. Assumes nothing.
use Rattle.std.proofs.Common.{rules}
use mathlib.Core.Path.{refl}
use Rattle.octets.proofs.Storing.{written_append}
use Rattle.text.specs.Text.{line}
use Rattle.text.proofs.Writer.put_line.Goals as goal

pub returns : goal.returns
unfolding line
returns g c =
    let w = written_append _ _ c.store-start.ensures (written_append _ _ c.store-end.ensures c.put-self.ensures) in
    record { same_reference = refl; list = w.list; long = search rules; after = w.after }
