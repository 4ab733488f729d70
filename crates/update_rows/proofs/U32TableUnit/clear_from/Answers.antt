-- `clear_from` of a table of numbers meets its contract: zeros to the end. Assumes nothing.
use Rattle.std.proofs.Common.{rules}
use Rattle.update_rows.proofs.Laws.{filled, part_cleared}
use Rattle.update_rows.proofs.U32TableUnit.clear_from.Goals as goal

pub returns : goal.returns
returns c = part_cleared c.args.part.now c.fill.new.self c.args.at c.requires (filled c.args.part.now c.fill.new.self c.args.at (c.fill.ensures.after (λ y h. search rules)))
