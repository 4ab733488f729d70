use Rattle.std.proofs.Common.{◌≡◌, sym, ◌∙◌}
use Rattle.update_writing.proofs.Alike.{same_beside, as_good_row}
use Rattle.update_writing.proofs.is_as_good.Goals as goal

pub returns-then-beside : goal.returns-then-beside
returns-then-beside g c =
    λ e. as_good_row (g.R.LentRow.as_row c.args.row.now) (g.R.LentRow.as_row c.args.next.now)
    (same_beside _ _ _ _ c.beside.ensures.1 c.beside-2.ensures.1 (sym c.beside.ensures.0 ∙ c.if-beside.true ∙ c.beside-2.ensures.0))
    (rw c.net.ensures at (sym c.good_net.ensures ∙ e))
