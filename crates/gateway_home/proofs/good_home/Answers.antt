use Rattle.std.proofs.Common.{refl, sym, ◌∙◌, ◌≡◌, ◌/◌, ◌%◌, length, eqb-true}
use Rattle.update_writing.proofs.Lists.{rows_chunks}
use Rattle.gateway_home.proofs.Laws.{whole_home, ragged_home}
use Rattle.gateway_home.proofs.good_home.Goals as goal

pub returns-then-is_empty : goal.returns-then-is_empty
returns-then-is_empty c =
    let e : length c.args.home.now % 3 ≡ 0 = sym c.as_chunks.ensures.back_len ∙ eqb-true _ 0 (sym c.is_empty.ensures ∙ c.if-is_empty.true) in
    rw (whole_home c.args.settings c.args.home.now e, ← rows_chunks (length c.args.home.now / 3) c.args.home.now refl, ← c.as_chunks.ensures.front) c.are_good_rows.ensures

pub returns-else-is_empty : goal.returns-else-is_empty
returns-else-is_empty c =
    rw (c.if-is_empty.false, ragged_home c.args.settings c.args.home.now (rw (← c.as_chunks.ensures.back_len) (sym c.is_empty.ensures ∙ c.if-is_empty.false)))
