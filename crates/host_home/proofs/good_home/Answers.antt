use Rattle.std.proofs.Common.{refl, sym, ◌∙◌, ◌≡◌, ◌/◌, ◌%◌, length, eqb-true}
use Rattle.host_home.proofs.Home.{home_good, home_ragged}
use Rattle.host_home.proofs.good_home.Goals as goal

pub returns-then-is_empty : goal.returns-then-is_empty
returns-then-is_empty c =
    let e : length c.args.home.now % 12 ≡ 0 = sym c.as_chunks.ensures.back_len ∙ eqb-true _ 0 (sym c.is_empty.ensures ∙ c.if-is_empty.true) in
    rw (← home_good c.args.settings (length c.args.home.now / 12) c.args.home.now refl e, ← c.as_chunks.ensures.front) c.are_good_rows.ensures

pub returns-else-is_empty : goal.returns-else-is_empty
returns-else-is_empty c =
    rw (c.if-is_empty.false, home_ragged c.args.settings c.args.home.now (rw (← c.as_chunks.ensures.back_len) (sym c.is_empty.ensures ∙ c.if-is_empty.false)))
