use Rattle.std.proofs.Common.{arith, sym, ◌∙◌}
use Rattle.update_writing.proofs.Alike.{bad_front, good_front, no_front}
use Rattle.update_writing.proofs.are_good_rows.Goals as goal

pub returns-then-not-is_good_row : goal.returns-then-not-is_good_row
returns-then-not-is_good_row g c =
    sym (c.loop-row.invariant
    ∙ bad_front g.R.LentRow.as_row c.args.common c.args.most c.loop-row.rest.now _ _ c.in-Some.ensures.cases.0 (sym c.is_good_row.ensures ∙ c.if-not-is_good_row.true))

pub loop-row-preserved : goal.loop-row-preserved
loop-row-preserved g c =
    let e = sym c.is_good_row.ensures ∙ c.if-not-is_good_row.false in
    c.loop-row.invariant
    ∙ good_front g.R.LentRow.as_row c.args.common c.args.most c.loop-row.rest.now _ _ c.in-Some.ensures.cases.0 e c.as_good.result (c.as_good.ensures.rows_value c.args.common c.args.most e)

pub returns : goal.returns
returns g c = sym (c.loop-row.invariant ∙ no_front g.R.LentRow.as_row c.args.common c.args.most c.loop-row.rest.now c.in_default.ensures.cases)
