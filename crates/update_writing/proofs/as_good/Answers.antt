use Rattle.std.proofs.Common.{rules, tests}
use Rattle.std.proofs.lemmas.Iterator.{YieldsList-from_slice, IsFirst-from_position}
use Rattle.update_writing.proofs.Alike.{AsGood, first_found}
use Rattle.update_writing.proofs.as_good.Goals as goal

pub returns : goal.returns
returns g c =
    let f = first_found g.R.LentRow.as_row c.args.row.now c.args.rows.now c.position.result
    (IsFirst-from_position _ _ c.position.result (λ _. Unit {0}) (AsGood g.R.LentRow.as_row c.args.row.now) c.position.ensures.ran
    (YieldsList-from_slice c.args.rows.now cc) (λ x q k. tt) (λ x q k. search (rules, tests))) in
    rw c.unwrap_or.ensures (record { upper_bound = f.0; rows_value = f.1 })
