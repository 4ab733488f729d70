use Rattle.gateway_home.proofs.Laws.{own_none, own_tested}
use Rattle.gateway_home.proofs.is_own_first.Goals as goal

pub returns-in-empty : goal.returns-in-empty
returns-in-empty g c = own_none g.R.LentRow.as_row c.args.own c.args.rows.now c.in-empty.len_below

pub returns-in-len1-up : goal.returns-in-len1-up
returns-in-len1-up g c = rw (c.gateway.ensures, c.first-item.is) (own_tested g.R.LentRow.as_row c.args.own c.first-item.result c.args.rows.now c.in-len1-up.len_at_least)
