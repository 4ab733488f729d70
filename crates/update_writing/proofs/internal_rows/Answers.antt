use Rattle.std.proofs.Common.{rules, arith}
use Rattle.update_writing.proofs.Order.{internal_none, internal_all, internal_found}
use Rattle.update_writing.proofs.internal_rows.Goals as goal

pub returns-in_default : goal.returns-in_default
returns-in_default g c = internal_none g.R.LentRow.as_row c.args.rows.now c.in_default.ensures.item.3

pub returns-then-third-lt256 : goal.returns-then-third-lt256
returns-then-third-lt256 g c =
    internal_all g.R.LentRow.as_row c.args.rows.now c.in-Some.last.now c.requires c.in-Some.ensures.item.3.0 c.in-Some.ensures.item.3.1 (omega (arith, c.third.ensures, c.if-third-lt256.true))

pub returns : goal.returns
returns g c =
    internal_found g.R.LentRow.as_row c.args.rows.now c.partition_point.result c.requires c.partition_point.ensures.bound c.partition_point.ensures.partitioned (λ a r f k. search rules)
