use Rattle.std.proofs.Common.{◌∙◌, sym, length, le-leb}
use Rattle.std.proofs.lemmas.Bool.{lt-leb}
use Rattle.std.proofs.lemmas.List.{length-map}
use Rattle.update_writing.specs.Writable.{writable_rows}
use Rattle.update_writing.proofs.Loops.{bad_row, bad_side, good_side, no_row}
use Rattle.update_writing.proofs.are_writable.Goals as goal

pub returns-then-rows-gt-MOST_ROWS : goal.returns-then-rows-gt-MOST_ROWS
unfolding writable_rows
returns-then-rows-gt-MOST_ROWS g c = rw (length-map, lt-leb (length c.args.rows.now) 128 c.if-rows-gt-MOST_ROWS.true)

pub loop-row-init : goal.loop-row-init
unfolding writable_rows
loop-row-init g c = rw (length-map, le-leb (length c.args.rows.now) 128 c.if-rows-gt-MOST_ROWS.false)

pub returns-then-not-is_good_row : goal.returns-then-not-is_good_row
returns-then-not-is_good_row g c =
    sym (c.loop-row.invariant
    ∙ bad_row g.R.LentRow.as_row c.args.rows.now c.loop-row.row-index c.row-item.result c.row-item.is c.loop-row-test.true c.args.net c.loop-row.side
    (sym c.is_good_row.ensures ∙ c.if-not-is_good_row.true))

pub returns-then-third-side : goal.returns-then-third-side
returns-then-third-side g c =
    sym (c.loop-row.invariant
    ∙ bad_side g.R.LentRow.as_row c.args.rows.now c.loop-row.row-index c.row-item.result c.row-item.is c.loop-row-test.true c.args.net c.loop-row.side
    (sym c.is_good_row.ensures ∙ c.if-not-is_good_row.false) (rw c.third.ensures at c.if-third-side.true))

pub loop-row-preserved : goal.loop-row-preserved
loop-row-preserved g c =
    rw c.third-side.ensures
    (c.loop-row.invariant
    ∙ good_side g.R.LentRow.as_row c.args.rows.now c.loop-row.row-index c.row-item.result c.row-item.is c.loop-row-test.true c.args.net c.loop-row.side
    (sym c.is_good_row.ensures ∙ c.if-not-is_good_row.false) (rw c.third.ensures at c.if-third-side.false))

pub returns : goal.returns
returns g c = sym (c.loop-row.invariant ∙ no_row g.R.LentRow.as_row c.args.net c.loop-row.side c.args.rows.now c.loop-row.row-index c.loop-row-test.false)
