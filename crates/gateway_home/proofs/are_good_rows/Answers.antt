use Rattle.std.proofs.Common.{◌≡◌, leb, length, map, ◌&&◌, le-leb}
use Rattle.std.proofs.lemmas.Bool.{lt-leb}
use Rattle.std.proofs.lemmas.List.{length-map}
use Rattle.checks.specs.Lists.{every}
use Rattle.gateway_rules.specs.Home.{home_row}
use Rattle.gateway_home.proofs.are_good_rows.Goals.{then-rows-le-MOST_ROWS, else-rows-le-MOST_ROWS}
use Rattle.gateway_home.proofs.are_good_rows.Goals as goal

pub returns-then-are_good_rows : goal.returns-then-are_good_rows
unfolding home_row
returns-then-are_good_rows g c =
    let v : c.if-rows-le-MOST_ROWS.value ≡ (leb (length (map g.R.LentRow.as_row c.args.rows.now)) 128 && every (home_row c.args.settings.net) (map g.R.LentRow.as_row c.args.rows.now)) = elim c.if-rows-le-MOST_ROWS.branch [
      | then-rows-le-MOST_ROWS w ↦ rw (w.value-is, length-map, le-leb (length c.args.rows.now) 128 w.if-rows-le-MOST_ROWS.true) w.are_good_rows.ensures
      | else-rows-le-MOST_ROWS w ↦ rw (w.value-is, length-map, lt-leb (length c.args.rows.now) 128 w.if-rows-le-MOST_ROWS.false)
    ] in
    rw (← v, c.if-are_good_rows.true) c.is_own_first.ensures

pub returns-else-are_good_rows : goal.returns-else-are_good_rows
unfolding home_row
returns-else-are_good_rows g c =
    let v : c.if-rows-le-MOST_ROWS.value ≡ (leb (length (map g.R.LentRow.as_row c.args.rows.now)) 128 && every (home_row c.args.settings.net) (map g.R.LentRow.as_row c.args.rows.now)) = elim c.if-rows-le-MOST_ROWS.branch [
      | then-rows-le-MOST_ROWS w ↦ rw (w.value-is, length-map, le-leb (length c.args.rows.now) 128 w.if-rows-le-MOST_ROWS.true) w.are_good_rows.ensures
      | else-rows-le-MOST_ROWS w ↦ rw (w.value-is, length-map, lt-leb (length c.args.rows.now) 128 w.if-rows-le-MOST_ROWS.false)
    ] in
    rw (← v, c.if-are_good_rows.false)
