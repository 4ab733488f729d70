-- A home list as rows.
use Rattle.std.specs.Prelude.{Bool, ◌&&◌, List, leb, length}
use Rattle.checks.specs.Lists.{every}
use Rattle.nets.specs.Rows.{Row}
use Rattle.neighbour.specs.declared.Settings.{Settings}
use Rattle.gateway_rules.specs.Home.{home_row, own_first}

-- at most 128 rows, each a home row, and the first gateway our own
abbrev pub good_rows : Settings → List Row → Bool
good_rows g rows = leb (length rows) 128 && every (home_row g.net) rows && own_first g.own rows
