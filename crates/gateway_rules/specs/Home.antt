-- The home list. 01: "A home list is good when it is at most 128 whole rows, each a left-justified A, B or C net, a gateway on the common net and a number at most 255, the first gateway being our own address. It may be empty."
use Rattle.std.specs.Prelude.{ℕ, ◌%◌, Bool, true, ◌&&◌, List, [], ◌∷◌, leb, eqb, length}
use Rattle.checks.specs.Lists.{every}
use Rattle.nets.specs.Classes.{good_net, on_net}
use Rattle.nets.specs.Rows.{Row, rows_of}
use Rattle.neighbour.specs.declared.Settings.{Settings}

-- "at most 128 whole rows", three numbers a row
abbrev pub most_home_numbers : ℕ
most_home_numbers = 384

-- one row of it
unfoldable pub home_row : ℕ → Row → Bool
home_row net row = good_net row.net && on_net net row.gateway && leb row.third 255

-- "the first gateway being our own address"
unfoldable pub own_first : ℕ → List Row → Bool
own_first own [] = true
own_first own (row ∷ rest) = eqb row.gateway own

unfoldable pub good_home : Settings → List ℕ → Bool
good_home g home =
    eqb (length home % 3) 0 && leb (length home) most_home_numbers && every (home_row g.net) (rows_of home) && own_first g.own (rows_of home)
