-- The listing's text, of any used slots: 01's "The listing". Nothing here knows of the state or the table.
use Rattle.std.specs.Prelude.{ℕ, ◌%◌, cond, List, [], ◌∷◌, ◌++◌, map, leb, length}
use Rattle.checks.specs.Lists.{join}
use Rattle.text.specs.Text.{text, decimal, dotted, line}
use Rattle.nets.specs.Rows.{Row}
use Rattle.neighbour.specs.declared.Phase.{Phase}
use Rattle.neighbour.specs.declared.Phase.TheVariants.{Idle, Acquisition, Down, Up, Cease}
use Rattle.neighbour.specs.declared.Mode.{Mode}
use Rattle.neighbour.specs.declared.Mode.TheVariants.{Unset, Active, Passive}
use Rattle.neighbour.specs.declared.Neighbour.{Neighbour}
use Rattle.neighbour_seconds.specs.declared.Seconds.{Seconds}

-- what is listed of a used slot: its index, and what stands there
pub record Entry : Type 0 where
  pub index : ℕ
  pub address : ℕ
  pub asn : ℕ
  pub neighbour : Neighbour
  pub rows : List Row
  pub seconds : Seconds

abbrev pub entry_for : ℕ → ℕ → ℕ → Neighbour → List Row → Seconds → Entry
entry_for i address asn n rows s = record { index = i; address = address; asn = asn; neighbour = n; rows = rows; seconds = s }

-- 01: "States: idle, acquisition, down, up, cease."
unfoldable pub state_word : Phase → List ℕ
state_word Idle = text "idle"
state_word Acquisition = text "acquisition"
state_word Down = text "down"
state_word Up = text "up"
state_word Cease = text "cease"

-- 01: "Mode is none outside Down and Up": there M is unset
unfoldable pub mode_word : Mode → List ℕ
mode_word Unset = text "none"
mode_word Active = text "active"
mode_word Passive = text "passive"

-- 01: "distance plus 256 if external"
unfoldable pub distance_in : ℕ → ℕ
distance_in third = third % 256

-- 01: "an external row ends `side=ext`"
unfoldable pub side_word : ℕ → List ℕ
side_word third = cond (leb 256 third) (text "ext") (text "int")

-- 02: "the listing gains five lines after `rows`: `sidle`, `sacq`, `sdown`, `sup`, `scease`"
unfoldable pub seconds_lines : Seconds → List (List ℕ)
seconds_lines s =
    line (text "sidle=") (decimal s.idle)
    ∷ line (text "sacq=") (decimal s.acquisition)
    ∷ line (text "sdown=") (decimal s.down)
    ∷ line (text "sup=") (decimal s.up)
    ∷ line (text "scease=") (decimal s.cease)
    ∷ []

-- the lines of a slot before its rows
unfoldable pub head_lines : Entry → List (List ℕ)
head_lines e =
    line (text "slot=") (decimal e.index)
    ∷ line (text "addr=") (dotted e.address)
    ∷ line (text "as=") (decimal e.asn)
    ∷ line (text "state=") (state_word e.neighbour.phase)
    ∷ line (text "mode=") (mode_word e.neighbour.mode)
    ∷ line (text "rows=") (decimal (length e.rows))
    ∷ seconds_lines e.seconds

unfoldable pub row_lines : Row → List (List ℕ)
row_lines row =
    line (text "net=") (dotted row.net)
    ∷ line (text "gw=") (dotted row.gateway)
    ∷ line (text "dist=") (decimal (distance_in row.third))
    ∷ line (text "side=") (side_word row.third)
    ∷ []

unfoldable pub row_text : Row → List ℕ
row_text row = join (row_lines row)

unfoldable pub entry_text : Entry → List ℕ
entry_text e = join (head_lines e) ++ join (map row_text e.rows)

-- how many neighbours there are, then each
unfoldable pub listing_text : List Entry → List ℕ
listing_text entries = line (text "neighbours=") (decimal (length entries)) ++ join (map entry_text entries)
