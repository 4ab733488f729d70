-- What the program lends the player.
use Rattle.std.specs.Prelude.{ℕ, ◌≡◌, List, length}

-- the sizes with which the theorem about recordings is stated: the longest line and one octet more, eight times 128 rows, and twice a
-- listing, so that as much may be gathered before a step still finds room
pub record Rooms (line table out : List ℕ) : Type 0 where
  pub line_size : length line ≡ 4118
  pub table_size : length table ≡ 3072
  pub out_size : length out ≡ 131072
