-- Storing the rows of an Update in a slot's part of a table of octets.
use Rattle.std.specs.Prelude.{ℕ, ◌*◌, ◌≤◌, ◌≡◌, true, List, length}
use Rattle.update_walk.specs.Body.{walked_blocks}
use Rattle.update_rows.specs.Storing.{is_whole, walked_rows}

-- what storing may take for granted: the walk was good, there is room for its rows, and the part is a slot's: 128 rows
-- of 12 octets
pub record OctetsStorable (net : ℕ) (message part : List ℕ) : Type 0 where
  pub sound : is_whole (walked_blocks net message) ≡ true
  pub room : 12 * length (walked_rows (walked_blocks net message)) ≤ length part
  pub long : length part ≡ 1536
