-- What the functions that walk the slots promise, and what they rest on.
use Rattle.std.specs.Prelude.{ℕ, ◌*◌, true, ◌≡◌, List, length, take, drop}
use Rattle.gateway_state.specs.Places.{place}
use Rattle.gateway_state.specs.Formed.{state_formed}
use Rattle.host_state_block.specs.Block.{block_size, state_in}
use Rattle.host_rules.specs.Held.{table_size}

-- a block and a table that passed the checks on them alone
pub record Lent (block table : List ℕ) : Type 0 where
  pub block_long : length block ≡ block_size
  pub formed : state_formed (state_in block) ≡ true
  pub table_long : length table ≡ table_size

-- the octets of so many rows of slot i, twelve a row, given the row counts of all slots
unfoldable pub used_octets : List ℕ → List ℕ → ℕ → ℕ → List ℕ
used_octets table counts i rows = take (12 * rows) (drop (4 * place counts i) table)
