-- What a C host lends, as the gateway's own calls take it.
use Rattle.std.specs.Prelude.{ℕ, Bool, cond, ◌&&◌, List, [], eqb, length}
use Rattle.octets_words.specs.Words.{words_of}
use Rattle.host_home.specs.Home.{home_in}
use Rattle.host_state_block.specs.Block.{state_in}
use Rattle.host_state_block.specs.Formed.{block_fits, block_in_range}
use Rattle.model.specs.Model.{Call, add, remove, happen, receive, listing}
use Rattle.model.specs.Theorem.{Gateway}

-- 02: "one that holds the table, 12,288 octets big-endian"
abbrev pub table_size : ℕ
table_size = 12288

-- the table's numbers; of another length it holds no table, and is answered 2 as one of no numbers is
unfoldable pub table_in : List ℕ → List ℕ
table_in octets = cond (eqb (length octets) table_size) (words_of octets) []

-- the state and the table
unfoldable pub held : List ℕ → List ℕ → Gateway
held block table = record { state = state_in block; table = table_in table }

-- a block that holds a state: of its length, each slot's state and mode one of 01's
unfoldable pub holds_state : List ℕ → Bool
holds_state block = block_fits block && block_in_range block

-- a call of the host's is the gateway's call, its home list's octets read as numbers
unfoldable pub as_gateway : Call → Call
as_gateway (add address asn) = add address asn
as_gateway (remove address) = remove address
as_gateway (happen event a buffer) = happen event a buffer
as_gateway (receive a o home buffer) = receive a o (home_in home) buffer
as_gateway (listing buffer) = listing buffer
