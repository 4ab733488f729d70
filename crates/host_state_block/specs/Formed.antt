-- Check 1 of a block. 02: "ranges still give 1": a state above 4 and a mode above 2 stand for none, whatever else holds.
use Rattle.std.specs.Prelude.{ℕ, zero, suc, Bool, true, ◌&&◌, List, leb, eqb, length, take, drop}
use Rattle.gateway_state.specs.Formed.{state_formed}
use Rattle.host_state_block.specs.Layout.{numbers_at}
use Rattle.host_state_block.specs.Block.{slot_fields, own_size, slot_size, block_size, phase_field, mode_field, state_in}

-- "states from 0 as listed, mode none, active, passive 0 to 2"
unfoldable pub in_range : List ℕ → Bool
in_range part = leb (phase_field (numbers_at slot_fields part 0)) 4 && leb (mode_field (numbers_at slot_fields part 0)) 2

-- of the first n slots
unfoldable pub all_in_range : ℕ → List ℕ → Bool
all_in_range zero l = true
all_in_range (suc n) l = in_range (take slot_size l) && all_in_range n (drop slot_size l)

unfoldable pub block_in_range : List ℕ → Bool
block_in_range block = all_in_range 8 (drop own_size block)

-- 20: "wrong state block length"
abbrev pub block_fits : List ℕ → Bool
block_fits block = eqb (length block) block_size

-- check 1, of a block of the right length
unfoldable pub block_formed : List ℕ → Bool
block_formed block = block_in_range block && state_formed (state_in block)
