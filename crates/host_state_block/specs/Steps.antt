-- What the functions that check the slots of a block promise.
use Rattle.std.specs.Prelude.{ℕ, zero, suc, Bool, true, ◌&&◌, List, take, drop}
use Rattle.neighbour.specs.declared.Settings.{Settings}
use Rattle.gateway_state.specs.Formed.{slot_formed}
use Rattle.host_state_block.specs.Block.{slot_size, slot_in}
use Rattle.host_state_block.specs.Formed.{in_range}

-- a slot's octets: in range, and formed
unfoldable pub part_formed : Settings → List ℕ → Bool
part_formed g part = in_range part && slot_formed g (slot_in part)

-- those of n slots
unfoldable pub parts_formed : Settings → ℕ → List ℕ → Bool
parts_formed g zero l = true
parts_formed g (suc n) l = part_formed g (take slot_size l) && parts_formed g n (drop slot_size l)
