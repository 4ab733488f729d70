use Prim.Native.Nat.{ℕ, ◌<◌}
use mathlib.Core.Path.{◌≡◌}
use lib.ListN.{length, get_or}
use Rattle.gateway_state.specs.Slots.{free_slot}
use Rattle.gateway_state.proofs.addresses_of.Given as goal

abbrev pub invariant-loop-i : goal.invariant-loop-i
invariant-loop-i l = (length l.addresses ≡ 8) × ((k : ℕ) → k < l.i → get_or l.addresses k 0 ≡ (get_or l.st.slots k free_slot).address)
