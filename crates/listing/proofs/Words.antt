-- A state of the code has eight slots and 16-bit ASs: what the machine's values tell of each slot. Assumes nothing.
use Prim.Native.Nat.{ℕ, zero, suc, ◌<◌}
use native.Mathlib.Omega.{arith}
use mathlib.Core.Path.{◌≡◌}
use mathlib.Core.List.{List, [], ◌∷◌}
use lib.ListN.{length, get_or}
use mir.Val.{Val}
use base.Fml.{Fml}
use denote.Array.{each}
use denote.Shadow.{shadow}
use Rattle.gateway_state.specs.declared.Slot.{Slot}
use Rattle.gateway_state.specs.declared.State.{State}
use Rattle.gateway_state.specs.Slots.{free_slot, slot_at}
use Rattle.listing.specs.Claims.{Typed}

-- what is told of each element of an array holds of the one at any index
module _ {X : Type 0} (f : X → List Val → Fml) (P : X → Type 0) (h : (x : X) (vs : List Val) → shadow (f x vs) → P x) (d : X) (p : P d) where
  each_at : (l : List X) (us : List Val) → shadow (each X f l us) → (i : ℕ) → P (get_or l i d)
  each_at [] us g i = p
  each_at (x ∷ l) [] g i = absurd g
  each_at (x ∷ l) (u ∷ us) g zero = h x (u ∷ []) g.0
  each_at (x ∷ l) (u ∷ us) g (suc i) = each_at l us g.1 i

pub typed_of : (st : State) (f : Slot → List Val → Fml) → ((x : Slot) (vs : List Val) → shadow (f x vs) → x.asn < 65536)
    → (us : List Val) → length st.slots ≡ 8 → shadow (each Slot f st.slots us) → Typed st
unfolding slot_at free_slot
typed_of st f h us e g = record { eight = e; words = each_at f (λ (s : Slot). s.asn < 65536) h free_slot (omega arith) st.slots us g }
