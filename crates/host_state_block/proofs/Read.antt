-- Laws of reading a slot, or the addresses alone. Assumes nothing.
use Prim.Native.Nat.{ℕ, ◌+◌, ◌*◌, ◌-◌, ◌<◌}
use native.Mathlib.Nat.{add-zero}
use native.Mathlib.Omega.{arith}
use mathlib.Core.Path.{◌≡◌, refl, sym, ap, ◌∙◌}
use mathlib.Core.List.{List}
use lib.ListN.{length, get_or, take, drop}
use lib.Seq.{drop-drop, get_or-drop}
use Rattle.std.proofs.lemmas.List.FromFn.{fill_by_all}
use Rattle.octets.specs.Numbers.{word32}
use Rattle.gateway_state.specs.declared.Slot.{Slot}
use Rattle.gateway_state.proofs.SlotLaws.{address_at, addresses_length}
use Rattle.gateway_state.specs.Slots.{free_slot, slot_at, address_of, addresses}
use Rattle.host_state_block.specs.Layout.{numbers_at}
use Rattle.host_state_block.specs.Block.{own_size, slot_size, slot_start, slot_of, slot_in, slots_in, state_in}
use Rattle.host_state_block.proofs.Slots.{slots_count, slots_get, address_part}

-- the part from a slot's start on
slot_is : (block : List ℕ) (i start : ℕ) → i < 8 → start ≡ slot_start i → slot_in (take slot_size (drop start block)) ≡ slot_at (state_in block) i
unfolding slot_at state_in
slot_is block i start h e =
    ap (λ (k : ℕ). slot_in (take slot_size (drop k block))) e
    ∙ ap (λ (l : List ℕ). slot_in (take slot_size l)) (sym (drop-drop (i * slot_size) own_size block))
    ∙ sym (slots_get 8 (drop own_size block) i free_slot h)

pub slot_part : (block : List ℕ) (i start : ℕ) → i < 8 → start ≡ slot_start i
    → slot_in (take (start + slot_size - start) (drop start block)) ≡ slot_at (state_in block) i
slot_part block i start h e =
    let n : start + slot_size - start ≡ slot_size = omega arith in
    ap (λ (k : ℕ). slot_in (take k (drop start block))) n ∙ slot_is block i start h e

-- an address stands at the front of its slot
address_read : (l : List ℕ) (at : ℕ) → word32 l at ≡ address_of (slot_in (drop at l))
unfolding slot_in slot_of numbers_at
address_read l at =
    rw (get_or-drop at l 0 0, get_or-drop at l 1 0, get_or-drop at l 2 0, get_or-drop at l 3 0, add-zero at)

pub address_start : (block : List ℕ) (i start : ℕ) → i < 8 → start ≡ slot_start i → word32 block start ≡ address_of (slot_at (state_in block) i)
address_start block i start h e = address_read block start ∙ sym (address_part (drop start block)) ∙ ap address_of (slot_is block i start h e)

pub state_eight : (block : List ℕ) → length (state_in block).slots ≡ 8
unfolding state_in
state_eight block = slots_count 8 (drop own_size block)

-- lists that have the same elements
pub slots_are : (block : List ℕ) (l : List Slot) → length l ≡ 8 → ((i : ℕ) → i < 8 → get_or l i free_slot ≡ slot_at (state_in block) i) → l ≡ (state_in block).slots
unfolding slot_at
slots_are block l e f =
    fill_by_all (slot_at (state_in block)) l 8 free_slot e f
    ∙ sym (fill_by_all (slot_at (state_in block)) (state_in block).slots 8 free_slot (state_eight block) (λ i h. refl))

pub addresses_are : (block l : List ℕ) → length l ≡ 8 → ((i : ℕ) → i < 8 → get_or l i 0 ≡ address_of (slot_at (state_in block) i)) → l ≡ addresses (state_in block)
addresses_are block l n f =
    let at = λ (i : ℕ). address_of (slot_at (state_in block) i) in
    fill_by_all at l 8 0 n f
    ∙ sym (fill_by_all at (addresses (state_in block)) 8 0 (addresses_length (state_in block) ∙ state_eight block) (λ i h. address_at (state_in block) i))
