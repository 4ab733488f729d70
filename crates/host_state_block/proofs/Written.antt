-- Laws of writing a state's block: the settings, then the slots one after the other. Assumes nothing.
use Prim.Native.Nat.{ℕ, suc, ◌+◌, ◌-◌, ◌≤◌, ◌<◌}
use native.Mathlib.Numerals.{add-one}
use native.Mathlib.Omega.{arith}
use borrow.Rule.Slice.PartMut.{put_mid}
use mathlib.Core.Path.{◌≡◌, sym, ap, ◌∙◌}
use mathlib.Core.List.{List, ◌++◌, append-nil, append_assoc}
use lib.ListN.{length, take, drop, get_or, length-append, length-drop, drop_of_length-le}
use lib.Seq.{sets, length-sets, sets-eq, drop-cons, drop-drop}
use Rattle.checks.proofs.Laws.{part_from_lem}
use Rattle.octets.specs.Buffer.{over}
use Rattle.octets.proofs.Numbers.{sets_append, sets_over}
use Rattle.neighbour.specs.declared.Settings.{Settings}
use Rattle.gateway_state.specs.declared.Slot.{Slot}
use Rattle.gateway_state.specs.declared.State.{State}
use Rattle.host_state_block.specs.Block.{own_size, slot_size, block_size, slot_start, own_octets, slot_octets, slots_octets, block_of}
use Rattle.host_state_block.proofs.Slots.{slot_length, slots_length}
use Rattle.host_state_block.proofs.Trip.{own_length}

-- ---- octets stored one after the other

-- octets laid over the part that starts at an index
part_over : (l vs : List ℕ) (at : ℕ) → at + length vs ≤ length l
    → put_mid at (length l - at) l (over vs (take (length l - at) (drop at l))) ≡ sets l at vs
unfolding over
part_over l vs at h =
    let z : length (drop at l) ≤ length l - at = simp length-drop (omega arith) in
    rw (
      part_from_lem at l,
      drop_of_length-le (drop at l) z,
      append-nil (vs ++ drop (length vs) (drop at l)),
      drop-drop (length vs) at l,
      sets-eq vs l at h,
      append_assoc (take at l) vs (drop (at + length vs) l),
    )

-- ---- the slots of a state

-- a slot written into the part that starts at an index
pub slot_put : (l new os : List ℕ) (at : ℕ) (slot : Slot) → at + slot_size ≤ length l → os ≡ slot_octets slot → new ≡ over os (take (length l - at) (drop at l))
    → put_mid at (length l - at) l new ≡ sets l at (slot_octets slot)
slot_put l new os at slot h e f =
    ap (put_mid at (length l - at) l) (f ∙ ap (λ (x : List ℕ). over x (take (length l - at) (drop at l))) e)
    ∙ part_over l (slot_octets slot) at (omega (arith, slot_length slot))

slots_turn : (l new : List ℕ) (at : ℕ) (slots : List Slot) (i : ℕ) (d : Slot) → i < length slots → new ≡ sets l at (slot_octets (get_or slots i d))
    → sets l at (slots_octets (drop i slots)) ≡ sets new (at + slot_size) (slots_octets (drop (i + 1) slots))
unfolding slots_octets
slots_turn l new at slots i d h e =
    ap (λ (s : List Slot). sets l at (slots_octets s)) (drop-cons slots i d h)
    ∙ sets_append l at (slot_octets (get_or slots i d)) (slots_octets (drop (suc i) slots))
    ∙ ap (λ (n : ℕ). sets (sets l at (slot_octets (get_or slots i d))) (at + n) (slots_octets (drop (suc i) slots))) (slot_length (get_or slots i d))
    ∙ ap (λ (k : ℕ). sets (sets l at (slot_octets (get_or slots i d))) (at + slot_size) (slots_octets (drop k slots))) (sym (add-one i))
    ∙ ap (λ (m : List ℕ). sets m (at + slot_size) (slots_octets (drop (i + 1) slots))) (sym e)

-- one more slot, behind i of them
pub slots_next : (l new : List ℕ) (slots : List Slot) (i : ℕ) (d : Slot) → i < length slots → new ≡ sets l (slot_start i) (slot_octets (get_or slots i d))
    → sets l (slot_start i) (slots_octets (drop i slots)) ≡ sets new (slot_start (i + 1)) (slots_octets (drop (i + 1) slots))
slots_next l new slots i d h e =
    let k : slot_start i + slot_size ≡ slot_start (i + 1) = omega arith in
    slots_turn l new (slot_start i) slots i d h e ∙ ap (λ (n : ℕ). sets new n (slots_octets (drop (i + 1) slots))) k

pub slot_kept : (l new : List ℕ) (at : ℕ) (slot : Slot) → new ≡ sets l at (slot_octets slot) → length new ≡ length l
slot_kept l new at slot e = ap length e ∙ length-sets l at (slot_octets slot)

pub slots_done : (l : List ℕ) (at : ℕ) (slots : List Slot) (i : ℕ) → length slots ≤ i → sets l at (slots_octets (drop i slots)) ≡ l
unfolding slots_octets
slots_done l at slots i h = ap (λ (s : List Slot). sets l at (slots_octets s)) (drop_of_length-le slots h)

-- the settings at the front, then the slots
block_over : (l : List ℕ) (settings : Settings) (slots : List Slot) → length slots ≡ 8 → block_size ≤ length l
    → sets (over (own_octets settings) l) (slot_start 0) (slots_octets slots) ≡ over (block_of (record { settings = settings; slots = slots })) l
unfolding block_of
block_over l settings slots e h =
    let o : own_size ≡ 0 + length (own_octets settings) = omega (arith, own_length settings) in
    let n : length (own_octets settings ++ slots_octets slots) ≤ length l
    = rw (length-append (own_octets settings) (slots_octets slots)) (omega (arith, slots_length slots)) in
    ap (λ (m : List ℕ). sets m (slot_start 0) (slots_octets slots)) (sym (sets_over l (own_octets settings) (omega arith)))
    ∙ ap (λ (k : ℕ). sets (sets l 0 (own_octets settings)) k (slots_octets slots)) o
    ∙ sym (sets_append l 0 (own_octets settings) (slots_octets slots))
    ∙ sets_over l (own_octets settings ++ slots_octets slots) n

pub block_written : (l mid new os : List ℕ) (st : State) → length st.slots ≡ 8 → block_size ≤ length l → os ≡ own_octets st.settings → mid ≡ over os l
    → new ≡ sets mid (slot_start 0) (slots_octets st.slots) → new ≡ over (block_of st) l
block_written l mid new os st e h p q r =
    r ∙ ap (λ (m : List ℕ). sets m (slot_start 0) (slots_octets st.slots)) (q ∙ ap (λ (x : List ℕ). over x l) p) ∙ block_over l st.settings st.slots e h
