-- A block and its state, each from the other. Assumes nothing.
use Prim.Native.Nat.{ℕ, ◌+◌, ◌*◌, ◌<◌}
use native.Mathlib.Omega.{arith}
use mathlib.Core.Path.{◌≡◌, refl, sym, ap, ap₂, ◌∙◌}
use mathlib.Core.Bool.{true}
use mathlib.Core.List.{List, [], ◌∷◌, ◌++◌}
use lib.ListN.{length, take, drop, length-drop, take-append-drop}
use lib.Seq.{sets, drop_at, take_at, length-take-le}
use Rattle.checks.proofs.Laws.{and_left}
use Rattle.octets.specs.Numbers.{Octets}
use Rattle.neighbour.specs.declared.Settings.{Settings}
use Rattle.gateway_state.specs.declared.Slot.{Slot}
use Rattle.gateway_state.specs.declared.State.{State}
use Rattle.gateway_state.specs.Slots.{with_slot}
use Rattle.gateway_state.specs.Formed.{state_formed}
use Rattle.host_state_block.specs.Layout.{Fit, numbers_at, octets_for}
use Rattle.host_state_block.specs.Block.{own_fields, slot_fields, own_size, slot_size, block_size, slot_start, own_numbers, settings_of, slot_numbers, record_of, seconds_of, slot_of, own_octets, slot_octets, slots_octets, block_of, settings_in, slot_in, slots_in, state_in}
use Rattle.host_state_block.specs.Formed.{block_in_range, block_formed}
use Rattle.host_state_block.specs.Claims.{SlotsFit, WrittenReadsBack, BlocksReadBack}
use Rattle.host_state_block.proofs.Fields.{octets_total, numbers_back, octets_back}
use Rattle.host_state_block.proofs.Slots.{phase_back, mode_back, slot_length, octets_take, octets_drop, slots_octets_back, slots_count, slots_set, sets_behind}

-- ---- written, then read

pub own_length : (g : Settings) → length (own_octets g) ≡ own_size
unfolding own_octets
own_length g = octets_total own_fields (own_numbers g)

settings_back : (g : Settings) → Fit own_fields (own_numbers g) → settings_in (own_octets g) ≡ g
unfolding settings_in own_octets settings_of own_numbers
settings_back g f = ap settings_of (numbers_back own_fields (own_numbers g) f) ∙ same
  where
    same : settings_of (own_numbers g) ≡ g
    same = refl

slot_same : (slot : Slot) → slot_of (slot_numbers slot) ≡ slot
unfolding slot_of record_of seconds_of slot_numbers
slot_same slot = rw (phase_back slot.neighbour.phase, mode_back slot.neighbour.mode)

slot_back : (slot : Slot) → Fit slot_fields (slot_numbers slot) → slot_in (slot_octets slot) ≡ slot
unfolding slot_in slot_octets
slot_back slot f = ap slot_of (numbers_back slot_fields (slot_numbers slot) f) ∙ slot_same slot

slots_back : (slots : List Slot) → SlotsFit slots → slots_in (length slots) (slots_octets slots) ≡ slots
unfolding slots_in slots_octets
slots_back [] f = refl
slots_back (slot ∷ rest) f =
    rw (take_at (slot_octets slot) (slots_octets rest) slot_size (slot_length slot), drop_at (slot_octets slot) (slots_octets rest) slot_size (slot_length slot), slot_back slot f.0)
    (ap (λ (r : List Slot). slot ∷ r) (slots_back rest f.1))

pub written_reads_back : WrittenReadsBack
unfolding state_in block_of
written_reads_back st f =
    rw (take_at (own_octets st.settings) (slots_octets st.slots) own_size (own_length st.settings), drop_at (own_octets st.settings) (slots_octets st.slots) own_size (own_length st.settings), settings_back st.settings f.own)
    (ap (λ (r : List Slot). ◌≡-state r) (ap (λ (n : ℕ). slots_in n (slots_octets st.slots)) (sym f.eight) ∙ slots_back st.slots f.slots))
  where
    ◌≡-state : List Slot → State
    ◌≡-state r = record { settings = st.settings; slots = r }

-- ---- read, then written

own_back : (part : List ℕ) → length part ≡ own_size → Octets part → own_octets (settings_in part) ≡ part
unfolding own_octets settings_in settings_of own_numbers numbers_at
own_back part e o = same ∙ octets_back own_fields part e o
  where
    same : octets_for own_fields (own_numbers (settings_of (numbers_at own_fields part 0))) ≡ octets_for own_fields (numbers_at own_fields part 0)
    same = refl

module _ (block : List ℕ) (e : length block ≡ block_size) (o : Octets block) where
  front : length (take own_size block) ≡ own_size
  front = length-take-le own_size block (omega (arith, e))

  own_part : own_octets (settings_in (take own_size block)) ≡ take own_size block
  own_part = own_back (take own_size block) front (octets_take own_size block (omega (arith, e)) o)

  behind : length (drop own_size block) ≡ 8 * slot_size
  behind = length-drop own_size block ∙ omega (arith, e)

  module _ (h : block_in_range block ≡ true) where
    slots_part : slots_octets (slots_in 8 (drop own_size block)) ≡ drop own_size block
    unfolding block_in_range
    slots_part = slots_octets_back 8 (drop own_size block) behind (octets_drop own_size block o) h

    ranged : block_of (state_in block) ≡ block
    unfolding block_of state_in
    ranged = ap₂ (λ (x y : List ℕ). x ++ y) own_part slots_part ∙ take-append-drop own_size block

    slot_put : (i : ℕ) (slot : Slot) → i < 8 → block_of (with_slot (state_in block) i slot) ≡ sets block (slot_start i) (slot_octets slot)
    unfolding block_of state_in with_slot
    slot_put i slot k =
        let n : i < length (slots_in 8 (drop own_size block)) = rw (slots_count 8 (drop own_size block)) k in
        ap₂ (λ (x y : List ℕ). x ++ y) own_part (slots_set (slots_in 8 (drop own_size block)) i slot n ∙ ap (λ (x : List ℕ). sets x (i * slot_size) (slot_octets slot)) slots_part)
        ∙ sym (ap (λ (x : List ℕ). sets x (slot_start i) (slot_octets slot)) (sym (take-append-drop own_size block))
        ∙ ap (λ (m : ℕ). sets (take own_size block ++ drop own_size block) (m + i * slot_size) (slot_octets slot)) (sym front)
        ∙ sets_behind (take own_size block) (drop own_size block) (i * slot_size) (slot_octets slot))

pub blocks_read_back : BlocksReadBack
unfolding block_formed
blocks_read_back block e o =
    record {
      ranged = ranged block e o;
      formed = λ h. ranged block e o (and_left (block_in_range block) (state_formed (state_in block)) h);
      slot = slot_put block e o;
    }
