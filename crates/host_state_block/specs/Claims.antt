-- A block and its state, each from the other. The proofs are in proofs/Trip.antt.
use Rattle.std.specs.Prelude.{ℕ, ◌<◌, true, ◌≡◌, List, [], ◌∷◌, length, get_or, take, drop, set}
use Rattle.std.proofs.lemmas.List.Edits.{sets}
use Rattle.octets.specs.Numbers.{Octets}
use Rattle.gateway_state.specs.declared.Slot.{Slot}
use Rattle.gateway_state.specs.declared.State.{State}
use Rattle.gateway_state.specs.Slots.{with_slot}
use Rattle.host_state_block.specs.Layout.{Fit}
use Rattle.host_state_block.specs.Block.{own_fields, slot_fields, block_size, slot_start, own_numbers, slot_numbers, slot_octets, block_of, state_in}
use Rattle.host_state_block.specs.Formed.{block_in_range, block_formed}

-- each number of these slots fits its field
abbrev pub SlotsFit : List Slot → Type 0
SlotsFit [] = Unit {0}
SlotsFit (slot ∷ rest) = Fit slot_fields (slot_numbers slot) × SlotsFit rest

-- a state of the code is such a one by its types
pub record StateFits (st : State) : Type 0 where
  pub eight : length st.slots ≡ 8
  pub own : Fit own_fields (own_numbers st.settings)
  pub slots : SlotsFit st.slots

-- 02: "A block written and read back gives the same state"
abbrev pub WrittenReadsBack : Type 0
WrittenReadsBack = (st : State) → StateFits st → state_in (block_of st) ≡ st

-- a block of octets that is read and written gives the same octets, where state and mode are in range: a well-formed
-- one does
pub record ReadWritesBack (block : List ℕ) : Type 0 where
  pub ranged : block_in_range block ≡ true → block_of (state_in block) ≡ block
  pub formed : block_formed block ≡ true → block_of (state_in block) ≡ block
  -- another slot i: its octets alone change
  pub slot :
      block_in_range block ≡ true → (i : ℕ) (slot : Slot) → i < 8
      → block_of (with_slot (state_in block) i slot) ≡ sets block (slot_start i) (slot_octets slot)

abbrev pub BlocksReadBack : Type 0
BlocksReadBack = (block : List ℕ) → length block ≡ block_size → Octets block → ReadWritesBack block
