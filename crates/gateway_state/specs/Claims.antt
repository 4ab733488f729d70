-- What holds of any slot of any state; proved once, for the calls above. A state of the code has eight slots by its type.
use Rattle.std.specs.Prelude.{ℕ, ◌≤◌, ◌<◌, ◌≡◌, true, false, length}
use Rattle.neighbour.specs.Record.{is_up}
use Rattle.nets.specs.Classes.{good_net, on_net}
use Rattle.neighbour.specs.declared.Settings.{Settings}
use Rattle.neighbour_wellformed.specs.Formed.{well_formed}
use Rattle.neighbour_seconds.specs.Seconds.{seconds_formed}
use Rattle.gateway_state.specs.declared.Slot.{Slot}
use Rattle.gateway_state.specs.declared.State.{State}
use Rattle.gateway_state.specs.Slots.{free_slot, slot_at, with_slot, slot_of}
use Rattle.gateway_state.specs.Formed.{rows_formed, slot_formed, state_formed}

-- a slot that is written is read back, and every other is untouched
abbrev pub WrittenSlot : Type 0
WrittenSlot = (st : State) (i : ℕ) (slot : Slot) → i < length st.slots → slot_at (with_slot st i slot) i ≡ slot

abbrev pub OtherSlots : Type 0
OtherSlots = (st : State) (i j : ℕ) (slot : Slot) → (j ≡ i → ⊥) → slot_at (with_slot st i slot) j ≡ slot_at st j

-- a look-up: it finds a used slot that has the address, and that slot alone, or answers 8
pub record Found (st : State) (a : ℕ) : Type 0 where
  pub address : (slot_at st (slot_of st a)).address ≡ a
  pub used : a ≡ 0 → ⊥

abbrev pub SlotFound : Type 0
SlotFound = (st : State) (a : ℕ) → length st.slots ≡ 8 → slot_of st a < 8 → Found st a

abbrev pub SlotBelow : Type 0
SlotBelow = (st : State) (a : ℕ) → length st.slots ≡ 8 → slot_of st a ≤ 8

abbrev pub SlotUnique : Type 0
SlotUnique =
    (st : State) (a i : ℕ) → length st.slots ≡ 8 → state_formed st ≡ true → i < 8
    → (slot_at st i).address ≡ a → (a ≡ 0 → ⊥) → slot_of st a ≡ i

-- writing a slot with the address that was there moves no neighbour
abbrev pub SlotStays : Type 0
SlotStays =
    (st : State) (i : ℕ) (slot : Slot) (a : ℕ) → slot.address ≡ (slot_at st i).address → slot_of (with_slot st i slot) a ≡ slot_of st a

-- what check 1 says of the settings
pub record SettingsGood (g : Settings) : Type 0 where
  pub asn : g.asn ≡ 0 → ⊥
  pub capability : g.capability ≤ 2
  pub quiet : g.quiet ≤ 1
  pub net : good_net g.net ≡ true
  pub own : on_net g.net g.own ≡ true

abbrev pub FormedSettings : Type 0
FormedSettings = (st : State) → state_formed st ≡ true → SettingsGood st.settings

-- what check 1 says of any slot, free or used
pub record SlotGood (slot : Slot) : Type 0 where
  pub neighbour : well_formed slot.neighbour ≡ true
  pub few : slot.rows ≤ 128
  pub none : is_up slot.neighbour.phase ≡ false → slot.rows ≡ 0
  pub seconds : seconds_formed slot.seconds ≡ true

abbrev pub FormedSlot : Type 0
FormedSlot = (st : State) (i : ℕ) → state_formed st ≡ true → (slot_formed st.settings (slot_at st i) ≡ true) × SlotGood (slot_at st i)

-- a free slot is the all-zero one
abbrev pub FreeIsZero : Type 0
FreeIsZero = (st : State) (i : ℕ) → state_formed st ≡ true → (slot_at st i).address ≡ 0 → slot_at st i ≡ free_slot

-- a well-formed slot with the address that was there keeps the state well formed
abbrev pub WithSlotFormed : Type 0
WithSlotFormed =
    (st : State) (i : ℕ) (slot : Slot) → state_formed st ≡ true → slot.address ≡ (slot_at st i).address
    → slot_formed st.settings slot ≡ true → state_formed (with_slot st i slot) ≡ true

-- a step of the neighbour found: address and AS stay, and what one neighbour's rules keep is enough
abbrev pub StepFormed : Type 0
StepFormed =
    (st : State) (a : ℕ) (slot : Slot) → length st.slots ≡ 8 → state_formed st ≡ true → slot_of st a < 8
    → slot.address ≡ (slot_at st (slot_of st a)).address → slot.asn ≡ (slot_at st (slot_of st a)).asn
    → well_formed slot.neighbour ≡ true → rows_formed slot.neighbour.phase slot.rows ≡ true → seconds_formed slot.seconds ≡ true
    → state_formed (with_slot st (slot_of st a) slot) ≡ true
