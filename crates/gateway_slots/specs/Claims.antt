-- What holds of fresh, of add and of remove, from any state of eight slots.
use Rattle.std.specs.Prelude.{ℕ, ◌<◌, ◌≡◌, true, false, length}
use Rattle.neighbour.specs.declared.Settings.{Settings}
use Rattle.gateway_state.specs.declared.State.{State}
use Rattle.gateway_state.specs.declared.Outcome.{Outcome}
use Rattle.gateway_state.specs.Slots.{newcomer, free_slot, slot_at, slot_of, present, lowest_free}
use Rattle.gateway_state.specs.Formed.{good_peer, state_formed}
use Rattle.gateway_state.specs.Outcomes.{refused_of}
use Rattle.gateway_slots.specs.Calls.{zero_state, empty_state, fresh_of, add_of, remove_of}

-- 01: the all-zero state "is not well formed"
abbrev pub ZeroNotFormed : Type 0
ZeroNotFormed = state_formed zero_state ≡ false

-- fresh: a well-formed state with these settings, or 16 and the all-zero state
pub record FreshClaim (g : Settings) : Type 0 where
  pub formed : (fresh_of g).answer ≡ 0 → state_formed (fresh_of g).state ≡ true
  pub given : (fresh_of g).answer ≡ 0 → (fresh_of g).state ≡ empty_state g
  pub refused : ((fresh_of g).answer ≡ 0 → ⊥) → fresh_of g ≡ refused_of zero_state 16
  pub eight : length (fresh_of g).state.slots ≡ 8

abbrev pub Fresh : Type 0
Fresh = (g : Settings) → FreshClaim g

-- what add and remove keep, whatever they answer
pub record Keeps (st : State) (o : Outcome) : Type 0 where
  -- 01: "Every call keeps a state well formed."
  pub formed : state_formed st ≡ true → state_formed o.state ≡ true
  -- 01: "Every refusal returns the state as given .. and reports lengths 0 and 0"
  pub refused : (o.answer ≡ 0 → ⊥) → o ≡ refused_of st o.answer
  pub settings : o.state.settings ≡ st.settings
  pub eight : length o.state.slots ≡ 8

-- add carried out: the newcomer stands in the lowest free slot, is found there, and no other slot changed
pub record Added (st : State) (address asn : ℕ) : Type 0 where
  pub below : lowest_free st < 8
  pub free : slot_at st (lowest_free st) ≡ free_slot
  pub lowest : (j : ℕ) → j < lowest_free st → (slot_at st j).address ≡ 0 → ⊥
  pub newest : slot_at (add_of st address asn).state (lowest_free st) ≡ newcomer address asn
  pub others : (j : ℕ) → (j ≡ lowest_free st → ⊥) → slot_at (add_of st address asn).state j ≡ slot_at st j
  pub found : slot_of (add_of st address asn).state address ≡ lowest_free st

abbrev pub Add : Type 0
Add =
    (st : State) (address asn : ℕ) → length st.slots ≡ 8
    → Keeps st (add_of st address asn) × ((add_of st address asn).answer ≡ 0 → Added st address asn)

-- remove carried out: its slot is free, the address is gone, and no other slot changed
pub record Removed (st : State) (address : ℕ) : Type 0 where
  pub below : slot_of st address < 8
  pub freed : slot_at (remove_of st address).state (slot_of st address) ≡ free_slot
  pub others : (j : ℕ) → (j ≡ slot_of st address → ⊥) → slot_at (remove_of st address).state j ≡ slot_at st j
  pub gone : present (remove_of st address).state address ≡ false

abbrev pub Remove : Type 0
Remove =
    (st : State) (address : ℕ) → length st.slots ≡ 8
    → Keeps st (remove_of st address) × ((remove_of st address).answer ≡ 0 → Removed st address)

-- 01: "a removed slot is free again": the address can be added at once, and then stands in a slot of its own, Idle
abbrev pub AddAgain : Type 0
AddAgain =
    (st : State) (address asn : ℕ) → length st.slots ≡ 8 → (remove_of st address).answer ≡ 0
    → good_peer st.settings address asn ≡ true → (add_of (remove_of st address).state address asn).answer ≡ 0

-- 01: 17 "no free slot": then every slot is used
abbrev pub AddFull : Type 0
AddFull =
    (st : State) (address asn : ℕ) → (add_of st address asn).answer ≡ 17 → (j : ℕ) → j < 8 → (slot_at st j).address ≡ 0 → ⊥
