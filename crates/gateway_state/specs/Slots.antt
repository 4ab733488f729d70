-- The eight slots: what stands in one, and which one has an address.
use Rattle.std.specs.Prelude.{ℕ, Bool, not, ◌&&◌, List, map, get_or, set, ltb, eqb}
use Rattle.checks.specs.Lists.{first}
use Rattle.neighbour.specs.Record.{idle}
use Rattle.neighbour_seconds.specs.Seconds.{no_seconds}
use Rattle.gateway_state.specs.declared.Slot.{Slot}
use Rattle.gateway_state.specs.declared.State.{State}

-- 01: "Entering Idle zeroes all but address and AS"; a neighbour is added in Idle, without rows; 02: "Remove and add start from zero"
abbrev pub newcomer : ℕ → ℕ → Slot
newcomer address asn = record { address = address; asn = asn; neighbour = idle; rows = 0; seconds = no_seconds }

-- 01: "free slots are all zero"; Idle and no mode are the first of their kinds
unfoldable pub free_slot : Slot
free_slot = newcomer 0 0

unfoldable pub slot_at : State → ℕ → Slot
slot_at st i = get_or st.slots i free_slot

-- the same state with another slot i
unfoldable pub with_slot : State → ℕ → Slot → State
with_slot st i slot = record { settings = st.settings; slots = set st.slots i slot }

abbrev pub address_of : Slot → ℕ
address_of slot = slot.address

-- the addresses of the slots, in their order
unfoldable pub addresses : State → List ℕ
addresses st = map address_of st.slots

-- one address twice; 0 is the address of no neighbour
unfoldable pub clash : ℕ → ℕ → Bool
clash a b = not (eqb a 0) && eqb a b

abbrev pub apart : ℕ → ℕ → Bool
apart a b = not (clash a b)

-- 01: "used slot has this address": its index, or 8
unfoldable pub slot_of : State → ℕ → ℕ
slot_of st a = first (clash a) (addresses st)

abbrev pub present : State → ℕ → Bool
present st a = ltb (slot_of st a) 8

abbrev pub is_none : ℕ → Bool
is_none a = eqb a 0

-- 01: "the lowest free slot": its index, or 8
unfoldable pub lowest_free : State → ℕ
lowest_free st = first is_none (addresses st)
