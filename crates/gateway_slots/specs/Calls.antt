-- Fresh, add and remove: what each answers and leaves. They take no table and no buffer, and never reply.
use Rattle.std.specs.Prelude.{ℕ, not, ◌&&◌, List, replicate, ltb}
use Rattle.checks.specs.Checks.{check}
use Rattle.neighbour.specs.declared.Settings.{Settings}
use Rattle.neighbour.specs.Record.{is_idle}
use Rattle.gateway_state.specs.declared.Slot.{Slot}
use Rattle.gateway_state.specs.declared.State.{State}
use Rattle.gateway_state.specs.declared.Outcome.{Outcome}
use Rattle.gateway_state.specs.Slots.{newcomer, free_slot, slot_at, with_slot, slot_of, present, lowest_free}
use Rattle.gateway_state.specs.Formed.{good_settings, good_peer, state_formed}
use Rattle.gateway_state.specs.Outcomes.{silent_of}

unfoldable pub free_slots : List Slot
free_slots = replicate 8 free_slot

-- settings, and no neighbour
unfoldable pub empty_state : Settings → State
empty_state g = record { settings = g; slots = free_slots }

-- before anything is set
abbrev pub no_settings : Settings
no_settings = record { asn = 0; own = 0; capability = 0; net = 0; quiet = 0 }

-- 01: "the all-zero state"
unfoldable pub zero_state : State
zero_state = empty_state no_settings

-- 01: "Fresh refuses 16 for own AS 0, capability above 2, a common net that isn't .., or an own address off that net";
-- 02: the setting "is 0 or 1 (anything else is 16 from fresh ..)"
unfoldable pub fresh_answer : Settings → ℕ
fresh_answer g = check (good_settings g) 16 0

-- 01: "it then returns the all-zero state"
unfoldable pub fresh_of : Settings → Outcome
fresh_of g = silent_of (fresh_answer g) (empty_state g) zero_state

-- 01: 1 "state not well formed", 16 "AS 0 or own AS, or an address that is 0, our own or present", 17 "no free slot"
unfoldable pub add_answer : State → ℕ → ℕ → ℕ
add_answer st address asn =
    check (state_formed st) 1
    (check (good_peer st.settings address asn && not (present st address)) 16
    (check (ltb (lowest_free st) 8) 17
    0))

-- 01: "It takes the lowest free slot"
unfoldable pub add_of : State → ℕ → ℕ → Outcome
add_of st address asn = silent_of (add_answer st address asn) (with_slot st (lowest_free st) (newcomer address asn)) st

-- 01: 1 "state not well formed", 5 "no used slot has this address", 18 "neighbour not Idle"
unfoldable pub remove_answer : State → ℕ → ℕ
remove_answer st address =
    check (state_formed st) 1
    (check (present st address) 5
    (check (is_idle (slot_at st (slot_of st address)).neighbour.phase) 18
    0))

-- 01: "a removed slot is free again"
unfoldable pub remove_of : State → ℕ → Outcome
remove_of st address = silent_of (remove_answer st address) (with_slot st (slot_of st address) free_slot) st
