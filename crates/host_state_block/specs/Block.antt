-- The state as a block of octets: 02's "State block, big-endian". The two lists of widths are all that says where a
-- field stands; a later field ends its part.
use Rattle.std.specs.Prelude.{ℕ, zero, suc, ◌+◌, ◌*◌, cond, List, [], ◌∷◌, ◌++◌, get_or, take, drop, eqb}
use Rattle.neighbour.specs.declared.Phase.{Phase}
use Rattle.neighbour.specs.declared.Phase.TheVariants.{Idle, Acquisition, Down, Up, Cease}
use Rattle.neighbour.specs.declared.Mode.{Mode}
use Rattle.neighbour.specs.declared.Mode.TheVariants.{Unset, Active, Passive}
use Rattle.neighbour.specs.declared.Neighbour.{Neighbour}
use Rattle.neighbour.specs.declared.Settings.{Settings}
use Rattle.neighbour.specs.Record.{phase_number, mode_number}
use Rattle.neighbour_seconds.specs.declared.Seconds.{Seconds}
use Rattle.gateway_state.specs.declared.Slot.{Slot}
use Rattle.gateway_state.specs.declared.State.{State}
use Rattle.host_state_block.specs.Layout.{Width, one, two, four, total, numbers_at, octets_for}

-- "own AS (2), own address (4), capability (1), common net (4)", then L6's `quiet`, "0 or 1"
abbrev pub own_fields : List Width
own_fields = two ∷ four ∷ one ∷ four ∷ one ∷ []

-- "each slot's address (4), AS, S, R, T1, T2, t1, t2, t3, row count (2 each), state, mode, register, heard, cause
-- (1 each)", then L5's "two counts of ticks since each", at most 120, then L7's seconds in each state, at most
-- 4,294,967,295: "Later fields end their part in the order named, in as few octets as they need"
abbrev pub slot_fields : List Width
slot_fields =
    four ∷ two ∷ two ∷ two ∷ two ∷ two ∷ two ∷ two ∷ two ∷ two ∷ one ∷ one ∷ one ∷ one ∷ one ∷ one ∷ one
    ∷ four ∷ four ∷ four ∷ four ∷ four ∷ []

-- 12 octets, 49 for each of the eight slots, 404 in all
abbrev pub own_size : ℕ
own_size = total own_fields

abbrev pub slot_size : ℕ
slot_size = total slot_fields

abbrev pub block_size : ℕ
block_size = own_size + 8 * slot_size

-- where the octets of slot i begin
abbrev pub slot_start : ℕ → ℕ
slot_start i = own_size + i * slot_size

-- "states from 0 as listed": idle, acquisition, down, up, cease
abbrev pub phase_at : ℕ → Phase
phase_at n = cond (eqb n 1) Acquisition (cond (eqb n 2) Down (cond (eqb n 3) Up (cond (eqb n 4) Cease Idle)))

-- "mode none, active, passive 0 to 2"
abbrev pub mode_at : ℕ → Mode
mode_at n = cond (eqb n 1) Active (cond (eqb n 2) Passive Unset)

-- ---- the numbers of the fields, in the order of the widths

unfoldable pub own_numbers : Settings → List ℕ
own_numbers g = g.asn ∷ g.own ∷ g.capability ∷ g.net ∷ g.quiet ∷ []

unfoldable pub settings_of : List ℕ → Settings
settings_of f = record { asn = get_or f 0 0; own = get_or f 1 0; capability = get_or f 2 0; net = get_or f 3 0; quiet = get_or f 4 0 }

unfoldable pub slot_numbers : Slot → List ℕ
slot_numbers slot =
    slot.address ∷ slot.asn ∷ slot.neighbour.s ∷ slot.neighbour.r ∷ slot.neighbour.period1 ∷ slot.neighbour.period2
    ∷ slot.neighbour.t1 ∷ slot.neighbour.t2 ∷ slot.neighbour.t3 ∷ slot.rows
    ∷ phase_number slot.neighbour.phase ∷ mode_number slot.neighbour.mode
    ∷ slot.neighbour.register ∷ slot.neighbour.heard ∷ slot.neighbour.cause
    ∷ slot.neighbour.sincehello ∷ slot.neighbour.sincepoll
    ∷ slot.seconds.idle ∷ slot.seconds.acquisition ∷ slot.seconds.down ∷ slot.seconds.up ∷ slot.seconds.cease ∷ []

abbrev pub phase_field : List ℕ → ℕ
phase_field f = get_or f 10 0

abbrev pub mode_field : List ℕ → ℕ
mode_field f = get_or f 11 0

unfoldable pub record_of : List ℕ → Neighbour
record_of f =
    record {
      s = get_or f 2 0;
      r = get_or f 3 0;
      period1 = get_or f 4 0;
      period2 = get_or f 5 0;
      t1 = get_or f 6 0;
      t2 = get_or f 7 0;
      t3 = get_or f 8 0;
      phase = phase_at (phase_field f);
      mode = mode_at (mode_field f);
      register = get_or f 12 0;
      heard = get_or f 13 0;
      cause = get_or f 14 0;
      sincehello = get_or f 15 0;
      sincepoll = get_or f 16 0;
    }

unfoldable pub seconds_of : List ℕ → Seconds
seconds_of f = record { idle = get_or f 17 0; acquisition = get_or f 18 0; down = get_or f 19 0; up = get_or f 20 0; cease = get_or f 21 0 }

unfoldable pub slot_of : List ℕ → Slot
slot_of f =
    record { address = get_or f 0 0; asn = get_or f 1 0; neighbour = record_of f; rows = get_or f 9 0; seconds = seconds_of f }

-- ---- written

unfoldable pub own_octets : Settings → List ℕ
own_octets g = octets_for own_fields (own_numbers g)

unfoldable pub slot_octets : Slot → List ℕ
slot_octets slot = octets_for slot_fields (slot_numbers slot)

-- the octets of some slots, one after the other
unfoldable pub slots_octets : List Slot → List ℕ
slots_octets [] = []
slots_octets (slot ∷ rest) = slot_octets slot ++ slots_octets rest

-- the block of a state
unfoldable pub block_of : State → List ℕ
block_of st = own_octets st.settings ++ slots_octets st.slots

-- ---- read

-- the settings in their part of a block, a slot in its
unfoldable pub settings_in : List ℕ → Settings
settings_in part = settings_of (numbers_at own_fields part 0)

unfoldable pub slot_in : List ℕ → Slot
slot_in part = slot_of (numbers_at slot_fields part 0)

-- the first n slots
unfoldable pub slots_in : ℕ → List ℕ → List Slot
slots_in zero l = []
slots_in (suc n) l = slot_in (take slot_size l) ∷ slots_in n (drop slot_size l)

-- the state whose block this is
unfoldable pub state_in : List ℕ → State
state_in block = record { settings = settings_in (take own_size block); slots = slots_in 8 (drop own_size block) }
