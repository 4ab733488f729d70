-- What the sheet's calls are given, as literals: octets, addresses, records, slots and states.
use Rattle.std.specs.Prelude.{ℕ, zero, suc, ◌+◌, ◌-◌, ◌*◌, cond, List, [], ◌∷◌, ◌++◌, ltb}
use Prim.Native.String.{String, [] as no-letters, ◌∷◌ as ◌then◌}
use Prim.Native.Char.{code}
use Rattle.neighbour.specs.declared.Phase.{Phase}
use Rattle.neighbour.specs.declared.Phase.TheVariants.{Idle, Acquisition, Down, Up, Cease}
use Rattle.neighbour.specs.declared.Mode.{Mode}
use Rattle.neighbour.specs.declared.Mode.TheVariants.{Unset, Active, Passive}
use Rattle.neighbour.specs.declared.Settings.{Settings}
use Rattle.neighbour.specs.declared.Neighbour.{Neighbour}
use Rattle.neighbour.specs.Record.{with_numbers, with_state, with_counts, idle}
use Rattle.neighbour_seconds.specs.declared.Seconds.{Seconds}
pub use Rattle.neighbour_seconds.specs.Cases.{seconds}
use Rattle.gateway_state.specs.declared.Slot.{Slot}
use Rattle.gateway_state.specs.declared.State.{State}

-- 0 to 9 and A to F
unfoldable pub hex_value : ℕ → ℕ
hex_value letter = cond (ltb letter 58) (letter - 48) (letter - 55)

-- octets as 01 writes them: two letters each, a space between two of them
unfoldable pub hex : String → List ℕ
hex no-letters = []
hex (high then no-letters) = []
hex (high then (low then no-letters)) = (hex_value (code high) * 16 + hex_value (code low)) ∷ []
hex (high then (low then (space then rest))) = (hex_value (code high) * 16 + hex_value (code low)) ∷ hex rest

-- the same numbers, so many times
unfoldable pub repeated : ℕ → List ℕ → List ℕ
repeated zero numbers = []
repeated (suc n) numbers = numbers ++ repeated n numbers

-- an address as it is written with dots
unfoldable pub ip : ℕ → ℕ → ℕ → ℕ → ℕ
ip a b c d = ((a * 256 + b) * 256 + c) * 256 + d

-- the common net; our own address; the neighbour; another one; an address that no slot has
unfoldable pub common : ℕ
common = ip 128 9 0 0

unfoldable pub ours : ℕ
ours = ip 128 9 0 1

unfoldable pub theirs : ℕ
theirs = ip 128 9 0 5

unfoldable pub others : ℕ
others = ip 128 9 0 6

unfoldable pub nobody : ℕ
nobody = ip 128 9 0 7

-- own AS, own address, capability, common net; stray messages are answered
unfoldable pub set : ℕ → ℕ → ℕ → ℕ → Settings
set asn own capability net = record { asn = asn; own = own; capability = capability; net = net; quiet = 0 }

-- AS 9 at 128.9.0.1 on 128.9.0.0, capability 0, and this `quiet`
unfoldable pub nine_with : ℕ → Settings
nine_with quiet = record { asn = 9; own = ours; capability = 0; net = common; quiet = quiet }

unfoldable pub nine : Settings
nine = set 9 ours 0 common

-- ticks since a Hello and since a Poll, as A and B leave them: 120 outside Idle
unfoldable pub settled : Phase → ℕ
settled Idle = 0
settled Acquisition = 120
settled Down = 120
settled Up = 120
settled Cease = 120

-- state, S, R, T1, T2, M, t1, t2, t3, register, heard, cause
unfoldable pub made : Phase → ℕ → ℕ → ℕ → ℕ → Mode → ℕ → ℕ → ℕ → ℕ → ℕ → ℕ → Neighbour
made phase s r hello poll mode t1 t2 t3 register heard cause =
    with_counts (with_state (with_numbers idle s r) phase mode hello poll t1 t2 t3 register heard cause) (settled phase) (settled phase)

-- the same with these counts
unfoldable pub since : ℕ → ℕ → Neighbour → Neighbour
since hello poll n = with_counts n hello poll

-- a record in each state; S is 3 and R is 5 outside Idle
unfoldable pub resting : Neighbour
resting = made Idle 0 0 0 0 Unset 0 0 0 0 0 0

unfoldable pub asking : Neighbour
asking = made Acquisition 3 5 0 0 Unset 20 0 100 0 0 0

unfoldable pub falling : Neighbour
falling = made Down 3 5 32 122 Passive 20 0 100 4 0 0

unfoldable pub reporting : Neighbour
reporting = made Up 3 5 32 122 Active 20 60 100 7 0 0

unfoldable pub ceasing : Neighbour
ceasing = made Cease 3 5 0 0 Unset 20 0 100 0 0 6

-- address, AS, record, row count, seconds
unfoldable pub timed : ℕ → ℕ → Neighbour → ℕ → Seconds → Slot
timed address asn n rows s = record { address = address; asn = asn; neighbour = n; rows = rows; seconds = s }

-- the same without a second
unfoldable pub slot : ℕ → ℕ → Neighbour → ℕ → Slot
slot address asn n rows = timed address asn n rows (seconds 0 0 0 0 0)

-- 01: "free slots are all zero"
unfoldable pub vacant : Slot
vacant = slot 0 0 resting 0

-- settings and eight slots
unfoldable pub state : Settings → Slot → Slot → Slot → Slot → Slot → Slot → Slot → Slot → State
state g a b c d e f h i = record { settings = g; slots = a ∷ b ∷ c ∷ d ∷ e ∷ f ∷ h ∷ i ∷ [] }

-- settings, and no neighbour
unfoldable pub without_neighbours : Settings → State
without_neighbours g = state g vacant vacant vacant vacant vacant vacant vacant vacant

-- 01: "the all-zero state"
unfoldable pub nothing : State
nothing = without_neighbours (set 0 0 0 0)

-- another neighbour of AS 12, Idle, in slot 0; the neighbour of AS 7 in slot 2, with these seconds, this record and row
-- count
unfoldable pub clocked : Seconds → Neighbour → ℕ → State
clocked s n rows = state nine (slot others 12 resting 0) vacant (timed theirs 7 n rows s) vacant vacant vacant vacant vacant

-- the same without a second
unfoldable pub in_slot_two : Neighbour → ℕ → State
in_slot_two n rows = clocked (seconds 0 0 0 0 0) n rows

-- the neighbour in each of the five states; two rows in Up
unfoldable pub in_idle : State
in_idle = in_slot_two resting 0

unfoldable pub in_acquisition : State
in_acquisition = in_slot_two asking 0

unfoldable pub in_down : State
in_down = in_slot_two falling 0

unfoldable pub in_up : State
in_up = in_slot_two reporting 2

unfoldable pub in_cease : State
in_cease = in_slot_two ceasing 0

-- 01: "in Idle only address and AS may be non-zero": here S is 1, and the state is not well formed
unfoldable pub unsound : State
unsound = in_slot_two (made Idle 1 0 0 0 Unset 0 0 0 0 0 0) 0

-- a neighbour in every slot
unfoldable pub full : State
full =
    state nine
    (slot (ip 128 9 0 10) 10 resting 0)
    (slot (ip 128 9 0 11) 11 resting 0)
    (slot (ip 128 9 0 12) 12 resting 0)
    (slot (ip 128 9 0 13) 13 resting 0)
    (slot (ip 128 9 0 14) 14 resting 0)
    (slot (ip 128 9 0 15) 15 resting 0)
    (slot (ip 128 9 0 16) 16 resting 0)
    (slot (ip 128 9 0 17) 17 resting 0)
