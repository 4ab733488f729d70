-- The seconds in each state (02, L7): "A tick carried out belongs to the state before it"; "Remove and add start from
-- zero"; "These counts survive Idle, and well formed now allows it, with a sum of at most 4,294,967,295"; "22, a tick
-- when the sum is 4,294,967,295, after 5". A slot's seconds are those in Idle, Acquisition, Down, Up and Cease. The
-- neighbour in slot 0 has its own, which stay as they are.
use Rattle.std.specs.Prelude.{ℕ, List, [], ◌∷◌, ◌++◌, take, replicate}
use Rattle.text.specs.Text.{text}
use Rattle.neighbour.specs.declared.Phase.TheVariants.{Idle, Acquisition, Down, Up, Cease}
use Rattle.neighbour.specs.declared.Mode.TheVariants.{Unset, Active, Passive}
use Rattle.neighbour.specs.declared.Neighbour.{Neighbour}
use Rattle.neighbour_seconds.specs.declared.Seconds.{Seconds}
use Rattle.neighbour_machine.specs.Intrinsics.{Intrinsic, Start, Stop, Tick}
use Rattle.gateway_state.specs.declared.Slot.{Slot}
use Rattle.gateway_state.specs.declared.State.{State}
use Rattle.gateway_state.specs.declared.Outcome.{Outcome}
use Rattle.gateway_rules.specs.Calls.{event_outcome, event_table, event_buffer}
use Rattle.listing_lines.specs.Listing.{listing_outcome, listing_buffer}
use Rattle.gateway_check_sheet.specs.Given.{hex, ip, theirs, others, nobody, nine, made, since, resting, asking, falling, reporting, ceasing, seconds, timed, slot, vacant, state}
use Rattle.gateway_check_sheet.specs.Line.{Line, add, remove, message, heard}
use Rattle.gateway_check_sheet.specs.Formed.{formed, unformed}
use Rattle.gateway_check_sheet.specs.Effects.{WorkedCall, event, Left, kept, zeroed, heard_alone}

-- the neighbour in slot 0, with other seconds
unfoldable pub first : Slot
first = timed others 12 resting 0 (seconds 61 62 63 64 65)

-- beside it in slot 2 the neighbour with these seconds, this record and row count
unfoldable pub counting : Seconds → Neighbour → ℕ → State
counting s n rows = state nine first vacant (timed theirs 7 n rows s) vacant vacant vacant vacant vacant

-- the largest sum, in all five counts alike
unfoldable pub spread : Seconds
spread = seconds 858993459 858993459 858993459 858993459 858993459

-- ---- carried out: the whole state, the buffer and the table

unfoldable pub ticks : List WorkedCall
ticks =
    -- a tick on which nothing is said, in each state: one second more in it, and in no other
    event Tick (counting (seconds 11 22 33 44 55) resting 0) 0 0 [] (counting (seconds 12 22 33 44 55) resting 0) kept ∷
    event Tick (counting (seconds 11 22 33 44 55) asking 0) 0 0 []
    (counting (seconds 11 23 33 44 55) (made Acquisition 3 5 0 0 Unset 19 0 99 0 0 0) 0) kept ∷
    event Tick (counting (seconds 11 22 33 44 55) falling 0) 0 0 []
    (counting (seconds 11 22 34 44 55) (made Down 3 5 32 122 Passive 19 0 99 4 0 0) 0) kept ∷
    event Tick (counting (seconds 11 22 33 44 55) reporting 3) 0 0 []
    (counting (seconds 11 22 33 45 55) (made Up 3 5 32 122 Active 19 59 99 7 0 0) 3) kept ∷
    event Tick (counting (seconds 11 22 33 44 55) ceasing 0) 0 0 []
    (counting (seconds 11 22 33 44 56) (made Cease 3 5 0 0 Unset 19 0 99 0 0 6) 0) kept ∷
    -- from zero
    event Tick (counting (seconds 0 0 0 0 0) resting 0) 0 0 [] (counting (seconds 1 0 0 0 0) resting 0) kept ∷
    event Tick (counting (seconds 0 0 0 0 0) ceasing 0) 0 0 []
    (counting (seconds 0 0 0 0 1) (made Cease 3 5 0 0 Unset 19 0 99 0 0 6) 0) kept ∷
    -- a tick on which something is said, the state staying: Request and Cease again, a register without ones, a Poll
    event Tick (counting (seconds 11 22 33 44 55) (made Acquisition 3 5 0 0 Unset 1 0 100 0 0 0) 0) 14 0
    (hex "02 03 00 00 FD 5A 00 09 00 03 00 1E 00 78")
    (counting (seconds 11 23 33 44 55) (made Acquisition 3 5 0 0 Unset 30 0 99 0 0 0) 0) kept ∷
    event Tick (counting (seconds 11 22 33 44 55) (made Cease 3 5 0 0 Unset 1 0 100 0 0 6) 0) 10 0
    (hex "02 03 03 06 FA EA 00 09 00 03")
    (counting (seconds 11 22 33 44 56) (made Cease 3 5 0 0 Unset 30 0 99 0 0 6) 0) kept ∷
    event Tick (counting (seconds 11 22 33 44 55) (made Down 3 5 32 122 Passive 1 0 100 8 0 0) 0) 0 0 []
    (counting (seconds 11 22 34 44 55) (made Down 3 5 32 122 Passive 32 0 99 0 0 0) 0) kept ∷
    event Tick (counting (seconds 11 22 33 44 55) (made Up 3 5 32 122 Active 20 1 100 7 0 0) 3) 16 0
    (hex "02 02 00 01 7D E6 00 09 00 04 00 00 80 09 00 00")
    (counting (seconds 11 22 33 45 55) (made Up 4 5 32 122 Active 19 122 99 7 0 0) 3) kept ∷
    -- a tick that leaves its state: Down for Up, active and passive; Up for Down; Up and Down for Cease by t3
    event Tick (counting (seconds 11 22 33 44 55) (made Down 3 5 32 122 Active 1 0 100 3 1 0) 0) 10 16
    (hex "02 05 00 01 FD ED 00 09 00 03 02 02 00 01 7D E6 00 09 00 04 00 00 80 09 00 00")
    (counting (seconds 11 22 34 44 55) (made Up 4 5 32 122 Active 32 122 99 7 0 0) 0) kept ∷
    event Tick (counting (seconds 11 22 33 44 55) (made Down 3 5 32 122 Passive 1 0 100 4 0 0) 0) 16 0
    (hex "02 02 00 01 7D E6 00 09 00 04 00 00 80 09 00 00")
    (counting (seconds 11 22 34 44 55) (made Up 4 5 32 122 Passive 32 122 99 8 0 0) 0) kept ∷
    event Tick (counting (seconds 11 22 33 44 55) (made Up 3 5 32 122 Active 1 60 100 1 0 0) 3) 10 0 (hex "02 05 00 02 FD EC 00 09 00 03")
    (counting (seconds 11 22 33 45 55) (made Down 3 5 32 122 Active 32 0 99 2 0 0) 0) zeroed ∷
    event Tick (counting (seconds 11 22 33 44 55) (made Up 3 5 32 122 Active 20 60 1 7 0 0) 3) 10 0 (hex "02 03 03 05 FA EB 00 09 00 03")
    (counting (seconds 11 22 33 45 55) (made Cease 3 5 0 0 Unset 30 0 120 0 0 5) 0) zeroed ∷
    event Tick (counting (seconds 11 22 33 44 55) (made Down 3 5 32 122 Passive 20 0 1 4 0 0) 0) 10 0 (hex "02 03 03 05 FA EB 00 09 00 03")
    (counting (seconds 11 22 34 44 55) (made Cease 3 5 0 0 Unset 30 0 120 0 0 5) 0) kept ∷
    -- Acquisition and Cease for Idle by t3: "These counts survive Idle"
    event Tick (counting (seconds 11 22 33 44 55) (made Acquisition 3 5 0 0 Unset 20 0 1 0 0 0) 0) 0 0 []
    (counting (seconds 11 23 33 44 55) resting 0) kept ∷
    event Tick (counting (seconds 11 22 33 44 55) (made Cease 3 5 0 0 Unset 20 0 1 0 0 6) 0) 0 0 []
    (counting (seconds 11 22 33 44 56) resting 0) kept ∷
    -- a sum of 4,294,967,294 has room for one second more, in any state and however it is made up
    event Tick (counting (seconds 4294967294 0 0 0 0) resting 0) 0 0 [] (counting (seconds 4294967295 0 0 0 0) resting 0) kept ∷
    event Tick (counting (seconds 858993459 858993458 858993459 858993459 858993459) asking 0) 0 0 []
    (counting spread (made Acquisition 3 5 0 0 Unset 19 0 99 0 0 0) 0) kept ∷
    event Tick (counting (seconds 0 4294967294 0 0 0) falling 0) 0 0 []
    (counting (seconds 0 4294967294 1 0 0) (made Down 3 5 32 122 Passive 19 0 99 4 0 0) 0) kept ∷
    event Tick (counting (seconds 1 2 3 4294967286 2) reporting 3) 0 0 []
    (counting (seconds 1 2 3 4294967287 2) (made Up 3 5 32 122 Active 19 59 99 7 0 0) 3) kept ∷
    event Tick (counting (seconds 2147483647 0 0 2147483647 0) ceasing 0) 0 0 []
    (counting (seconds 2147483647 0 0 2147483647 1) (made Cease 3 5 0 0 Unset 19 0 99 0 0 6) 0) kept ∷
    event Tick (counting (seconds 0 0 0 4294967294 0) (made Up 3 5 32 122 Active 20 60 1 7 0 0) 3) 10 0 (hex "02 03 03 05 FA EB 00 09 00 03")
    (counting (seconds 0 0 0 4294967295 0) (made Cease 3 5 0 0 Unset 30 0 120 0 0 5) 0) zeroed ∷
    -- another neighbour's full sum, in slot 0, refuses no tick of this one
    event Tick (state nine (timed others 12 resting 0 spread) vacant (timed theirs 7 resting 0 (seconds 11 22 33 44 55)) vacant vacant vacant vacant vacant) 0 0 []
    (state nine (timed others 12 resting 0 spread) vacant (timed theirs 7 resting 0 (seconds 12 22 33 44 55)) vacant vacant vacant vacant vacant) kept ∷
    []

-- Start, Stop and messages take no second, and are carried out with any sum
unfoldable pub untimed : List WorkedCall
untimed =
    -- Start in Idle, Acquisition, Up and Cease
    event Start (counting (seconds 11 22 33 44 55) resting 0) 14 0 (hex "02 03 00 00 FD 5D 00 09 00 00 00 1E 00 78")
    (counting (seconds 11 22 33 44 55) (since 0 0 (made Acquisition 0 0 0 0 Unset 30 0 120 0 0 0)) 0) kept ∷
    event Start (counting (seconds 11 22 33 44 55) asking 0) 14 0 (hex "02 03 00 00 FD 5A 00 09 00 03 00 1E 00 78")
    (counting (seconds 11 22 33 44 55) (made Acquisition 3 5 0 0 Unset 30 0 120 0 0 0) 0) kept ∷
    event Start (counting (seconds 11 22 33 44 55) reporting 3) 14 0 (hex "02 03 00 00 FD 5A 00 09 00 03 00 1E 00 78")
    (counting (seconds 11 22 33 44 55) (made Acquisition 3 5 0 0 Unset 30 0 120 0 0 0) 0) zeroed ∷
    event Start (counting (seconds 11 22 33 44 55) ceasing 0) 0 0 [] (counting (seconds 11 22 33 44 55) ceasing 0) kept ∷
    -- Stop in each state: in Acquisition and Cease it enters Idle
    event Stop (counting (seconds 11 22 33 44 55) resting 0) 0 0 [] (counting (seconds 11 22 33 44 55) resting 0) kept ∷
    event Stop (counting (seconds 11 22 33 44 55) asking 0) 0 0 [] (counting (seconds 11 22 33 44 55) resting 0) kept ∷
    event Stop (counting (seconds 11 22 33 44 55) falling 0) 10 0 (hex "02 03 03 05 FA EB 00 09 00 03")
    (counting (seconds 11 22 33 44 55) (made Cease 3 5 0 0 Unset 30 0 120 0 0 5) 0) kept ∷
    event Stop (counting (seconds 11 22 33 44 55) reporting 3) 10 0 (hex "02 03 03 05 FA EB 00 09 00 03")
    (counting (seconds 11 22 33 44 55) (made Cease 3 5 0 0 Unset 30 0 120 0 0 5) 0) zeroed ∷
    event Stop (counting (seconds 11 22 33 44 55) ceasing 0) 0 0 [] (counting (seconds 11 22 33 44 55) resting 0) kept ∷
    -- a stray Hello and a Request in Idle; a Refuse, which enters Idle; Hello in Down; Update and Cease in Up; Cease-ack
    heard_alone "02 05 00 00 FD EA 00 07 00 09" (counting (seconds 11 22 33 44 55) resting 0) 10 "02 03 03 07 FA EC 00 09 00 00"
    (counting (seconds 11 22 33 44 55) resting 0) kept ∷
    heard_alone "02 03 00 00 FD 56 00 07 00 09 00 1E 00 78" (counting (seconds 11 22 33 44 55) resting 0) 14 "02 03 01 00 FC 54 00 09 00 09 00 1E 00 78"
    (counting (seconds 11 22 33 44 55) (made Down 0 9 32 122 Passive 32 0 120 0 0 0) 0) kept ∷
    heard_alone "02 03 02 00 FB F2 00 07 00 03" (counting (seconds 11 22 33 44 55) asking 0) 0 ""
    (counting (seconds 11 22 33 44 55) resting 0) kept ∷
    heard_alone "02 05 00 01 FD E9 00 07 00 09" (counting (seconds 11 22 33 44 55) falling 0) 10 "02 05 01 02 FC E6 00 09 00 09"
    (counting (seconds 11 22 33 44 55) (since 0 120 (made Down 3 9 32 122 Passive 20 0 3600 4 1 0)) 0) kept ∷
    heard_alone "02 01 00 01 7D EA 00 07 00 03 00 00 80 09 00 00" (counting (seconds 11 22 33 44 55) reporting 3) 0 ""
    (counting (seconds 11 22 33 44 55) (made Up 3 5 32 122 Active 20 60 3600 7 1 0) 0) zeroed ∷
    heard_alone "02 03 03 00 FA EC 00 07 00 09" (counting (seconds 11 22 33 44 55) reporting 3) 10 "02 03 04 00 F9 EA 00 09 00 09"
    (counting (seconds 11 22 33 44 55) resting 0) zeroed ∷
    heard_alone "02 03 04 00 F9 F2 00 07 00 03" (counting (seconds 11 22 33 44 55) ceasing 0) 0 ""
    (counting (seconds 11 22 33 44 55) resting 0) kept ∷
    -- with the largest sum: Start in Idle and Up, Stop in Idle, Up and Cease
    event Start (counting (seconds 4294967295 0 0 0 0) resting 0) 14 0 (hex "02 03 00 00 FD 5D 00 09 00 00 00 1E 00 78")
    (counting (seconds 4294967295 0 0 0 0) (since 0 0 (made Acquisition 0 0 0 0 Unset 30 0 120 0 0 0)) 0) kept ∷
    event Start (counting spread reporting 3) 14 0 (hex "02 03 00 00 FD 5A 00 09 00 03 00 1E 00 78")
    (counting spread (made Acquisition 3 5 0 0 Unset 30 0 120 0 0 0) 0) zeroed ∷
    event Stop (counting spread resting 0) 0 0 [] (counting spread resting 0) kept ∷
    event Stop (counting (seconds 0 0 0 4294967295 0) reporting 3) 10 0 (hex "02 03 03 05 FA EB 00 09 00 03")
    (counting (seconds 0 0 0 4294967295 0) (made Cease 3 5 0 0 Unset 30 0 120 0 0 5) 0) zeroed ∷
    event Stop (counting (seconds 0 0 0 0 4294967295) ceasing 0) 0 0 [] (counting (seconds 0 0 0 0 4294967295) resting 0) kept ∷
    -- and messages: a stray Hello, Hello in Down, Update and Cease in Up
    heard_alone "02 05 00 00 FD EA 00 07 00 09" (counting spread resting 0) 10 "02 03 03 07 FA EC 00 09 00 00"
    (counting spread resting 0) kept ∷
    heard_alone "02 05 00 01 FD E9 00 07 00 09" (counting (seconds 0 0 4294967295 0 0) falling 0) 10 "02 05 01 02 FC E6 00 09 00 09"
    (counting (seconds 0 0 4294967295 0 0) (since 0 120 (made Down 3 9 32 122 Passive 20 0 3600 4 1 0)) 0) kept ∷
    heard_alone "02 01 00 01 7D EA 00 07 00 03 00 00 80 09 00 00" (counting spread reporting 3) 0 ""
    (counting spread (made Up 3 5 32 122 Active 20 60 3600 7 1 0) 0) zeroed ∷
    heard_alone "02 03 03 00 FA EC 00 07 00 09" (counting (seconds 0 0 0 4294967295 0) reporting 3) 10 "02 03 04 00 F9 EA 00 09 00 09"
    (counting (seconds 0 0 0 4294967295 0) resting 0) zeroed ∷
    []

-- ---- refused: state, table and buffer are as given, and no second is counted

-- Start, Stop or tick: state, table, buffer, address; the answer. The table is all 8 and the buffer all 7
pub data Refused : Type 0 where
  refused : Intrinsic → State → ℕ → ℕ → ℕ → ℕ → Refused

unfoldable pub computed : Refused → Left
computed (refused e st table buffer address answer) =
    let t : List ℕ = replicate table 8 in
    let b : List ℕ = replicate buffer 7 in
    record { outcome = event_outcome e st t b address; buffer = event_buffer e st t b address; table = event_table e st t b address }

unfoldable pub written : Refused → Left
written (refused e st table buffer address answer) =
    record {
      outcome = record { answer = answer; first = 0; second = 0; state = st };
      buffer = replicate buffer 7;
      table = replicate table 8;
    }

-- 22: "a tick when the sum is 4,294,967,295"
unfoldable pub full : Seconds → Neighbour → ℕ → Refused
full s n rows = refused Tick (counting s n rows) 3072 2048 theirs 22

unfoldable pub refused_ticks : List Refused
refused_ticks =
    -- in each state: all of it in this state, all of it in another, in all five alike
    full (seconds 4294967295 0 0 0 0) resting 0 ∷
    full (seconds 0 4294967295 0 0 0) resting 0 ∷
    full spread resting 0 ∷
    full (seconds 0 4294967295 0 0 0) asking 0 ∷
    full (seconds 0 0 4294967295 0 0) asking 0 ∷
    full spread asking 0 ∷
    full (seconds 0 0 4294967295 0 0) falling 0 ∷
    full (seconds 0 0 0 4294967295 0) falling 0 ∷
    full spread falling 0 ∷
    full (seconds 0 0 0 4294967295 0) reporting 3 ∷
    full (seconds 0 0 0 0 4294967295) reporting 3 ∷
    full spread reporting 3 ∷
    full (seconds 0 0 0 0 4294967295) ceasing 0 ∷
    full (seconds 4294967295 0 0 0 0) ceasing 0 ∷
    full spread ceasing 0 ∷
    -- of two and of five different counts
    full (seconds 2147483648 0 0 2147483647 0) reporting 3 ∷
    full (seconds 1 2 3 4294967280 9) falling 0 ∷
    -- a tick on which something would be said and the state left: by t1, t2 and t3
    full spread (made Acquisition 3 5 0 0 Unset 1 0 100 0 0 0) 0 ∷
    full spread (made Down 3 5 32 122 Active 1 0 100 3 1 0) 0 ∷
    full spread (made Up 3 5 32 122 Active 1 60 100 1 0 0) 3 ∷
    full spread (made Up 3 5 32 122 Active 20 1 100 7 0 0) 3 ∷
    full spread (made Up 3 5 32 122 Active 20 60 1 7 0 0) 3 ∷
    full spread (made Cease 3 5 0 0 Unset 20 0 1 0 0 6) 0 ∷
    -- tick 5/22: "after 5": an address that no slot has, and 0, where a slot's sum is the largest
    refused Tick (counting spread reporting 3) 3072 2048 nobody 5 ∷
    refused Tick (counting spread reporting 3) 3072 2048 0 5 ∷
    refused Tick (state nine (timed others 12 resting 0 spread) vacant (timed theirs 7 resting 0 spread) vacant vacant vacant vacant vacant) 3072 2048 nobody 5 ∷
    -- tick 3/22, 2/22, 1/22; 1 by S of an idle neighbour in slot 0, and by the sum itself
    refused Tick (counting spread reporting 3) 3072 2047 theirs 3 ∷
    refused Tick (counting spread reporting 3) 3071 2048 theirs 2 ∷
    refused Tick (state nine (slot others 12 (made Idle 1 0 0 0 Unset 0 0 0 0 0 0) 0) vacant (timed theirs 7 resting 0 spread) vacant vacant vacant vacant vacant) 3072 2048 theirs 1 ∷
    refused Tick (counting (seconds 4294967295 0 0 0 1) resting 0) 3072 2048 theirs 1 ∷
    -- the sum of another neighbour above the limit is 1 too
    refused Tick (state nine (timed others 12 resting 0 (seconds 4294967295 1 0 0 0)) vacant (timed theirs 7 resting 0 spread) vacant vacant vacant vacant vacant) 3072 2048 theirs 1 ∷
    -- all from here on at once
    refused Tick (counting spread reporting 3) 3072 2047 nobody 3 ∷
    refused Tick (counting spread reporting 3) 3071 2047 nobody 2 ∷
    refused Tick (counting (seconds 4294967295 0 0 0 1) resting 0) 3071 2047 nobody 1 ∷
    -- a tick that is refused is not counted, where there is room: 2, 3 and 5
    refused Tick (counting (seconds 11 22 33 44 55) reporting 3) 3071 2048 theirs 2 ∷
    refused Tick (counting (seconds 11 22 33 44 55) reporting 3) 3072 2047 theirs 3 ∷
    refused Tick (counting (seconds 11 22 33 44 55) resting 0) 3072 2047 theirs 3 ∷
    refused Tick (counting (seconds 11 22 33 44 55) reporting 3) 3072 2048 nobody 5 ∷
    -- nor is a Start or a Stop that is refused, with the largest sum or not
    refused Start (counting spread reporting 3) 3072 2047 theirs 3 ∷
    refused Stop (counting spread reporting 3) 3072 2048 nobody 5 ∷
    refused Stop (counting (seconds 11 22 33 44 55) reporting 3) 3071 2048 theirs 2 ∷
    []

-- ---- well formed; add and remove; a message that is refused

-- slot 1 with address 0 and these seconds, between two used slots
unfoldable pub free_for : Seconds → State
free_for s = state nine first (timed 0 0 resting 0 s) (timed theirs 7 reporting 2 (seconds 11 22 33 44 55)) vacant vacant vacant vacant vacant

-- slots 0 and 1 used, and this in slot 2
unfoldable pub third : Slot → State
third s = state nine first (timed nobody 8 ceasing 0 (seconds 71 72 73 74 75)) s vacant vacant vacant vacant vacant

unfoldable pub timed_forms : List Line
timed_forms =
    -- "a sum of at most 4,294,967,295": in each count alone, in two, in all five
    formed (counting (seconds 4294967295 0 0 0 0) resting 0) ∷
    formed (counting (seconds 0 4294967295 0 0 0) asking 0) ∷
    formed (counting (seconds 0 0 4294967295 0 0) falling 0) ∷
    formed (counting (seconds 0 0 0 4294967295 0) reporting 2) ∷
    formed (counting (seconds 0 0 0 0 4294967295) ceasing 0) ∷
    formed (counting (seconds 2147483648 2147483647 0 0 0) reporting 2) ∷
    formed (counting spread reporting 2) ∷
    -- 4,294,967,296: in one count, in one and another, in two, in all five
    unformed (counting (seconds 4294967296 0 0 0 0) resting 0) ∷
    unformed (counting (seconds 4294967295 1 0 0 0) resting 0) ∷
    unformed (counting (seconds 0 4294967295 1 0 0) asking 0) ∷
    unformed (counting (seconds 0 0 4294967295 1 0) falling 0) ∷
    unformed (counting (seconds 0 0 0 4294967295 1) reporting 2) ∷
    unformed (counting (seconds 1 0 0 0 4294967295) ceasing 0) ∷
    unformed (counting (seconds 0 2147483648 0 0 2147483648) reporting 2) ∷
    unformed (counting (seconds 858993459 858993459 858993460 858993459 858993459) reporting 2) ∷
    -- more: what would be 4,294,967,291, 10 and 0 in 32 bits
    unformed (counting (seconds 4294967295 4294967295 4294967295 4294967295 4294967295) reporting 2) ∷
    unformed (counting (seconds 4294967295 3 2 2 4) reporting 2) ∷
    unformed (counting (seconds 2147483648 2147483648 2147483648 2147483648 0) resting 0) ∷
    -- every slot is looked at
    unformed (state nine (timed theirs 7 resting 0 (seconds 4294967295 0 0 0 1)) vacant vacant vacant vacant vacant vacant vacant) ∷
    unformed (state nine vacant vacant vacant vacant vacant vacant vacant (timed theirs 7 reporting 0 (seconds 4294967295 0 0 0 1))) ∷
    formed (state nine (timed theirs 7 resting 0 spread) vacant vacant vacant vacant vacant vacant (timed others 7 reporting 0 spread)) ∷
    -- "These counts survive Idle, and well formed now allows it": any in any state
    formed (counting (seconds 1 2 3 4 5) resting 0) ∷
    formed (counting (seconds 1 2 3 4 5) asking 0) ∷
    formed (counting (seconds 1 2 3 4 5) falling 0) ∷
    formed (counting (seconds 1 2 3 4 5) reporting 2) ∷
    formed (counting (seconds 1 2 3 4 5) ceasing 0) ∷
    formed (counting (seconds 0 0 0 0 0) reporting 2) ∷
    -- "free slots are all zero": each count in turn; and a sum that would be 0 in 32 bits
    formed (free_for (seconds 0 0 0 0 0)) ∷
    unformed (free_for (seconds 1 0 0 0 0)) ∷
    unformed (free_for (seconds 0 1 0 0 0)) ∷
    unformed (free_for (seconds 0 0 1 0 0)) ∷
    unformed (free_for (seconds 0 0 0 1 0)) ∷
    unformed (free_for (seconds 0 0 0 0 1)) ∷
    unformed (free_for (seconds 4294967295 0 0 0 0)) ∷
    unformed (free_for (seconds 2147483648 0 0 0 2147483648)) ∷
    unformed (state nine first vacant vacant vacant vacant vacant vacant (timed 0 0 resting 0 (seconds 0 0 0 0 1))) ∷
    -- "Remove and add start from zero": a removed slot is all zero, others keep theirs; the neighbour added anew has none
    remove (third (timed theirs 7 resting 0 (seconds 11 22 33 44 55))) theirs 0 (third vacant) ∷
    add (third vacant) theirs 7 0 (third (slot theirs 7 resting 0)) ∷
    add (third vacant) (ip 128 9 0 20) 20 0 (third (slot (ip 128 9 0 20) 20 resting 0)) ∷
    remove (third (timed theirs 7 resting 0 spread)) theirs 0 (third vacant) ∷
    remove (counting (seconds 11 22 33 44 55) reporting 2) others 0
    (state nine vacant vacant (timed theirs 7 reporting 2 (seconds 11 22 33 44 55)) vacant vacant vacant vacant vacant) ∷
    -- refused, they change none: 18, 5, 16
    remove (third (timed theirs 7 resting 0 (seconds 11 22 33 44 55))) nobody 18 (third (timed theirs 7 resting 0 (seconds 11 22 33 44 55))) ∷
    remove (third vacant) theirs 5 (third vacant) ∷
    add (third (timed theirs 7 resting 0 (seconds 11 22 33 44 55))) theirs 7 16 (third (timed theirs 7 resting 0 (seconds 11 22 33 44 55))) ∷
    -- messages that are refused: 13 in Up, 9 in Idle, 14 in Up with its Error
    heard (counting (seconds 11 22 33 44 55) reporting 2) "02 01 00 00 7D E9 00 07 00 05 00 00 80 09 00 00" 13 0 0 "" ∷
    heard (counting spread resting 0) "02 03 00 00 FD 51 00 0C 00 09 00 1E 00 78" 9 10 0 "02 03 02 04 FB E6 00 09 00 09" ∷
    heard (counting spread reporting 2) "02 01 00 01 7C EA 00 07 00 03 01 00 80 09 00 00 00" 14 24 0 "02 08 00 01 7D F0 00 09 00 05 00 02 02 01 00 01 7C EA 00 07 00 03 01 00" ∷
    message (counting (seconds 4294967295 0 0 0 1) reporting 2) 3072 2048 [] theirs (hex "02 05 00 00 FD EA 00 07 00 09") 1 0 0 [] ∷
    []

-- ---- the listing: "five lines after `rows`: `sidle`, `sacq`, `sdown`, `sup`, `scease`"

unfoldable pub listed_rows : List ℕ
listed_rows = replicate 768 0 ++ ((ip 10 0 0 0 ∷ theirs ∷ 0 ∷ []) ++ replicate 2301 0)

pub record Listed : Type 0 where
  pub outcome : Outcome
  pub buffer : List ℕ

-- Idle and without rows in slot 0, Up with one row in slot 2
unfoldable pub listed_computed : Listed
listed_computed =
    let st : State = counting (seconds 1 20 300 4000 56) reporting 1 in
    let page : List ℕ = replicate 65536 7 in
    record { outcome = listing_outcome st listed_rows page; buffer = take 320 (listing_buffer st listed_rows page) }

unfoldable pub listed_written : Listed
listed_written =
    record {
      outcome = record { answer = 0; first = 254; second = 0; state = counting (seconds 1 20 300 4000 56) reporting 1 };
      buffer =
          take 320
          (text "neighbours=2\nslot=0\naddr=128.9.0.6\nas=12\nstate=idle\nmode=none\nrows=0\nsidle=61\nsacq=62\nsdown=63\nsup=64\nscease=65\nslot=2\naddr=128.9.0.5\nas=7\nstate=up\nmode=active\nrows=1\nsidle=1\nsacq=20\nsdown=300\nsup=4000\nscease=56\nnet=10.0.0.0\ngw=128.9.0.5\ndist=0\nside=int\n"
          ++ replicate 320 7);
    }
