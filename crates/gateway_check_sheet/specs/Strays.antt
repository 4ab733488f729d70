-- Stray messages (02, L6): "Section 3.4 has Idle answer Confirm, Refuse, Hello, I-H-U, Poll and Update with Cease; 01
-- took 3.5 and stayed silent. Make that the new default: a Cease, status 7, sequence 0, answer 0, the neighbour staying
-- Idle." With `quiet` 1 Idle stays silent. Our AS is 9, the neighbour's 7.
use Prim.Native.String.{String}
use Rattle.std.specs.Prelude.{List, [], ◌∷◌}
use Rattle.neighbour.specs.declared.Phase.TheVariants.{Acquisition, Down, Up}
use Rattle.neighbour.specs.declared.Mode.TheVariants.{Unset, Active, Passive}
use Rattle.neighbour_machine.specs.Intrinsics.{Start, Stop, Tick}
use Rattle.gateway_state.specs.declared.State.{State}
use Rattle.gateway_check_sheet.specs.Given.{hex, common, ours, set, nine_with, made, since, resting, falling, reporting, seconds, clocked, in_slot_two, in_idle}
use Rattle.gateway_check_sheet.specs.Line.{Line, heard}
use Rattle.gateway_check_sheet.specs.Effects.{WorkedCall, event, kept, heard_alone}

-- the same gateway with `quiet` 1
unfoldable pub quietly : State → State
quietly st = record { settings = nine_with 1; slots = st.slots }

unfoldable pub quiet_idle : State
quiet_idle = quietly in_idle

-- the same gateway with AS 258
unfoldable pub idle_at258 : State
idle_at258 = record { settings = set 258 ours 0 common; slots = in_idle.slots }

-- `quiet` 0: these octets draw the Cease, and nothing else changes
unfoldable pub answered : String → WorkedCall
answered octets = heard_alone octets in_idle 10 "02 03 03 07 FA EC 00 09 00 00" in_idle kept

-- `quiet` 1: they draw nothing, and nothing changes
unfoldable pub ignored : String → WorkedCall
ignored octets = heard_alone octets quiet_idle 0 "" quiet_idle kept

unfoldable pub strays : List WorkedCall
strays =
    -- `quiet` 0, the six kinds with the numbers 9, 0 and 65,535: Confirm, the last one unacceptable
    answered "02 03 01 00 FC 56 00 07 00 09 00 1E 00 78" ∷
    answered "02 03 01 01 FC 5E 00 07 00 00 00 1E 00 78" ∷
    answered "02 03 01 02 FC 02 00 07 FF FF 00 79 00 78" ∷
    -- Refuse
    answered "02 03 02 00 FB EC 00 07 00 09" ∷
    answered "02 03 02 04 FB F1 00 07 00 00" ∷
    answered "02 03 02 07 FB EE 00 07 FF FF" ∷
    -- Hello
    answered "02 05 00 00 FD EA 00 07 00 09" ∷
    answered "02 05 00 01 FD F2 00 07 00 00" ∷
    answered "02 05 00 02 FD F1 00 07 FF FF" ∷
    -- I-H-U
    answered "02 05 01 00 FC EA 00 07 00 09" ∷
    answered "02 05 01 01 FC F2 00 07 00 00" ∷
    answered "02 05 01 02 FC F1 00 07 FF FF" ∷
    -- Poll: for the common net, with reserved octets that are not 0, for another net
    answered "02 02 00 00 7D E4 00 07 00 09 00 00 80 09 00 00" ∷
    answered "02 02 00 01 D2 1E 00 07 00 00 AB CD 80 09 00 00" ∷
    answered "02 02 00 02 F3 F4 00 07 FF FF 00 00 0A 00 00 00" ∷
    -- Update: without rows, with a row, unsolicited
    answered "02 01 00 00 7D E5 00 07 00 09 00 00 80 09 00 00" ∷
    answered "02 01 00 01 7A DE 00 07 00 00 01 00 80 09 00 00 00 05 01 00 01 0A" ∷
    answered "02 01 00 81 7D 6D 00 07 FF FF 00 00 80 09 00 00" ∷
    -- Update with any body: octets missing, one left over, a net of no class, another net; the numbers 9, 0, 3, 3
    answered "02 01 00 01 B9 CF 00 07 00 09 01 00 80 09 00 00 00 05 01 00 02 0A C0 05" ∷
    answered "02 01 00 01 7D ED 00 07 00 00 00 00 80 09 00 00 00" ∷
    answered "02 01 00 01 7A 05 00 07 00 03 01 00 80 09 00 00 00 05 01 00 01 E0" ∷
    answered "02 01 00 01 F3 F3 00 07 00 03 00 00 0A 00 00 00" ∷
    -- `quiet` 1, "which keeps the old behaviour": the same, and nothing is sent
    ignored "02 03 01 00 FC 56 00 07 00 09 00 1E 00 78" ∷
    ignored "02 03 01 01 FC 5E 00 07 00 00 00 1E 00 78" ∷
    ignored "02 03 01 02 FC 02 00 07 FF FF 00 79 00 78" ∷
    ignored "02 03 02 00 FB EC 00 07 00 09" ∷
    ignored "02 03 02 04 FB F1 00 07 00 00" ∷
    ignored "02 03 02 07 FB EE 00 07 FF FF" ∷
    ignored "02 05 00 00 FD EA 00 07 00 09" ∷
    ignored "02 05 00 01 FD F2 00 07 00 00" ∷
    ignored "02 05 00 02 FD F1 00 07 FF FF" ∷
    ignored "02 05 01 00 FC EA 00 07 00 09" ∷
    ignored "02 05 01 01 FC F2 00 07 00 00" ∷
    ignored "02 05 01 02 FC F1 00 07 FF FF" ∷
    ignored "02 02 00 00 7D E4 00 07 00 09 00 00 80 09 00 00" ∷
    ignored "02 02 00 01 D2 1E 00 07 00 00 AB CD 80 09 00 00" ∷
    ignored "02 02 00 02 F3 F4 00 07 FF FF 00 00 0A 00 00 00" ∷
    ignored "02 01 00 00 7D E5 00 07 00 09 00 00 80 09 00 00" ∷
    ignored "02 01 00 01 7A DE 00 07 00 00 01 00 80 09 00 00 00 05 01 00 01 0A" ∷
    ignored "02 01 00 81 7D 6D 00 07 FF FF 00 00 80 09 00 00" ∷
    ignored "02 01 00 01 B9 CF 00 07 00 09 01 00 80 09 00 00 00 05 01 00 02 0A C0 05" ∷
    ignored "02 01 00 01 7D ED 00 07 00 00 00 00 80 09 00 00 00" ∷
    ignored "02 01 00 01 7A 05 00 07 00 03 01 00 80 09 00 00 00 05 01 00 01 E0" ∷
    ignored "02 01 00 01 F3 F3 00 07 00 03 00 00 0A 00 00 00" ∷
    -- the Cease carries our AS, here 258
    heard_alone "02 05 00 00 FD EA 00 07 00 09" idle_at258 10 "02 03 03 07 F9 F3 01 02 00 00" idle_at258 kept ∷
    -- Cease-ack is none of the six: nothing is sent with either
    heard_alone "02 03 04 00 F9 EC 00 07 00 09" in_idle 0 "" in_idle kept ∷
    heard_alone "02 03 04 07 F9 EE 00 07 00 00" in_idle 0 "" in_idle kept ∷
    ignored "02 03 04 00 F9 EC 00 07 00 09" ∷
    ignored "02 03 04 07 F9 EE 00 07 00 00" ∷
    -- nor is Error
    heard_alone "02 08 00 00 FD E6 00 07 00 09 00 01 00 00 00 00 00 00 00 00 00 00 00 00" in_idle 0 "" in_idle kept ∷
    heard_alone "02 08 00 81 FD 6D 00 07 00 00 00 02 02 05 00 01 FD E9 00 07 00 09 00 00" in_idle 0 "" in_idle kept ∷
    ignored "02 08 00 00 FD E6 00 07 00 09 00 01 00 00 00 00 00 00 00 00 00 00 00 00" ∷
    ignored "02 08 00 81 FD 6D 00 07 00 00 00 02 02 05 00 01 FD E9 00 07 00 09 00 00" ∷
    -- Request, acceptable and unacceptable: as before with either
    heard_alone "02 03 00 00 FD 56 00 07 00 09 00 1E 00 78" in_idle 14 "02 03 01 00 FC 54 00 09 00 09 00 1E 00 78"
    (in_slot_two (made Down 0 9 32 122 Passive 32 0 120 0 0 0) 0) kept ∷
    heard_alone "02 03 00 00 FC FB 00 07 00 09 00 79 00 78" in_idle 10 "02 03 02 06 FB E4 00 09 00 09" in_idle kept ∷
    heard_alone "02 03 00 00 FD 56 00 07 00 09 00 1E 00 78" quiet_idle 14 "02 03 01 00 FC 54 00 09 00 09 00 1E 00 78"
    (quietly (in_slot_two (made Down 0 9 32 122 Passive 32 0 120 0 0 0) 0)) kept ∷
    heard_alone "02 03 00 00 FC FB 00 07 00 09 00 79 00 78" quiet_idle 10 "02 03 02 06 FB E4 00 09 00 09" quiet_idle kept ∷
    -- Cease: as before with either, a Cease 7 too
    heard_alone "02 03 03 00 FA EC 00 07 00 09" in_idle 10 "02 03 04 00 F9 EA 00 09 00 09" in_idle kept ∷
    heard_alone "02 03 03 07 FA EE 00 07 00 00" in_idle 10 "02 03 04 00 F9 F3 00 09 00 00" in_idle kept ∷
    heard_alone "02 03 03 00 FA EC 00 07 00 09" quiet_idle 10 "02 03 04 00 F9 EA 00 09 00 09" quiet_idle kept ∷
    heard_alone "02 03 03 07 FA EE 00 07 00 00" quiet_idle 10 "02 03 04 00 F9 F3 00 09 00 00" quiet_idle kept ∷
    -- Start, Stop and a tick in Idle with `quiet` 1: as before; the tick is counted (02, L7)
    event Start quiet_idle 14 0 (hex "02 03 00 00 FD 5D 00 09 00 00 00 1E 00 78")
    (quietly (in_slot_two (since 0 0 (made Acquisition 0 0 0 0 Unset 30 0 120 0 0 0)) 0)) kept ∷
    event Stop quiet_idle 0 0 [] quiet_idle kept ∷
    event Tick quiet_idle 0 0 [] (quietly (clocked (seconds 1 0 0 0 0) resting 0)) kept ∷
    -- outside Idle `quiet` 1 changes nothing: a Hello in Down and in Up
    heard_alone "02 05 00 01 FD E9 00 07 00 09" (quietly (in_slot_two falling 0)) 10 "02 05 01 02 FC E6 00 09 00 09"
    (quietly (in_slot_two (since 0 120 (made Down 3 9 32 122 Passive 20 0 3600 4 1 0)) 0)) kept ∷
    heard_alone "02 05 00 01 FD E9 00 07 00 09" (quietly (in_slot_two reporting 3)) 10 "02 05 01 01 FC E7 00 09 00 09"
    (quietly (in_slot_two (since 0 120 (made Up 3 9 32 122 Active 20 60 100 7 0 0)) 3)) kept ∷
    []

-- a stray message that a check refuses is refused in Idle as before, without a reply: for another AS, a status not
-- allowed, a length wrong for the type; then for a checksum wrong and a code unknown
unfoldable pub refused_strays : List Line
refused_strays =
    -- `quiet` 0: 9, 11 and 12 to a Confirm, Refuse, Hello, I-H-U, Poll and Update
    heard in_idle "02 03 01 00 FC 51 00 0C 00 09 00 1E 00 78" 9 0 0 "" ∷
    heard in_idle "02 03 01 03 FC 53 00 07 00 09 00 1E 00 78" 11 0 0 "" ∷
    heard in_idle "02 03 01 00 FC CE 00 07 00 09 00 1E 00" 12 0 0 "" ∷
    heard in_idle "02 03 02 00 FB E7 00 0C 00 09" 9 0 0 "" ∷
    heard in_idle "02 03 02 01 FB EB 00 07 00 09" 11 0 0 "" ∷
    heard in_idle "02 03 02 00 FB EC 00 07 00 09 00" 12 0 0 "" ∷
    heard in_idle "02 05 00 00 FD E5 00 0C 00 09" 9 0 0 "" ∷
    heard in_idle "02 05 00 03 FD E7 00 07 00 09" 11 0 0 "" ∷
    heard in_idle "02 05 00 00 FD EA 00 07 00 09 00" 12 0 0 "" ∷
    heard in_idle "02 05 01 00 FC E5 00 0C 00 09" 9 0 0 "" ∷
    heard in_idle "02 05 01 03 FC E7 00 07 00 09" 11 0 0 "" ∷
    heard in_idle "02 05 01 00 FC EA 00 07 00 09 00" 12 0 0 "" ∷
    heard in_idle "02 02 00 00 7D DF 00 0C 00 09 00 00 80 09 00 00" 9 0 0 "" ∷
    heard in_idle "02 02 00 03 7D E1 00 07 00 09 00 00 80 09 00 00" 11 0 0 "" ∷
    heard in_idle "02 02 00 00 7D E4 00 07 00 09 00 00 80 09 00" 12 0 0 "" ∷
    heard in_idle "02 01 00 00 7D E0 00 0C 00 09 00 00 80 09 00 00" 9 0 0 "" ∷
    heard in_idle "02 01 00 03 7D E2 00 07 00 09 00 00 80 09 00 00" 11 0 0 "" ∷
    heard in_idle "02 01 00 00 7D E5 00 07 00 09 00 00 80 09 00" 12 0 0 "" ∷
    heard in_idle "02 05 00 00 FD EB 00 07 00 09" 8 0 0 "" ∷
    heard in_idle "02 05 02 00 FB EA 00 07 00 09" 10 0 0 "" ∷
    -- `quiet` 1: the same
    heard quiet_idle "02 03 01 00 FC 51 00 0C 00 09 00 1E 00 78" 9 0 0 "" ∷
    heard quiet_idle "02 03 01 03 FC 53 00 07 00 09 00 1E 00 78" 11 0 0 "" ∷
    heard quiet_idle "02 03 01 00 FC CE 00 07 00 09 00 1E 00" 12 0 0 "" ∷
    heard quiet_idle "02 03 02 00 FB E7 00 0C 00 09" 9 0 0 "" ∷
    heard quiet_idle "02 03 02 01 FB EB 00 07 00 09" 11 0 0 "" ∷
    heard quiet_idle "02 03 02 00 FB EC 00 07 00 09 00" 12 0 0 "" ∷
    heard quiet_idle "02 05 00 00 FD E5 00 0C 00 09" 9 0 0 "" ∷
    heard quiet_idle "02 05 00 03 FD E7 00 07 00 09" 11 0 0 "" ∷
    heard quiet_idle "02 05 00 00 FD EA 00 07 00 09 00" 12 0 0 "" ∷
    heard quiet_idle "02 05 01 00 FC E5 00 0C 00 09" 9 0 0 "" ∷
    heard quiet_idle "02 05 01 03 FC E7 00 07 00 09" 11 0 0 "" ∷
    heard quiet_idle "02 05 01 00 FC EA 00 07 00 09 00" 12 0 0 "" ∷
    heard quiet_idle "02 02 00 00 7D DF 00 0C 00 09 00 00 80 09 00 00" 9 0 0 "" ∷
    heard quiet_idle "02 02 00 03 7D E1 00 07 00 09 00 00 80 09 00 00" 11 0 0 "" ∷
    heard quiet_idle "02 02 00 00 7D E4 00 07 00 09 00 00 80 09 00" 12 0 0 "" ∷
    heard quiet_idle "02 01 00 00 7D E0 00 0C 00 09 00 00 80 09 00 00" 9 0 0 "" ∷
    heard quiet_idle "02 01 00 03 7D E2 00 07 00 09 00 00 80 09 00 00" 11 0 0 "" ∷
    heard quiet_idle "02 01 00 00 7D E5 00 07 00 09 00 00 80 09 00" 12 0 0 "" ∷
    heard quiet_idle "02 05 00 00 FD EB 00 07 00 09" 8 0 0 "" ∷
    heard quiet_idle "02 05 02 00 FB EA 00 07 00 09" 10 0 0 "" ∷
    []
