-- What a call that is carried out leaves: answer, lengths and the whole state; the octets of the buffer; every number of the table. The
-- neighbour is in slot 2 with three rows if it is Up; the table is all 8, the buffer all 7.
use Rattle.std.specs.Prelude.{ℕ, List, [], ◌∷◌, ◌++◌, take, replicate, Ok}
use Prim.Native.String.{String}
use Rattle.message.specs.declared.Message.TheVariants as M
use Rattle.codec.specs.declared.Reading.{Reading}
use Rattle.codec.specs.Reading.{read_of}
use Rattle.neighbour.specs.declared.Phase.TheVariants.{Idle, Acquisition, Down, Up, Cease}
use Rattle.neighbour.specs.declared.Mode.TheVariants.{Unset, Active, Passive}
use Rattle.neighbour_machine.specs.Intrinsics.{Intrinsic, Start, Stop, Tick}
use Rattle.gateway_state.specs.declared.State.{State}
use Rattle.gateway_state.specs.declared.Outcome.{Outcome}
use Rattle.gateway_rules.specs.Calls.{event_outcome, event_table, event_buffer, message_outcome, message_table, message_buffer}
use Rattle.gateway_check_sheet.specs.Given.{hex, ip, ours, theirs, others, set, made, since, resting, asking, falling, reporting, ceasing, slot, vacant, state, seconds, clocked, in_slot_two}

-- a call about the neighbour in slot 2: the state; the two lengths, the octets of the reply, the state after it, the numbers of slot 2's part
pub data WorkedCall : Type 0 where
  event : Intrinsic → State → ℕ → ℕ → List ℕ → State → List ℕ → WorkedCall
  -- a message with a home list
  message : List ℕ → List ℕ → State → ℕ → ℕ → List ℕ → State → List ℕ → WorkedCall

pub record Left : Type 0 where
  pub outcome : Outcome
  pub buffer : List ℕ
  pub table : List ℕ

unfoldable pub eights : List ℕ
eights = replicate 3072 8

unfoldable pub sevens : List ℕ
sevens = replicate 2048 7

unfoldable pub computed : WorkedCall → Left
computed (event e st first second reply after part) =
    record {
      outcome = event_outcome e st eights sevens theirs;
      buffer = take 64 (event_buffer e st eights sevens theirs);
      table = event_table e st eights sevens theirs;
    }
computed (message octets home st first second reply after part) =
    record {
      outcome = message_outcome st eights sevens home theirs octets;
      buffer = take 64 (message_buffer st eights sevens home theirs octets);
      table = message_table st eights sevens home theirs octets;
    }

-- carried out, with this reply and state; slot 2's part of the table holds these 384 numbers, and everything else stays
unfoldable pub carried : ℕ → ℕ → List ℕ → State → List ℕ → Left
carried first second reply after part =
    record {
      outcome = record { answer = 0; first = first; second = second; state = after };
      buffer = take 64 (reply ++ sevens);
      table = replicate 768 8 ++ (part ++ replicate 1920 8);
    }

unfoldable pub written : WorkedCall → Left
written (event e st first second reply after part) = carried first second reply after part
written (message octets home st first second reply after part) = carried first second reply after part

-- slot 2's part: as it was; zeroed; these rows and zeros behind them
unfoldable pub kept : List ℕ
kept = replicate 384 8

unfoldable pub zeroed : List ℕ
zeroed = replicate 384 0

-- the neighbour heard, without a home list
unfoldable pub heard_alone : String → State → ℕ → String → State → List ℕ → WorkedCall
heard_alone octets st first reply after part = message (hex octets) [] st first 0 (hex reply) after part

-- the same gateway with capability 1
unfoldable pub at_active : State → State
at_active st = record { settings = set 9 ours 1 (ip 128 9 0 0); slots = st.slots }

unfoldable pub effects : List WorkedCall
effects =
    -- left by an Update in Up: "its rows replace the slot's", "the rest zero", "the count is their number"
    heard_alone "02 01 00 01 73 07 00 07 00 03 01 01 80 09 00 00 00 05 01 03 01 0A 00 06 01 04 01 C0 05 06" (in_slot_two reporting 3) 0 ""
    (in_slot_two (made Up 3 5 32 122 Active 20 60 3600 7 1 0) 2)
    ((ip 10 0 0 0 ∷ ip 128 9 0 5 ∷ 3 ∷ ip 192 5 6 0 ∷ ip 128 9 0 6 ∷ 260 ∷ []) ++ replicate 378 0) ∷
    -- left by an Update without rows in Up
    heard_alone "02 01 00 01 7D EA 00 07 00 03 00 00 80 09 00 00" (in_slot_two reporting 3) 0 "" (in_slot_two (made Up 3 5 32 122 Active 20 60 3600 7 1 0) 0) zeroed ∷
    -- left on leaving Up: "zeroes t2 and the neighbour's rows and count": Stop, Start, Cease, Request acceptable and unacceptable, t3, going Down by a tick
    event Stop (in_slot_two reporting 3) 10 0 (hex "02 03 03 05 FA EB 00 09 00 03") (in_slot_two (made Cease 3 5 0 0 Unset 30 0 120 0 0 5) 0) zeroed ∷
    event Start (in_slot_two reporting 3) 14 0 (hex "02 03 00 00 FD 5A 00 09 00 03 00 1E 00 78") (in_slot_two (made Acquisition 3 5 0 0 Unset 30 0 120 0 0 0) 0) zeroed ∷
    heard_alone "02 03 03 00 FA EC 00 07 00 09" (in_slot_two reporting 3) 10 "02 03 04 00 F9 EA 00 09 00 09" (in_slot_two resting 0) zeroed ∷
    heard_alone "02 03 00 00 FD 56 00 07 00 09 00 1E 00 78" (in_slot_two reporting 3) 14 "02 03 01 00 FC 54 00 09 00 09 00 1E 00 78"
    (in_slot_two (made Down 3 9 32 122 Passive 32 0 120 0 0 0) 0) zeroed ∷
    heard_alone "02 03 00 00 FC FB 00 07 00 09 00 79 00 78" (in_slot_two reporting 3) 10 "02 03 03 06 FA EA 00 09 00 03"
    (in_slot_two (made Cease 3 9 0 0 Unset 30 0 120 0 0 6) 0) zeroed ∷
    event Tick (in_slot_two (made Up 3 5 32 122 Active 20 60 1 7 0 0) 3) 10 0 (hex "02 03 03 05 FA EB 00 09 00 03")
    (clocked (seconds 0 0 0 1 0) (made Cease 3 5 0 0 Unset 30 0 120 0 0 5) 0) zeroed ∷
    event Tick (in_slot_two (made Up 3 5 32 122 Active 1 60 100 1 0 0) 3) 10 0 (hex "02 05 00 02 FD EC 00 09 00 03")
    (clocked (seconds 0 0 0 1 0) (made Down 3 5 32 122 Active 32 0 99 2 0 0) 0) zeroed ∷
    -- left as it was, for no other call writes the table: Hello in Up, a tick in Up, Update in Down, Stop in Down
    heard_alone "02 05 00 01 FD E9 00 07 00 09" (in_slot_two reporting 3) 10 "02 05 01 01 FC E7 00 09 00 09" (in_slot_two (since 0 120 (made Up 3 9 32 122 Active 20 60 100 7 0 0)) 3) kept ∷
    event Tick (in_slot_two reporting 3) 0 0 [] (clocked (seconds 0 0 0 1 0) (made Up 3 5 32 122 Active 19 59 99 7 0 0) 3) kept ∷
    heard_alone "02 01 00 00 7A DC 00 07 00 03 01 00 80 09 00 00 00 05 01 00 01 0A" (in_slot_two falling 0) 0 "" (in_slot_two falling 0) kept ∷
    event Stop (in_slot_two falling 0) 10 0 (hex "02 03 03 05 FA EB 00 09 00 03") (in_slot_two (made Cease 3 5 0 0 Unset 30 0 120 0 0 5) 0) kept ∷
    -- two messages: "the second written straight after the first; two lengths are reported": Confirm and Hello; Hello and Poll, its reserved octets 0
    message (hex "02 03 00 00 FC E8 00 07 00 09 00 3C 00 C8") [] (at_active (in_slot_two resting 0)) 14 10
    (hex "02 03 01 01 FC 53 00 09 00 09 00 1E 00 78 02 05 00 02 FD EF 00 09 00 00")
    (at_active (in_slot_two (made Down 0 9 62 202 Active 62 0 120 0 0 0) 0)) kept ∷
    event Tick (in_slot_two (made Down 3 5 32 122 Active 1 0 100 3 1 0) 0) 10 16
    (hex "02 05 00 01 FD ED 00 09 00 03 02 02 00 01 7D E6 00 09 00 04 00 00 80 09 00 00")
    (clocked (seconds 0 0 1 0 0) (made Up 4 5 32 122 Active 32 122 99 7 0 0) 0) kept ∷
    -- reserved octets: "Poll's reserved octets are ignored": the Update with the home list
    message (hex "02 02 00 00 D2 16 00 07 00 09 AB CD 80 09 00 00") (ip 10 0 0 0 ∷ ours ∷ 7 ∷ []) (in_slot_two reporting 3) 22 0
    (hex "02 01 00 01 7A D0 00 09 00 09 01 00 80 09 00 00 00 01 01 07 01 0A")
    (in_slot_two (since 120 0 (made Up 3 9 32 122 Active 20 60 100 7 0 0)) 3) kept ∷
    -- the counts by a tick, also by the one on which t3 ends (02, L5)
    event Tick (in_slot_two (since 29 119 (made Up 3 5 32 122 Active 20 60 100 7 0 0)) 3) 0 0 []
    (clocked (seconds 0 0 0 1 0) (since 30 120 (made Up 3 5 32 122 Active 19 59 99 7 0 0)) 3) kept ∷
    event Tick (in_slot_two (since 29 0 (made Up 3 5 32 122 Active 20 60 1 7 0 0)) 3) 10 0 (hex "02 03 03 05 FA EB 00 09 00 03")
    (clocked (seconds 0 0 0 1 0) (since 30 1 (made Cease 3 5 0 0 Unset 30 0 120 0 0 5)) 0) zeroed ∷
    -- a bad body outside Up, where 14 and 15 are not given: an Update with a bad body in Acquisition, Down and Cease
    heard_alone "02 01 00 00 7C EB 00 07 00 03 01 00 80 09 00 00 00" (in_slot_two asking 0) 0 "" (in_slot_two asking 0) kept ∷
    heard_alone "02 01 00 00 7C EB 00 07 00 03 01 00 80 09 00 00 00" (in_slot_two falling 0) 0 "" (in_slot_two falling 0) kept ∷
    heard_alone "02 01 00 00 7C EB 00 07 00 03 01 00 80 09 00 00 00" (in_slot_two ceasing 0) 0 "" (in_slot_two ceasing 0) kept ∷
    []

-- an Update read alone on a common net of class C, an internal row and an external one: the meaning and every number
unfoldable pub read_on_c : Reading
read_on_c = read_of (ip 192 5 6 0) (hex "02 01 00 01 16 62 00 07 00 01 01 01 C0 05 06 00 09 01 02 01 0A 08 01 03 01 80 09")

unfoldable pub written_on_c : Reading
written_on_c =
    record {
      meaning = Ok (M.Update 7 1 1 (ip 192 5 6 0));
      count = 2;
      rows = (ip 10 0 0 0 ∷ ip 192 5 6 9 ∷ 2 ∷ ip 128 9 0 0 ∷ ip 192 5 6 8 ∷ 259 ∷ []) ++ replicate 378 0;
    }
