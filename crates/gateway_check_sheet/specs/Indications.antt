-- An Update as an indication, in every state, in both modes and with every status: 02, L3: "in passive mode, an Update
-- carried out in Down or Up whose status without the unsolicited bit is 1 is an indication too. Active mode stays as it
-- was." 01: "It sets heard to 1 and t3 to P4." A refused one is not carried out.
use Rattle.std.specs.Prelude.{ℕ, List, [], ◌∷◌, ◌++◌, length, take, replicate}
use Prim.Native.String.{String}
use Rattle.neighbour.specs.declared.Phase.TheVariants.{Down, Up}
use Rattle.neighbour.specs.declared.Mode.TheVariants.{Active, Passive}
use Rattle.gateway_state.specs.declared.State.{State}
use Rattle.gateway_state.specs.declared.Outcome.{Outcome}
use Rattle.gateway_rules.specs.Calls.{message_outcome, message_buffer}
use Rattle.gateway_check_sheet.specs.Given.{hex, theirs, made, resting, asking, ceasing, in_slot_two}

-- a message from the neighbour: the state, the octets; the answer, the octets of the reply, the state after it
pub data Heard : Type 0 where
  line : State → List ℕ → ℕ → List ℕ → State → Heard

-- answer, lengths and state, and the front of a buffer that is all 7
pub record Leaves : Type 0 where
  pub outcome : Outcome
  pub buffer : List ℕ

unfoldable pub computed : Heard → Leaves
computed (line st octets answer reply after) =
    record {
      outcome = message_outcome st (replicate 3072 8) (replicate 2048 7) [] theirs octets;
      buffer = take 32 (message_buffer st (replicate 3072 8) (replicate 2048 7) [] theirs octets);
    }

unfoldable pub written : Heard → Leaves
written (line st octets answer reply after) =
    record {
      outcome = record { answer = answer; first = length reply; second = 0; state = after };
      buffer = take 32 (reply ++ replicate 32 7);
    }

unfoldable pub hears_update : State → String → ℕ → String → State → Heard
hears_update st octets answer reply after = line st (hex octets) answer (hex reply) after

-- the neighbour in slot 2, not heard from in this window: t3 is 100, heard 0; two rows in Up
unfoldable pub passive_down : State
passive_down = in_slot_two (made Down 3 5 32 122 Passive 20 0 100 0 0 0) 0

unfoldable pub passive_up : State
passive_up = in_slot_two (made Up 3 5 32 122 Passive 20 60 100 7 0 0) 2

unfoldable pub active_down : State
active_down = in_slot_two (made Down 3 5 32 122 Active 20 0 100 0 0 0) 0

unfoldable pub active_up : State
active_up = in_slot_two (made Up 3 5 32 122 Active 20 60 100 7 0 0) 2

-- statuses 0, 1, 2, 128, 129 and 130 in this order, or 1 and 129
unfoldable pub indication_lines : List Heard
indication_lines =
    -- passive, Up: an Update accepted; 1 and 129 count
    hears_update passive_up "02 01 00 00 7D EB 00 07 00 03 00 00 80 09 00 00" 0 "" (in_slot_two (made Up 3 5 32 122 Passive 20 60 100 7 0 0) 0) ∷
    hears_update passive_up "02 01 00 01 7D EA 00 07 00 03 00 00 80 09 00 00" 0 "" (in_slot_two (made Up 3 5 32 122 Passive 20 60 3600 7 1 0) 0) ∷
    hears_update passive_up "02 01 00 02 7D E9 00 07 00 03 00 00 80 09 00 00" 0 "" (in_slot_two (made Up 3 5 32 122 Passive 20 60 100 7 0 0) 0) ∷
    hears_update passive_up "02 01 00 80 7D 6B 00 07 00 03 00 00 80 09 00 00" 0 "" (in_slot_two (made Up 3 5 32 122 Passive 20 60 100 7 0 0) 0) ∷
    hears_update passive_up "02 01 00 81 7D 6A 00 07 00 03 00 00 80 09 00 00" 0 "" (in_slot_two (made Up 3 5 32 122 Passive 20 60 3600 7 1 0) 0) ∷
    hears_update passive_up "02 01 00 82 7D 69 00 07 00 03 00 00 80 09 00 00" 0 "" (in_slot_two (made Up 3 5 32 122 Passive 20 60 100 7 0 0) 0) ∷
    -- passive, Down: an Update whose body is bad is carried out; 1 and 129 count
    hears_update passive_down "02 01 00 00 7C EB 00 07 00 03 01 00 80 09 00 00 00" 0 "" (in_slot_two (made Down 3 5 32 122 Passive 20 0 100 0 0 0) 0) ∷
    hears_update passive_down "02 01 00 01 7C EA 00 07 00 03 01 00 80 09 00 00 00" 0 "" (in_slot_two (made Down 3 5 32 122 Passive 20 0 3600 0 1 0) 0) ∷
    hears_update passive_down "02 01 00 02 7C E9 00 07 00 03 01 00 80 09 00 00 00" 0 "" (in_slot_two (made Down 3 5 32 122 Passive 20 0 100 0 0 0) 0) ∷
    hears_update passive_down "02 01 00 80 7C 6B 00 07 00 03 01 00 80 09 00 00 00" 0 "" (in_slot_two (made Down 3 5 32 122 Passive 20 0 100 0 0 0) 0) ∷
    hears_update passive_down "02 01 00 81 7C 6A 00 07 00 03 01 00 80 09 00 00 00" 0 "" (in_slot_two (made Down 3 5 32 122 Passive 20 0 3600 0 1 0) 0) ∷
    hears_update passive_down "02 01 00 82 7C 69 00 07 00 03 01 00 80 09 00 00 00" 0 "" (in_slot_two (made Down 3 5 32 122 Passive 20 0 100 0 0 0) 0) ∷
    -- active: every Update carried out counts, as before
    hears_update active_up "02 01 00 00 7D EB 00 07 00 03 00 00 80 09 00 00" 0 "" (in_slot_two (made Up 3 5 32 122 Active 20 60 3600 7 1 0) 0) ∷
    hears_update active_up "02 01 00 01 7D EA 00 07 00 03 00 00 80 09 00 00" 0 "" (in_slot_two (made Up 3 5 32 122 Active 20 60 3600 7 1 0) 0) ∷
    hears_update active_up "02 01 00 02 7D E9 00 07 00 03 00 00 80 09 00 00" 0 "" (in_slot_two (made Up 3 5 32 122 Active 20 60 3600 7 1 0) 0) ∷
    hears_update active_up "02 01 00 80 7D 6B 00 07 00 03 00 00 80 09 00 00" 0 "" (in_slot_two (made Up 3 5 32 122 Active 20 60 3600 7 1 0) 0) ∷
    hears_update active_up "02 01 00 81 7D 6A 00 07 00 03 00 00 80 09 00 00" 0 "" (in_slot_two (made Up 3 5 32 122 Active 20 60 3600 7 1 0) 0) ∷
    hears_update active_up "02 01 00 82 7D 69 00 07 00 03 00 00 80 09 00 00" 0 "" (in_slot_two (made Up 3 5 32 122 Active 20 60 3600 7 1 0) 0) ∷
    hears_update active_down "02 01 00 00 7C EB 00 07 00 03 01 00 80 09 00 00 00" 0 "" (in_slot_two (made Down 3 5 32 122 Active 20 0 3600 0 1 0) 0) ∷
    hears_update active_down "02 01 00 01 7C EA 00 07 00 03 01 00 80 09 00 00 00" 0 "" (in_slot_two (made Down 3 5 32 122 Active 20 0 3600 0 1 0) 0) ∷
    hears_update active_down "02 01 00 02 7C E9 00 07 00 03 01 00 80 09 00 00 00" 0 "" (in_slot_two (made Down 3 5 32 122 Active 20 0 3600 0 1 0) 0) ∷
    hears_update active_down "02 01 00 80 7C 6B 00 07 00 03 01 00 80 09 00 00 00" 0 "" (in_slot_two (made Down 3 5 32 122 Active 20 0 3600 0 1 0) 0) ∷
    hears_update active_down "02 01 00 81 7C 6A 00 07 00 03 01 00 80 09 00 00 00" 0 "" (in_slot_two (made Down 3 5 32 122 Active 20 0 3600 0 1 0) 0) ∷
    hears_update active_down "02 01 00 82 7C 69 00 07 00 03 01 00 80 09 00 00 00" 0 "" (in_slot_two (made Down 3 5 32 122 Active 20 0 3600 0 1 0) 0) ∷
    -- Idle, Acquisition and Cease note nothing; Idle answers with a Cease (02, L6)
    hears_update (in_slot_two resting 0) "02 01 00 01 7D EA 00 07 00 03 00 00 80 09 00 00" 0 "02 03 03 07 FA EC 00 09 00 00" (in_slot_two resting 0) ∷
    hears_update (in_slot_two resting 0) "02 01 00 81 7D 6A 00 07 00 03 00 00 80 09 00 00" 0 "02 03 03 07 FA EC 00 09 00 00" (in_slot_two resting 0) ∷
    hears_update (in_slot_two asking 0) "02 01 00 01 7D EA 00 07 00 03 00 00 80 09 00 00" 0 "" (in_slot_two asking 0) ∷
    hears_update (in_slot_two asking 0) "02 01 00 81 7D 6A 00 07 00 03 00 00 80 09 00 00" 0 "" (in_slot_two asking 0) ∷
    hears_update (in_slot_two ceasing 0) "02 01 00 01 7D EA 00 07 00 03 00 00 80 09 00 00" 0 "" (in_slot_two ceasing 0) ∷
    hears_update (in_slot_two ceasing 0) "02 01 00 81 7D 6A 00 07 00 03 00 00 80 09 00 00" 0 "" (in_slot_two ceasing 0) ∷
    -- refused, so not carried out: 13 in Down and Up, in both modes; 14 and 15 in Up
    hears_update passive_down "02 01 00 01 7D E9 00 07 00 04 00 00 80 09 00 00" 13 "" passive_down ∷
    hears_update passive_down "02 01 00 81 7D 69 00 07 00 04 00 00 80 09 00 00" 13 "" passive_down ∷
    hears_update passive_up "02 01 00 01 7D E9 00 07 00 04 00 00 80 09 00 00" 13 "" passive_up ∷
    hears_update passive_up "02 01 00 81 7D 69 00 07 00 04 00 00 80 09 00 00" 13 "" passive_up ∷
    hears_update active_down "02 01 00 01 7D E9 00 07 00 04 00 00 80 09 00 00" 13 "" active_down ∷
    hears_update active_down "02 01 00 81 7D 69 00 07 00 04 00 00 80 09 00 00" 13 "" active_down ∷
    hears_update active_up "02 01 00 01 7D E9 00 07 00 04 00 00 80 09 00 00" 13 "" active_up ∷
    hears_update active_up "02 01 00 81 7D 69 00 07 00 04 00 00 80 09 00 00" 13 "" active_up ∷
    hears_update passive_up "02 01 00 01 7C EA 00 07 00 03 01 00 80 09 00 00 00" 14 "02 08 00 01 7D F0 00 09 00 05 00 02 02 01 00 01 7C EA 00 07 00 03 01 00" passive_up ∷
    hears_update passive_up "02 01 00 81 7C 6A 00 07 00 03 01 00 80 09 00 00 00" 14 "02 08 00 01 7D F0 00 09 00 05 00 02 02 01 00 81 7C 6A 00 07 00 03 01 00" passive_up ∷
    hears_update active_up "02 01 00 01 7C EA 00 07 00 03 01 00 80 09 00 00 00" 14 "02 08 00 01 7D F0 00 09 00 05 00 02 02 01 00 01 7C EA 00 07 00 03 01 00" active_up ∷
    hears_update active_up "02 01 00 81 7C 6A 00 07 00 03 01 00 80 09 00 00 00" 14 "02 08 00 01 7D F0 00 09 00 05 00 02 02 01 00 81 7C 6A 00 07 00 03 01 00" active_up ∷
    line passive_up (hex "02 01 00 01 78 58 00 07 00 03 01 00 80 09 00 00 00 05 01 00 81" ++ replicate 129 10) 15 (hex "02 08 00 01 82 84 00 09 00 05 00 00 02 01 00 01 78 58 00 07 00 03 01 00") passive_up ∷
    line passive_up (hex "02 01 00 81 77 D8 00 07 00 03 01 00 80 09 00 00 00 05 01 00 81" ++ replicate 129 10) 15 (hex "02 08 00 01 82 84 00 09 00 05 00 00 02 01 00 81 77 D8 00 07 00 03 01 00") passive_up ∷
    line active_up (hex "02 01 00 01 78 58 00 07 00 03 01 00 80 09 00 00 00 05 01 00 81" ++ replicate 129 10) 15 (hex "02 08 00 01 82 84 00 09 00 05 00 00 02 01 00 01 78 58 00 07 00 03 01 00") active_up ∷
    line active_up (hex "02 01 00 81 77 D8 00 07 00 03 01 00 80 09 00 00 00 05 01 00 81" ++ replicate 129 10) 15 (hex "02 08 00 01 82 84 00 09 00 05 00 00 02 01 00 81 77 D8 00 07 00 03 01 00") active_up ∷
    -- refused by 9, 11 and 12
    hears_update passive_up "02 01 00 01 7D E9 00 08 00 03 00 00 80 09 00 00" 9 "" passive_up ∷
    hears_update passive_up "02 01 00 83 7D 68 00 07 00 03 00 00 80 09 00 00" 11 "02 08 00 01 7D F1 00 09 00 05 00 01 02 01 00 83 7D 68 00 07 00 03 00 00" passive_up ∷
    hears_update passive_up "02 01 00 01 7D EA 00 07 00 03 00 00 80 09 00" 12 "02 08 00 01 7D F1 00 09 00 05 00 01 02 01 00 01 7D EA 00 07 00 03 00 00" passive_up ∷
    []
