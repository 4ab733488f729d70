-- 21 (02, L5), from the neighbour's record and the octets to the answer, the reply and the record after it: "a Hello less
-- than 30 ticks, or a Poll less than 120 ticks, after the last one carried out in this acquisition should draw Error 4".
-- S is 3, R is 5, and a Hello or a Poll carries 9.
use Rattle.std.specs.Prelude.{ℕ, List, [], ◌∷◌}
use Prim.Native.String.{String}
use Rattle.neighbour.specs.declared.Phase.TheVariants.{Acquisition, Down, Up, Cease}
use Rattle.neighbour.specs.declared.Mode.TheVariants.{Unset, Active, Passive}
use Rattle.gateway_state.specs.declared.State.{State}
use Rattle.gateway_check_sheet.specs.Given.{hex, made, since, resting, in_slot_two}
use Rattle.gateway_check_sheet.specs.Indications.{Heard, line}

-- the state, the octets; the answer, the octets of the reply, the state after it
unfoldable pub hears : State → String → ℕ → String → State → Heard
hears st octets answer reply after = line st (hex octets) answer (hex reply) after

unfoldable pub spacings : List Heard
spacings =
    -- Hello in Down, passive: refused below 30 with Error 4, which carries R; from 30 on carried out, and its count starts anew
    hears (in_slot_two (since 0 83 (made Down 3 5 32 122 Passive 20 0 100 4 0 0)) 0) "02 05 00 01 FD E9 00 07 00 09" 21 "02 08 00 02 FD E3 00 09 00 05 00 04 02 05 00 01 FD E9 00 07 00 09 00 00"
    (in_slot_two (since 0 83 (made Down 3 5 32 122 Passive 20 0 100 4 0 0)) 0) ∷
    hears (in_slot_two (since 28 83 (made Down 3 5 32 122 Passive 20 0 100 4 0 0)) 0) "02 05 00 01 FD E9 00 07 00 09" 21 "02 08 00 02 FD E3 00 09 00 05 00 04 02 05 00 01 FD E9 00 07 00 09 00 00"
    (in_slot_two (since 28 83 (made Down 3 5 32 122 Passive 20 0 100 4 0 0)) 0) ∷
    hears (in_slot_two (since 29 83 (made Down 3 5 32 122 Passive 20 0 100 4 0 0)) 0) "02 05 00 01 FD E9 00 07 00 09" 21 "02 08 00 02 FD E3 00 09 00 05 00 04 02 05 00 01 FD E9 00 07 00 09 00 00"
    (in_slot_two (since 29 83 (made Down 3 5 32 122 Passive 20 0 100 4 0 0)) 0) ∷
    hears (in_slot_two (since 30 83 (made Down 3 5 32 122 Passive 20 0 100 4 0 0)) 0) "02 05 00 01 FD E9 00 07 00 09" 0 "02 05 01 02 FC E6 00 09 00 09"
    (in_slot_two (since 0 83 (made Down 3 9 32 122 Passive 20 0 3600 4 1 0)) 0) ∷
    hears (in_slot_two (since 31 83 (made Down 3 5 32 122 Passive 20 0 100 4 0 0)) 0) "02 05 00 01 FD E9 00 07 00 09" 0 "02 05 01 02 FC E6 00 09 00 09"
    (in_slot_two (since 0 83 (made Down 3 9 32 122 Passive 20 0 3600 4 1 0)) 0) ∷
    hears (in_slot_two (since 120 83 (made Down 3 5 32 122 Passive 20 0 100 4 0 0)) 0) "02 05 00 01 FD E9 00 07 00 09" 0 "02 05 01 02 FC E6 00 09 00 09"
    (in_slot_two (since 0 83 (made Down 3 9 32 122 Passive 20 0 3600 4 1 0)) 0) ∷
    -- Poll likewise, below 120: in Down nothing is sent
    hears (in_slot_two (since 47 0 (made Down 3 5 32 122 Passive 20 0 100 4 0 0)) 0) "02 02 00 01 7D E3 00 07 00 09 00 00 80 09 00 00" 21 "02 08 00 02 7D ED 00 09 00 05 00 04 02 02 00 01 7D E3 00 07 00 09 00 00"
    (in_slot_two (since 47 0 (made Down 3 5 32 122 Passive 20 0 100 4 0 0)) 0) ∷
    hears (in_slot_two (since 47 30 (made Down 3 5 32 122 Passive 20 0 100 4 0 0)) 0) "02 02 00 01 7D E3 00 07 00 09 00 00 80 09 00 00" 21 "02 08 00 02 7D ED 00 09 00 05 00 04 02 02 00 01 7D E3 00 07 00 09 00 00"
    (in_slot_two (since 47 30 (made Down 3 5 32 122 Passive 20 0 100 4 0 0)) 0) ∷
    hears (in_slot_two (since 47 118 (made Down 3 5 32 122 Passive 20 0 100 4 0 0)) 0) "02 02 00 01 7D E3 00 07 00 09 00 00 80 09 00 00" 21 "02 08 00 02 7D ED 00 09 00 05 00 04 02 02 00 01 7D E3 00 07 00 09 00 00"
    (in_slot_two (since 47 118 (made Down 3 5 32 122 Passive 20 0 100 4 0 0)) 0) ∷
    hears (in_slot_two (since 47 119 (made Down 3 5 32 122 Passive 20 0 100 4 0 0)) 0) "02 02 00 01 7D E3 00 07 00 09 00 00 80 09 00 00" 21 "02 08 00 02 7D ED 00 09 00 05 00 04 02 02 00 01 7D E3 00 07 00 09 00 00"
    (in_slot_two (since 47 119 (made Down 3 5 32 122 Passive 20 0 100 4 0 0)) 0) ∷
    hears (in_slot_two (since 47 120 (made Down 3 5 32 122 Passive 20 0 100 4 0 0)) 0) "02 02 00 01 7D E3 00 07 00 09 00 00 80 09 00 00" 0 ""
    (in_slot_two (since 47 0 (made Down 3 9 32 122 Passive 20 0 3600 4 1 0)) 0) ∷
    -- Hello in Down, active: refused below 30 with Error 4, which carries R; from 30 on carried out, and its count starts anew
    hears (in_slot_two (since 0 83 (made Down 3 5 32 122 Active 20 0 100 4 0 0)) 0) "02 05 00 01 FD E9 00 07 00 09" 21 "02 08 00 02 FD E3 00 09 00 05 00 04 02 05 00 01 FD E9 00 07 00 09 00 00"
    (in_slot_two (since 0 83 (made Down 3 5 32 122 Active 20 0 100 4 0 0)) 0) ∷
    hears (in_slot_two (since 28 83 (made Down 3 5 32 122 Active 20 0 100 4 0 0)) 0) "02 05 00 01 FD E9 00 07 00 09" 21 "02 08 00 02 FD E3 00 09 00 05 00 04 02 05 00 01 FD E9 00 07 00 09 00 00"
    (in_slot_two (since 28 83 (made Down 3 5 32 122 Active 20 0 100 4 0 0)) 0) ∷
    hears (in_slot_two (since 29 83 (made Down 3 5 32 122 Active 20 0 100 4 0 0)) 0) "02 05 00 01 FD E9 00 07 00 09" 21 "02 08 00 02 FD E3 00 09 00 05 00 04 02 05 00 01 FD E9 00 07 00 09 00 00"
    (in_slot_two (since 29 83 (made Down 3 5 32 122 Active 20 0 100 4 0 0)) 0) ∷
    hears (in_slot_two (since 30 83 (made Down 3 5 32 122 Active 20 0 100 4 0 0)) 0) "02 05 00 01 FD E9 00 07 00 09" 0 "02 05 01 02 FC E6 00 09 00 09"
    (in_slot_two (since 0 83 (made Down 3 9 32 122 Active 20 0 100 4 0 0)) 0) ∷
    hears (in_slot_two (since 31 83 (made Down 3 5 32 122 Active 20 0 100 4 0 0)) 0) "02 05 00 01 FD E9 00 07 00 09" 0 "02 05 01 02 FC E6 00 09 00 09"
    (in_slot_two (since 0 83 (made Down 3 9 32 122 Active 20 0 100 4 0 0)) 0) ∷
    hears (in_slot_two (since 120 83 (made Down 3 5 32 122 Active 20 0 100 4 0 0)) 0) "02 05 00 01 FD E9 00 07 00 09" 0 "02 05 01 02 FC E6 00 09 00 09"
    (in_slot_two (since 0 83 (made Down 3 9 32 122 Active 20 0 100 4 0 0)) 0) ∷
    -- Poll likewise, below 120: in Down nothing is sent
    hears (in_slot_two (since 47 0 (made Down 3 5 32 122 Active 20 0 100 4 0 0)) 0) "02 02 00 01 7D E3 00 07 00 09 00 00 80 09 00 00" 21 "02 08 00 02 7D ED 00 09 00 05 00 04 02 02 00 01 7D E3 00 07 00 09 00 00"
    (in_slot_two (since 47 0 (made Down 3 5 32 122 Active 20 0 100 4 0 0)) 0) ∷
    hears (in_slot_two (since 47 30 (made Down 3 5 32 122 Active 20 0 100 4 0 0)) 0) "02 02 00 01 7D E3 00 07 00 09 00 00 80 09 00 00" 21 "02 08 00 02 7D ED 00 09 00 05 00 04 02 02 00 01 7D E3 00 07 00 09 00 00"
    (in_slot_two (since 47 30 (made Down 3 5 32 122 Active 20 0 100 4 0 0)) 0) ∷
    hears (in_slot_two (since 47 118 (made Down 3 5 32 122 Active 20 0 100 4 0 0)) 0) "02 02 00 01 7D E3 00 07 00 09 00 00 80 09 00 00" 21 "02 08 00 02 7D ED 00 09 00 05 00 04 02 02 00 01 7D E3 00 07 00 09 00 00"
    (in_slot_two (since 47 118 (made Down 3 5 32 122 Active 20 0 100 4 0 0)) 0) ∷
    hears (in_slot_two (since 47 119 (made Down 3 5 32 122 Active 20 0 100 4 0 0)) 0) "02 02 00 01 7D E3 00 07 00 09 00 00 80 09 00 00" 21 "02 08 00 02 7D ED 00 09 00 05 00 04 02 02 00 01 7D E3 00 07 00 09 00 00"
    (in_slot_two (since 47 119 (made Down 3 5 32 122 Active 20 0 100 4 0 0)) 0) ∷
    hears (in_slot_two (since 47 120 (made Down 3 5 32 122 Active 20 0 100 4 0 0)) 0) "02 02 00 01 7D E3 00 07 00 09 00 00 80 09 00 00" 0 ""
    (in_slot_two (since 47 0 (made Down 3 9 32 122 Active 20 0 100 4 0 0)) 0) ∷
    -- Hello in Up, passive: refused below 30 with Error 4, which carries R; from 30 on carried out, and its count starts anew
    hears (in_slot_two (since 0 83 (made Up 3 5 32 122 Passive 20 60 100 7 0 0)) 2) "02 05 00 01 FD E9 00 07 00 09" 21 "02 08 00 01 FD E4 00 09 00 05 00 04 02 05 00 01 FD E9 00 07 00 09 00 00"
    (in_slot_two (since 0 83 (made Up 3 5 32 122 Passive 20 60 100 7 0 0)) 2) ∷
    hears (in_slot_two (since 28 83 (made Up 3 5 32 122 Passive 20 60 100 7 0 0)) 2) "02 05 00 01 FD E9 00 07 00 09" 21 "02 08 00 01 FD E4 00 09 00 05 00 04 02 05 00 01 FD E9 00 07 00 09 00 00"
    (in_slot_two (since 28 83 (made Up 3 5 32 122 Passive 20 60 100 7 0 0)) 2) ∷
    hears (in_slot_two (since 29 83 (made Up 3 5 32 122 Passive 20 60 100 7 0 0)) 2) "02 05 00 01 FD E9 00 07 00 09" 21 "02 08 00 01 FD E4 00 09 00 05 00 04 02 05 00 01 FD E9 00 07 00 09 00 00"
    (in_slot_two (since 29 83 (made Up 3 5 32 122 Passive 20 60 100 7 0 0)) 2) ∷
    hears (in_slot_two (since 30 83 (made Up 3 5 32 122 Passive 20 60 100 7 0 0)) 2) "02 05 00 01 FD E9 00 07 00 09" 0 "02 05 01 01 FC E7 00 09 00 09"
    (in_slot_two (since 0 83 (made Up 3 9 32 122 Passive 20 60 3600 7 1 0)) 2) ∷
    hears (in_slot_two (since 31 83 (made Up 3 5 32 122 Passive 20 60 100 7 0 0)) 2) "02 05 00 01 FD E9 00 07 00 09" 0 "02 05 01 01 FC E7 00 09 00 09"
    (in_slot_two (since 0 83 (made Up 3 9 32 122 Passive 20 60 3600 7 1 0)) 2) ∷
    hears (in_slot_two (since 120 83 (made Up 3 5 32 122 Passive 20 60 100 7 0 0)) 2) "02 05 00 01 FD E9 00 07 00 09" 0 "02 05 01 01 FC E7 00 09 00 09"
    (in_slot_two (since 0 83 (made Up 3 9 32 122 Passive 20 60 3600 7 1 0)) 2) ∷
    -- Poll likewise, below 120
    hears (in_slot_two (since 47 0 (made Up 3 5 32 122 Passive 20 60 100 7 0 0)) 2) "02 02 00 01 7D E3 00 07 00 09 00 00 80 09 00 00" 21 "02 08 00 01 7D EE 00 09 00 05 00 04 02 02 00 01 7D E3 00 07 00 09 00 00"
    (in_slot_two (since 47 0 (made Up 3 5 32 122 Passive 20 60 100 7 0 0)) 2) ∷
    hears (in_slot_two (since 47 30 (made Up 3 5 32 122 Passive 20 60 100 7 0 0)) 2) "02 02 00 01 7D E3 00 07 00 09 00 00 80 09 00 00" 21 "02 08 00 01 7D EE 00 09 00 05 00 04 02 02 00 01 7D E3 00 07 00 09 00 00"
    (in_slot_two (since 47 30 (made Up 3 5 32 122 Passive 20 60 100 7 0 0)) 2) ∷
    hears (in_slot_two (since 47 118 (made Up 3 5 32 122 Passive 20 60 100 7 0 0)) 2) "02 02 00 01 7D E3 00 07 00 09 00 00 80 09 00 00" 21 "02 08 00 01 7D EE 00 09 00 05 00 04 02 02 00 01 7D E3 00 07 00 09 00 00"
    (in_slot_two (since 47 118 (made Up 3 5 32 122 Passive 20 60 100 7 0 0)) 2) ∷
    hears (in_slot_two (since 47 119 (made Up 3 5 32 122 Passive 20 60 100 7 0 0)) 2) "02 02 00 01 7D E3 00 07 00 09 00 00 80 09 00 00" 21 "02 08 00 01 7D EE 00 09 00 05 00 04 02 02 00 01 7D E3 00 07 00 09 00 00"
    (in_slot_two (since 47 119 (made Up 3 5 32 122 Passive 20 60 100 7 0 0)) 2) ∷
    hears (in_slot_two (since 47 120 (made Up 3 5 32 122 Passive 20 60 100 7 0 0)) 2) "02 02 00 01 7D E3 00 07 00 09 00 00 80 09 00 00" 0 "02 01 00 01 7D E2 00 09 00 09 00 00 80 09 00 00"
    (in_slot_two (since 47 0 (made Up 3 9 32 122 Passive 20 60 3600 7 1 0)) 2) ∷
    -- Hello in Up, active: refused below 30 with Error 4, which carries R; from 30 on carried out, and its count starts anew
    hears (in_slot_two (since 0 83 (made Up 3 5 32 122 Active 20 60 100 7 0 0)) 2) "02 05 00 01 FD E9 00 07 00 09" 21 "02 08 00 01 FD E4 00 09 00 05 00 04 02 05 00 01 FD E9 00 07 00 09 00 00"
    (in_slot_two (since 0 83 (made Up 3 5 32 122 Active 20 60 100 7 0 0)) 2) ∷
    hears (in_slot_two (since 28 83 (made Up 3 5 32 122 Active 20 60 100 7 0 0)) 2) "02 05 00 01 FD E9 00 07 00 09" 21 "02 08 00 01 FD E4 00 09 00 05 00 04 02 05 00 01 FD E9 00 07 00 09 00 00"
    (in_slot_two (since 28 83 (made Up 3 5 32 122 Active 20 60 100 7 0 0)) 2) ∷
    hears (in_slot_two (since 29 83 (made Up 3 5 32 122 Active 20 60 100 7 0 0)) 2) "02 05 00 01 FD E9 00 07 00 09" 21 "02 08 00 01 FD E4 00 09 00 05 00 04 02 05 00 01 FD E9 00 07 00 09 00 00"
    (in_slot_two (since 29 83 (made Up 3 5 32 122 Active 20 60 100 7 0 0)) 2) ∷
    hears (in_slot_two (since 30 83 (made Up 3 5 32 122 Active 20 60 100 7 0 0)) 2) "02 05 00 01 FD E9 00 07 00 09" 0 "02 05 01 01 FC E7 00 09 00 09"
    (in_slot_two (since 0 83 (made Up 3 9 32 122 Active 20 60 100 7 0 0)) 2) ∷
    hears (in_slot_two (since 31 83 (made Up 3 5 32 122 Active 20 60 100 7 0 0)) 2) "02 05 00 01 FD E9 00 07 00 09" 0 "02 05 01 01 FC E7 00 09 00 09"
    (in_slot_two (since 0 83 (made Up 3 9 32 122 Active 20 60 100 7 0 0)) 2) ∷
    hears (in_slot_two (since 120 83 (made Up 3 5 32 122 Active 20 60 100 7 0 0)) 2) "02 05 00 01 FD E9 00 07 00 09" 0 "02 05 01 01 FC E7 00 09 00 09"
    (in_slot_two (since 0 83 (made Up 3 9 32 122 Active 20 60 100 7 0 0)) 2) ∷
    -- Poll likewise, below 120
    hears (in_slot_two (since 47 0 (made Up 3 5 32 122 Active 20 60 100 7 0 0)) 2) "02 02 00 01 7D E3 00 07 00 09 00 00 80 09 00 00" 21 "02 08 00 01 7D EE 00 09 00 05 00 04 02 02 00 01 7D E3 00 07 00 09 00 00"
    (in_slot_two (since 47 0 (made Up 3 5 32 122 Active 20 60 100 7 0 0)) 2) ∷
    hears (in_slot_two (since 47 30 (made Up 3 5 32 122 Active 20 60 100 7 0 0)) 2) "02 02 00 01 7D E3 00 07 00 09 00 00 80 09 00 00" 21 "02 08 00 01 7D EE 00 09 00 05 00 04 02 02 00 01 7D E3 00 07 00 09 00 00"
    (in_slot_two (since 47 30 (made Up 3 5 32 122 Active 20 60 100 7 0 0)) 2) ∷
    hears (in_slot_two (since 47 118 (made Up 3 5 32 122 Active 20 60 100 7 0 0)) 2) "02 02 00 01 7D E3 00 07 00 09 00 00 80 09 00 00" 21 "02 08 00 01 7D EE 00 09 00 05 00 04 02 02 00 01 7D E3 00 07 00 09 00 00"
    (in_slot_two (since 47 118 (made Up 3 5 32 122 Active 20 60 100 7 0 0)) 2) ∷
    hears (in_slot_two (since 47 119 (made Up 3 5 32 122 Active 20 60 100 7 0 0)) 2) "02 02 00 01 7D E3 00 07 00 09 00 00 80 09 00 00" 21 "02 08 00 01 7D EE 00 09 00 05 00 04 02 02 00 01 7D E3 00 07 00 09 00 00"
    (in_slot_two (since 47 119 (made Up 3 5 32 122 Active 20 60 100 7 0 0)) 2) ∷
    hears (in_slot_two (since 47 120 (made Up 3 5 32 122 Active 20 60 100 7 0 0)) 2) "02 02 00 01 7D E3 00 07 00 09 00 00 80 09 00 00" 0 "02 01 00 01 7D E2 00 09 00 09 00 00 80 09 00 00"
    (in_slot_two (since 47 0 (made Up 3 9 32 122 Active 20 60 100 7 0 0)) 2) ∷
    -- a Poll for another net, in Up and in Down: 21 before Error 3
    hears (in_slot_two (since 47 119 (made Up 3 5 32 122 Active 20 60 100 7 0 0)) 2) "02 02 00 00 F3 ED 00 07 00 09 00 00 0A 00 00 00" 21 "02 08 00 01 07 E5 00 09 00 05 00 04 02 02 00 00 F3 ED 00 07 00 09 00 00"
    (in_slot_two (since 47 119 (made Up 3 5 32 122 Active 20 60 100 7 0 0)) 2) ∷
    hears (in_slot_two (since 47 120 (made Up 3 5 32 122 Active 20 60 100 7 0 0)) 2) "02 02 00 00 F3 ED 00 07 00 09 00 00 0A 00 00 00" 0 "02 08 00 01 07 E2 00 09 00 09 00 03 02 02 00 00 F3 ED 00 07 00 09 00 00"
    (in_slot_two (since 47 0 (made Up 3 9 32 122 Active 20 60 100 7 0 0)) 2) ∷
    hears (in_slot_two (since 47 119 (made Down 3 5 32 122 Active 20 0 100 4 0 0)) 0) "02 02 00 00 F3 ED 00 07 00 09 00 00 0A 00 00 00" 21 "02 08 00 02 07 E4 00 09 00 05 00 04 02 02 00 00 F3 ED 00 07 00 09 00 00"
    (in_slot_two (since 47 119 (made Down 3 5 32 122 Active 20 0 100 4 0 0)) 0) ∷
    hears (in_slot_two (since 47 120 (made Down 3 5 32 122 Active 20 0 100 4 0 0)) 0) "02 02 00 00 F3 ED 00 07 00 09 00 00 0A 00 00 00" 0 ""
    (in_slot_two (since 47 0 (made Down 3 9 32 122 Active 20 0 100 4 0 0)) 0) ∷
    -- each by its own count: a Hello just behind a Poll, a Poll just behind a Hello; status 0 and 2 are not heard, and count
    hears (in_slot_two (since 30 0 (made Up 3 5 32 122 Passive 20 60 100 7 0 0)) 2) "02 05 00 01 FD E9 00 07 00 09" 0 "02 05 01 01 FC E7 00 09 00 09"
    (in_slot_two (since 0 0 (made Up 3 9 32 122 Passive 20 60 3600 7 1 0)) 2) ∷
    hears (in_slot_two (since 0 120 (made Up 3 5 32 122 Passive 20 60 100 7 0 0)) 2) "02 02 00 01 7D E3 00 07 00 09 00 00 80 09 00 00" 0 "02 01 00 01 7D E2 00 09 00 09 00 00 80 09 00 00"
    (in_slot_two (since 0 0 (made Up 3 9 32 122 Passive 20 60 3600 7 1 0)) 2) ∷
    hears (in_slot_two (since 30 83 (made Up 3 5 32 122 Passive 20 60 100 7 0 0)) 2) "02 05 00 00 FD EA 00 07 00 09" 0 "02 05 01 01 FC E7 00 09 00 09"
    (in_slot_two (since 0 83 (made Up 3 9 32 122 Passive 20 60 100 7 0 0)) 2) ∷
    hears (in_slot_two (since 30 83 (made Up 3 5 32 122 Passive 20 60 100 7 0 0)) 2) "02 05 00 02 FD E8 00 07 00 09" 0 "02 05 01 01 FC E7 00 09 00 09"
    (in_slot_two (since 0 83 (made Up 3 9 32 122 Passive 20 60 100 7 0 0)) 2) ∷
    -- a refusal keeps heard and t3 of the last one carried out
    hears (in_slot_two (since 1 83 (made Up 3 5 32 122 Passive 20 60 3600 7 1 0)) 2) "02 05 00 01 FD EC 00 07 00 06" 21 "02 08 00 01 FD E4 00 09 00 05 00 04 02 05 00 01 FD EC 00 07 00 06 00 00"
    (in_slot_two (since 1 83 (made Up 3 5 32 122 Passive 20 60 3600 7 1 0)) 2) ∷
    -- outside Down and Up no Hello and no Poll comes too soon, and the counts stay; Idle answers with a Cease (02, L6)
    hears (in_slot_two (since 0 1 (made Acquisition 3 5 0 0 Unset 20 0 100 0 0 0)) 0) "02 05 00 01 FD E9 00 07 00 09" 0 ""
    (in_slot_two (since 0 1 (made Acquisition 3 9 0 0 Unset 20 0 100 0 0 0)) 0) ∷
    hears (in_slot_two (since 0 1 (made Acquisition 3 5 0 0 Unset 20 0 100 0 0 0)) 0) "02 02 00 01 7D E3 00 07 00 09 00 00 80 09 00 00" 0 ""
    (in_slot_two (since 0 1 (made Acquisition 3 9 0 0 Unset 20 0 100 0 0 0)) 0) ∷
    hears (in_slot_two (since 0 1 (made Cease 3 5 0 0 Unset 20 0 100 0 0 6)) 0) "02 05 00 01 FD E9 00 07 00 09" 0 ""
    (in_slot_two (since 0 1 (made Cease 3 9 0 0 Unset 20 0 100 0 0 6)) 0) ∷
    hears (in_slot_two (since 0 1 (made Cease 3 5 0 0 Unset 20 0 100 0 0 6)) 0) "02 02 00 01 7D E3 00 07 00 09 00 00 80 09 00 00" 0 ""
    (in_slot_two (since 0 1 (made Cease 3 9 0 0 Unset 20 0 100 0 0 6)) 0) ∷
    hears (in_slot_two resting 0) "02 05 00 01 FD E9 00 07 00 09" 0 "02 03 03 07 FA EC 00 09 00 00"
    (in_slot_two resting 0) ∷
    hears (in_slot_two resting 0) "02 02 00 01 7D E3 00 07 00 09 00 00 80 09 00 00" 0 "02 03 03 07 FA EC 00 09 00 00"
    (in_slot_two resting 0) ∷
    -- the checks before it answer first: a status not allowed, a length wrong, another AS, a checksum wrong
    hears (in_slot_two (since 0 0 (made Up 3 5 32 122 Active 20 60 100 7 0 0)) 2) "02 05 00 03 FD E7 00 07 00 09" 11 "02 08 00 01 FD E7 00 09 00 05 00 01 02 05 00 03 FD E7 00 07 00 09 00 00"
    (in_slot_two (since 0 0 (made Up 3 5 32 122 Active 20 60 100 7 0 0)) 2) ∷
    hears (in_slot_two (since 0 0 (made Up 3 5 32 122 Active 20 60 100 7 0 0)) 2) "02 05 00 01 FD E9 00 07 00 09 00" 12 "02 08 00 01 FD E7 00 09 00 05 00 01 02 05 00 01 FD E9 00 07 00 09 00 00"
    (in_slot_two (since 0 0 (made Up 3 5 32 122 Active 20 60 100 7 0 0)) 2) ∷
    hears (in_slot_two (since 0 0 (made Up 3 5 32 122 Active 20 60 100 7 0 0)) 2) "02 05 00 01 FD E8 00 08 00 09" 9 ""
    (in_slot_two (since 0 0 (made Up 3 5 32 122 Active 20 60 100 7 0 0)) 2) ∷
    hears (in_slot_two (since 0 0 (made Up 3 5 32 122 Active 20 60 100 7 0 0)) 2) "02 05 00 01 FD E8 00 07 00 09" 8 ""
    (in_slot_two (since 0 0 (made Up 3 5 32 122 Active 20 60 100 7 0 0)) 2) ∷
    -- other kinds are not counted: I-H-U, Request
    hears (in_slot_two (since 0 0 (made Up 3 5 32 122 Active 20 60 100 7 0 0)) 2) "02 05 01 01 FC EF 00 07 00 03" 0 ""
    (in_slot_two (since 0 0 (made Up 3 5 32 122 Active 20 60 3600 7 1 0)) 2) ∷
    hears (in_slot_two (since 0 0 (made Up 3 5 32 122 Active 20 60 100 7 0 0)) 2) "02 03 00 00 FD 56 00 07 00 09 00 1E 00 78" 0 "02 03 01 00 FC 54 00 09 00 09 00 1E 00 78"
    (in_slot_two (since 120 120 (made Down 3 9 32 122 Passive 32 0 120 0 0 0)) 0) ∷
    []
