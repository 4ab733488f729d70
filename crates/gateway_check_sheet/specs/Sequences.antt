-- Check 13, "response out of sequence". 01: "Confirm, Refuse, Cease-ack, I-H-U and Update must carry S, except in Idle,
-- where they are ignored with answer 0"; all but Cease-ack, and Hello and Poll, draw the Cease of 02, L6, there. S is 3
-- and R is 5.
use Rattle.std.specs.Prelude.{List, [], ◌∷◌}
use Rattle.neighbour.specs.declared.Phase.TheVariants.{Down}
use Rattle.neighbour.specs.declared.Mode.TheVariants.{Active}
use Rattle.gateway_check_sheet.specs.Given.{made, in_slot_two, in_idle, in_acquisition, in_down, in_up, in_cease}
use Rattle.gateway_check_sheet.specs.Line.{Line, heard}

unfoldable pub sequences : List Line
sequences =
    -- Confirm carries S: 0; R, S and one, S less one: 13; in Idle 0, and a Cease
    heard in_acquisition "02 03 01 00 FC 5C 00 07 00 03 00 1E 00 78" 0 0 0 "" ∷
    heard in_down "02 03 01 00 FC 5C 00 07 00 03 00 1E 00 78" 0 0 0 "" ∷
    heard in_up "02 03 01 00 FC 5C 00 07 00 03 00 1E 00 78" 0 0 0 "" ∷
    heard in_cease "02 03 01 00 FC 5C 00 07 00 03 00 1E 00 78" 0 0 0 "" ∷
    heard in_acquisition "02 03 01 00 FC 5A 00 07 00 05 00 1E 00 78" 13 0 0 "" ∷
    heard in_down "02 03 01 00 FC 5A 00 07 00 05 00 1E 00 78" 13 0 0 "" ∷
    heard in_up "02 03 01 00 FC 5A 00 07 00 05 00 1E 00 78" 13 0 0 "" ∷
    heard in_cease "02 03 01 00 FC 5A 00 07 00 05 00 1E 00 78" 13 0 0 "" ∷
    heard in_down "02 03 01 00 FC 5B 00 07 00 04 00 1E 00 78" 13 0 0 "" ∷
    heard in_down "02 03 01 00 FC 5D 00 07 00 02 00 1E 00 78" 13 0 0 "" ∷
    heard in_idle "02 03 01 00 FC 5A 00 07 00 05 00 1E 00 78" 0 10 0 "02 03 03 07 FA EC 00 09 00 00" ∷
    heard in_idle "02 03 01 00 FC 5F 00 07 00 00 00 1E 00 78" 0 10 0 "02 03 03 07 FA EC 00 09 00 00" ∷
    -- Refuse carries S: 0; R, S and one, S less one: 13; in Idle 0, and a Cease
    heard in_acquisition "02 03 02 00 FB F2 00 07 00 03" 0 0 0 "" ∷
    heard in_down "02 03 02 00 FB F2 00 07 00 03" 0 0 0 "" ∷
    heard in_up "02 03 02 00 FB F2 00 07 00 03" 0 0 0 "" ∷
    heard in_cease "02 03 02 00 FB F2 00 07 00 03" 0 0 0 "" ∷
    heard in_acquisition "02 03 02 00 FB F0 00 07 00 05" 13 0 0 "" ∷
    heard in_down "02 03 02 00 FB F0 00 07 00 05" 13 0 0 "" ∷
    heard in_up "02 03 02 00 FB F0 00 07 00 05" 13 0 0 "" ∷
    heard in_cease "02 03 02 00 FB F0 00 07 00 05" 13 0 0 "" ∷
    heard in_down "02 03 02 00 FB F1 00 07 00 04" 13 0 0 "" ∷
    heard in_down "02 03 02 00 FB F3 00 07 00 02" 13 0 0 "" ∷
    heard in_idle "02 03 02 00 FB F0 00 07 00 05" 0 10 0 "02 03 03 07 FA EC 00 09 00 00" ∷
    heard in_idle "02 03 02 00 FB F5 00 07 00 00" 0 10 0 "02 03 03 07 FA EC 00 09 00 00" ∷
    -- Cease-ack carries S: 0; R, S and one, S less one: 13; in Idle 0
    heard in_acquisition "02 03 04 00 F9 F2 00 07 00 03" 0 0 0 "" ∷
    heard in_down "02 03 04 00 F9 F2 00 07 00 03" 0 0 0 "" ∷
    heard in_up "02 03 04 00 F9 F2 00 07 00 03" 0 0 0 "" ∷
    heard in_cease "02 03 04 00 F9 F2 00 07 00 03" 0 0 0 "" ∷
    heard in_acquisition "02 03 04 00 F9 F0 00 07 00 05" 13 0 0 "" ∷
    heard in_down "02 03 04 00 F9 F0 00 07 00 05" 13 0 0 "" ∷
    heard in_up "02 03 04 00 F9 F0 00 07 00 05" 13 0 0 "" ∷
    heard in_cease "02 03 04 00 F9 F0 00 07 00 05" 13 0 0 "" ∷
    heard in_down "02 03 04 00 F9 F1 00 07 00 04" 13 0 0 "" ∷
    heard in_down "02 03 04 00 F9 F3 00 07 00 02" 13 0 0 "" ∷
    heard in_idle "02 03 04 00 F9 F0 00 07 00 05" 0 0 0 "" ∷
    heard in_idle "02 03 04 00 F9 F5 00 07 00 00" 0 0 0 "" ∷
    -- I-H-U carries S: 0; R, S and one, S less one: 13; in Idle 0, and a Cease
    heard in_acquisition "02 05 01 00 FC F0 00 07 00 03" 0 0 0 "" ∷
    heard in_down "02 05 01 00 FC F0 00 07 00 03" 0 0 0 "" ∷
    heard in_up "02 05 01 00 FC F0 00 07 00 03" 0 0 0 "" ∷
    heard in_cease "02 05 01 00 FC F0 00 07 00 03" 0 0 0 "" ∷
    heard in_acquisition "02 05 01 00 FC EE 00 07 00 05" 13 0 0 "" ∷
    heard in_down "02 05 01 00 FC EE 00 07 00 05" 13 0 0 "" ∷
    heard in_up "02 05 01 00 FC EE 00 07 00 05" 13 0 0 "" ∷
    heard in_cease "02 05 01 00 FC EE 00 07 00 05" 13 0 0 "" ∷
    heard in_down "02 05 01 00 FC EF 00 07 00 04" 13 0 0 "" ∷
    heard in_down "02 05 01 00 FC F1 00 07 00 02" 13 0 0 "" ∷
    heard in_idle "02 05 01 00 FC EE 00 07 00 05" 0 10 0 "02 03 03 07 FA EC 00 09 00 00" ∷
    heard in_idle "02 05 01 00 FC F3 00 07 00 00" 0 10 0 "02 03 03 07 FA EC 00 09 00 00" ∷
    -- Update carries S: 0; R, S and one, S less one: 13; in Idle 0, and a Cease
    heard in_acquisition "02 01 00 00 7D EB 00 07 00 03 00 00 80 09 00 00" 0 0 0 "" ∷
    heard in_down "02 01 00 00 7D EB 00 07 00 03 00 00 80 09 00 00" 0 0 0 "" ∷
    heard in_up "02 01 00 00 7D EB 00 07 00 03 00 00 80 09 00 00" 0 0 0 "" ∷
    heard in_cease "02 01 00 00 7D EB 00 07 00 03 00 00 80 09 00 00" 0 0 0 "" ∷
    heard in_acquisition "02 01 00 00 7D E9 00 07 00 05 00 00 80 09 00 00" 13 0 0 "" ∷
    heard in_down "02 01 00 00 7D E9 00 07 00 05 00 00 80 09 00 00" 13 0 0 "" ∷
    heard in_up "02 01 00 00 7D E9 00 07 00 05 00 00 80 09 00 00" 13 0 0 "" ∷
    heard in_cease "02 01 00 00 7D E9 00 07 00 05 00 00 80 09 00 00" 13 0 0 "" ∷
    heard in_down "02 01 00 00 7D EA 00 07 00 04 00 00 80 09 00 00" 13 0 0 "" ∷
    heard in_down "02 01 00 00 7D EC 00 07 00 02 00 00 80 09 00 00" 13 0 0 "" ∷
    heard in_idle "02 01 00 00 7D E9 00 07 00 05 00 00 80 09 00 00" 0 10 0 "02 03 03 07 FA EC 00 09 00 00" ∷
    heard in_idle "02 01 00 00 7D EE 00 07 00 00 00 00 80 09 00 00" 0 10 0 "02 03 03 07 FA EC 00 09 00 00" ∷
    -- S 65,535: 0 is out of sequence, and so is 65,534
    heard (in_slot_two (made Down 65535 5 32 122 Active 20 0 100 4 0 0) 0) "02 05 01 00 FC F3 00 07 FF FF" 0 0 0 "" ∷
    heard (in_slot_two (made Down 65535 5 32 122 Active 20 0 100 4 0 0) 0) "02 05 01 00 FC F3 00 07 00 00" 13 0 0 "" ∷
    heard (in_slot_two (made Down 65535 5 32 122 Active 20 0 100 4 0 0) 0) "02 05 01 00 FC F4 00 07 FF FE" 13 0 0 "" ∷
    heard (in_slot_two (made Down 0 5 32 122 Active 20 0 100 4 0 0) 0) "02 05 01 00 FC F3 00 07 00 00" 0 0 0 "" ∷
    heard (in_slot_two (made Down 0 5 32 122 Active 20 0 100 4 0 0) 0) "02 05 01 00 FC F3 00 07 FF FF" 13 0 0 "" ∷
    heard (in_slot_two (made Down 0 5 32 122 Active 20 0 100 4 0 0) 0) "02 05 01 00 FB F3 00 07 01 00" 13 0 0 "" ∷
    -- an Update with status 129, unsolicited, must carry S too
    heard in_up "02 01 00 81 7D 6A 00 07 00 03 00 00 80 09 00 00" 0 0 0 "" ∷
    heard in_up "02 01 00 81 7D 69 00 07 00 04 00 00 80 09 00 00" 13 0 0 "" ∷
    -- Request carries any number
    heard in_idle "02 03 00 00 FD 56 00 07 00 09 00 1E 00 78" 0 14 0 "02 03 01 00 FC 54 00 09 00 09 00 1E 00 78" ∷
    heard in_acquisition "02 03 00 00 FD 56 00 07 00 09 00 1E 00 78" 0 14 0 "02 03 01 00 FC 54 00 09 00 09 00 1E 00 78" ∷
    heard in_down "02 03 00 00 FD 56 00 07 00 09 00 1E 00 78" 0 14 0 "02 03 01 00 FC 54 00 09 00 09 00 1E 00 78" ∷
    heard in_up "02 03 00 00 FD 56 00 07 00 09 00 1E 00 78" 0 14 0 "02 03 01 00 FC 54 00 09 00 09 00 1E 00 78" ∷
    heard in_cease "02 03 00 00 FD 56 00 07 00 09 00 1E 00 78" 0 10 0 "02 03 03 06 FA EA 00 09 00 03" ∷
    -- Cease carries any number
    heard in_idle "02 03 03 00 FA EC 00 07 00 09" 0 10 0 "02 03 04 00 F9 EA 00 09 00 09" ∷
    heard in_acquisition "02 03 03 00 FA EC 00 07 00 09" 0 10 0 "02 03 04 00 F9 EA 00 09 00 09" ∷
    heard in_down "02 03 03 00 FA EC 00 07 00 09" 0 10 0 "02 03 04 00 F9 EA 00 09 00 09" ∷
    heard in_up "02 03 03 00 FA EC 00 07 00 09" 0 10 0 "02 03 04 00 F9 EA 00 09 00 09" ∷
    heard in_cease "02 03 03 00 FA EC 00 07 00 09" 0 10 0 "02 03 04 00 F9 EA 00 09 00 09" ∷
    -- Hello carries any number
    heard in_idle "02 05 00 00 FD EA 00 07 00 09" 0 10 0 "02 03 03 07 FA EC 00 09 00 00" ∷
    heard in_acquisition "02 05 00 00 FD EA 00 07 00 09" 0 0 0 "" ∷
    heard in_down "02 05 00 00 FD EA 00 07 00 09" 0 10 0 "02 05 01 02 FC E6 00 09 00 09" ∷
    heard in_up "02 05 00 00 FD EA 00 07 00 09" 0 10 0 "02 05 01 01 FC E7 00 09 00 09" ∷
    heard in_cease "02 05 00 00 FD EA 00 07 00 09" 0 0 0 "" ∷
    -- Poll carries any number
    heard in_idle "02 02 00 00 7D E4 00 07 00 09 00 00 80 09 00 00" 0 10 0 "02 03 03 07 FA EC 00 09 00 00" ∷
    heard in_acquisition "02 02 00 00 7D E4 00 07 00 09 00 00 80 09 00 00" 0 0 0 "" ∷
    heard in_down "02 02 00 00 7D E4 00 07 00 09 00 00 80 09 00 00" 0 0 0 "" ∷
    heard in_up "02 02 00 00 7D E4 00 07 00 09 00 00 80 09 00 00" 0 16 0 "02 01 00 01 7D E2 00 09 00 09 00 00 80 09 00 00" ∷
    heard in_cease "02 02 00 00 7D E4 00 07 00 09 00 00 80 09 00 00" 0 0 0 "" ∷
    -- Error carries any number: "An Error received changes nothing"
    heard in_idle "02 08 00 00 FD E6 00 07 00 09 00 01 00 00 00 00 00 00 00 00 00 00 00 00" 0 0 0 "" ∷
    heard in_acquisition "02 08 00 00 FD E6 00 07 00 09 00 01 00 00 00 00 00 00 00 00 00 00 00 00" 0 0 0 "" ∷
    heard in_down "02 08 00 00 FD E6 00 07 00 09 00 01 00 00 00 00 00 00 00 00 00 00 00 00" 0 0 0 "" ∷
    heard in_up "02 08 00 00 FD E6 00 07 00 09 00 01 00 00 00 00 00 00 00 00 00 00 00 00" 0 0 0 "" ∷
    heard in_cease "02 08 00 00 FD E6 00 07 00 09 00 01 00 00 00 00 00 00 00 00 00 00 00 00" 0 0 0 "" ∷
    []
