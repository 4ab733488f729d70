-- 01's column "Reply": what a refused message draws, octet by octet, and that nothing else is sent. The state after it
-- is the state before; S is 3 and R is 5 there, and the messages carry 9.
use Rattle.std.specs.Prelude.{List, [], ◌∷◌, ◌++◌, replicate}
use Rattle.gateway_check_sheet.specs.Given.{hex, theirs, in_idle, in_acquisition, in_down, in_up, in_cease}
use Rattle.gateway_check_sheet.specs.Line.{Line, message, heard}

unfoldable pub replies : List Line
replies =
    -- reply to 9: "Refuse status 4, only in Idle and only to a Request of 14 octets with status 0 to 2"
    heard in_idle "02 03 00 00 FD 51 00 0C 00 09 00 1E 00 78" 9 10 0 "02 03 02 04 FB E6 00 09 00 09" ∷
    heard in_idle "02 03 00 01 FD 50 00 0C 00 09 00 1E 00 78" 9 10 0 "02 03 02 04 FB E6 00 09 00 09" ∷
    heard in_idle "02 03 00 02 FD 4F 00 0C 00 09 00 1E 00 78" 9 10 0 "02 03 02 04 FB E6 00 09 00 09" ∷
    heard in_idle "02 03 00 00 FC F6 00 0C 00 09 00 79 00 78" 9 10 0 "02 03 02 04 FB E6 00 09 00 09" ∷
    -- reply to 9: not in another state
    heard in_acquisition "02 03 00 00 FD 51 00 0C 00 09 00 1E 00 78" 9 0 0 "" ∷
    heard in_down "02 03 00 00 FD 51 00 0C 00 09 00 1E 00 78" 9 0 0 "" ∷
    heard in_up "02 03 00 00 FD 51 00 0C 00 09 00 1E 00 78" 9 0 0 "" ∷
    heard in_cease "02 03 00 00 FD 51 00 0C 00 09 00 1E 00 78" 9 0 0 "" ∷
    -- reply to 9: not to a Confirm, nor to another code or type
    heard in_idle "02 03 01 00 FC 51 00 0C 00 09 00 1E 00 78" 9 0 0 "" ∷
    heard in_idle "02 03 02 00 FB E7 00 0C 00 09 00 00 00 00" 9 0 0 "" ∷
    heard in_idle "02 03 05 00 F8 E7 00 0C 00 09 00 00 00 00" 9 0 0 "" ∷
    heard in_idle "02 05 00 00 FD E5 00 0C 00 09 00 00 00 00" 9 0 0 "" ∷
    heard in_idle "02 02 00 00 FD E8 00 0C 00 09 00 00 00 00" 9 0 0 "" ∷
    heard in_idle "02 01 00 00 FD E9 00 0C 00 09 00 00 00 00" 9 0 0 "" ∷
    heard in_idle "02 04 00 00 FD E6 00 0C 00 09 00 00 00 00" 9 0 0 "" ∷
    -- reply to 9: not to a Request of 13 or 15 octets, or of 10
    heard in_idle "02 03 00 00 FD C9 00 0C 00 09 00 1E 00" 9 0 0 "" ∷
    heard in_idle "02 03 00 00 FD 51 00 0C 00 09 00 1E 00 78 00" 9 0 0 "" ∷
    heard in_idle "02 03 00 00 FD E7 00 0C 00 09" 9 0 0 "" ∷
    -- reply to 9: not to a Request with status 3, 128 or 255
    heard in_idle "02 03 00 03 FD 4E 00 0C 00 09 00 1E 00 78" 9 0 0 "" ∷
    heard in_idle "02 03 00 80 FC D1 00 0C 00 09 00 1E 00 78" 9 0 0 "" ∷
    heard in_idle "02 03 00 FF FC 52 00 0C 00 09 00 1E 00 78" 9 0 0 "" ∷
    -- reply to 10: "Error 1", "only in Down and Up"; it "carries R and the first 12 octets, zero-filled"
    heard in_idle "02 04 00 00 FD EB 00 07 00 09" 10 0 0 "" ∷
    heard in_acquisition "02 04 00 00 FD EB 00 07 00 09" 10 0 0 "" ∷
    heard in_down "02 04 00 00 FD EB 00 07 00 09" 10 24 0 "02 08 00 02 FD E6 00 09 00 05 00 01 02 04 00 00 FD EB 00 07 00 09 00 00" ∷
    heard in_up "02 04 00 00 FD EB 00 07 00 09" 10 24 0 "02 08 00 01 FD E7 00 09 00 05 00 01 02 04 00 00 FD EB 00 07 00 09 00 00" ∷
    heard in_cease "02 04 00 00 FD EB 00 07 00 09" 10 0 0 "" ∷
    heard in_down "02 03 05 00 4E EC 00 07 00 09 AA" 10 24 0 "02 08 00 02 FD E6 00 09 00 05 00 01 02 03 05 00 4E EC 00 07 00 09 AA 00" ∷
    heard in_up "02 03 05 00 4E EC 00 07 00 09 AA" 10 24 0 "02 08 00 01 FD E7 00 09 00 05 00 01 02 03 05 00 4E EC 00 07 00 09 AA 00" ∷
    heard in_down "02 05 02 00 51 2F 00 07 00 09 AA BB" 10 24 0 "02 08 00 02 FD E6 00 09 00 05 00 01 02 05 02 00 51 2F 00 07 00 09 AA BB" ∷
    heard in_up "02 05 02 00 51 2F 00 07 00 09 AA BB" 10 24 0 "02 08 00 01 FD E7 00 09 00 05 00 01 02 05 02 00 51 2F 00 07 00 09 AA BB" ∷
    heard in_down "02 01 01 00 F3 E2 00 07 00 09 01 02 03 04 05 06" 10 24 0 "02 08 00 02 05 F1 00 09 00 05 00 01 02 01 01 00 F3 E2 00 07 00 09 01 02" ∷
    heard in_up "02 01 01 00 F3 E2 00 07 00 09 01 02 03 04 05 06" 10 24 0 "02 08 00 01 05 F2 00 09 00 05 00 01 02 01 01 00 F3 E2 00 07 00 09 01 02" ∷
    -- reply to 11: "Error 1"
    heard in_idle "02 05 00 03 FD E7 00 07 00 09" 11 0 0 "" ∷
    heard in_acquisition "02 05 00 03 FD E7 00 07 00 09" 11 0 0 "" ∷
    heard in_down "02 05 00 03 FD E7 00 07 00 09" 11 24 0 "02 08 00 02 FD E6 00 09 00 05 00 01 02 05 00 03 FD E7 00 07 00 09 00 00" ∷
    heard in_up "02 05 00 03 FD E7 00 07 00 09" 11 24 0 "02 08 00 01 FD E7 00 09 00 05 00 01 02 05 00 03 FD E7 00 07 00 09 00 00" ∷
    heard in_cease "02 05 00 03 FD E7 00 07 00 09" 11 0 0 "" ∷
    heard in_down "02 03 00 03 FD 53 00 07 00 09 00 1E 00 78" 11 24 0 "02 08 00 02 FE 5E 00 09 00 05 00 01 02 03 00 03 FD 53 00 07 00 09 00 1E" ∷
    heard in_up "02 03 00 03 FD 53 00 07 00 09 00 1E 00 78" 11 24 0 "02 08 00 01 FE 5F 00 09 00 05 00 01 02 03 00 03 FD 53 00 07 00 09 00 1E" ∷
    heard in_down "02 01 00 03 7D E8 00 07 00 03 00 00 80 09 00 00" 11 24 0 "02 08 00 02 7D F0 00 09 00 05 00 01 02 01 00 03 7D E8 00 07 00 03 00 00" ∷
    heard in_up "02 01 00 03 7D E8 00 07 00 03 00 00 80 09 00 00" 11 24 0 "02 08 00 01 7D F1 00 09 00 05 00 01 02 01 00 03 7D E8 00 07 00 03 00 00" ∷
    -- reply to 12: "Error 1"
    heard in_idle "02 05 00 00 53 EA 00 07 00 09 AA" 12 0 0 "" ∷
    heard in_acquisition "02 05 00 00 53 EA 00 07 00 09 AA" 12 0 0 "" ∷
    heard in_down "02 05 00 00 53 EA 00 07 00 09 AA" 12 24 0 "02 08 00 02 FD E6 00 09 00 05 00 01 02 05 00 00 53 EA 00 07 00 09 AA 00" ∷
    heard in_up "02 05 00 00 53 EA 00 07 00 09 AA" 12 24 0 "02 08 00 01 FD E7 00 09 00 05 00 01 02 05 00 00 53 EA 00 07 00 09 AA 00" ∷
    heard in_cease "02 05 00 00 53 EA 00 07 00 09 AA" 12 0 0 "" ∷
    heard in_down "02 02 00 00 7D E4 00 07 00 09 00 00 80 09 00" 12 24 0 "02 08 00 02 7D F0 00 09 00 05 00 01 02 02 00 00 7D E4 00 07 00 09 00 00" ∷
    heard in_up "02 02 00 00 7D E4 00 07 00 09 00 00 80 09 00" 12 24 0 "02 08 00 01 7D F1 00 09 00 05 00 01 02 02 00 00 7D E4 00 07 00 09 00 00" ∷
    heard in_down "02 03 03 00 FA EC 00 07 00 09 00 00 00 00 00 00 00 00 00 00 00 00 00 00" 12 24 0 "02 08 00 02 FD E6 00 09 00 05 00 01 02 03 03 00 FA EC 00 07 00 09 00 00" ∷
    heard in_up "02 03 03 00 FA EC 00 07 00 09 00 00 00 00 00 00 00 00 00 00 00 00 00 00" 12 24 0 "02 08 00 01 FD E7 00 09 00 05 00 01 02 03 03 00 FA EC 00 07 00 09 00 00" ∷
    -- no reply to type 8: "never to a message of type 8": code 1 and 255 (10), status 3 (11), 23, 25 and 10 octets (12)
    heard in_down "02 08 01 00 FC E7 00 07 00 09 00 00 00 00 00 00 00 00 00 00 00 00 00 00" 10 0 0 "" ∷
    heard in_up "02 08 01 00 FC E7 00 07 00 09 00 00 00 00 00 00 00 00 00 00 00 00 00 00" 10 0 0 "" ∷
    heard in_down "02 08 FF 00 FE E6 00 07 00 09" 10 0 0 "" ∷
    heard in_up "02 08 FF 00 FE E6 00 07 00 09" 10 0 0 "" ∷
    heard in_down "02 08 00 03 FD E3 00 07 00 09 00 01 00 00 00 00 00 00 00 00 00 00 00 00" 11 0 0 "" ∷
    heard in_up "02 08 00 03 FD E3 00 07 00 09 00 01 00 00 00 00 00 00 00 00 00 00 00 00" 11 0 0 "" ∷
    heard in_down "02 08 00 00 FD E6 00 07 00 09 00 01 00 00 00 00 00 00 00 00 00 00 00" 12 0 0 "" ∷
    heard in_up "02 08 00 00 FD E6 00 07 00 09 00 01 00 00 00 00 00 00 00 00 00 00 00" 12 0 0 "" ∷
    heard in_down "02 08 00 00 FD E6 00 07 00 09 00 01 00 00 00 00 00 00 00 00 00 00 00 00 00" 12 0 0 "" ∷
    heard in_up "02 08 00 00 FD E6 00 07 00 09 00 01 00 00 00 00 00 00 00 00 00 00 00 00 00" 12 0 0 "" ∷
    heard in_down "02 08 00 00 FD E7 00 07 00 09" 12 0 0 "" ∷
    heard in_up "02 08 00 00 FD E7 00 07 00 09" 12 0 0 "" ∷
    -- reply to 10: types 7, 9 and 136 are not 8
    heard in_down "02 07 00 00 FD E8 00 07 00 09" 10 24 0 "02 08 00 02 FD E6 00 09 00 05 00 01 02 07 00 00 FD E8 00 07 00 09 00 00" ∷
    heard in_up "02 07 00 00 FD E8 00 07 00 09" 10 24 0 "02 08 00 01 FD E7 00 09 00 05 00 01 02 07 00 00 FD E8 00 07 00 09 00 00" ∷
    heard in_down "02 09 00 00 FD E6 00 07 00 09" 10 24 0 "02 08 00 02 FD E6 00 09 00 05 00 01 02 09 00 00 FD E6 00 07 00 09 00 00" ∷
    heard in_up "02 09 00 00 FD E6 00 07 00 09" 10 24 0 "02 08 00 01 FD E7 00 09 00 05 00 01 02 09 00 00 FD E6 00 07 00 09 00 00" ∷
    heard in_down "02 88 00 00 FD 67 00 07 00 09" 10 24 0 "02 08 00 02 FD E6 00 09 00 05 00 01 02 88 00 00 FD 67 00 07 00 09 00 00" ∷
    heard in_up "02 88 00 00 FD 67 00 07 00 09" 10 24 0 "02 08 00 01 FD E7 00 09 00 05 00 01 02 88 00 00 FD 67 00 07 00 09 00 00" ∷
    -- no reply to 13
    heard in_acquisition "02 05 01 00 FC EA 00 07 00 09" 13 0 0 "" ∷
    heard in_down "02 05 01 00 FC EA 00 07 00 09" 13 0 0 "" ∷
    heard in_up "02 05 01 00 FC EA 00 07 00 09" 13 0 0 "" ∷
    heard in_cease "02 05 01 00 FC EA 00 07 00 09" 13 0 0 "" ∷
    -- reply to 14: "Error 2"; U without its last octet, on another net, and an octet too many
    heard in_up "02 01 00 01 B9 D5 00 07 00 03 01 00 80 09 00 00 00 05 01 00 02 0A C0 05" 14 24 0 "02 08 00 01 41 05 00 09 00 05 00 02 02 01 00 01 B9 D5 00 07 00 03 01 00" ∷
    heard in_up "02 01 00 01 B3 D4 00 07 00 03 01 00 80 09 00 01 00 05 01 00 02 0A C0 05 06" 14 24 0 "02 08 00 01 47 06 00 09 00 05 00 02 02 01 00 01 B3 D4 00 07 00 03 01 00" ∷
    heard in_up "02 01 00 01 B3 D5 00 07 00 03 01 00 80 09 00 00 00 05 01 00 02 0A C0 05 06 00" 14 24 0 "02 08 00 01 47 05 00 09 00 05 00 02 02 01 00 01 B3 D5 00 07 00 03 01 00" ∷
    -- reply to 15: "Error 0"
    message in_up 3072 2048 [] theirs (hex "02 01 00 01 78 58 00 07 00 03 01 00 80 09 00 00 00 05 01 00 81" ++ replicate 129 10) 15 24 0 (hex "02 08 00 01 82 84 00 09 00 05 00 00 02 01 00 01 78 58 00 07 00 03 01 00") ∷
    -- no reply to 3
    message in_down 3072 2047 [] theirs (hex "02 05 00 03 FD E7 00 07 00 09") 3 0 0 [] ∷
    -- no reply to 6, 7 and 8: in Idle to a Request, in Down and Up to a Hello
    heard in_idle "03 03 00 00 FC 56 00 07 00 09 00 1E 00 78" 7 0 0 "" ∷
    heard in_idle "02 03 00 00 FD 57 00 07 00 09 00 1E 00 78" 8 0 0 "" ∷
    heard in_down "02 05 00 00 FD F3 00 07 00" 6 0 0 "" ∷
    heard in_down "03 05 00 00 FC EA 00 07 00 09" 7 0 0 "" ∷
    heard in_down "02 05 00 00 FD EB 00 07 00 09" 8 0 0 "" ∷
    heard in_up "02 05 00 00 FD F3 00 07 00" 6 0 0 "" ∷
    heard in_up "03 05 00 00 FC EA 00 07 00 09" 7 0 0 "" ∷
    heard in_up "02 05 00 00 FD EB 00 07 00 09" 8 0 0 "" ∷
    -- no reply to 9 in Down and Up
    heard in_down "02 05 00 00 FD E5 00 0C 00 09" 9 0 0 "" ∷
    heard in_up "02 05 00 00 FD E5 00 0C 00 09" 9 0 0 "" ∷
    []
