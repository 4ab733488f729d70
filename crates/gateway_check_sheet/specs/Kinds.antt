-- 01's table of kinds: type and code (10), status (11) and length (12), by reading alone and in a message call.
use Rattle.std.specs.Prelude.{List, [], ◌∷◌, ◌++◌, replicate}
use Rattle.gateway_check_sheet.specs.Given.{hex}
use Rattle.gateway_check_sheet.specs.Line.{Line, judged}

unfoldable pub kinds : List Line
kinds =
    -- status of Request: "0 to 2"
    judged (hex "02 03 00 00 FD 56 00 07 00 09 00 1E 00 78") 0 ∷
    judged (hex "02 03 00 01 FD 55 00 07 00 09 00 1E 00 78") 0 ∷
    judged (hex "02 03 00 02 FD 54 00 07 00 09 00 1E 00 78") 0 ∷
    judged (hex "02 03 00 03 FD 53 00 07 00 09 00 1E 00 78") 11 ∷
    judged (hex "02 03 00 04 FD 52 00 07 00 09 00 1E 00 78") 11 ∷
    judged (hex "02 03 00 7F FC D7 00 07 00 09 00 1E 00 78") 11 ∷
    judged (hex "02 03 00 80 FC D6 00 07 00 09 00 1E 00 78") 11 ∷
    judged (hex "02 03 00 81 FC D5 00 07 00 09 00 1E 00 78") 11 ∷
    judged (hex "02 03 00 82 FC D4 00 07 00 09 00 1E 00 78") 11 ∷
    judged (hex "02 03 00 FF FC 57 00 07 00 09 00 1E 00 78") 11 ∷
    -- status of Confirm: "0 to 2"
    judged (hex "02 03 01 00 FC 56 00 07 00 09 00 1E 00 78") 0 ∷
    judged (hex "02 03 01 01 FC 55 00 07 00 09 00 1E 00 78") 0 ∷
    judged (hex "02 03 01 02 FC 54 00 07 00 09 00 1E 00 78") 0 ∷
    judged (hex "02 03 01 03 FC 53 00 07 00 09 00 1E 00 78") 11 ∷
    judged (hex "02 03 01 04 FC 52 00 07 00 09 00 1E 00 78") 11 ∷
    judged (hex "02 03 01 7F FB D7 00 07 00 09 00 1E 00 78") 11 ∷
    judged (hex "02 03 01 80 FB D6 00 07 00 09 00 1E 00 78") 11 ∷
    judged (hex "02 03 01 81 FB D5 00 07 00 09 00 1E 00 78") 11 ∷
    judged (hex "02 03 01 82 FB D4 00 07 00 09 00 1E 00 78") 11 ∷
    judged (hex "02 03 01 FF FB 57 00 07 00 09 00 1E 00 78") 11 ∷
    -- status of Refuse: "0, 3 to 7"
    judged (hex "02 03 02 00 FB EC 00 07 00 09") 0 ∷
    judged (hex "02 03 02 03 FB E9 00 07 00 09") 0 ∷
    judged (hex "02 03 02 04 FB E8 00 07 00 09") 0 ∷
    judged (hex "02 03 02 05 FB E7 00 07 00 09") 0 ∷
    judged (hex "02 03 02 06 FB E6 00 07 00 09") 0 ∷
    judged (hex "02 03 02 07 FB E5 00 07 00 09") 0 ∷
    judged (hex "02 03 02 01 FB EB 00 07 00 09") 11 ∷
    judged (hex "02 03 02 02 FB EA 00 07 00 09") 11 ∷
    judged (hex "02 03 02 08 FB E4 00 07 00 09") 11 ∷
    judged (hex "02 03 02 80 FB 6C 00 07 00 09") 11 ∷
    judged (hex "02 03 02 83 FB 69 00 07 00 09") 11 ∷
    judged (hex "02 03 02 FF FA ED 00 07 00 09") 11 ∷
    -- status of Cease: "0, 3 to 7"
    judged (hex "02 03 03 00 FA EC 00 07 00 09") 0 ∷
    judged (hex "02 03 03 03 FA E9 00 07 00 09") 0 ∷
    judged (hex "02 03 03 04 FA E8 00 07 00 09") 0 ∷
    judged (hex "02 03 03 05 FA E7 00 07 00 09") 0 ∷
    judged (hex "02 03 03 06 FA E6 00 07 00 09") 0 ∷
    judged (hex "02 03 03 07 FA E5 00 07 00 09") 0 ∷
    judged (hex "02 03 03 01 FA EB 00 07 00 09") 11 ∷
    judged (hex "02 03 03 02 FA EA 00 07 00 09") 11 ∷
    judged (hex "02 03 03 08 FA E4 00 07 00 09") 11 ∷
    judged (hex "02 03 03 80 FA 6C 00 07 00 09") 11 ∷
    judged (hex "02 03 03 83 FA 69 00 07 00 09") 11 ∷
    judged (hex "02 03 03 FF F9 ED 00 07 00 09") 11 ∷
    -- status of Cease-ack: "0, 3 to 7"
    judged (hex "02 03 04 00 F9 EC 00 07 00 09") 0 ∷
    judged (hex "02 03 04 03 F9 E9 00 07 00 09") 0 ∷
    judged (hex "02 03 04 04 F9 E8 00 07 00 09") 0 ∷
    judged (hex "02 03 04 05 F9 E7 00 07 00 09") 0 ∷
    judged (hex "02 03 04 06 F9 E6 00 07 00 09") 0 ∷
    judged (hex "02 03 04 07 F9 E5 00 07 00 09") 0 ∷
    judged (hex "02 03 04 01 F9 EB 00 07 00 09") 11 ∷
    judged (hex "02 03 04 02 F9 EA 00 07 00 09") 11 ∷
    judged (hex "02 03 04 08 F9 E4 00 07 00 09") 11 ∷
    judged (hex "02 03 04 80 F9 6C 00 07 00 09") 11 ∷
    judged (hex "02 03 04 83 F9 69 00 07 00 09") 11 ∷
    judged (hex "02 03 04 FF F8 ED 00 07 00 09") 11 ∷
    -- status of Hello: "0 to 2"
    judged (hex "02 05 00 00 FD EA 00 07 00 09") 0 ∷
    judged (hex "02 05 00 01 FD E9 00 07 00 09") 0 ∷
    judged (hex "02 05 00 02 FD E8 00 07 00 09") 0 ∷
    judged (hex "02 05 00 03 FD E7 00 07 00 09") 11 ∷
    judged (hex "02 05 00 04 FD E6 00 07 00 09") 11 ∷
    judged (hex "02 05 00 7F FD 6B 00 07 00 09") 11 ∷
    judged (hex "02 05 00 80 FD 6A 00 07 00 09") 11 ∷
    judged (hex "02 05 00 81 FD 69 00 07 00 09") 11 ∷
    judged (hex "02 05 00 82 FD 68 00 07 00 09") 11 ∷
    judged (hex "02 05 00 FF FC EB 00 07 00 09") 11 ∷
    -- status of I-H-U: "0 to 2"
    judged (hex "02 05 01 00 FC EA 00 07 00 09") 0 ∷
    judged (hex "02 05 01 01 FC E9 00 07 00 09") 0 ∷
    judged (hex "02 05 01 02 FC E8 00 07 00 09") 0 ∷
    judged (hex "02 05 01 03 FC E7 00 07 00 09") 11 ∷
    judged (hex "02 05 01 04 FC E6 00 07 00 09") 11 ∷
    judged (hex "02 05 01 7F FC 6B 00 07 00 09") 11 ∷
    judged (hex "02 05 01 80 FC 6A 00 07 00 09") 11 ∷
    judged (hex "02 05 01 81 FC 69 00 07 00 09") 11 ∷
    judged (hex "02 05 01 82 FC 68 00 07 00 09") 11 ∷
    judged (hex "02 05 01 FF FB EB 00 07 00 09") 11 ∷
    -- status of Poll: "0 to 2"
    judged (hex "02 02 00 00 7D E4 00 07 00 09 00 00 80 09 00 00") 0 ∷
    judged (hex "02 02 00 01 7D E3 00 07 00 09 00 00 80 09 00 00") 0 ∷
    judged (hex "02 02 00 02 7D E2 00 07 00 09 00 00 80 09 00 00") 0 ∷
    judged (hex "02 02 00 03 7D E1 00 07 00 09 00 00 80 09 00 00") 11 ∷
    judged (hex "02 02 00 04 7D E0 00 07 00 09 00 00 80 09 00 00") 11 ∷
    judged (hex "02 02 00 7F 7D 65 00 07 00 09 00 00 80 09 00 00") 11 ∷
    judged (hex "02 02 00 80 7D 64 00 07 00 09 00 00 80 09 00 00") 11 ∷
    judged (hex "02 02 00 81 7D 63 00 07 00 09 00 00 80 09 00 00") 11 ∷
    judged (hex "02 02 00 82 7D 62 00 07 00 09 00 00 80 09 00 00") 11 ∷
    judged (hex "02 02 00 FF 7C E5 00 07 00 09 00 00 80 09 00 00") 11 ∷
    -- status of Update: "0 to 2, also plus 128"
    judged (hex "02 01 00 00 7D E5 00 07 00 09 00 00 80 09 00 00") 0 ∷
    judged (hex "02 01 00 01 7D E4 00 07 00 09 00 00 80 09 00 00") 0 ∷
    judged (hex "02 01 00 02 7D E3 00 07 00 09 00 00 80 09 00 00") 0 ∷
    judged (hex "02 01 00 80 7D 65 00 07 00 09 00 00 80 09 00 00") 0 ∷
    judged (hex "02 01 00 81 7D 64 00 07 00 09 00 00 80 09 00 00") 0 ∷
    judged (hex "02 01 00 82 7D 63 00 07 00 09 00 00 80 09 00 00") 0 ∷
    judged (hex "02 01 00 03 7D E2 00 07 00 09 00 00 80 09 00 00") 11 ∷
    judged (hex "02 01 00 04 7D E1 00 07 00 09 00 00 80 09 00 00") 11 ∷
    judged (hex "02 01 00 07 7D DE 00 07 00 09 00 00 80 09 00 00") 11 ∷
    judged (hex "02 01 00 7E 7D 67 00 07 00 09 00 00 80 09 00 00") 11 ∷
    judged (hex "02 01 00 7F 7D 66 00 07 00 09 00 00 80 09 00 00") 11 ∷
    judged (hex "02 01 00 83 7D 62 00 07 00 09 00 00 80 09 00 00") 11 ∷
    judged (hex "02 01 00 FF 7C E6 00 07 00 09 00 00 80 09 00 00") 11 ∷
    -- status of Error: "0 to 2, also plus 128"
    judged (hex "02 08 00 00 FD E6 00 07 00 09 00 01 00 00 00 00 00 00 00 00 00 00 00 00") 0 ∷
    judged (hex "02 08 00 01 FD E5 00 07 00 09 00 01 00 00 00 00 00 00 00 00 00 00 00 00") 0 ∷
    judged (hex "02 08 00 02 FD E4 00 07 00 09 00 01 00 00 00 00 00 00 00 00 00 00 00 00") 0 ∷
    judged (hex "02 08 00 80 FD 66 00 07 00 09 00 01 00 00 00 00 00 00 00 00 00 00 00 00") 0 ∷
    judged (hex "02 08 00 81 FD 65 00 07 00 09 00 01 00 00 00 00 00 00 00 00 00 00 00 00") 0 ∷
    judged (hex "02 08 00 82 FD 64 00 07 00 09 00 01 00 00 00 00 00 00 00 00 00 00 00 00") 0 ∷
    judged (hex "02 08 00 03 FD E3 00 07 00 09 00 01 00 00 00 00 00 00 00 00 00 00 00 00") 11 ∷
    judged (hex "02 08 00 04 FD E2 00 07 00 09 00 01 00 00 00 00 00 00 00 00 00 00 00 00") 11 ∷
    judged (hex "02 08 00 07 FD DF 00 07 00 09 00 01 00 00 00 00 00 00 00 00 00 00 00 00") 11 ∷
    judged (hex "02 08 00 7E FD 68 00 07 00 09 00 01 00 00 00 00 00 00 00 00 00 00 00 00") 11 ∷
    judged (hex "02 08 00 7F FD 67 00 07 00 09 00 01 00 00 00 00 00 00 00 00 00 00 00 00") 11 ∷
    judged (hex "02 08 00 83 FD 63 00 07 00 09 00 01 00 00 00 00 00 00 00 00 00 00 00 00") 11 ∷
    judged (hex "02 08 00 FF FC E7 00 07 00 09 00 01 00 00 00 00 00 00 00 00 00 00 00 00") 11 ∷
    -- length of Request: "14"
    judged (hex "02 03 00 00 FD CE 00 07 00 09 00 1E 00") 12 ∷
    judged (hex "02 03 00 00 FD 56 00 07 00 09 00 1E 00 78") 0 ∷
    judged (hex "02 03 00 00 FD 56 00 07 00 09 00 1E 00 78 00") 12 ∷
    judged (hex "02 03 00 00 FD EC 00 07 00 09") 12 ∷
    -- length of Confirm: "14"
    judged (hex "02 03 01 00 FC CE 00 07 00 09 00 1E 00") 12 ∷
    judged (hex "02 03 01 00 FC 56 00 07 00 09 00 1E 00 78") 0 ∷
    judged (hex "02 03 01 00 FC 56 00 07 00 09 00 1E 00 78 00") 12 ∷
    judged (hex "02 03 01 00 FC EC 00 07 00 09") 12 ∷
    -- length of Refuse: "10"
    judged (hex "02 03 02 00 FB EC 00 07 00 09") 0 ∷
    judged (hex "02 03 02 00 FB EC 00 07 00 09 00") 12 ∷
    judged (hex "02 03 02 00 FB EC 00 07 00 09 00 00 00 00") 12 ∷
    -- length of Cease: "10"
    judged (hex "02 03 03 00 FA EC 00 07 00 09") 0 ∷
    judged (hex "02 03 03 00 FA EC 00 07 00 09 00") 12 ∷
    judged (hex "02 03 03 00 FA EC 00 07 00 09 00 00 00 00") 12 ∷
    -- length of Cease-ack: "10"
    judged (hex "02 03 04 00 F9 EC 00 07 00 09") 0 ∷
    judged (hex "02 03 04 00 F9 EC 00 07 00 09 00") 12 ∷
    judged (hex "02 03 04 00 F9 EC 00 07 00 09 00 00 00 00") 12 ∷
    -- length of Hello: "10"
    judged (hex "02 05 00 00 FD EA 00 07 00 09") 0 ∷
    judged (hex "02 05 00 00 FD EA 00 07 00 09 00") 12 ∷
    judged (hex "02 05 00 00 FD EA 00 07 00 09 00 00 00 00") 12 ∷
    -- length of I-H-U: "10"
    judged (hex "02 05 01 00 FC EA 00 07 00 09") 0 ∷
    judged (hex "02 05 01 00 FC EA 00 07 00 09 00") 12 ∷
    judged (hex "02 05 01 00 FC EA 00 07 00 09 00 00 00 00") 12 ∷
    -- length of Poll: "16"
    judged (hex "02 02 00 00 7D E4 00 07 00 09 00 00 80 09 00") 12 ∷
    judged (hex "02 02 00 00 7D E4 00 07 00 09 00 00 80 09 00 00") 0 ∷
    judged (hex "02 02 00 00 7D E4 00 07 00 09 00 00 80 09 00 00 00") 12 ∷
    judged (hex "02 02 00 00 FD ED 00 07 00 09") 12 ∷
    -- length of Update: "16 or more"
    judged (hex "02 01 00 00 FD EE 00 07 00 09") 12 ∷
    judged (hex "02 01 00 00 7D E5 00 07 00 09 00 00 80 09 00") 12 ∷
    judged (hex "02 01 00 00 7D E5 00 07 00 09 00 00 80 09 00 00") 0 ∷
    judged (hex "02 01 00 00 7C E0 00 07 00 09 01 00 80 09 00 00 00 05 00") 0 ∷
    -- length of Error: "24"
    judged (hex "02 08 00 00 FD E6 00 07 00 09 00 01 00 00 00 00 00 00 00 00 00 00 00") 12 ∷
    judged (hex "02 08 00 00 FD E6 00 07 00 09 00 01 00 00 00 00 00 00 00 00 00 00 00 00") 0 ∷
    judged (hex "02 08 00 00 FD E6 00 07 00 09 00 01 00 00 00 00 00 00 00 00 00 00 00 00 00") 12 ∷
    judged (hex "02 08 00 00 FD E7 00 07 00 09") 12 ∷
    judged (hex "02 05 00 00 FD EA 00 07 00 09" ++ replicate 2038 0) 12 ∷
    -- "Type, code": the ten pairs; each next code and type is unknown
    judged (hex "02 03 00 00 FD 56 00 07 00 09 00 1E 00 78") 0 ∷
    judged (hex "02 03 01 00 FC 56 00 07 00 09 00 1E 00 78") 0 ∷
    judged (hex "02 03 02 00 FB EC 00 07 00 09") 0 ∷
    judged (hex "02 03 03 00 FA EC 00 07 00 09") 0 ∷
    judged (hex "02 03 04 00 F9 EC 00 07 00 09") 0 ∷
    judged (hex "02 05 00 00 FD EA 00 07 00 09") 0 ∷
    judged (hex "02 05 01 00 FC EA 00 07 00 09") 0 ∷
    judged (hex "02 02 00 00 7D E4 00 07 00 09 00 00 80 09 00 00") 0 ∷
    judged (hex "02 01 00 00 7D E5 00 07 00 09 00 00 80 09 00 00") 0 ∷
    judged (hex "02 08 00 00 FD E6 00 07 00 09 00 01 00 00 00 00 00 00 00 00 00 00 00 00") 0 ∷
    judged (hex "02 03 05 00 F8 EC 00 07 00 09") 10 ∷
    judged (hex "02 03 80 00 7D EC 00 07 00 09") 10 ∷
    judged (hex "02 03 FF 00 FE EB 00 07 00 09") 10 ∷
    judged (hex "02 05 02 00 FB EA 00 07 00 09") 10 ∷
    judged (hex "02 05 FF 00 FE E9 00 07 00 09") 10 ∷
    judged (hex "02 02 01 00 FC ED 00 07 00 09") 10 ∷
    judged (hex "02 02 FF 00 FE EC 00 07 00 09") 10 ∷
    judged (hex "02 01 01 00 FC EE 00 07 00 09") 10 ∷
    judged (hex "02 01 FF 00 FE ED 00 07 00 09") 10 ∷
    judged (hex "02 08 01 00 FC E7 00 07 00 09") 10 ∷
    judged (hex "02 08 FF 00 FE E6 00 07 00 09") 10 ∷
    judged (hex "02 00 00 00 FD EF 00 07 00 09") 10 ∷
    judged (hex "02 00 01 00 FC EF 00 07 00 09") 10 ∷
    judged (hex "02 04 00 00 FD EB 00 07 00 09") 10 ∷
    judged (hex "02 04 01 00 FC EB 00 07 00 09") 10 ∷
    judged (hex "02 06 00 00 FD E9 00 07 00 09") 10 ∷
    judged (hex "02 06 01 00 FC E9 00 07 00 09") 10 ∷
    judged (hex "02 07 00 00 FD E8 00 07 00 09") 10 ∷
    judged (hex "02 09 00 00 FD E6 00 07 00 09") 10 ∷
    judged (hex "02 0B 00 00 FD E4 00 07 00 09") 10 ∷
    judged (hex "02 81 00 00 FD 6E 00 07 00 09") 10 ∷
    judged (hex "02 82 00 00 FD 6D 00 07 00 09") 10 ∷
    judged (hex "02 83 00 00 FD 6C 00 07 00 09") 10 ∷
    judged (hex "02 85 00 00 FD 6A 00 07 00 09") 10 ∷
    judged (hex "02 88 00 00 FD 67 00 07 00 09") 10 ∷
    judged (hex "02 FF 00 00 FC F0 00 07 00 09") 10 ∷
    judged (hex "02 FF FF 00 FD EF 00 07 00 09") 10 ∷
    -- the code of no kind beside the length and body of one
    judged (hex "02 03 05 00 F8 56 00 07 00 09 00 1E 00 78") 10 ∷
    judged (hex "02 02 01 00 7C E4 00 07 00 09 00 00 80 09 00 00") 10 ∷
    judged (hex "02 01 01 00 7C E5 00 07 00 09 00 00 80 09 00 00") 10 ∷
    judged (hex "02 08 01 00 FC E7 00 07 00 09 00 00 00 00 00 00 00 00 00 00 00 00 00 00") 10 ∷
    []
