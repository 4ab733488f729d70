-- Each of 01's answer numbers, from each call that can give it, with the good calls on the other side of its boundary.
use Rattle.std.specs.Prelude.{List, [], ◌∷◌, ◌++◌, replicate}
use Rattle.message.specs.declared.Message.TheVariants.{Hello}
use Rattle.neighbour_machine.specs.Intrinsics.{Start, Stop, Tick}
use Rattle.gateway_check_sheet.specs.Given.{hex, ip, common, ours, theirs, others, nobody, set, nine, resting, falling, slot, vacant, state, without_neighbours, nothing, in_idle, in_acquisition, in_down, in_up, in_cease, unsound, full}
use Rattle.gateway_check_sheet.specs.Line.{Line, fresh, add, remove, event, message, reading, writing, heard}

unfoldable pub numbers : List Line
numbers =
    -- fresh 0
    fresh nine 0 (without_neighbours nine) ∷
    -- fresh 16: "bad setting"; "it then returns the all-zero state"
    fresh (set 0 ours 0 common) 16 nothing ∷
    -- add 0: "It takes the lowest free slot", here slot 1
    add in_idle nobody 8 0
    (state nine (slot others 12 resting 0) (slot nobody 8 resting 0) (slot theirs 7 resting 0) vacant vacant vacant vacant vacant) ∷
    -- add 1: "state not well formed"
    add unsound nobody 8 1 unsound ∷
    -- add 16: "bad setting"
    add in_idle nobody 0 16 in_idle ∷
    -- add 17: "no free slot"; with one free slot, the last, it is taken
    add full nobody 8 17 full ∷
    add
    (state nine
    (slot (ip 128 9 0 10) 10 resting 0) (slot (ip 128 9 0 11) 11 resting 0) (slot (ip 128 9 0 12) 12 resting 0) (slot (ip 128 9 0 13) 13 resting 0)
    (slot (ip 128 9 0 14) 14 resting 0) (slot (ip 128 9 0 15) 15 resting 0) (slot (ip 128 9 0 16) 16 resting 0) vacant)
    nobody 8 0
    (state nine
    (slot (ip 128 9 0 10) 10 resting 0) (slot (ip 128 9 0 11) 11 resting 0) (slot (ip 128 9 0 12) 12 resting 0) (slot (ip 128 9 0 13) 13 resting 0)
    (slot (ip 128 9 0 14) 14 resting 0) (slot (ip 128 9 0 15) 15 resting 0) (slot (ip 128 9 0 16) 16 resting 0) (slot nobody 8 resting 0)) ∷
    -- remove 0: "a removed slot is free again"
    remove in_idle theirs 0 (state nine (slot others 12 resting 0) vacant vacant vacant vacant vacant vacant vacant) ∷
    remove in_down others 0 (state nine vacant vacant (slot theirs 7 falling 0) vacant vacant vacant vacant vacant) ∷
    remove full (ip 128 9 0 17) 0
    (state nine
    (slot (ip 128 9 0 10) 10 resting 0) (slot (ip 128 9 0 11) 11 resting 0) (slot (ip 128 9 0 12) 12 resting 0) (slot (ip 128 9 0 13) 13 resting 0)
    (slot (ip 128 9 0 14) 14 resting 0) (slot (ip 128 9 0 15) 15 resting 0) (slot (ip 128 9 0 16) 16 resting 0) vacant) ∷
    -- remove 1: "state not well formed"
    remove unsound theirs 1 unsound ∷
    -- remove 5: "no used slot has this address", 0 included
    remove in_idle nobody 5 in_idle ∷
    remove in_idle 0 5 in_idle ∷
    -- remove 18: "neighbour not Idle"
    remove in_acquisition theirs 18 in_acquisition ∷
    remove in_down theirs 18 in_down ∷
    remove in_up theirs 18 in_up ∷
    remove in_cease theirs 18 in_cease ∷
    -- writing 0
    writing (Hello 7 1 2) [] 2048 0 10 ∷
    writing (Hello 7 1 2) [] 2049 0 10 ∷
    -- writing 3: "buffer too short", "at least 2,048", whatever the message takes
    writing (Hello 7 1 2) [] 2047 3 0 ∷
    writing (Hello 7 1 2) [] 10 3 0 ∷
    writing (Hello 7 1 2) [] 0 3 0 ∷
    -- writing 16: "bad meaning"
    writing (Hello 7 1 3) [] 2048 16 0 ∷
    -- Start 0
    event Start in_idle 3072 2048 theirs 0 14 0 (hex "02 03 00 00 FD 5D 00 09 00 00 00 1E 00 78") ∷
    event Start in_idle 3072 2049 theirs 0 14 0 (hex "02 03 00 00 FD 5D 00 09 00 00 00 1E 00 78") ∷
    event Start full 3072 2048 (ip 128 9 0 17) 0 14 0 (hex "02 03 00 00 FD 5D 00 09 00 00 00 1E 00 78") ∷
    -- Start 1: "state not well formed"
    event Start unsound 3072 2048 theirs 1 0 0 [] ∷
    -- Start 2: "table not 3,072 numbers"
    event Start in_idle 3071 2048 theirs 2 0 0 [] ∷
    event Start in_idle 3073 2048 theirs 2 0 0 [] ∷
    event Start in_idle 1024 2048 theirs 2 0 0 [] ∷
    -- Start 3: "reply .. buffer too short"
    event Start in_idle 3072 2047 theirs 3 0 0 [] ∷
    event Start in_idle 3072 32 theirs 3 0 0 [] ∷
    -- Start 5: "no used slot has this address", 0 included
    event Start in_idle 3072 2048 nobody 5 0 0 [] ∷
    event Start in_idle 3072 2048 0 5 0 0 [] ∷
    -- Stop 0
    event Stop in_idle 3072 2048 theirs 0 0 0 [] ∷
    event Stop in_idle 3072 2049 theirs 0 0 0 [] ∷
    event Stop full 3072 2048 (ip 128 9 0 17) 0 0 0 [] ∷
    -- Stop 1: "state not well formed"
    event Stop unsound 3072 2048 theirs 1 0 0 [] ∷
    -- Stop 2: "table not 3,072 numbers"
    event Stop in_idle 3071 2048 theirs 2 0 0 [] ∷
    event Stop in_idle 3073 2048 theirs 2 0 0 [] ∷
    event Stop in_idle 1024 2048 theirs 2 0 0 [] ∷
    -- Stop 3: "reply .. buffer too short"
    event Stop in_idle 3072 2047 theirs 3 0 0 [] ∷
    event Stop in_idle 3072 32 theirs 3 0 0 [] ∷
    -- Stop 5: "no used slot has this address", 0 included
    event Stop in_idle 3072 2048 nobody 5 0 0 [] ∷
    event Stop in_idle 3072 2048 0 5 0 0 [] ∷
    -- tick 0
    event Tick in_idle 3072 2048 theirs 0 0 0 [] ∷
    event Tick in_idle 3072 2049 theirs 0 0 0 [] ∷
    event Tick full 3072 2048 (ip 128 9 0 17) 0 0 0 [] ∷
    -- tick 1: "state not well formed"
    event Tick unsound 3072 2048 theirs 1 0 0 [] ∷
    -- tick 2: "table not 3,072 numbers"
    event Tick in_idle 3071 2048 theirs 2 0 0 [] ∷
    event Tick in_idle 3073 2048 theirs 2 0 0 [] ∷
    event Tick in_idle 1024 2048 theirs 2 0 0 [] ∷
    -- tick 3: "reply .. buffer too short"
    event Tick in_idle 3072 2047 theirs 3 0 0 [] ∷
    event Tick in_idle 3072 32 theirs 3 0 0 [] ∷
    -- tick 5: "no used slot has this address", 0 included
    event Tick in_idle 3072 2048 nobody 5 0 0 [] ∷
    event Tick in_idle 3072 2048 0 5 0 0 [] ∷
    -- message 0: "the call was carried out, even if it changes nothing"; a Hello in Idle draws the Cease of 02, L6
    heard in_idle "02 05 00 00 FD EA 00 07 00 09" 0 10 0 "02 03 03 07 FA EC 00 09 00 00" ∷
    message in_idle 3072 2049 [] theirs (hex "02 05 00 00 FD EA 00 07 00 09") 0 10 0 (hex "02 03 03 07 FA EC 00 09 00 00") ∷
    message full 3072 2048 [] (ip 128 9 0 17) (hex "02 05 00 00 FD E0 00 11 00 09") 0 10 0 (hex "02 03 03 07 FA EC 00 09 00 00") ∷
    -- message 1: "state not well formed"
    heard unsound "02 05 00 00 FD EA 00 07 00 09" 1 0 0 "" ∷
    -- message 2: "table not 3,072 numbers"
    message in_idle 3071 2048 [] theirs (hex "02 05 00 00 FD EA 00 07 00 09") 2 0 0 [] ∷
    message in_idle 3073 2048 [] theirs (hex "02 05 00 00 FD EA 00 07 00 09") 2 0 0 [] ∷
    message in_idle 1024 2048 [] theirs (hex "02 05 00 00 FD EA 00 07 00 09") 2 0 0 [] ∷
    -- message 3: "reply .. buffer too short": a Hello, and a Cease-ack, to which nothing would be sent
    message in_idle 3072 2047 [] theirs (hex "02 05 00 00 FD EA 00 07 00 09") 3 0 0 [] ∷
    message in_idle 3072 32 [] theirs (hex "02 05 00 00 FD EA 00 07 00 09") 3 0 0 [] ∷
    message in_idle 3072 2047 [] theirs (hex "02 03 04 00 F9 EC 00 07 00 09") 3 0 0 [] ∷
    message in_idle 3072 32 [] theirs (hex "02 03 04 00 F9 EC 00 07 00 09") 3 0 0 [] ∷
    -- message 4: "bad home list"; a good one of one row
    message in_idle 3072 2048 (ip 10 0 0 0 ∷ ours ∷ 256 ∷ []) theirs (hex "02 05 00 00 FD EA 00 07 00 09") 4 0 0 [] ∷
    message in_idle 3072 2048 (ip 10 0 0 0 ∷ ours ∷ 255 ∷ []) theirs (hex "02 05 00 00 FD EA 00 07 00 09") 0 10 0 (hex "02 03 03 07 FA EC 00 09 00 00") ∷
    -- message 5: "no used slot has this address", 0 included
    message in_idle 3072 2048 [] nobody (hex "02 05 00 00 FD EA 00 07 00 09") 5 0 0 [] ∷
    message in_idle 3072 2048 [] 0 (hex "02 05 00 00 FD EA 00 07 00 09") 5 0 0 [] ∷
    -- message 6: "message below 10 or above 2,048 octets"; the good one of 2,048 is an Update with groups of no nets
    heard in_idle "02 05 00 00 FD F3 00 07 00" 6 0 0 "" ∷
    heard in_idle "02 05 00 00 00" 6 0 0 "" ∷
    heard in_idle "" 6 0 0 "" ∷
    message in_up 3072 2048 [] theirs
    (hex "02 01 00 00 6F EB 00 07 00 03 04 00 80 09 00 00" ++ (hex "00 05 FF" ++ replicate 510 0) ++ (hex "00 05 FF" ++ replicate 510 0) ++ (hex "00 05 FF" ++ replicate 510 0) ++ (hex "00 05 F5" ++ replicate 490 0))
    0 0 0 [] ∷
    message in_up 3072 2048 [] theirs
    (hex "02 01 00 00 6F EB 00 07 00 03 04 00 80 09 00 00" ++ (hex "00 05 FF" ++ replicate 510 0) ++ (hex "00 05 FF" ++ replicate 510 0) ++ (hex "00 05 FF" ++ replicate 510 0) ++ (hex "00 05 F5" ++ replicate 491 0))
    6 0 0 [] ∷
    -- message 7: "version not 2"
    heard in_down "01 05 00 00 FE EA 00 07 00 09" 7 0 0 "" ∷
    heard in_down "03 05 00 00 FC EA 00 07 00 09" 7 0 0 "" ∷
    heard in_down "82 05 00 00 7D EA 00 07 00 09" 7 0 0 "" ∷
    -- message 8: "checksum field wrong": one too high, one too low, octets exchanged, 0, and FF FF for 00 00
    heard in_down "02 05 00 00 FD EB 00 07 00 09" 8 0 0 "" ∷
    heard in_down "02 05 00 00 FD E9 00 07 00 09" 8 0 0 "" ∷
    heard in_down "02 05 00 00 EA FD 00 07 00 09" 8 0 0 "" ∷
    heard in_down "02 05 00 00 00 00 00 07 00 09" 8 0 0 "" ∷
    heard in_down "02 05 00 00 00 00 00 07 FD F3" 0 10 0 "02 05 01 02 FE FB 00 09 FD F3" ∷
    heard in_down "02 05 00 00 FF FF 00 07 FD F3" 8 0 0 "" ∷
    -- message 9: "AS is not this neighbour's": one more, one less, octets exchanged, the other neighbour's, ours
    heard in_down "02 05 00 00 FD E9 00 08 00 09" 9 0 0 "" ∷
    heard in_down "02 05 00 00 FD EB 00 06 00 09" 9 0 0 "" ∷
    heard in_down "02 05 00 00 F6 F1 07 00 00 09" 9 0 0 "" ∷
    heard in_down "02 05 00 00 FD E5 00 0C 00 09" 9 0 0 "" ∷
    heard in_down "02 05 00 00 FD E8 00 09 00 09" 9 0 0 "" ∷
    -- message 10: "unknown type and code pair"
    heard in_idle "02 04 00 00 FD EB 00 07 00 09" 10 0 0 "" ∷
    -- message 11: "status not allowed"
    heard in_idle "02 05 00 03 FD E7 00 07 00 09" 11 0 0 "" ∷
    -- message 12: "length wrong for the type"
    heard in_idle "02 05 00 00 FD EA 00 07 00 09 00" 12 0 0 "" ∷
    -- message 13: "response out of sequence"
    heard in_down "02 05 01 00 FC EF 00 07 00 04" 13 0 0 "" ∷
    heard in_down "02 05 01 00 FC F0 00 07 00 03" 0 0 0 "" ∷
    heard in_down "02 05 01 00 FC F1 00 07 00 02" 13 0 0 "" ∷
    -- message 14: "Update in Up with a bad body or a net that is not the common net"; in another state no body is read
    heard in_up "02 01 00 01 B3 D5 00 07 00 03 01 00 80 09 00 00 00 05 01 00 02 0A C0 05 06" 0 0 0 "" ∷
    heard in_up "02 01 00 01 B9 D5 00 07 00 03 01 00 80 09 00 00 00 05 01 00 02 0A C0 05" 14 24 0 "02 08 00 01 41 05 00 09 00 05 00 02 02 01 00 01 B9 D5 00 07 00 03 01 00" ∷
    heard in_up "02 01 00 01 B3 D4 00 07 00 03 01 00 80 09 00 01 00 05 01 00 02 0A C0 05 06" 14 24 0 "02 08 00 01 47 06 00 09 00 05 00 02 02 01 00 01 B3 D4 00 07 00 03 01 00" ∷
    heard in_down "02 01 00 01 B9 D5 00 07 00 03 01 00 80 09 00 00 00 05 01 00 02 0A C0 05" 0 0 0 "" ∷
    heard in_down "02 01 00 01 B3 D4 00 07 00 03 01 00 80 09 00 01 00 05 01 00 02 0A C0 05 06" 0 0 0 "" ∷
    -- message 15: "such an Update, otherwise good, of more than 128 rows"; 128 are good, and in Down any number is
    message in_up 3072 2048 [] theirs (hex "02 01 00 01 79 62 00 07 00 03 01 00 80 09 00 00 00 05 01 00 80" ++ replicate 128 10) 0 0 0 [] ∷
    message in_up 3072 2048 [] theirs (hex "02 01 00 01 78 58 00 07 00 03 01 00 80 09 00 00 00 05 01 00 81" ++ replicate 129 10) 15 24 0 (hex "02 08 00 01 82 84 00 09 00 05 00 00 02 01 00 01 78 58 00 07 00 03 01 00") ∷
    message in_down 3072 2048 [] theirs (hex "02 01 00 01 78 58 00 07 00 03 01 00 80 09 00 00 00 05 01 00 81" ++ replicate 129 10) 0 0 0 [] ∷
    -- reading alone 0
    reading common (hex "02 05 00 00 FD EA 00 07 00 09") 0 0 ∷
    -- reading alone 6: "message below 10 or above 2,048 octets"
    reading common (hex "02 05 00 00 FD F3 00 07 00") 6 0 ∷
    reading common [] 6 0 ∷
    reading common
    (hex "02 01 00 00 6F EB 00 07 00 03 04 00 80 09 00 00" ++ (hex "00 05 FF" ++ replicate 510 0) ++ (hex "00 05 FF" ++ replicate 510 0) ++ (hex "00 05 FF" ++ replicate 510 0) ++ (hex "00 05 F5" ++ replicate 490 0))
    0 0 ∷
    reading common
    (hex "02 01 00 00 6F EB 00 07 00 03 04 00 80 09 00 00" ++ (hex "00 05 FF" ++ replicate 510 0) ++ (hex "00 05 FF" ++ replicate 510 0) ++ (hex "00 05 FF" ++ replicate 510 0) ++ (hex "00 05 F5" ++ replicate 491 0))
    6 0 ∷
    -- reading alone 7: "version not 2"
    reading common (hex "01 05 00 00 FE EA 00 07 00 09") 7 0 ∷
    reading common (hex "03 05 00 00 FC EA 00 07 00 09") 7 0 ∷
    -- reading alone 8: "checksum field wrong"
    reading common (hex "02 05 00 00 FD EB 00 07 00 09") 8 0 ∷
    reading common (hex "02 05 00 00 FD E9 00 07 00 09") 8 0 ∷
    -- reading alone makes no 9: any AS, 0 too
    reading common (hex "02 05 00 00 FD F1 00 00 00 09") 0 0 ∷
    reading common (hex "02 05 00 00 FD E5 00 0C 00 09") 0 0 ∷
    -- reading alone 10: "unknown type and code pair"
    reading common (hex "02 04 00 00 FD EB 00 07 00 09") 10 0 ∷
    -- reading alone 11: "status not allowed"
    reading common (hex "02 05 00 03 FD E7 00 07 00 09") 11 0 ∷
    -- reading alone 12: "length wrong for the type"
    reading common (hex "02 05 00 00 FD EA 00 07 00 09 00") 12 0 ∷
    -- reading alone 14: "as if in Up"
    reading common (hex "02 01 00 01 B3 D5 00 07 00 03 01 00 80 09 00 00 00 05 01 00 02 0A C0 05 06") 0 2 ∷
    reading common (hex "02 01 00 01 B9 D5 00 07 00 03 01 00 80 09 00 00 00 05 01 00 02 0A C0 05") 14 0 ∷
    reading common (hex "02 01 00 01 B3 D4 00 07 00 03 01 00 80 09 00 01 00 05 01 00 02 0A C0 05 06") 14 0 ∷
    -- reading alone 14: "for any Update if that net is bad", though the Update has the same; other kinds are read
    reading (ip 224 0 0 0) (hex "02 01 00 00 1D EE 00 07 00 09 00 00 E0 00 00 00") 14 0 ∷
    reading (ip 128 9 0 1) (hex "02 01 00 00 7D E4 00 07 00 09 00 00 80 09 00 01") 14 0 ∷
    reading (ip 224 0 0 0) (hex "02 05 00 00 FD EA 00 07 00 09") 0 0 ∷
    reading (ip 223 255 255 0) (hex "02 01 00 00 1E EE 00 07 00 09 00 00 DF FF FF 00") 0 0 ∷
    -- reading alone 15: "more than 128 rows"
    reading common (hex "02 01 00 01 79 62 00 07 00 03 01 00 80 09 00 00 00 05 01 00 80" ++ replicate 128 10) 0 128 ∷
    reading common (hex "02 01 00 01 78 58 00 07 00 03 01 00 80 09 00 00 00 05 01 00 81" ++ replicate 129 10) 15 0 ∷
    []
