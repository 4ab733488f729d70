-- 01: "Checks go in this order; the first that fails answers." For each two numbers that stand next to each other in a
-- call's own checks, a call that fails both and is answered by the first. The listing's are in Listings, those of 22 in
-- Seconds.
use Rattle.std.specs.Prelude.{List, [], ◌∷◌, ◌++◌, replicate}
use Rattle.message.specs.declared.Message.TheVariants.{Hello, Update}
use Rattle.neighbour.specs.declared.Phase.TheVariants.{Acquisition}
use Rattle.neighbour.specs.declared.Mode.TheVariants.{Unset}
use Rattle.neighbour_machine.specs.Intrinsics.{Start, Stop, Tick}
use Rattle.gateway_check_sheet.specs.Given.{hex, ip, common, theirs, nobody, made, in_slot_two, in_idle, in_acquisition, in_down, in_up, in_cease, unsound, full}
use Rattle.gateway_check_sheet.specs.Line.{Line, add, remove, event, message, reading, writing, heard}

unfoldable pub orders : List Line
orders =
    -- message 1/2
    message unsound 3071 2048 [] theirs (hex "02 05 00 00 FD EA 00 07 00 09") 1 0 0 [] ∷
    -- message 2/3
    message in_idle 3071 2047 [] theirs (hex "02 05 00 00 FD EA 00 07 00 09") 2 0 0 [] ∷
    -- message 3/4
    message in_idle 3072 2047 (0 ∷ []) theirs (hex "02 05 00 00 FD EA 00 07 00 09") 3 0 0 [] ∷
    -- message 4/5
    message in_idle 3072 2048 (0 ∷ []) nobody (hex "02 05 00 00 FD EA 00 07 00 09") 4 0 0 [] ∷
    -- message 5/6
    message in_idle 3072 2048 [] nobody (hex "02 05 00 00 FD F3 00 07 00") 5 0 0 [] ∷
    -- message 6/7
    heard in_idle "03 05 00 00 FC F3 00 07 00" 6 0 0 "" ∷
    message in_idle 3072 2048 [] theirs (3 ∷ replicate 2048 0) 6 0 0 [] ∷
    -- message 7/8
    heard in_idle "03 05 00 00 FC EB 00 07 00 09" 7 0 0 "" ∷
    -- message 8/9
    heard in_idle "02 03 00 00 FD 52 00 0C 00 09 00 1E 00 78" 8 0 0 "" ∷
    -- message 9/10: "AS is not this neighbour's" comes before all that the kind decides
    heard in_down "02 04 00 00 FD E6 00 0C 00 09" 9 0 0 "" ∷
    heard in_down "02 05 00 03 FD E2 00 0C 00 09" 9 0 0 "" ∷
    heard in_down "02 05 00 00 FD E5 00 0C 00 09 00" 9 0 0 "" ∷
    heard in_down "02 05 01 00 FC EA 00 0C 00 04" 9 0 0 "" ∷
    -- message 10/11: status 255 is allowed for no kind
    heard in_down "02 04 00 FF FC EC 00 07 00 09" 10 24 0 "02 08 00 02 FD E6 00 09 00 05 00 01 02 04 00 FF FC EC 00 07 00 09 00 00" ∷
    heard in_idle "02 04 00 FF FC EC 00 07 00 09" 10 0 0 "" ∷
    -- message 11/12
    heard in_down "02 05 00 03 FD E7 00 07 00 09 00" 11 24 0 "02 08 00 02 FD E6 00 09 00 05 00 01 02 05 00 03 FD E7 00 07 00 09 00 00" ∷
    heard in_idle "02 05 00 03 FD E7 00 07 00 09 00" 11 0 0 "" ∷
    -- message 12/13: a response of a wrong length and out of sequence
    heard in_acquisition "02 03 01 00 FC D3 00 07 00 04 00 1E 00" 12 0 0 "" ∷
    heard in_down "02 05 01 00 FC EF 00 07 00 04 00" 12 24 0 "02 08 00 02 FD E6 00 09 00 05 00 01 02 05 01 00 FC EF 00 07 00 04 00 00" ∷
    heard in_up "02 01 00 00 7D EA 00 07 00 04 00 00 80 09 00" 12 24 0 "02 08 00 01 7D F1 00 09 00 05 00 01 02 01 00 00 7D EA 00 07 00 04 00 00" ∷
    heard in_cease "02 03 04 00 F9 F1 00 07 00 04 00" 12 0 0 "" ∷
    -- message 13/14
    heard in_up "02 01 00 00 7C EA 00 07 00 04 01 00 80 09 00 00 00" 13 0 0 "" ∷
    heard in_up "02 01 00 00 F3 F3 00 07 00 04 00 00 0A 00 00 00" 13 0 0 "" ∷
    -- message 14/15: 129 rows and an octet left over; 129 rows on another net
    message in_up 3072 2048 [] theirs (hex "02 01 00 01 78 58 00 07 00 03 01 00 80 09 00 00 00 05 01 00 81" ++ replicate 129 10 ++ (0 ∷ [])) 14 24 0 (hex "02 08 00 01 82 82 00 09 00 05 00 02 02 01 00 01 78 58 00 07 00 03 01 00") ∷
    message in_up 3072 2048 [] theirs (hex "02 01 00 01 78 57 00 07 00 03 01 00 80 0A 00 00 00 05 01 00 81" ++ replicate 129 10) 14 24 0 (hex "02 08 00 01 82 83 00 09 00 05 00 02 02 01 00 01 78 57 00 07 00 03 01 00") ∷
    -- message 13/15
    message in_up 3072 2048 [] theirs (hex "02 01 00 01 78 57 00 07 00 04 01 00 80 09 00 00 00 05 01 00 81" ++ replicate 129 10) 13 0 0 [] ∷
    -- message: all from here on at once
    message unsound 3071 2047 (0 ∷ []) nobody (hex "03 04 00 FF FB F0 00 0C 00") 1 0 0 [] ∷
    message in_up 3071 2047 (0 ∷ []) nobody (hex "03 04 00 FF FB F0 00 0C 00") 2 0 0 [] ∷
    message in_up 3072 2047 (0 ∷ []) nobody (hex "03 04 00 FF FB F0 00 0C 00") 3 0 0 [] ∷
    message in_up 3072 2048 (0 ∷ []) nobody (hex "03 04 00 FF FB F0 00 0C 00") 4 0 0 [] ∷
    message in_up 3072 2048 [] nobody (hex "03 04 00 FF FB F0 00 0C 00") 5 0 0 [] ∷
    heard in_up "03 04 00 FF FB F0 00 0C 00" 6 0 0 "" ∷
    heard in_up "03 04 00 FF FB E8 00 0C 00 09" 7 0 0 "" ∷
    heard in_up "02 04 00 FF FC E8 00 0C 00 09" 8 0 0 "" ∷
    heard in_up "02 04 00 FF FC E7 00 0C 00 09" 9 0 0 "" ∷
    -- add 1/16
    add unsound nobody 0 1 unsound ∷
    -- add 16/17: AS 0 and a present address, where no slot is free
    add full nobody 0 16 full ∷
    add full (ip 128 9 0 10) 8 16 full ∷
    add full (ip 128 9 0 17) 8 16 full ∷
    -- remove 1/5
    remove unsound nobody 1 unsound ∷
    -- remove 1/18; 5 and 18 exclude each other, since 18 is said of the neighbour that has the address
    remove (in_slot_two (made Acquisition 3 5 0 0 Unset 0 0 100 0 0 0) 0) theirs 1 (in_slot_two (made Acquisition 3 5 0 0 Unset 0 0 100 0 0 0) 0) ∷
    -- writing 3/16
    writing (Hello 7 1 3) [] 2047 3 0 ∷
    writing (Update 7 1 1 (ip 224 0 0 0)) [] 2047 3 0 ∷
    -- Start 1/2
    event Start unsound 3071 2048 theirs 1 0 0 [] ∷
    -- Start 2/3
    event Start in_idle 3071 2047 theirs 2 0 0 [] ∷
    -- Start 3/5
    event Start in_idle 3072 2047 nobody 3 0 0 [] ∷
    -- Start: all from here on at once
    event Start unsound 3071 2047 nobody 1 0 0 [] ∷
    event Start in_idle 3071 2047 nobody 2 0 0 [] ∷
    -- Stop 1/2
    event Stop unsound 3071 2048 theirs 1 0 0 [] ∷
    -- Stop 2/3
    event Stop in_idle 3071 2047 theirs 2 0 0 [] ∷
    -- Stop 3/5
    event Stop in_idle 3072 2047 nobody 3 0 0 [] ∷
    -- Stop: all from here on at once
    event Stop unsound 3071 2047 nobody 1 0 0 [] ∷
    event Stop in_idle 3071 2047 nobody 2 0 0 [] ∷
    -- tick 1/2
    event Tick unsound 3071 2048 theirs 1 0 0 [] ∷
    -- tick 2/3
    event Tick in_idle 3071 2047 theirs 2 0 0 [] ∷
    -- tick 3/5
    event Tick in_idle 3072 2047 nobody 3 0 0 [] ∷
    -- tick: all from here on at once
    event Tick unsound 3071 2047 nobody 1 0 0 [] ∷
    event Tick in_idle 3071 2047 nobody 2 0 0 [] ∷
    -- reading alone 6/7
    reading common (hex "03 05 00 00 FC F3 00 07 00") 6 0 ∷
    -- reading alone 7/8
    reading common (hex "03 05 00 00 FC EB 00 07 00 09") 7 0 ∷
    -- reading alone 8/10
    reading common (hex "02 04 00 00 FD EC 00 07 00 09") 8 0 ∷
    -- reading alone 10/11
    reading common (hex "02 04 00 FF FC EC 00 07 00 09") 10 0 ∷
    -- reading alone 11/12
    reading common (hex "02 05 00 03 FD E7 00 07 00 09 00") 11 0 ∷
    -- reading alone 12/14: an Update of 15 octets on a bad common net, and on a good one
    reading (ip 224 0 0 0) (hex "02 01 00 00 1D EE 00 07 00 09 00 00 E0 00 00") 12 0 ∷
    reading common (hex "02 01 00 00 F3 EE 00 07 00 09 00 00 0A 00 00") 12 0 ∷
    -- reading alone 14/15
    reading common (hex "02 01 00 01 78 58 00 07 00 03 01 00 80 09 00 00 00 05 01 00 81" ++ replicate 129 10 ++ (0 ∷ [])) 14 0 ∷
    reading common (hex "02 01 00 01 78 57 00 07 00 03 01 00 80 0A 00 00 00 05 01 00 81" ++ replicate 129 10) 14 0 ∷
    []
