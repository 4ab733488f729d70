-- What calls that are carried out leave in block and table, to the last octet.
use Rattle.std.specs.Prelude.{List, [], ◌∷◌, ◌++◌, replicate}
use Rattle.neighbour_machine.specs.Intrinsics.{Start, Stop, Tick}
use Rattle.model.specs.Model.{add, remove, happen, receive}
use Rattle.gateway_check_sheet.specs.Given.{hex, ip, set, nine_with}
use Rattle.host_sheet.specs.Given.{own, own_quiet, free, block, sound, quiet_sound, exchanged, slot0, slot2, slot5, slot6, slot7, eights, table, room, in_slot0, in_slot2, in_slot6, in_slot7, row}
use Rattle.host_sheet.specs.Line.{Line, fresh, alone, whole}

unfoldable pub effects : List Line
effects =
    -- fresh, on a block of 255s and on one that holds a state: every octet is written
    fresh (set 9 (ip 128 9 0 1) 0 (ip 128 9 0 0)) (replicate 404 255) 0 (block own free free free free free free free free) ∷
    fresh (set 0x0102 (ip 128 9 3 4) 2 (ip 128 9 0 0)) sound 0
    (block "01 02 80 09 03 04 02 80 09 00 00 00" free free free free free free free free) ∷
    -- `quiet` 1 and 0, also over a block that has the other
    fresh (nine_with 1) (replicate 404 255) 0 (block own_quiet free free free free free free free free) ∷
    fresh (nine_with 1) sound 0 (block own_quiet free free free free free free free free) ∷
    fresh (nine_with 0) quiet_sound 0 (block own free free free free free free free free) ∷
    -- add: the lowest free slot, which is 5; remove: all zero again, the seconds too
    alone (add (ip 128 9 0 18) 0x1234) sound 0
    (exchanged slot5 "80 09 00 12 12 34 00 00 00 00 00 00 00 00 00 00 00 00 00 00 00 00 00 00 00 00 00 00 00 00 00 00 00 00 00 00 00 00 00 00 00 00 00 00 00 00 00 00 00" sound) ∷
    alone (remove in_slot7) sound 0 (exchanged slot7 free sound) ∷
    -- 02, L6: "is fixed when the state is fresh": neither changes it
    alone (add (ip 128 9 0 18) 0x1234) quiet_sound 0
    (exchanged slot5 "80 09 00 12 12 34 00 00 00 00 00 00 00 00 00 00 00 00 00 00 00 00 00 00 00 00 00 00 00 00 00 00 00 00 00 00 00 00 00 00 00 00 00 00 00 00 00 00 00" quiet_sound) ∷
    alone (remove in_slot7) quiet_sound 0 (exchanged slot7 free quiet_sound) ∷
    -- Start in Idle: state 1, t1 30, t3 120
    whole (happen Start in_slot0 room) sound table 0x0000_0000_000E_0000
    (exchanged slot0 "80 09 00 0A 00 0A 00 00 00 00 00 00 00 00 00 1E 00 00 00 78 00 00 01 00 00 00 00 00 00 00 01 51 80 00 00 00 78 00 00 00 00 00 00 00 00 00 00 00 07" sound)
    (eights 12288) (hex "02 03 00 00 FD 5D 00 09 00 00 00 1E 00 78") ∷
    -- 02, L6: a stray Hello, Poll or Update in Idle: "a Cease, status 7, sequence 0, answer 0, the neighbour staying
    -- Idle". No octet of block or table changes
    whole (receive in_slot0 (hex "02 05 00 01 FD E6 00 0A 00 09") [] room) sound table 0x0000_0000_000A_0000
    sound (eights 12288) (hex "02 03 03 07 FA EC 00 09 00 00") ∷
    whole (receive in_slot0 (hex "02 02 00 01 7D E0 00 0A 00 09 00 00 80 09 00 00") row room) sound table 0x0000_0000_000A_0000
    sound (eights 12288) (hex "02 03 03 07 FA EC 00 09 00 00") ∷
    whole (receive in_slot0 (hex "02 01 00 01 B3 D5 00 0A 00 00 01 00 80 09 00 00 00 05 01 00 02 0A C0 05 06") [] room) sound table 0x0000_0000_000A_0000
    sound (eights 12288) (hex "02 03 03 07 FA EC 00 09 00 00") ∷
    -- "`quiet=1` .. keeps the old behaviour": nothing is sent
    whole (receive in_slot0 (hex "02 05 00 01 FD E6 00 0A 00 09") [] room) quiet_sound table 0
    quiet_sound (eights 12288) [] ∷
    whole (receive in_slot0 (hex "02 02 00 01 7D E0 00 0A 00 09 00 00 80 09 00 00") row room) quiet_sound table 0
    quiet_sound (eights 12288) [] ∷
    whole (receive in_slot0 (hex "02 01 00 01 B3 D5 00 0A 00 00 01 00 80 09 00 00 00 05 01 00 02 0A C0 05 06") [] room) quiet_sound table 0
    quiet_sound (eights 12288) [] ∷
    -- a tick that only counts: t1 19, t2 99, t3 49; 41 since a Hello, the Poll's held at 120; a second more in
    -- Up
    whole (happen Tick in_slot2 room) sound table 0
    (exchanged slot2 "80 09 00 05 00 07 00 01 00 04 00 20 00 7A 00 13 00 63 00 31 00 03 03 01 07 00 00 29 78 10 11 12 13 20 21 22 23 30 31 32 33 40 41 42 44 14 15 16 17" sound)
    (eights 12288) [] ∷
    -- 01's case U in Up: row count 2, heard 1, t3 3,600; slot 2's part has two rows and zeros behind them
    whole (receive in_slot2 (hex "02 01 00 01 B3 D7 00 07 00 01 01 00 80 09 00 00 00 05 01 00 02 0A C0 05 06") [] room) sound table 0
    (exchanged slot2 "80 09 00 05 00 07 00 01 00 04 00 20 00 7A 00 14 00 64 0E 10 00 02 03 01 07 01 00 28 78 10 11 12 13 20 21 22 23 30 31 32 33 40 41 42 43 14 15 16 17" sound)
    (eights 3072
    ++ (hex "0A 00 00 00 80 09 00 05 00 00 00 00 C0 05 06 00 80 09 00 05 00 00 00 00" ++ (replicate 1512 0 ++ eights 7680))) [] ∷
    -- an internal row at distance 2, and an external one at distance 3 by 128.9.1.8: "distance plus 256 if external"
    whole (receive in_slot2 (hex "02 01 00 01 72 09 00 07 00 01 01 01 80 09 00 00 00 05 01 02 01 0A 01 08 01 03 01 C0 05 06") [] room) sound table 0
    (exchanged slot2 "80 09 00 05 00 07 00 01 00 04 00 20 00 7A 00 14 00 64 0E 10 00 02 03 01 07 01 00 28 78 10 11 12 13 20 21 22 23 30 31 32 33 40 41 42 43 14 15 16 17" sound)
    (eights 3072
    ++ (hex "0A 00 00 00 80 09 00 05 00 00 00 02 C0 05 06 00 80 09 01 08 00 00 01 03" ++ (replicate 1512 0 ++ eights 7680))) [] ∷
    -- Stop in Up: Cease 5, which zeroes the slot's part; of slot 2, and of slot 6
    whole (happen Stop in_slot2 room) sound table 0x0000_0000_000A_0000
    (exchanged slot2 "80 09 00 05 00 07 00 01 00 04 00 00 00 00 00 1E 00 00 00 78 00 00 04 00 00 00 05 28 78 10 11 12 13 20 21 22 23 30 31 32 33 40 41 42 43 14 15 16 17" sound)
    (eights 3072 ++ (replicate 1536 0 ++ eights 7680)) (hex "02 03 03 05 FA ED 00 09 00 01") ∷
    whole (happen Stop in_slot6 room) sound table 0x0000_0000_000A_0000
    (exchanged slot6 "80 09 00 10 00 10 00 06 00 08 00 00 00 00 00 1E 00 00 00 78 00 00 04 00 00 00 05 1D 77 33 33 33 33 33 33 33 33 33 33 33 33 33 33 33 33 33 33 33 33" sound)
    (eights 9216 ++ (replicate 1536 0 ++ eights 1536)) (hex "02 03 03 05 FA E8 00 09 00 06") ∷
    []
