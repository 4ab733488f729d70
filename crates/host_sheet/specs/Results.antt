-- What the calls return. 02: "four 16-bit numbers in one, from the top: 0, second length, first length, answer". As
-- hexadecimal numbers these are the four parts themselves.
use Rattle.std.specs.Prelude.{ℕ, List, [], ◌∷◌}
use Rattle.text.specs.Text.{text}
use Rattle.neighbour_machine.specs.Intrinsics.{Start, Stop, Tick}
use Rattle.model.specs.Model.{happen, receive, listing}
use Rattle.host_result.specs.Packed.{packed, bare}
use Rattle.gateway_check_sheet.specs.Given.{hex}
use Rattle.host_sheet.specs.Given.{sound, exchanged, slot0, slot1, slot2, slot6, table, room, page, in_slot0, in_slot1, in_slot2, in_slot6, block_of_u, table_of_u, row}
use Rattle.host_sheet.specs.Line.{Line, lent}

-- answer, first length and second length, packed
unfoldable pub packed_computed : List ℕ
packed_computed = packed 0xA 0xB 0xC ∷ packed 0xFFFF 0 0 ∷ packed 0 0xFFFF 0 ∷ packed 0 0 0xFFFF ∷ packed 0x1234 0x5678 0x9ABC ∷ bare 20 ∷ []

unfoldable pub packed_written : List ℕ
packed_written =
    0x0000_000C_000B_000A ∷
    0x0000_0000_0000_FFFF ∷
    0x0000_0000_FFFF_0000 ∷
    0x0000_FFFF_0000_0000 ∷
    0x0000_9ABC_5678_1234 ∷
    0x0000_0000_0000_0014 ∷
    []

-- 01: "The whole listing for case U", with 02's five lines (L7), 191 octets
unfoldable pub listing_of_u : List ℕ
listing_of_u =
    text "neighbours=1\nslot=0\naddr=128.9.0.5\nas=7\nstate=up\nmode=active\nrows=2\nsidle=0\nsacq=0\nsdown=0\nsup=0\nscease=0\nnet=10.0.0.0\ngw=128.9.0.5\ndist=0\nside=int\nnet=192.5.6.0\ngw=128.9.0.5\ndist=0\nside=int\n"

unfoldable pub results : List Line
results =
    -- Start in Idle: Request, 14 octets. Its slot: Acquisition, t1 30, t3 120
    lent (happen Start in_slot0 room) sound table 0 0x0000_0000_000E_0000
    (exchanged slot0 "80 09 00 0A 00 0A 00 00 00 00 00 00 00 00 00 1E 00 00 00 78 00 00 01 00 00 00 00 00 00 00 01 51 80 00 00 00 78 00 00 00 00 00 00 00 00 00 00 00 07" sound)
    (hex "02 03 00 00 FD 5D 00 09 00 00 00 1E 00 78") ∷
    -- Request in Idle, hello 60 and poll 200, from AS 10, so that we are active: Confirm and Hello, 14 and 10 octets.
    -- Its slot: Down, R 9, T1 62, T2 202, both counts 120; its seconds stay
    lent (receive in_slot0 (hex "02 03 00 00 FC E5 00 0A 00 09 00 3C 00 C8") [] room) sound table 0 0x0000_000A_000E_0000
    (exchanged slot0 "80 09 00 0A 00 0A 00 00 00 09 00 3E 00 CA 00 3E 00 00 00 78 00 00 02 01 00 00 00 78 78 00 01 51 80 00 00 00 78 00 00 00 00 00 00 00 00 00 00 00 07" sound)
    (hex "02 03 01 00 FC 54 00 09 00 09 00 1E 00 78 02 05 00 02 FD EF 00 09 00 00") ∷
    -- Request in Idle from AS 12: 9, and Refuse, 10 octets
    lent (receive in_slot0 (hex "02 03 00 00 FD 51 00 0C 00 09 00 1E 00 78") [] room) sound table 9 0x0000_0000_000A_0009
    sound (hex "02 03 02 04 FB E6 00 09 00 09") ∷
    -- 01's case V in Up: 14, and Error 2, 24 octets
    lent (receive in_slot2 (hex "02 01 00 01 B9 D7 00 07 00 01 01 00 80 09 00 00 00 05 01 00 02 0A C0 05") [] room) sound table 14 0x0000_0000_0018_000E
    sound (hex "02 08 00 01 41 06 00 09 00 04 00 02 02 01 00 01 B9 D7 00 07 00 01 01 00") ∷
    -- a tick that goes Up: Hello and Poll, 10 and 16 octets; one more on each count, and a second more in
    -- Down
    lent (happen Tick in_slot2 room)
    (exchanged slot2 "80 09 00 05 00 07 00 03 00 05 00 20 00 7A 00 01 00 00 00 64 00 00 02 01 03 01 00 1D 77 10 11 12 13 20 21 22 23 30 31 32 33 40 41 42 43 14 15 16 17" sound) table 0 0x0000_0010_000A_0000
    (exchanged slot2 "80 09 00 05 00 07 00 04 00 05 00 20 00 7A 00 20 00 7A 00 63 00 00 03 01 07 00 00 1E 78 10 11 12 13 20 21 22 23 30 31 32 34 40 41 42 43 14 15 16 17" sound)
    (hex "02 05 00 01 FD ED 00 09 00 03 02 02 00 01 7D E6 00 09 00 04 00 00 80 09 00 00") ∷
    -- Poll with a home list of 12 octets, and with none: Update, 22 and 16 octets. Its slot: R 9, its count 0
    lent (receive in_slot2 (hex "02 02 00 01 7D E3 00 07 00 09 00 00 80 09 00 00") row room) sound table 0 0x0000_0000_0016_0000
    (exchanged slot2 "80 09 00 05 00 07 00 01 00 09 00 20 00 7A 00 14 00 64 00 32 00 03 03 01 07 00 00 28 00 10 11 12 13 20 21 22 23 30 31 32 33 40 41 42 43 14 15 16 17" sound)
    (hex "02 01 00 01 7A D0 00 09 00 09 01 00 80 09 00 00 00 01 01 07 01 0A") ∷
    lent (receive in_slot2 (hex "02 02 00 01 7D E3 00 07 00 09 00 00 80 09 00 00") [] room) sound table 0 0x0000_0000_0010_0000
    (exchanged slot2 "80 09 00 05 00 07 00 01 00 09 00 20 00 7A 00 14 00 64 00 32 00 03 03 01 07 00 00 28 00 10 11 12 13 20 21 22 23 30 31 32 33 40 41 42 43 14 15 16 17" sound)
    (hex "02 01 00 01 7D E2 00 09 00 09 00 00 80 09 00 00") ∷
    -- 02, L5: a Hello 29 ticks after the last one, a Poll 119 after: 21, and Error 4, 24 octets
    lent (receive in_slot6 (hex "02 05 00 01 FD E0 00 10 00 09") [] room) sound table 21 0x0000_0000_0018_0015
    sound (hex "02 08 00 01 FD E1 00 09 00 08 00 04 02 05 00 01 FD E0 00 10 00 09 00 00") ∷
    lent (receive in_slot6 (hex "02 02 00 01 7D DA 00 10 00 09 00 00 80 09 00 00") [] room) sound table 21 0x0000_0000_0018_0015
    sound (hex "02 08 00 01 7D EB 00 09 00 08 00 04 02 02 00 01 7D DA 00 10 00 09 00 00") ∷
    -- a Hello 30 ticks after: I-H-U. Its slot: R 9, heard 1, t3 3,600, 0 since a Hello
    lent (receive in_slot6 (hex "02 05 00 01 FD E0 00 10 00 09") [] room)
    (exchanged slot6 "80 09 00 10 00 10 00 06 00 08 00 3E 00 CA 00 01 01 E2 0E 0F 00 80 03 02 08 00 00 1E 77 33 33 33 33 33 33 33 33 33 33 33 33 33 33 33 33 33 33 33 33" sound) table 0 0x0000_0000_000A_0000
    (exchanged slot6 "80 09 00 10 00 10 00 06 00 09 00 3E 00 CA 00 01 01 E2 0E 10 00 80 03 02 08 01 00 00 77 33 33 33 33 33 33 33 33 33 33 33 33 33 33 33 33 33 33 33 33" sound)
    (hex "02 05 01 01 FC E7 00 09 00 09") ∷
    -- "in Down and Up only": a Hello 9 ticks after in Acquisition sets R and no count
    lent (receive in_slot1 (hex "02 05 00 01 FD E5 00 0B 00 09") [] room) sound table 0 0
    (exchanged slot1 "80 09 00 0B 00 0B 00 03 00 09 00 00 00 00 00 14 00 00 00 64 00 00 01 00 00 00 00 09 0A 00 00 00 05 00 00 00 14 00 00 00 00 00 00 00 00 00 00 00 00" sound) [] ∷
    -- Stop in Idle, where there is nothing to do
    lent (happen Stop in_slot0 room) sound table 0 0 sound [] ∷
    -- a listing: its length is the first
    lent (listing page) block_of_u table_of_u 0 0x0000_0000_00BF_0000 block_of_u listing_of_u ∷
    []
