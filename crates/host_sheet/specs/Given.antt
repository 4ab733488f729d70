-- What the sheet's calls are lent, as literals: the block, the table, the buffers, the home list.
use Rattle.std.specs.Prelude.{ℕ, ◌+◌, List, [], ◌∷◌, ◌++◌, take, drop, replicate}
use Prim.Native.String.{String}
use Rattle.gateway_check_sheet.specs.Given.{hex, ip, repeated}

-- a block as it is lent: its own 12 octets, then 49 for each of the eight slots
unfoldable pub block : String → String → String → String → String → String → String → String → String → List ℕ
block own a b c d e f g h =
    hex own ++ (hex a ++ (hex b ++ (hex c ++ (hex d ++ (hex e ++ (hex f ++ (hex g ++ hex h)))))))

-- AS 9 at 128.9.0.1 on 128.9.0.0, capability 0; `quiet` 0, and 1
unfoldable pub own : String
own = "00 09 80 09 00 01 00 80 09 00 00 00"

unfoldable pub own_quiet : String
own_quiet = "00 09 80 09 00 01 00 80 09 00 00 01"

-- 01: "free slots are all zero"
unfoldable pub free : String
free = "00 00 00 00 00 00 00 00 00 00 00 00 00 00 00 00 00 00 00 00 00 00 00 00 00 00 00 00 00 00 00 00 00 00 00 00 00 00 00 00 00 00 00 00 00 00 00 00 00"

-- 128.9.0.10 of AS 10, Idle; 86,400 seconds in Idle, 120 in Acquisition, 7 in Cease
unfoldable pub tenth : String
tenth = "80 09 00 0A 00 0A 00 00 00 00 00 00 00 00 00 00 00 00 00 00 00 00 00 00 00 00 00 00 00 00 01 51 80 00 00 00 78 00 00 00 00 00 00 00 00 00 00 00 07"

-- 128.9.0.5 of AS 7, Up and active with three rows: S 1, R 4, T1 32, T2 122, t1 20, t2 100, t3 50, register 7, 40
-- ticks since a Hello, 120 or more since a Poll; of its five numbers of seconds no two octets are the same
unfoldable pub fifth : String
fifth = "80 09 00 05 00 07 00 01 00 04 00 20 00 7A 00 14 00 64 00 32 00 03 03 01 07 00 00 28 78 10 11 12 13 20 21 22 23 30 31 32 33 40 41 42 43 14 15 16 17"

-- a well-formed block with a neighbour in each of the five states, in both modes, and slot 5 free
unfoldable pub sound : List ℕ
sound =
    block own
    -- 0: Idle
    tenth
    -- 1: 128.9.0.11 of AS 11, Acquisition: S 3, R 5, t1 20, t3 100, counts 9 and 10; 5 seconds in Idle, 20
    -- in Acquisition
    "80 09 00 0B 00 0B 00 03 00 05 00 00 00 00 00 14 00 00 00 64 00 00 01 00 00 00 00 09 0A 00 00 00 05 00 00 00 14 00 00 00 00 00 00 00 00 00 00 00 00"
    -- 2: Up, active
    fifth
    -- 3: 128.9.0.13 of AS 13, Down and passive: S 258, R 772, T1 122, T2 482, t1 121, t3 3,600, register 15, heard 1,
    -- counts 30 and 119; 2 seconds in Acquisition, 511 in Down, 772 in Up
    "80 09 00 0D 00 0D 01 02 03 04 00 7A 01 E2 00 79 00 00 0E 10 00 00 02 02 0F 01 00 1E 77 00 00 00 00 00 00 00 02 00 00 01 FF 00 00 03 04 00 00 00 00"
    -- 4: 128.9.0.14 of AS 14, Cease: S 65,535, R 65,534, t1 30, t3 120, cause 6, counts 0 and 1; 1 second in
    -- Idle, 4,294,967,293 in Cease: one less than there may be
    "80 09 00 0E 00 0E FF FF FF FE 00 00 00 00 00 1E 00 00 00 78 00 00 04 00 00 00 06 00 01 00 00 00 01 00 00 00 00 00 00 00 00 00 00 00 00 FF FF FF FD"
    -- 5
    free
    -- 6: 128.9.0.16 of AS 16, Up and passive with 128 rows: S 6, R 8, T1 62, T2 202, t1 1, t2 482, t3 3,599,
    -- register 8, counts 29 and 119; 858,993,459 seconds in each state, as many as there may be
    "80 09 00 10 00 10 00 06 00 08 00 3E 00 CA 00 01 01 E2 0E 0F 00 80 03 02 08 00 00 1D 77 33 33 33 33 33 33 33 33 33 33 33 33 33 33 33 33 33 33 33 33"
    -- 7: 128.9.0.17 of AS 65,535, Idle, as many seconds as there may be
    "80 09 00 11 FF FF 00 00 00 00 00 00 00 00 00 00 00 00 00 00 00 00 00 00 00 00 00 00 00 FF FF FF FF 00 00 00 00 00 00 00 00 00 00 00 00 00 00 00 00"

-- the block with other octets for one slot, whose own begin at this index
unfoldable pub exchanged : ℕ → String → List ℕ → List ℕ
exchanged start octets lent = take start lent ++ (hex octets ++ drop (start + 49) lent)

-- where they begin: 12, and 49 for each slot before it
unfoldable pub slot0 : ℕ
slot0 = 12

unfoldable pub slot1 : ℕ
slot1 = 61

unfoldable pub slot2 : ℕ
slot2 = 110

unfoldable pub slot3 : ℕ
slot3 = 159

unfoldable pub slot4 : ℕ
slot4 = 208

unfoldable pub slot5 : ℕ
slot5 = 257

unfoldable pub slot6 : ℕ
slot6 = 306

unfoldable pub slot7 : ℕ
slot7 = 355

-- the block with another octet at this index
unfoldable pub changed : ℕ → ℕ → List ℕ → List ℕ
changed index octet lent = take index lent ++ (octet ∷ drop (index + 1) lent)

-- the sound block with `quiet` 1
unfoldable pub quiet_sound : List ℕ
quiet_sound = changed 11 1 sound

-- a neighbour in every slot
unfoldable pub full : List ℕ
full = exchanged slot5 "80 09 00 0F 00 0F 00 00 00 00 00 00 00 00 00 00 00 00 00 00 00 00 00 00 00 00 00 00 00 00 00 00 00 00 00 00 00 00 00 00 00 00 00 00 00 00 00 00 00" sound

-- blocks of other lengths: without the last octet, and with one more; case U's as it was without seconds, 244 octets,
-- without `quiet`, 243, and without counts, 227
unfoldable pub shorter : List ℕ
shorter = take 403 sound

unfoldable pub longer : List ℕ
longer = sound ++ (0 ∷ [])

unfoldable pub without_seconds : List ℕ
without_seconds =
    hex "00 09 80 09 00 01 00 80 09 00 00 00"
    ++ (hex "80 09 00 05 00 07 00 01 00 04 00 20 00 7A 00 14 00 64 00 32 00 02 03 01 07 00 00 28 78" ++ replicate 203 0)

unfoldable pub without_quiet : List ℕ
without_quiet =
    hex "00 09 80 09 00 01 00 80 09 00 00"
    ++ (hex "80 09 00 05 00 07 00 01 00 04 00 20 00 7A 00 14 00 64 00 32 00 02 03 01 07 00 00 28 78" ++ replicate 203 0)

unfoldable pub without_counts : List ℕ
without_counts =
    hex "00 09 80 09 00 01 00 80 09 00 00"
    ++ (hex "80 09 00 05 00 07 00 01 00 04 00 20 00 7A 00 14 00 64 00 32 00 02 03 01 07 00 00" ++ replicate 189 0)

-- a table of so many octets, all 8; a buffer of so many, all 7: so that what is kept shows
unfoldable pub eights : ℕ → List ℕ
eights n = replicate n 8

unfoldable pub sevens : ℕ → List ℕ
sevens n = replicate n 7

-- those of the lengths asked for
unfoldable pub table : List ℕ
table = eights 12288

unfoldable pub room : List ℕ
room = sevens 2048

unfoldable pub page : List ℕ
page = sevens 65536

-- 01's case U: its neighbour alone, in slot 0, and the octets of its two rows at the front of a table of zeros
unfoldable pub block_of_u : List ℕ
block_of_u =
    block own
    "80 09 00 05 00 07 00 01 00 04 00 20 00 7A 00 14 00 64 00 32 00 02 03 01 07 00 00 28 78 00 00 00 00 00 00 00 00 00 00 00 00 00 00 00 00 00 00 00 00"
    free free free free free free free

unfoldable pub table_of_u : List ℕ
table_of_u = hex "0A 00 00 00 80 09 00 05 00 00 00 00 C0 05 06 00 80 09 00 05 00 00 00 00" ++ replicate 12264 0

-- the addresses in slots 0 to 4, 6 and 7, and one that no slot has
unfoldable pub in_slot0 : ℕ
in_slot0 = ip 128 9 0 10

unfoldable pub in_slot1 : ℕ
in_slot1 = ip 128 9 0 11

unfoldable pub in_slot2 : ℕ
in_slot2 = ip 128 9 0 5

unfoldable pub in_slot3 : ℕ
in_slot3 = ip 128 9 0 13

unfoldable pub in_slot4 : ℕ
in_slot4 = ip 128 9 0 14

unfoldable pub in_slot6 : ℕ
in_slot6 = ip 128 9 0 16

unfoldable pub in_slot7 : ℕ
in_slot7 = ip 128 9 0 17

unfoldable pub nobody : ℕ
nobody = ip 128 9 0 99

-- a home list of one row: 10.0.0.0 by our own address, at distance 7
unfoldable pub row : List ℕ
row = hex "0A 00 00 00 80 09 00 01 00 00 00 07"

-- of so many of this row
unfoldable pub rows : ℕ → List ℕ
rows n = repeated n row
