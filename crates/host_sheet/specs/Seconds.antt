-- The seconds in each state, through the C layer (02, L7). A slot's part ends in its five counts, of 4 octets each:
-- Idle's at its octet 29, Acquisition's at 33, Down's at 37, Up's at 41, Cease's at 45. Slots 6 and 7 have as many seconds
-- as there may be, slot 4 one less.
use Rattle.std.specs.Prelude.{ℕ, List, [], ◌∷◌, ◌++◌, replicate}
use Rattle.text.specs.Text.{text}
use Rattle.neighbour_machine.specs.Intrinsics.{Start, Stop, Tick}
use Rattle.model.specs.Model.{add, remove, happen, receive, listing}
use Rattle.gateway_check_sheet.specs.Given.{hex, ip}
use Rattle.host_sheet.specs.Given.{own, free, block, sound, exchanged, slot0, slot1, slot2, slot4, slot7, changed, shorter, eights, sevens, table, room, page, in_slot0, in_slot1, in_slot2, in_slot3, in_slot4, in_slot6, in_slot7, nobody, table_of_u}
use Rattle.host_sheet.specs.Line.{Line, alone, refused, lent, whole, keeps}

-- the sound block once slot 4's neighbour, in Cease, has had a tick: its sum is now the largest too
unfoldable pub last_second : List ℕ
last_second =
    exchanged slot4 "80 09 00 0E 00 0E FF FF FF FE 00 00 00 00 00 1D 00 00 00 77 00 00 04 00 00 00 06 01 02 00 00 00 01 00 00 00 00 00 00 00 00 00 00 00 00 FF FF FF FE" sound

-- case U's neighbour with 1, 20, 300, 4,000 and 56 seconds
unfoldable pub timed_u : List ℕ
timed_u =
    block own
    "80 09 00 05 00 07 00 01 00 04 00 20 00 7A 00 14 00 64 00 32 00 02 03 01 07 00 00 28 78 00 00 00 01 00 00 00 14 00 00 01 2C 00 00 0F A0 00 00 00 38"
    free free free free free free free

unfoldable pub seconds : List Line
seconds =
    -- a tick in Idle: 86,401 seconds, and no other octet
    lent (happen Tick in_slot0 room) sound table 0 0 (changed 44 0x81 sound) [] ∷
    -- in Acquisition: 21 seconds in it; t1 19, t3 99, counts 10 and 11
    lent (happen Tick in_slot1 room) sound table 0 0
    (changed 76 0x13 (changed 80 0x63 (changed 88 0x0A (changed 89 0x0B (changed 97 0x15 sound))))) [] ∷
    -- in Down: 512 seconds in it, which are two octets more; t1 120, t3 3,599, counts 31 and 120
    lent (happen Tick in_slot3 room) sound table 0 0
    (changed 174 0x78 (changed 178 0x0F (changed 186 0x1F (changed 187 0x78 (changed 198 0x02 (changed 199 0x00 sound)))))) [] ∷
    -- in Up: t1 19, t2 99, t3 49, 41 since a Hello
    lent (happen Tick in_slot2 room) sound table 0 0
    (changed 125 0x13 (changed 127 0x63 (changed 129 0x31 (changed 137 0x29 (changed 154 0x44 sound))))) [] ∷
    -- in Cease: 4,294,967,294 seconds in it, one in Idle; t1 29, t3 119, counts 1 and 2. Another tick is refused
    lent (happen Tick in_slot4 room) sound table 0 0 last_second [] ∷
    keeps (happen Tick in_slot4 room) last_second table 22 ∷
    -- one second more through all four octets
    lent (happen Tick in_slot0 room)
    (exchanged slot0 "80 09 00 0A 00 0A 00 00 00 00 00 00 00 00 00 00 00 00 00 00 00 00 00 00 00 00 00 00 00 00 FF FF FF 00 00 00 78 00 00 00 00 00 00 00 00 00 00 00 07" sound) table 0 0
    (exchanged slot0 "80 09 00 0A 00 0A 00 00 00 00 00 00 00 00 00 00 00 00 00 00 00 00 00 00 00 00 00 00 00 01 00 00 00 00 00 00 78 00 00 00 00 00 00 00 00 00 00 00 07" sound) [] ∷
    -- "These counts survive Idle": the last second of t3 in Acquisition, and of t3 in Cease, belongs to the state before
    lent (happen Tick in_slot1 room)
    (exchanged slot1 "80 09 00 0B 00 0B 00 03 00 05 00 00 00 00 00 14 00 00 00 01 00 00 01 00 00 00 00 09 0A 00 00 00 05 00 00 00 14 00 00 00 00 00 00 00 00 00 00 00 00" sound) table 0 0
    (exchanged slot1 "80 09 00 0B 00 0B 00 00 00 00 00 00 00 00 00 00 00 00 00 00 00 00 00 00 00 00 00 00 00 00 00 00 05 00 00 00 15 00 00 00 00 00 00 00 00 00 00 00 00" sound) [] ∷
    lent (happen Tick in_slot4 room)
    (exchanged slot4 "80 09 00 0E 00 0E FF FF FF FE 00 00 00 00 00 1E 00 00 00 01 00 00 04 00 00 00 06 00 01 00 00 00 01 00 00 00 02 00 00 00 03 00 00 00 04 00 00 00 05" sound) table 0 0
    (exchanged slot4 "80 09 00 0E 00 0E 00 00 00 00 00 00 00 00 00 00 00 00 00 00 00 00 00 00 00 00 00 00 00 00 00 00 01 00 00 00 02 00 00 00 03 00 00 00 04 00 00 00 06" sound) [] ∷
    -- and in Up, for Cease: the rows go, the seconds stay
    whole (happen Tick in_slot2 room)
    (exchanged slot2 "80 09 00 05 00 07 00 01 00 04 00 20 00 7A 00 14 00 64 00 01 00 03 03 01 07 00 00 28 78 10 11 12 13 20 21 22 23 30 31 32 33 40 41 42 43 14 15 16 17" sound) table 0x0000_0000_000A_0000
    (exchanged slot2 "80 09 00 05 00 07 00 01 00 04 00 00 00 00 00 1E 00 00 00 78 00 00 04 00 00 00 05 29 78 10 11 12 13 20 21 22 23 30 31 32 33 40 41 42 44 14 15 16 17" sound)
    (eights 3072 ++ (replicate 1536 0 ++ eights 7680)) (hex "02 03 03 05 FA ED 00 09 00 01") ∷
    -- 22: "a tick when the sum is 4,294,967,295": in Up, of five counts alike, and in Idle, of one
    keeps (happen Tick in_slot6 room) sound table 22 ∷
    keeps (happen Tick in_slot7 room) sound table 22 ∷
    -- "after 5", 3, 2, 1 and 20: an address that no slot has, a buffer, a table, a sum above the limit, a block of 403
    keeps (happen Tick nobody room) sound table 5 ∷
    keeps (happen Tick in_slot6 (sevens 2047)) sound table 3 ∷
    keeps (happen Tick in_slot6 room) sound (eights 12287) 2 ∷
    keeps (happen Tick in_slot6 room) (changed 403 1 sound) table 1 ∷
    keeps (happen Tick in_slot6 room) shorter table 20 ∷
    -- a tick that is refused is not counted
    keeps (happen Tick in_slot0 (sevens 2047)) sound table 3 ∷
    keeps (happen Tick in_slot0 room) sound (eights 12289) 2 ∷
    -- other calls with the largest sum: Start and Stop in Idle, a stray Hello
    lent (happen Start in_slot7 room) sound table 0 0x0000_0000_000E_0000
    (exchanged slot7 "80 09 00 11 FF FF 00 00 00 00 00 00 00 00 00 1E 00 00 00 78 00 00 01 00 00 00 00 00 00 FF FF FF FF 00 00 00 00 00 00 00 00 00 00 00 00 00 00 00 00" sound)
    (hex "02 03 00 00 FD 5D 00 09 00 00 00 1E 00 78") ∷
    lent (happen Stop in_slot7 room) sound table 0 0 sound [] ∷
    lent (receive in_slot7 (hex "02 05 00 01 FD F0 FF FF 00 09") [] room) sound table 0 0x0000_0000_000A_0000 sound (hex "02 03 03 07 FA EC 00 09 00 00") ∷
    -- "Remove and add start from zero": removed with seconds, and added anew, in slot 0
    alone (remove in_slot0) sound 0 (exchanged slot0 free sound) ∷
    alone (add in_slot0 10) (exchanged slot0 free sound) 0
    (exchanged slot0 "80 09 00 0A 00 0A 00 00 00 00 00 00 00 00 00 00 00 00 00 00 00 00 00 00 00 00 00 00 00 00 00 00 00 00 00 00 00 00 00 00 00 00 00 00 00 00 00 00 00" sound) ∷
    -- a sum above the limit in a neighbour's part, or a second in a free slot's: 1 from add and remove too
    alone (remove in_slot0) (changed 403 1 sound) 1 (changed 403 1 sound) ∷
    alone (add (ip 128 9 0 18) 18) (changed 289 1 sound) 1 (changed 289 1 sound) ∷
    refused (listing page) (changed 403 1 sound) table 1 ∷
    -- a listing: `sidle`, `sacq`, `sdown`, `sup`, `scease` after `rows`; 198 octets
    lent (listing page) timed_u table_of_u 0 0x0000_0000_00C6_0000 timed_u
    (text "neighbours=1\nslot=0\naddr=128.9.0.5\nas=7\nstate=up\nmode=active\nrows=2\nsidle=1\nsacq=20\nsdown=300\nsup=4000\nscease=56\nnet=10.0.0.0\ngw=128.9.0.5\ndist=0\nside=int\nnet=192.5.6.0\ngw=128.9.0.5\ndist=0\nside=int\n") ∷
    []
