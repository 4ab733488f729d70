-- The answer numbers through the C layer, and what they return: a refusal without a reply is its number alone. 02:
-- "20, wrong state block length, before 1; ranges still give 1, a wrong table length 2"; "12 a row; any other length
-- gives 4"; the rest is 01's order.
use Rattle.std.specs.Prelude.{ℕ, List, [], ◌∷◌, ◌++◌, map, take, replicate}
use Rattle.checks.specs.Lists.{join}
use Rattle.neighbour_machine.specs.Intrinsics.{Start, Stop, Tick}
use Rattle.model.specs.Model.{Call, add, remove, happen, receive, listing}
use Rattle.gateway_check_sheet.specs.Given.{hex, ip, set, nine_with}
use Rattle.host_sheet.specs.Given.{sound, full, changed, shorter, longer, without_seconds, without_quiet, without_counts, eights, sevens, table, room, page, in_slot0, in_slot2, in_slot7, nobody, block_of_u, table_of_u, row, rows}
use Rattle.host_sheet.specs.Line.{Line, fresh, alone, refused, keeps}

-- a Hello from the neighbour in slot 2, and the same without its last octet, which is 6
unfoldable pub hello : List ℕ
hello = hex "02 05 00 01 FD E9 00 07 00 09"

unfoldable pub hello_cut : List ℕ
hello_cut = hex "02 05 00 01 FD E9 00 07 00"

-- calls that are good in themselves, about the neighbour in slot 2
unfoldable pub good_calls : List Call
good_calls =
    happen Start in_slot2 room ∷
    happen Stop in_slot2 room ∷
    happen Tick in_slot2 room ∷
    receive in_slot2 hello row room ∷
    listing page ∷
    []

-- calls in which all is wrong that can be: 3, 4, 5 and 6
unfoldable pub bad_calls : List Call
bad_calls =
    happen Start nobody (sevens 2047) ∷
    happen Stop nobody (sevens 2047) ∷
    happen Tick nobody (sevens 2047) ∷
    receive nobody hello_cut (take 11 row) (sevens 2047) ∷
    listing (sevens 2048) ∷
    []

-- 20: another length, all else being good (02, L6: "a state block without it is refused by length"); and where the block would be 1 and the table 2
unfoldable pub of_length : Call → List Line
of_length call =
    keeps call shorter table 20 ∷
    refused call longer table 20 ∷
    refused call without_seconds table 20 ∷
    refused call without_quiet table 20 ∷
    refused call without_counts table 20 ∷
    refused call [] table 20 ∷
    []

unfoldable pub before_others : Call → List Line
before_others call = keeps call (replicate 403 255) (eights 12287) 20 ∷ refused call (replicate 405 255) [] 20 ∷ refused call [] [] 20 ∷ []

unfoldable pub lengths : List Line
lengths =
    join (map of_length good_calls) ++ (join (map before_others bad_calls) ++
    (alone (add (ip 128 9 0 18) 18) shorter 20 shorter ∷
    alone (add (ip 128 9 0 18) 18) longer 20 longer ∷
    alone (add (ip 128 9 0 18) 18) without_seconds 20 without_seconds ∷
    alone (add (ip 128 9 0 18) 18) without_quiet 20 without_quiet ∷
    alone (add (ip 128 9 0 18) 18) without_counts 20 without_counts ∷
    alone (add (ip 128 9 0 18) 18) [] 20 [] ∷
    alone (add 0 0) (replicate 403 255) 20 (replicate 403 255) ∷
    alone (remove in_slot7) shorter 20 shorter ∷
    alone (remove in_slot7) longer 20 longer ∷
    alone (remove in_slot2) without_seconds 20 without_seconds ∷
    alone (remove in_slot2) without_quiet 20 without_quiet ∷
    alone (remove in_slot2) without_counts 20 without_counts ∷
    alone (remove in_slot7) [] 20 [] ∷
    alone (remove nobody) (replicate 405 255) 20 (replicate 405 255) ∷
    -- fresh: 20 before 16, which an own AS of 0 is, and a `quiet` of 2
    fresh (set 9 (ip 128 9 0 1) 0 (ip 128 9 0 0)) (replicate 403 255) 20 (replicate 403 255) ∷
    fresh (set 9 (ip 128 9 0 1) 0 (ip 128 9 0 0)) (replicate 405 255) 20 (replicate 405 255) ∷
    fresh (set 9 (ip 128 9 0 1) 0 (ip 128 9 0 0)) without_seconds 20 without_seconds ∷
    fresh (set 9 (ip 128 9 0 1) 0 (ip 128 9 0 0)) without_quiet 20 without_quiet ∷
    fresh (nine_with 1) without_quiet 20 without_quiet ∷
    fresh (set 9 (ip 128 9 0 1) 0 (ip 128 9 0 0)) without_counts 20 without_counts ∷
    fresh (set 9 (ip 128 9 0 1) 0 (ip 128 9 0 0)) [] 20 [] ∷
    fresh (set 0 (ip 128 9 0 1) 0 (ip 128 9 0 0)) (replicate 403 255) 20 (replicate 403 255) ∷
    fresh (set 0 (ip 128 9 0 1) 0 (ip 128 9 0 0)) without_seconds 20 without_seconds ∷
    fresh (set 0 (ip 128 9 0 1) 0 (ip 128 9 0 0)) [] 20 [] ∷
    fresh (nine_with 2) (replicate 403 255) 20 (replicate 403 255) ∷ []))

-- 1: state 5, mode 3, heard 2, a Poll's count of 121, `quiet` 2, a sum of 4,294,967,296, all else being good; register
-- 16, `quiet` 255, a block of 255s and one of zeros, before 2
unfoldable pub of_form : Call → List Line
of_form call =
    keeps call (changed 34 5 sound) table 1 ∷
    refused call (changed 378 3 sound) table 1 ∷
    refused call (changed 184 2 sound) table 1 ∷
    refused call (changed 187 121 sound) table 1 ∷
    refused call (changed 11 2 sound) table 1 ∷
    refused call (changed 403 1 sound) table 1 ∷
    []

unfoldable pub before_table : Call → List Line
before_table call =
    refused call (changed 132 5 sound) (eights 12287) 1 ∷
    refused call (changed 183 16 sound) (eights 3072) 1 ∷
    refused call (changed 11 255 sound) (eights 3072) 1 ∷
    keeps call (replicate 404 255) [] 1 ∷
    refused call (replicate 404 0) [] 1 ∷
    []

unfoldable pub forms : List Line
forms =
    join (map of_form good_calls) ++ (join (map before_table bad_calls) ++
    (alone (add (ip 128 9 0 18) 18) (changed 34 5 sound) 1 (changed 34 5 sound) ∷
    alone (add 0 0) (changed 35 3 sound) 1 (changed 35 3 sound) ∷
    alone (add 0 0) (changed 184 2 sound) 1 (changed 184 2 sound) ∷
    alone (add (ip 128 9 0 18) 18) (changed 11 2 sound) 1 (changed 11 2 sound) ∷
    alone (remove in_slot7) (changed 34 5 sound) 1 (changed 34 5 sound) ∷
    alone (remove in_slot7) (changed 11 2 sound) 1 (changed 11 2 sound) ∷
    alone (remove nobody) (changed 183 16 sound) 1 (changed 183 16 sound) ∷ []))

-- 2: "12,288 octets", all else being good: one less, one more, the number of its numbers; before 3
unfoldable pub of_table : Call → List Line
of_table call = keeps call sound (eights 12287) 2 ∷ refused call sound (eights 12289) 2 ∷ refused call sound (eights 3072) 2 ∷ []

unfoldable pub before_buffer : Call → List Line
before_buffer call = refused call sound (eights 12284) 2 ∷ refused call sound [] 2 ∷ []

unfoldable pub tables : List Line
tables =
    join (map of_table good_calls) ++ (join (map before_buffer bad_calls) ++
    -- "in a listing, also a used row's third number above 511": of slot 2 it is 08080808 hex
    (refused (listing page) sound table 2 ∷
    refused (listing (sevens 65535)) sound table 2 ∷ []))

unfoldable pub others : List Line
others =
    -- 3: "reply or listing buffer too short"; before 4 and 5
    refused (happen Start in_slot2 (sevens 2047)) sound table 3 ∷
    refused (happen Stop in_slot2 (sevens 2047)) sound table 3 ∷
    refused (happen Tick in_slot2 (sevens 2047)) sound table 3 ∷
    keeps (receive in_slot2 hello [] (sevens 2047)) sound table 3 ∷
    refused (happen Start nobody (sevens 2047)) sound table 3 ∷
    refused (happen Stop nobody (sevens 2047)) sound table 3 ∷
    refused (happen Tick nobody (sevens 2047)) sound table 3 ∷
    refused (receive nobody hello_cut (take 11 row) (sevens 2047)) sound table 3 ∷
    keeps (listing (sevens 65535)) block_of_u table_of_u 3 ∷
    refused (listing (sevens 2048)) block_of_u table_of_u 3 ∷
    -- 4: a home list of 13, 11 and 1 octets, of other parts of rows; before 5
    keeps (receive in_slot2 hello (row ++ (0 ∷ [])) room) sound table 4 ∷
    refused (receive in_slot2 hello (take 11 row) room) sound table 4 ∷
    refused (receive in_slot2 hello (10 ∷ []) room) sound table 4 ∷
    refused (receive in_slot2 hello (take 4 row) room) sound table 4 ∷
    refused (receive in_slot2 hello (take 8 row) room) sound table 4 ∷
    refused (receive in_slot2 hello (row ++ take 3 row) room) sound table 4 ∷
    refused (receive in_slot2 hello (row ++ take 4 row) room) sound table 4 ∷
    refused (receive in_slot2 hello (rows 127 ++ take 11 row) room) sound table 4 ∷
    refused (receive nobody hello_cut (row ++ (0 ∷ [])) room) sound table 4 ∷
    refused (receive nobody hello_cut (take 11 row) room) sound table 4 ∷
    refused (receive nobody hello_cut (10 ∷ []) room) sound table 4 ∷
    -- 4: 129 rows; a net that is not left-justified; another first gateway; distance 256; octets lowest first
    refused (receive in_slot2 hello (rows 129) room) sound table 4 ∷
    refused (receive in_slot2 hello (hex "0A 00 00 01 80 09 00 01 00 00 00 07") room) sound table 4 ∷
    refused (receive in_slot2 hello (hex "0A 00 00 00 80 09 00 02 00 00 00 07") room) sound table 4 ∷
    refused (receive in_slot2 hello (hex "0A 00 00 00 80 09 00 01 00 00 01 00") room) sound table 4 ∷
    refused (receive in_slot2 hello (hex "00 00 00 0A 01 00 09 80 07 00 00 00") room) sound table 4 ∷
    -- good ones: none, one row, two, 128. Then 5 has its turn, or 6
    refused (receive nobody hello_cut [] room) sound table 5 ∷
    refused (receive nobody hello_cut row room) sound table 5 ∷
    refused (receive nobody hello_cut (row ++ row) room) sound table 5 ∷
    refused (receive nobody hello_cut (rows 128) room) sound table 5 ∷
    refused (receive in_slot2 hello_cut [] room) sound table 6 ∷
    refused (receive in_slot2 hello_cut row room) sound table 6 ∷
    -- 5: of an address that no slot has, and of 0, which free slots have
    refused (happen Start nobody room) sound table 5 ∷
    refused (happen Stop nobody room) sound table 5 ∷
    keeps (happen Tick nobody room) sound table 5 ∷
    refused (happen Tick 0 room) sound table 5 ∷
    refused (receive 0 hello [] room) sound table 5 ∷
    alone (remove nobody) sound 5 sound ∷
    alone (remove 0) sound 5 sound ∷
    -- 7, 8 and 13
    refused (receive in_slot2 (hex "03 05 00 01 FC E9 00 07 00 09") [] room) sound table 7 ∷
    refused (receive in_slot2 (hex "02 05 00 01 FD E8 00 07 00 09") [] room) sound table 8 ∷
    keeps (receive in_slot2 (hex "02 05 01 01 FC E9 00 07 00 09") [] room) sound table 13 ∷
    -- 16: AS 0 and our own; address 0, our own, one that is present; before 17
    alone (add (ip 128 9 0 18) 0) sound 16 sound ∷
    alone (add (ip 128 9 0 18) 9) sound 16 sound ∷
    alone (add 0 18) sound 16 sound ∷
    alone (add (ip 128 9 0 1) 18) sound 16 sound ∷
    alone (add in_slot0 18) sound 16 sound ∷
    alone (add in_slot7 18) full 16 full ∷
    -- 17
    alone (add (ip 128 9 0 18) 18) full 17 full ∷
    -- 18: in Acquisition, Up, Down and Cease
    alone (remove (ip 128 9 0 11)) sound 18 sound ∷
    alone (remove in_slot2) sound 18 sound ∷
    alone (remove (ip 128 9 0 13)) sound 18 sound ∷
    alone (remove (ip 128 9 0 14)) sound 18 sound ∷
    -- fresh, 16: AS 0; capability 3; a net that is none; an address off it; `quiet` 2 and 255. 02: "nor by a refused fresh"
    fresh (set 0 (ip 128 9 0 1) 0 (ip 128 9 0 0)) (replicate 404 255) 16 (replicate 404 255) ∷
    fresh (set 9 (ip 128 9 0 1) 3 (ip 128 9 0 0)) (replicate 404 255) 16 (replicate 404 255) ∷
    fresh (set 9 (ip 128 9 0 1) 0 (ip 128 9 0 1)) (replicate 404 255) 16 (replicate 404 255) ∷
    fresh (set 9 (ip 128 10 0 1) 0 (ip 128 9 0 0)) sound 16 sound ∷
    fresh (nine_with 2) (replicate 404 255) 16 (replicate 404 255) ∷
    fresh (nine_with 2) sound 16 sound ∷
    fresh (nine_with 255) sound 16 sound ∷
    []
