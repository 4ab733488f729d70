-- The state block's octets. 02: "State block, big-endian: own AS (2), own address (4), capability (1), common net (4),
-- then each slot's address (4), AS, S, R, T1, T2, t1, t2, t3, row count (2 each), state, mode, register, heard, cause
-- (1 each)"; L5's two counts end a slot's part, Hello's first, then L7's five counts of seconds, of 4 octets each, in
-- the order of the states; L6's `quiet` ends the own part: "Later fields end their part in the order named, in as few
-- octets as they need". No two octets of a slot's part and of the slots beside it are the same but those of state and
-- mode, so that a field at another place shows.
use Rattle.std.specs.Prelude.{ℕ, List, [], ◌∷◌}
use Rattle.neighbour.specs.declared.Phase.TheVariants.{Idle, Acquisition, Down, Up, Cease}
use Rattle.neighbour.specs.declared.Mode.TheVariants.{Unset, Active, Passive}
use Rattle.gateway_state.specs.declared.State.{State}
use Rattle.host_state_block.specs.Block.{own_size, slot_size, block_size, slot_start}
use Rattle.neighbour.specs.Record.{with_quiet}
use Rattle.gateway_check_sheet.specs.Given.{ip, set, nine_with, made, since, seconds, timed, state, without_neighbours}
use Rattle.host_sheet.specs.Given.{block, own, own_quiet, free}

-- own AS, own address, capability, common net, `quiet`; of each slot address, AS, ticks since a Hello and since a Poll, state,
-- S, R, T1, T2, mode, t1, t2, t3, register, heard, cause, row count, seconds in Idle, Acquisition, Down, Up and Cease
unfoldable pub every_field : State
every_field =
    state (with_quiet (set 0x0102 0x80090304 0x05 0x06070C0D) 0x0E)
    (timed 0x10111213 0x1415 (since 0xD8 0xD9 (made Idle 0x1617 0x1819 0x1A1B 0x1C1D Unset 0x1E1F 0x2021 0x2223 0x26 0x27 0x28)) 0x2425 (seconds 0x80818283 0x84858687 0x88898A8B 0x8C8D8E8F 0x90919293))
    (timed 0x292A2B2C 0x2D2E (since 0xDA 0xDB (made Acquisition 0x2F30 0x3132 0x3334 0x3536 Active 0x3738 0x393A 0x3B3C 0x3F 0x40 0x41)) 0x3D3E (seconds 0x94959697 0x98999A9B 0x9C9D9E9F 0xA0A1A2A3 0xA4A5A6A7))
    (timed 0x42434445 0x4647 (since 0xDC 0xDD (made Down 0x4849 0x4A4B 0x4C4D 0x4E4F Passive 0x5051 0x5253 0x5455 0x58 0x59 0x5A)) 0x5657 (seconds 0xA8A9AAAB 0xACADAEAF 0xB0B1B2B3 0xB4B5B6B7 0xB8B9BABB))
    (timed 0x5B5C5D5E 0x5F60 (since 0xDE 0xDF (made Up 0x6162 0x6364 0x6566 0x6768 Unset 0x696A 0x6B6C 0x6D6E 0x71 0x72 0x73)) 0x6F70 (seconds 0xBCBDBEBF 0xC0C1C2C3 0xC4C5C6C7 0xC8C9CACB 0xCCCDCECF))
    (timed 0x74757677 0x7879 (since 0xE2 0xE3 (made Cease 0x7A7B 0x7C7D 0x7E7F 0xE0E1 Active 0x8283 0x8485 0x8687 0x8A 0x8B 0x8C)) 0x8889 (seconds 0x10111213 0x14151617 0x18191A1B 0x1C1D1E1F 0x20212223))
    (timed 0x8D8E8F90 0x9192 (since 0xE4 0xE5 (made Idle 0x9394 0x9596 0x9798 0x999A Passive 0x9B9C 0x9D9E 0x9FA0 0xA3 0xA4 0xA5)) 0xA1A2 (seconds 0x24252627 0x28292A2B 0x2C2D2E2F 0x30313233 0x34353637))
    (timed 0xA6A7A8A9 0xAAAB (since 0xE6 0xE7 (made Acquisition 0xACAD 0xAEAF 0xB0B1 0xB2B3 Unset 0xB4B5 0xB6B7 0xB8B9 0xBC 0xBD 0xBE)) 0xBABB (seconds 0x38393A3B 0x3C3D3E3F 0x40414243 0x44454647 0x48494A4B))
    (timed 0xBFC0C1C2 0xC3C4 (since 0xE8 0xE9 (made Up 0xC5C6 0xC7C8 0xC9CA 0xCBCC Passive 0xCDCE 0xCFD0 0xD1D2 0xD5 0xD6 0xD7)) 0xD3D4 (seconds 0x4C4D4E4F 0x50515253 0x54555657 0x58595A5B 0x5C5D5E5F))

unfoldable pub every_octet : List ℕ
every_octet =
    block "01 02 80 09 03 04 05 06 07 0C 0D 0E"
    "10 11 12 13 14 15 16 17 18 19 1A 1B 1C 1D 1E 1F 20 21 22 23 24 25 00 00 26 27 28 D8 D9 80 81 82 83 84 85 86 87 88 89 8A 8B 8C 8D 8E 8F 90 91 92 93"
    "29 2A 2B 2C 2D 2E 2F 30 31 32 33 34 35 36 37 38 39 3A 3B 3C 3D 3E 01 01 3F 40 41 DA DB 94 95 96 97 98 99 9A 9B 9C 9D 9E 9F A0 A1 A2 A3 A4 A5 A6 A7"
    "42 43 44 45 46 47 48 49 4A 4B 4C 4D 4E 4F 50 51 52 53 54 55 56 57 02 02 58 59 5A DC DD A8 A9 AA AB AC AD AE AF B0 B1 B2 B3 B4 B5 B6 B7 B8 B9 BA BB"
    "5B 5C 5D 5E 5F 60 61 62 63 64 65 66 67 68 69 6A 6B 6C 6D 6E 6F 70 03 00 71 72 73 DE DF BC BD BE BF C0 C1 C2 C3 C4 C5 C6 C7 C8 C9 CA CB CC CD CE CF"
    "74 75 76 77 78 79 7A 7B 7C 7D 7E 7F E0 E1 82 83 84 85 86 87 88 89 04 01 8A 8B 8C E2 E3 10 11 12 13 14 15 16 17 18 19 1A 1B 1C 1D 1E 1F 20 21 22 23"
    "8D 8E 8F 90 91 92 93 94 95 96 97 98 99 9A 9B 9C 9D 9E 9F A0 A1 A2 00 02 A3 A4 A5 E4 E5 24 25 26 27 28 29 2A 2B 2C 2D 2E 2F 30 31 32 33 34 35 36 37"
    "A6 A7 A8 A9 AA AB AC AD AE AF B0 B1 B2 B3 B4 B5 B6 B7 B8 B9 BA BB 01 00 BC BD BE E6 E7 38 39 3A 3B 3C 3D 3E 3F 40 41 42 43 44 45 46 47 48 49 4A 4B"
    "BF C0 C1 C2 C3 C4 C5 C6 C7 C8 C9 CA CB CC CD CE CF D0 D1 D2 D3 D4 03 02 D5 D6 D7 E8 E9 4C 4D 4E 4F 50 51 52 53 54 55 56 57 58 59 5A 5B 5C 5D 5E 5F"

-- `quiet` 0 and 1, without neighbours
unfoldable pub both_kinds : List State
both_kinds =
    without_neighbours (nine_with 0)
    ∷ without_neighbours (nine_with 1)
    ∷ []

unfoldable pub both_blocks : List (List ℕ)
both_blocks =
    block own free free free free free free free free
    ∷ block own_quiet free free free free free free free free
    ∷ []

-- the octets of the settings, of a slot, of the block; where slots 0, 1 and 7 begin
unfoldable pub places_computed : List ℕ
places_computed = own_size ∷ slot_size ∷ block_size ∷ slot_start 0 ∷ slot_start 1 ∷ slot_start 7 ∷ []

unfoldable pub places_written : List ℕ
places_written = 12 ∷ 49 ∷ 404 ∷ 12 ∷ 61 ∷ 355 ∷ []
