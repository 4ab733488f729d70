-- 14 and 15: the body of an Update, "as if in Up" by reading alone, and in Up.
use Rattle.std.specs.Prelude.{List, [], ◌∷◌, ◌++◌, replicate}
use Rattle.gateway_check_sheet.specs.Given.{hex, ip, common, theirs, in_up}
use Rattle.gateway_check_sheet.specs.Line.{Line, message, reading, rows, heard}

unfoldable pub bodies : List Line
bodies =
    -- body: "Any count may be 0": of gateways, distances, nets
    reading common (hex "02 01 00 01 7D EA 00 07 00 03 00 00 80 09 00 00") 0 0 ∷
    reading common (hex "02 01 00 01 7C E5 00 07 00 03 01 00 80 09 00 00 00 05 00") 0 0 ∷
    reading common (hex "02 01 00 01 7D E4 00 07 00 03 00 01 80 09 00 00 00 05 00") 0 0 ∷
    reading common (hex "02 01 00 01 7B E5 00 07 00 03 01 00 80 09 00 00 00 05 01 00 00") 0 0 ∷
    reading common (hex "02 01 00 01 79 DA 00 07 00 03 01 00 80 09 00 00 00 05 02 00 00 01 01 0A") 0 1 ∷
    -- body: "Nothing may be missing": host, number of distances, distance, number of nets, net
    reading common (hex "02 01 00 01 7C EA 00 07 00 03 01 00 80 09 00 00") 14 0 ∷
    reading common (hex "02 01 00 01 7C EA 00 07 00 03 01 00 80 09 00 00 00") 14 0 ∷
    reading common (hex "02 01 00 01 7C E5 00 07 00 03 01 00 80 09 00 00 00 05") 14 0 ∷
    reading common (hex "02 01 00 01 7B E5 00 07 00 03 01 00 80 09 00 00 00 05 01") 14 0 ∷
    reading common (hex "02 01 00 01 7B E5 00 07 00 03 01 00 80 09 00 00 00 05 01 00") 14 0 ∷
    reading common (hex "02 01 00 01 7A E5 00 07 00 03 01 00 80 09 00 00 00 05 01 00 01") 14 0 ∷
    reading common (hex "02 01 00 01 7A 25 00 07 00 03 01 00 80 09 00 00 00 05 01 00 01 C0") 14 0 ∷
    reading common (hex "02 01 00 01 75 25 00 07 00 03 01 00 80 09 00 00 00 05 01 00 01 C0 05") 14 0 ∷
    reading common (hex "02 01 00 01 75 1F 00 07 00 03 01 00 80 09 00 00 00 05 01 00 01 C0 05 06") 0 1 ∷
    -- body: nothing may be "left over"
    reading common (hex "02 01 00 01 75 1F 00 07 00 03 01 00 80 09 00 00 00 05 01 00 01 C0 05 06 00") 14 0 ∷
    reading common (hex "02 01 00 01 7D EA 00 07 00 03 00 00 80 09 00 00 00") 14 0 ∷
    reading common (hex "02 01 00 01 7C E5 00 07 00 03 01 00 80 09 00 00 00 05 00 00") 14 0 ∷
    reading common (hex "02 01 00 01 6D 54 00 07 00 03 01 00 80 09 00 00 00 05 01 00 01 C0 05 06 00 05 01 00 01 C0 05 06") 14 0 ∷
    -- body: more or fewer blocks than the counts say; external ones
    reading common (hex "02 01 00 01 6C 54 00 07 00 03 02 00 80 09 00 00 00 05 01 00 01 C0 05 06 00 05 01 00 01 C0 05 06") 0 2 ∷
    reading common (hex "02 01 00 01 6D 53 00 07 00 03 01 01 80 09 00 00 00 05 01 00 01 C0 05 06 00 05 01 00 01 C0 05 06") 0 2 ∷
    reading common (hex "02 01 00 01 6E 52 00 07 00 03 00 02 80 09 00 00 00 05 01 00 01 C0 05 06 00 05 01 00 01 C0 05 06") 0 2 ∷
    reading common (hex "02 01 00 01 74 1F 00 07 00 03 02 00 80 09 00 00 00 05 01 00 01 C0 05 06") 14 0 ∷
    reading common (hex "02 01 00 01 75 1E 00 07 00 03 01 01 80 09 00 00 00 05 01 00 01 C0 05 06") 14 0 ∷
    reading common (hex "02 01 00 01 6E 53 00 07 00 03 00 01 80 09 00 00 00 05 01 00 01 C0 05 06 00 05 01 00 01 C0 05 06") 14 0 ∷
    reading common (hex "02 01 00 01 6B 54 00 07 00 03 03 00 80 09 00 00 00 05 01 00 01 C0 05 06 00 05 01 00 01 C0 05 06") 14 0 ∷
    -- body: "A net takes 1, 2 or 3 octets", "below 128 A, below 192 B, below 224 C, others bad"
    reading common (hex "02 01 00 01 7A E5 00 07 00 03 01 00 80 09 00 00 00 05 01 00 01 00") 0 1 ∷
    reading common (hex "02 01 00 01 7A 66 00 07 00 03 01 00 80 09 00 00 00 05 01 00 01 7F") 0 1 ∷
    reading common (hex "02 01 00 01 79 66 00 07 00 03 01 00 80 09 00 00 00 05 01 00 01 7F 01") 14 0 ∷
    reading common (hex "02 01 00 01 7A 65 00 07 00 03 01 00 80 09 00 00 00 05 01 00 01 80") 14 0 ∷
    reading common (hex "02 01 00 01 7A 65 00 07 00 03 01 00 80 09 00 00 00 05 01 00 01 80 00") 0 1 ∷
    reading common (hex "02 01 00 01 7B 25 00 07 00 03 01 00 80 09 00 00 00 05 01 00 01 BF FF") 0 1 ∷
    reading common (hex "02 01 00 01 7B 24 00 07 00 03 01 00 80 09 00 00 00 05 01 00 01 BF FF 01") 14 0 ∷
    reading common (hex "02 01 00 01 7A 25 00 07 00 03 01 00 80 09 00 00 00 05 01 00 01 C0 00") 14 0 ∷
    reading common (hex "02 01 00 01 7A 25 00 07 00 03 01 00 80 09 00 00 00 05 01 00 01 C0 00 00") 0 1 ∷
    reading common (hex "02 01 00 01 7A 06 00 07 00 03 01 00 80 09 00 00 00 05 01 00 01 DF FF FF") 0 1 ∷
    reading common (hex "02 01 00 01 79 06 00 07 00 03 01 00 80 09 00 00 00 05 01 00 01 DF FF FF 01") 14 0 ∷
    reading common (hex "02 01 00 01 7A 05 00 07 00 03 01 00 80 09 00 00 00 05 01 00 01 E0") 14 0 ∷
    reading common (hex "02 01 00 01 7A 05 00 07 00 03 01 00 80 09 00 00 00 05 01 00 01 E0 00") 14 0 ∷
    reading common (hex "02 01 00 01 7A 05 00 07 00 03 01 00 80 09 00 00 00 05 01 00 01 E0 00 00") 14 0 ∷
    reading common (hex "02 01 00 01 7A 05 00 07 00 03 01 00 80 09 00 00 00 05 01 00 01 E0 00 00 00") 14 0 ∷
    reading common (hex "02 01 00 01 79 E6 00 07 00 03 01 00 80 09 00 00 00 05 01 00 01 FF FF FF") 14 0 ∷
    reading common (hex "02 01 00 01 98 CF 00 07 00 03 01 00 80 09 00 00 00 05 01 00 03 0A E0 0B") 14 0 ∷
    -- body: "a net that is not the common net", in any octet
    reading common (hex "02 01 00 01 7D EA 00 07 00 03 00 00 80 09 00 00") 0 0 ∷
    reading common (hex "02 01 00 01 7C EA 00 07 00 03 00 00 81 09 00 00") 14 0 ∷
    reading common (hex "02 01 00 01 7D EB 00 07 00 03 00 00 80 08 00 00") 14 0 ∷
    reading common (hex "02 01 00 01 7C EA 00 07 00 03 00 00 80 09 01 00") 14 0 ∷
    reading common (hex "02 01 00 01 7D E9 00 07 00 03 00 00 80 09 00 01") 14 0 ∷
    reading common (hex "02 01 00 01 FD F3 00 07 00 03 00 00 00 00 00 00") 14 0 ∷
    reading common (hex "02 01 00 01 F4 73 00 07 00 03 00 00 09 80 00 00") 14 0 ∷
    -- body: "a gateway takes the host part of the common net, 3, 2 or 1": on 10.0.0.0 and on 192.5.6.0
    reading (ip 10 0 0 0) (hex "02 01 00 01 E3 EF 00 07 00 03 01 00 0A 00 00 00 01 02 03 01 00 01 0B") 0 1 ∷
    reading (ip 10 0 0 0) (hex "02 01 00 01 EE E5 00 07 00 03 01 00 0A 00 00 00 02 03 01 00 01 0B") 14 0 ∷
    reading (ip 10 0 0 0) (hex "02 01 00 01 EE F1 00 07 00 03 01 00 0A 00 00 00 01 02 03 00") 0 0 ∷
    reading (ip 10 0 0 0) (hex "02 01 00 01 F1 F1 00 07 00 03 01 00 0A 00 00 00 01 02 00") 14 0 ∷
    reading (ip 192 5 6 0) (hex "02 01 00 01 28 EC 00 07 00 03 01 00 C0 05 06 00 03 01 00 01 0B") 0 1 ∷
    reading (ip 192 5 6 0) (hex "02 01 00 01 32 E0 00 07 00 03 01 00 C0 05 06 00 02 03 01 00 01 0B") 14 0 ∷
    reading (ip 192 5 6 0) (hex "02 01 00 01 33 EE 00 07 00 03 01 00 C0 05 06 00 03 00") 0 0 ∷
    reading (ip 192 5 6 0) (hex "02 01 00 01 33 EE 00 07 00 03 01 00 C0 05 06 00 03") 14 0 ∷
    -- body: net 0.0.0.0 is of class A
    reading 0 (hex "02 01 00 01 FC F1 00 07 00 03 01 00 00 00 00 00 00 00 00 01 00 01 00") 0 1 ∷
    -- body: 128, 129 and 255 of one net ("repeats stay"); 64 internal and 64 or 65 external; groups of 100 and 28 or 29
    reading common (hex "02 01 00 01 79 62 00 07 00 03 01 00 80 09 00 00 00 05 01 00 80" ++ replicate 128 10) 0 128 ∷
    reading common (hex "02 01 00 01 78 58 00 07 00 03 01 00 80 09 00 00 00 05 01 00 81" ++ replicate 129 10) 15 0 ∷
    reading common (hex "02 01 00 01 81 DF 00 07 00 03 01 00 80 09 00 00 00 05 01 00 FF" ++ replicate 255 10) 15 0 ∷
    reading common (hex "02 01 00 01 B4 20 00 07 00 03 01 01 80 09 00 00 00 05 01 00 40" ++ replicate 64 10 ++ hex "00 05 01 00 40" ++ replicate 64 10) 0 128 ∷
    reading common (hex "02 01 00 01 AA 1F 00 07 00 03 01 01 80 09 00 00 00 05 01 00 40" ++ replicate 64 10 ++ hex "00 05 01 00 41" ++ replicate 65 10) 15 0 ∷
    reading common (hex "02 01 00 01 78 61 00 07 00 03 01 00 80 09 00 00 00 05 02 00 64" ++ replicate 100 10 ++ hex "01 1C" ++ replicate 28 10) 0 128 ∷
    reading common (hex "02 01 00 01 77 57 00 07 00 03 01 00 80 09 00 00 00 05 02 00 64" ++ replicate 100 10 ++ hex "01 1D" ++ replicate 29 10) 15 0 ∷
    -- rows: "net, gateway, and distance plus 256 if external"
    rows common (hex "02 01 00 01 B3 D5 00 07 00 03 01 00 80 09 00 00 00 05 01 00 02 0A C0 05 06") (ip 10 0 0 0 ∷ theirs ∷ 0 ∷ ip 192 5 6 0 ∷ theirs ∷ 0 ∷ []) ∷
    rows common (hex "02 01 00 01 7A 21 00 07 00 03 01 00 80 09 00 00 01 02 01 07 01 BF FF") (ip 191 255 0 0 ∷ ip 128 9 1 2 ∷ 7 ∷ []) ∷
    rows common (hex "02 01 00 01 7B D5 00 07 00 03 00 01 80 09 00 00 00 05 01 05 01 0A") (ip 10 0 0 0 ∷ theirs ∷ 261 ∷ []) ∷
    rows common (hex "02 01 00 01 76 CD 00 07 00 03 01 01 80 09 00 00 00 05 01 FF 01 0A 00 05 01 FF 01 0A") (ip 10 0 0 0 ∷ theirs ∷ 255 ∷ ip 10 0 0 0 ∷ theirs ∷ 511 ∷ []) ∷
    -- rows: "Rows go in message order; repeats stay"
    rows common (hex "02 01 00 01 6A BA 00 07 00 03 02 00 80 09 00 00 00 05 02 03 02 0B 0A 01 01 0B 00 04 01 02 01 0B") (ip 11 0 0 0 ∷ theirs ∷ 3 ∷ ip 10 0 0 0 ∷ theirs ∷ 3 ∷ ip 11 0 0 0 ∷ theirs ∷ 1 ∷ ip 11 0 0 0 ∷ ip 128 9 0 4 ∷ 2 ∷ []) ∷
    -- rows: a gateway is the common net and "the host part", on 10.0.0.0 and on 192.5.6.0
    rows (ip 10 0 0 0) (hex "02 01 00 01 E3 EF 00 07 00 03 01 00 0A 00 00 00 01 02 03 01 00 01 0B") (ip 11 0 0 0 ∷ ip 10 1 2 3 ∷ 0 ∷ []) ∷
    rows (ip 192 5 6 0) (hex "02 01 00 01 28 EC 00 07 00 03 01 00 C0 05 06 00 03 01 00 01 0B") (ip 11 0 0 0 ∷ ip 192 5 6 3 ∷ 0 ∷ []) ∷
    -- body: in Up
    heard in_up "02 01 00 01 75 25 00 07 00 03 01 00 80 09 00 00 00 05 01 00 01 C0 05" 14 24 0 "02 08 00 01 85 B5 00 09 00 05 00 02 02 01 00 01 75 25 00 07 00 03 01 00" ∷
    heard in_up "02 01 00 01 75 1F 00 07 00 03 01 00 80 09 00 00 00 05 01 00 01 C0 05 06 00" 14 24 0 "02 08 00 01 85 BB 00 09 00 05 00 02 02 01 00 01 75 1F 00 07 00 03 01 00" ∷
    heard in_up "02 01 00 01 7A 05 00 07 00 03 01 00 80 09 00 00 00 05 01 00 01 E0" 14 24 0 "02 08 00 01 80 D5 00 09 00 05 00 02 02 01 00 01 7A 05 00 07 00 03 01 00" ∷
    heard in_up "02 01 00 01 F3 F3 00 07 00 03 00 00 0A 00 00 00" 14 24 0 "02 08 00 01 07 E7 00 09 00 05 00 02 02 01 00 01 F3 F3 00 07 00 03 00 00" ∷
    heard in_up "02 01 00 01 75 1F 00 07 00 03 01 00 80 09 00 00 00 05 01 00 01 C0 05 06" 0 0 0 "" ∷
    heard in_up "02 01 00 01 7D EA 00 07 00 03 00 00 80 09 00 00" 0 0 0 "" ∷
    heard in_up "02 01 00 01 7D E4 00 07 00 03 00 01 80 09 00 00 00 05 00" 0 0 0 "" ∷
    message in_up 3072 2048 [] theirs (hex "02 01 00 01 B4 20 00 07 00 03 01 01 80 09 00 00 00 05 01 00 40" ++ replicate 64 10 ++ hex "00 05 01 00 40" ++ replicate 64 10) 0 0 0 [] ∷
    message in_up 3072 2048 [] theirs (hex "02 01 00 01 AA 1F 00 07 00 03 01 01 80 09 00 00 00 05 01 00 40" ++ replicate 64 10 ++ hex "00 05 01 00 41" ++ replicate 65 10) 15 24 0 (hex "02 08 00 01 50 BC 00 09 00 05 00 00 02 01 00 01 AA 1F 00 07 00 03 01 01") ∷
    []
