-- Reading alone for a C host: message and buffer, what is returned, and the whole buffer after it. Meaning, 24 octets:
-- kind (1), status (1), AS (2), sequence (2), hello interval or an Error's reason (2), poll interval (2), zero (2), net
-- or first of an Error's three words (4), its second (4), its third (4).
use Rattle.std.specs.Prelude.{ℕ, ◌-◌, List, [], ◌∷◌, ◌++◌, length, replicate}
use Rattle.host_codec.specs.Codec.{reading_result, reading_buffer}
use Rattle.gateway_check_sheet.specs.Given.{hex, ip}

-- common net, message, octets of the buffer; what is returned, and what stands at the buffer's front after it
pub data Line : Type 0 where
  reading : ℕ → List ℕ → ℕ → ℕ → List ℕ → Line

-- what is looked at after a call
pub record Left : Type 0 where
  pub returned : ℕ
  pub buffer : List ℕ

-- a buffer of so many octets, all EE: so that what is kept shows
unfoldable pub filled : ℕ → List ℕ
filled n = replicate n 0xEE

-- what the definitions give
unfoldable pub computed : Line → Left
computed (reading net message size returned octets) =
    record { returned = reading_result net message (filled size); buffer = reading_buffer net message (filled size) }

-- what the line says: behind the octets written, the buffer as it was
unfoldable pub written : Line → Left
written (reading net message size returned octets) =
    record { returned = returned; buffer = octets ++ filled (size - length octets) }

-- 128.9.0.0
unfoldable pub common : ℕ
common = ip 128 9 0 0

-- 01's cases H, Q, U and V
unfoldable pub case_h : List ℕ
case_h = hex "02 05 00 02 FD F0 00 07 00 01"

unfoldable pub case_q : List ℕ
case_q = hex "02 03 00 00 FD 5F 00 07 00 00 00 1E 00 78"

unfoldable pub case_u : List ℕ
case_u = hex "02 01 00 01 B3 D7 00 07 00 01 01 00 80 09 00 00 00 05 01 00 02 0A C0 05 06"

unfoldable pub case_v : List ℕ
case_v = hex "02 01 00 01 B9 D7 00 07 00 01 01 00 80 09 00 00 00 05 01 00 02 0A C0 05"

-- an Error of status 129, AS 0x1234 and number 0x5678: no two octets of its reason and its words are the same
unfoldable pub error : List ℕ
error = hex "02 08 00 81 2D 3B 12 34 56 78 9A BC 11 12 13 14 21 22 23 24 31 32 33 34"

-- H without its last octet
unfoldable pub nine : List ℕ
nine = hex "02 05 00 02 FD F0 00 07 00"

unfoldable pub readings : List Line
readings =
    -- U: the meaning's 24 octets, and 24 of its two rows, 10.0.0.0 and 192.5.6.0 by 128.9.0.5 at distance 0
    reading common case_u 1560 0x0000_0018_0018_0000
    (hex "08 01 00 07 00 01 00 00 00 00 00 00 80 09 00 00 00 00 00 00 00 00 00 00"
    ++ hex "0A 00 00 00 80 09 00 05 00 00 00 00 C0 05 06 00 80 09 00 05 00 00 00 00") ∷
    -- H, Q and an Error: no rows
    reading common case_h 1560 0x0000_0000_0018_0000 (hex "05 02 00 07 00 01 00 00 00 00 00 00 00 00 00 00 00 00 00 00 00 00 00 00") ∷
    reading common case_q 1560 0x0000_0000_0018_0000 (hex "00 00 00 07 00 00 00 1E 00 78 00 00 00 00 00 00 00 00 00 00 00 00 00 00") ∷
    reading common error 1560 0x0000_0000_0018_0000 (hex "09 81 12 34 56 78 9A BC 00 00 00 00 11 12 13 14 21 22 23 24 31 32 33 34") ∷
    -- 14: V, and U where 10.0.0.0 is the common net
    reading common case_v 1560 14 [] ∷
    reading (ip 10 0 0 0) case_u 1560 14 [] ∷
    -- 3: a buffer of 1,559 octets, also where the message is bad
    reading common case_u 1559 3 [] ∷
    reading common nine 1559 3 [] ∷
    -- 6: a message of 9 octets
    reading common nine 1560 6 [] ∷
    []
