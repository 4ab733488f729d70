-- Writing for a C host: a meaning in 24 octets, laid out as for reading alone, and the octets of its rows; what is
-- returned, and the whole buffer after it.
use Rattle.std.specs.Prelude.{ℕ, ◌-◌, List, [], ◌∷◌, ◌++◌, length}
use Rattle.host_codec.specs.Codec.{writing_result, writing_buffer}
use Rattle.gateway_check_sheet.specs.Given.{hex}
use Rattle.host_sheet.specs.Readings.{Left, filled, case_h, case_q, case_u, error}

-- meaning, rows, octets of the buffer; what is returned, and what stands at the buffer's front after it
pub data Line : Type 0 where
  writing : List ℕ → List ℕ → ℕ → ℕ → List ℕ → Line

-- what the definitions give
unfoldable pub computed : Line → Left
computed (writing meaning rows size returned octets) =
    record { returned = writing_result meaning rows (filled size); buffer = writing_buffer meaning rows (filled size) }

-- what the line says: behind the octets written, the buffer as it was
unfoldable pub written : Line → Left
written (writing meaning rows size returned octets) =
    record { returned = returned; buffer = octets ++ filled (size - length octets) }

-- the meaning of case H, and that of case U
unfoldable pub meaning_of_h : List ℕ
meaning_of_h = hex "05 02 00 07 00 01 00 00 00 00 00 00 00 00 00 00 00 00 00 00 00 00 00 00"

unfoldable pub meaning_of_u : List ℕ
meaning_of_u = hex "08 01 00 07 00 01 00 00 00 00 00 00 80 09 00 00 00 00 00 00 00 00 00 00"

-- U's rows: 10.0.0.0 and 192.5.6.0 by 128.9.0.5 at distance 0; the first of them
unfoldable pub rows_of_u : List ℕ
rows_of_u = hex "0A 00 00 00 80 09 00 05 00 00 00 00 C0 05 06 00 80 09 00 05 00 00 00 00"

unfoldable pub first_of_u : List ℕ
first_of_u = hex "0A 00 00 00 80 09 00 05 00 00 00 00"

unfoldable pub writings : List Line
writings =
    -- H, Q, U and an Error: 10, 14, 25 and 24 octets
    writing meaning_of_h [] 2048 0x0000_0000_000A_0000 case_h ∷
    writing (hex "00 00 00 07 00 00 00 1E 00 78 00 00 00 00 00 00 00 00 00 00 00 00 00 00") [] 2048 0x0000_0000_000E_0000 case_q ∷
    writing meaning_of_u rows_of_u 2048 0x0000_0000_0019_0000 case_u ∷
    writing (hex "09 81 12 34 56 78 9A BC 00 00 00 00 11 12 13 14 21 22 23 24 31 32 33 34") [] 2048 0x0000_0000_0018_0000 error ∷
    -- 3: a buffer of 2,047 octets, also where the meaning is bad
    writing meaning_of_h [] 2047 3 [] ∷
    writing [] [] 2047 3 [] ∷
    -- 16: a meaning of 23 octets, of 25, of none
    writing (hex "05 02 00 07 00 01 00 00 00 00 00 00 00 00 00 00 00 00 00 00 00 00 00") [] 2048 16 [] ∷
    writing (hex "05 02 00 07 00 01 00 00 00 00 00 00 00 00 00 00 00 00 00 00 00 00 00 00 00") [] 2048 16 [] ∷
    writing [] [] 2048 16 [] ∷
    -- 16: kind 10
    writing (hex "0A 02 00 07 00 01 00 00 00 00 00 00 00 00 00 00 00 00 00 00 00 00 00 00") [] 2048 16 [] ∷
    -- 16: an octet set that a Hello leaves 0: of the intervals, of the two that every kind leaves, the last
    writing (hex "05 02 00 07 00 01 00 1E 00 00 00 00 00 00 00 00 00 00 00 00 00 00 00 00") [] 2048 16 [] ∷
    writing (hex "05 02 00 07 00 01 00 00 00 00 01 00 00 00 00 00 00 00 00 00 00 00 00 00") [] 2048 16 [] ∷
    writing (hex "05 02 00 07 00 01 00 00 00 00 00 00 00 00 00 00 00 00 00 00 00 00 00 01") [] 2048 16 [] ∷
    -- 16: a Hello of status 3
    writing (hex "05 03 00 07 00 01 00 00 00 00 00 00 00 00 00 00 00 00 00 00 00 00 00 00") [] 2048 16 [] ∷
    -- 16: rows of 13 octets beside an Update; a row beside a Hello
    writing meaning_of_u (first_of_u ++ (0 ∷ [])) 2048 16 [] ∷
    writing meaning_of_h first_of_u 2048 16 [] ∷
    []
