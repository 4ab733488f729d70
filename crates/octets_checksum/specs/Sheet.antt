-- Checksums of literal messages, worked out apart from these definitions. 01: "complement of the one's complement sum
-- of 16-bit words".
use Rattle.std.specs.Prelude.{ℕ, zero, suc, ◌-◌, ◌%◌, ◌≡◌, List, [], ◌∷◌, ◌++◌, map, replicate}
use Rattle.octets_checksum.specs.Checksum.{blanked, checksum_of, folded}
use Rattle.octets_checksum.specs.Wide.{wide_total}

-- a message and its checksum
pub data Line : Type 0 where
  line : List ℕ → ℕ → Line

-- by words of 16 bits, as 01 has it
abbrev pub by16 : Line → ℕ
by16 (line message checksum) = checksum_of message

-- by words of 32 bits
abbrev pub by32 : Line → ℕ
by32 (line message checksum) = 65535 - folded (wide_total (blanked message))

-- as the line says
abbrev pub written : Line → ℕ
written (line message checksum) = checksum

-- n octets that count down to 1, modulo 256
unfoldable pub counting : ℕ → List ℕ
counting zero = []
counting (suc n) = suc n % 256 ∷ counting n

unfoldable pub lines : List Line
lines =
    -- lengths 0 to 12: an odd last octet is the upper half of its word
    line [] 65535 ∷
    line (1 ∷ []) 65279 ∷
    line (1 ∷ 18 ∷ []) 65261 ∷
    line (1 ∷ 18 ∷ 35 ∷ []) 56301 ∷
    line (1 ∷ 18 ∷ 35 ∷ 52 ∷ []) 56249 ∷
    line (1 ∷ 18 ∷ 35 ∷ 52 ∷ 69 ∷ []) 56249 ∷
    line (1 ∷ 18 ∷ 35 ∷ 52 ∷ 69 ∷ 86 ∷ []) 56249 ∷
    line (1 ∷ 18 ∷ 35 ∷ 52 ∷ 69 ∷ 86 ∷ 103 ∷ []) 29881 ∷
    line (1 ∷ 18 ∷ 35 ∷ 52 ∷ 69 ∷ 86 ∷ 103 ∷ 120 ∷ []) 29761 ∷
    line (1 ∷ 18 ∷ 35 ∷ 52 ∷ 69 ∷ 86 ∷ 103 ∷ 120 ∷ 137 ∷ []) 60224 ∷
    line (1 ∷ 18 ∷ 35 ∷ 52 ∷ 69 ∷ 86 ∷ 103 ∷ 120 ∷ 137 ∷ 154 ∷ []) 60070 ∷
    line (1 ∷ 18 ∷ 35 ∷ 52 ∷ 69 ∷ 86 ∷ 103 ∷ 120 ∷ 137 ∷ 154 ∷ 171 ∷ []) 16294 ∷
    line (1 ∷ 18 ∷ 35 ∷ 52 ∷ 69 ∷ 86 ∷ 103 ∷ 120 ∷ 137 ∷ 154 ∷ 171 ∷ 188 ∷ []) 16106 ∷
    -- the same octets behind whole words, 1, 2 and 3 of them
    line (0 ∷ 0 ∷ 0 ∷ 0 ∷ 0 ∷ 0 ∷ 0 ∷ 0 ∷ 1 ∷ []) 65279 ∷
    line (0 ∷ 0 ∷ 0 ∷ 0 ∷ 0 ∷ 0 ∷ 0 ∷ 0 ∷ 1 ∷ 2 ∷ []) 65277 ∷
    line (0 ∷ 0 ∷ 0 ∷ 0 ∷ 0 ∷ 0 ∷ 0 ∷ 0 ∷ 1 ∷ 2 ∷ 3 ∷ []) 64509 ∷
    line (0 ∷ 0 ∷ 0 ∷ 0 ∷ 0 ∷ 0 ∷ 0 ∷ 0 ∷ 1 ∷ 2 ∷ 3 ∷ 4 ∷ []) 64505 ∷
    line (0 ∷ 0 ∷ 0 ∷ 0 ∷ 0 ∷ 0 ∷ 0 ∷ 0 ∷ 1 ∷ 2 ∷ 3 ∷ 4 ∷ 5 ∷ []) 63225 ∷
    -- whatever stands in the field
    line (2 ∷ 5 ∷ 0 ∷ 2 ∷ 0 ∷ 0 ∷ 0 ∷ 7 ∷ 0 ∷ 1 ∷ []) 65008 ∷
    line (2 ∷ 5 ∷ 0 ∷ 2 ∷ 171 ∷ 205 ∷ 0 ∷ 7 ∷ 0 ∷ 1 ∷ []) 65008 ∷
    line (2 ∷ 5 ∷ 0 ∷ 2 ∷ 255 ∷ 255 ∷ 0 ∷ 7 ∷ 0 ∷ 1 ∷ []) 65008 ∷
    line (0 ∷ 0 ∷ 0 ∷ 0 ∷ 255 ∷ []) 65535 ∷
    line (0 ∷ 0 ∷ 0 ∷ 0 ∷ 255 ∷ 255 ∷ []) 65535 ∷
    line (0 ∷ 0 ∷ 0 ∷ 0 ∷ 255 ∷ 255 ∷ 0 ∷ []) 65535 ∷
    -- a sum of 0, and sums that are multiples of 65,535: these fold to 65,535, not to 0
    line (0 ∷ 0 ∷ 0 ∷ 0 ∷ 0 ∷ 0 ∷ 0 ∷ 0 ∷ 0 ∷ 0 ∷ []) 65535 ∷
    line (255 ∷ 255 ∷ []) 0 ∷
    line (255 ∷ 254 ∷ 0 ∷ 1 ∷ []) 0 ∷
    line (255 ∷ 255 ∷ 255 ∷ 255 ∷ []) 0 ∷
    line (255 ∷ 255 ∷ 255 ∷ 255 ∷ 255 ∷ 255 ∷ 255 ∷ 255 ∷ 255 ∷ 255 ∷ []) 0 ∷
    line (128 ∷ 0 ∷ 127 ∷ 255 ∷ 9 ∷ 9 ∷ 255 ∷ 255 ∷ []) 0 ∷
    -- a carry, and a carry out of the carry (65,536 and 131,071)
    line (255 ∷ 255 ∷ 0 ∷ 1 ∷ []) 65534 ∷
    line (255 ∷ 255 ∷ 255 ∷ 255 ∷ 0 ∷ 0 ∷ 0 ∷ 1 ∷ []) 65534 ∷
    line (128 ∷ 0 ∷ 128 ∷ 0 ∷ []) 65534 ∷
    line (255 ∷ 255 ∷ 255 ∷ 255 ∷ 0 ∷ 0 ∷ 255 ∷ 255 ∷ 0 ∷ 2 ∷ []) 65533 ∷
    -- every word of 32 bits counts, in both halves
    line (replicate 8 0 ++ (1 ∷ replicate 35 0)) 65279 ∷
    line (replicate 9 0 ++ (1 ∷ replicate 34 0)) 65534 ∷
    line (replicate 10 0 ++ (1 ∷ replicate 33 0)) 65279 ∷
    line (replicate 11 0 ++ (1 ∷ replicate 32 0)) 65534 ∷
    line (replicate 36 0 ++ (1 ∷ replicate 7 0)) 65279 ∷
    line (replicate 37 0 ++ (1 ∷ replicate 6 0)) 65534 ∷
    line (replicate 38 0 ++ (1 ∷ replicate 5 0)) 65279 ∷
    line (replicate 39 0 ++ (1 ∷ replicate 4 0)) 65534 ∷
    line (replicate 40 0 ++ (1 ∷ replicate 3 0)) 65279 ∷
    line (replicate 41 0 ++ (1 ∷ replicate 2 0)) 65534 ∷
    line (replicate 42 0 ++ (1 ∷ replicate 1 0)) 65279 ∷
    line (replicate 43 0 ++ (1 ∷ replicate 0 0)) 65534 ∷
    -- long messages: 2,048 octets and fewer, of each remainder by 4
    line (replicate 2048 255) 0 ∷
    line (replicate 2047 255) 255 ∷
    line (replicate 2046 255) 0 ∷
    line (replicate 2045 255) 255 ∷
    line (counting 2048) 64253 ∷
    line (counting 2047) 65016 ∷
    line (counting 2046) 63994 ∷
    line (counting 2045) 64501 ∷
    line (counting 1168) 61239 ∷
    line (counting 1167) 14461 ∷
    line (counting 579) 14167 ∷
    line (counting 578) 22392 ∷
    line (counting 577) 30871 ∷
    line (counting 576) 38839 ∷
    []

-- each message has the checksum that stands beside it
pub record ChecksumSheet : Type 0 where
  pub words : map by16 lines ≡ map written lines
  pub wide_words : map by32 lines ≡ map written lines
