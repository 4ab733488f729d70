-- Text as octets: fixed words, decimal numbers and dotted quads, as the listing has them.
use Rattle.std.specs.Prelude.{ℕ, zero, suc, ◌+◌, ◌/◌, ◌%◌, cond, List, [], ◌∷◌, ◌++◌, ltb}
use Prim.Native.String.{String, [] as no-letters, ◌∷◌ as ◌then◌}
use Prim.Native.Char.{code}

-- the octets of a text, one a letter; ours have ASCII letters only
unfoldable pub text : String → List ℕ
text no-letters = []
text (letter then rest) = code letter ∷ text rest

-- 0 to 9 as an octet
unfoldable pub digit : ℕ → ℕ
digit n = 48 + n

-- the digits of n, of which there are at most this many
unfoldable pub digits : ℕ → ℕ → List ℕ
digits zero n = []
digits (suc more) n = cond (ltb n 10) (digit n ∷ []) (digits more (n / 10) ++ (digit (n % 10) ∷ []))

-- decimal, without leading zeros
unfoldable pub decimal : ℕ → List ℕ
decimal n = digits (suc n) n

-- an address as four numbers with dots between them, the highest octet first
unfoldable pub dotted : ℕ → List ℕ
dotted a =
    decimal (a / 16777216 % 256)
    ++ (text "." ++ (decimal (a / 65536 % 256) ++ (text "." ++ (decimal (a / 256 % 256) ++ (text "." ++ decimal (a % 256))))))

-- 01: "Lines end in octet 10": a name with its sign, and a value
unfoldable pub line : List ℕ → List ℕ → List ℕ
line name value = name ++ (value ++ (10 ∷ []))
