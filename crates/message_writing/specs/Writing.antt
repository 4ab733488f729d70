-- The header of every message, and an Update's head.
use Rattle.std.specs.Prelude.{ℕ, List, [], ◌∷◌}
use Rattle.octets.specs.Numbers.{octets16, octets32}
use Rattle.message.specs.Kinds.{type_of, code_of}
use Rattle.message.specs.declared.Kind.{Kind}
use Rattle.message.specs.declared.Kind.TheVariants.{Update}

-- 01: "Header: version 2, type, code, status, checksum (2), AS (2), sequence (2)", the checksum's field not yet filled
abbrev pub headed : Kind → ℕ → ℕ → ℕ → List ℕ → List ℕ
headed kind asn sequence status rest = 2 ∷ type_of kind ∷ code_of kind ∷ status ∷ 0 ∷ 0 ∷ octets16 asn (octets16 sequence rest)

-- 01: "An Update has at octet 10 the internal and external gateway counts, at 12 the net"
unfoldable pub head_of : ℕ → ℕ → ℕ → ℕ → ℕ → ℕ → List ℕ
head_of internal external asn sequence status net = headed Update asn sequence status (internal ∷ external ∷ octets32 net [])
