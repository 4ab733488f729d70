-- The gateway blocks of an Update, written from rows.
use Rattle.std.specs.Prelude.{ℕ, ◌/◌, ◌%◌, cond, List, [], ◌∷◌, ◌++◌, eqb, length, take, drop}
use Rattle.nets.specs.Classes.{width_of}
use Rattle.nets.specs.Rows.{Row}

-- 01: "distance plus 256 if external": 0 for an internal row, 1 for an external one
abbrev pub side_of : Row → ℕ
side_of row = row.third / 256

-- 01: "Writing groups rows of the same side": the rows of one side, in their order
unfoldable pub side_rows : ℕ → List Row → List Row
side_rows side [] = []
side_rows side (row ∷ rest) = cond (eqb (side_of row) side) (row ∷ side_rows side rest) (side_rows side rest)

-- a row put before the runs of the rows after it: into the first of them if the keys agree
unfoldable pub joined : (Row → ℕ) → Row → List (List Row) → List (List Row)
joined key row [] = (row ∷ []) ∷ []
joined key row ([] ∷ later) = (row ∷ []) ∷ later
joined key row ((next ∷ run) ∷ later) = cond (eqb (key row) (key next)) ((row ∷ next ∷ run) ∷ later) ((row ∷ []) ∷ (next ∷ run) ∷ later)

-- the maximal runs of consecutive rows with equal keys, in their order
unfoldable pub runs : (Row → ℕ) → List Row → List (List Row)
runs key [] = []
runs key (row ∷ rest) = joined key row (runs key rest)

-- 01: "then runs of equal gateways"
abbrev pub gateway_runs : List Row → List (List Row)
gateway_runs rows = runs (λ row. row.gateway) rows

-- 01: "then runs of equal distances"; rows of one side have equal distances where their third numbers are equal
abbrev pub distance_runs : List Row → List (List Row)
distance_runs rows = runs (λ row. row.third) rows

-- what each item gives, one after the other
unfoldable pub each : {A B : Type 0} → (A → List B) → List A → List B
each give [] = []
each give (item ∷ rest) = give item ++ each give rest

-- 01: "All numbers are big-endian": the four octets of an address
unfoldable pub address_octets : ℕ → List ℕ
address_octets address = address / 16777216 % 256 ∷ address / 65536 % 256 ∷ address / 256 % 256 ∷ address % 256 ∷ []

-- 01: "A net takes 1, 2 or 3 octets", the leading ones
unfoldable pub net_octets : ℕ → List ℕ
net_octets net = take (width_of net) (address_octets net)

-- 01: "a gateway takes the host part of the common net, 3, 2 or 1", the low ones
unfoldable pub host_octets : ℕ → ℕ → List ℕ
host_octets net gateway = drop (width_of net) (address_octets gateway)

-- the nets of rows
unfoldable pub nets_octets : List Row → List ℕ
nets_octets rows = each (λ row. net_octets row.net) rows

-- 01: "distance, number of nets, nets", for a run of one distance
unfoldable pub group_octets : List Row → List ℕ
group_octets [] = []
group_octets (row ∷ rest) = row.third % 256 ∷ length (row ∷ rest) ∷ nets_octets (row ∷ rest)

-- the groups of a run of one gateway
unfoldable pub groups_octets : List Row → List ℕ
groups_octets rows = each group_octets (distance_runs rows)

-- 01: "host, number of distances; for each, distance, number of nets, nets", for a run of one gateway
unfoldable pub block_octets : ℕ → List Row → List ℕ
block_octets net [] = []
block_octets net (row ∷ rest) = host_octets net row.gateway ++ (length (distance_runs (row ∷ rest)) ∷ groups_octets (row ∷ rest))

-- the blocks of rows of one side
unfoldable pub side_octets : ℕ → List Row → List ℕ
side_octets net rows = each (block_octets net) (gateway_runs rows)

-- 01: "Internal blocks come first."
unfoldable pub blocks_written : ℕ → List Row → List ℕ
blocks_written net rows = side_octets net (side_rows 0 rows) ++ side_octets net (side_rows 1 rows)

-- 01: "the internal and external gateway counts"
unfoldable pub internal_blocks : List Row → ℕ
internal_blocks rows = length (gateway_runs (side_rows 0 rows))

unfoldable pub external_blocks : List Row → ℕ
external_blocks rows = length (gateway_runs (side_rows 1 rows))
