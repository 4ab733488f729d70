-- Which Updates are grouped, by their blocks and groups as sent. Nothing here refers to what the writer writes.
use Rattle.std.specs.Prelude.{ℕ, Bool, true, false, not, ◌&&◌, List, [], ◌∷◌, eqb}
use Rattle.checks.specs.Lists.{every}
use Rattle.update_walk.specs.Body.{Got, got, stop, Block, Sides, sides_at}

-- not the empty list
unfoldable pub some : {A : Type 0} → List A → Bool
some [] = false
some (item ∷ rest) = true

-- adjacent items have different keys
unfoldable pub adjacent_differ : {A : Type 0} → (A → ℕ) → List A → Bool
adjacent_differ key [] = true
adjacent_differ key (item ∷ []) = true
adjacent_differ key (item ∷ next ∷ rest) = not (eqb (key item) (key next)) && adjacent_differ key (next ∷ rest)

-- 01: "so grouped with no empty group": no empty block, no empty group, neighbouring groups differ in distance
unfoldable pub full_block : Block → Bool
full_block block = some block.groups && every (λ group. some group.rows) block.groups && adjacent_differ (λ group. group.third) block.groups

-- the blocks of one side: neighbouring blocks differ in gateway
unfoldable pub full_side : List Block → Bool
full_side blocks = every full_block blocks && adjacent_differ (λ block. block.gateway) blocks

-- the blocks of both sides, where they could be read
unfoldable pub full_sides : Got Sides → Bool
full_sides (got sides rest) = full_side sides.inside && full_side sides.outside
full_sides (stop left) = false

-- 01: "only where the Update was so grouped with no empty group or block", of the blocks after a head with these counts
unfoldable pub canonical : ℕ → ℕ → ℕ → List ℕ → Bool
canonical net internal external octets = full_sides (sides_at net internal external octets)
