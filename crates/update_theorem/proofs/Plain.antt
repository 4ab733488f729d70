-- What is written are octets. Assumes nothing.
use Prim.Native.Nat.{ℕ, zero, suc, ◌≤◌, ◌<◌}
use mathlib.Core.Bool.{true}
use mathlib.Core.Path.{◌≡◌}
use mathlib.Core.List.{List, [], ◌∷◌, ◌++◌}
use native.Mathlib.Omega.{arith}
use borrow.Author.Tests.{leb-true, lt-ltb}
use lib.Dec.{leb, ltb}
use lib.ListN.{length, take, drop}
use Rattle.nets.specs.Classes.{width_of}
use Rattle.nets.specs.Rows.{Row}
use Rattle.update_writing.specs.Blocks.{runs, distance_runs, each, address_octets, net_octets, host_octets, nets_octets, group_octets, groups_octets, block_octets, side_rows, side_octets, blocks_written}
use Rattle.update_writing.specs.Writable.{writable_rows}
use Rattle.update_writing.proofs.Claims.{counts, rows_most}
use Rattle.update_writing.proofs.Runs.{sides_within}
use Rattle.update_theorem.specs.Trip.{octets_only}
use Rattle.update_theorem.proofs.Readings.{AllOf, every_all, all_every, all_map, all_append, all_each}

abbrev Plain : List ℕ → Type 0
Plain octets = AllOf (λ octet. octet < 256) octets

address_plain : (address : ℕ) → Plain (address_octets address)
unfolding address_octets
address_plain address = (omega arith, (omega arith, (omega arith, (omega arith, tt))))

take_plain : (k : ℕ) (octets : List ℕ) → Plain octets → Plain (take k octets)
take_plain zero octets h = tt
take_plain (suc k) [] h = tt
take_plain (suc k) (octet ∷ rest) h = (h.0, take_plain k rest h.1)

drop_plain : (k : ℕ) (octets : List ℕ) → Plain octets → Plain (drop k octets)
drop_plain zero octets h = h
drop_plain (suc k) [] h = tt
drop_plain (suc k) (octet ∷ rest) h = drop_plain k rest h.1

net_plain : (net : ℕ) → Plain (net_octets net)
unfolding net_octets
net_plain net = take_plain (width_of net) (address_octets net) (address_plain net)

host_plain : (net gateway : ℕ) → Plain (host_octets net gateway)
unfolding host_octets
host_plain net gateway = drop_plain (width_of net) (address_octets gateway) (address_plain gateway)

nets_plain : (rows : List Row) → Plain (nets_octets rows)
unfolding nets_octets each
nets_plain [] = tt
nets_plain (row ∷ rest) = all_append (λ octet. octet < 256) (net_octets row.net) (each (λ (row : Row). net_octets row.net) rest) (net_plain row.net) (nets_plain rest)

group_plain : (rows : List Row) → length rows ≤ 128 → Plain (group_octets rows)
unfolding group_octets
group_plain [] h = tt
group_plain (row ∷ rest) h = (omega arith, (omega arith, nets_plain (row ∷ rest)))

-- each run has no more rows than there are
runs_plain : (key : Row → ℕ) (give : List Row → List ℕ) → ((run : List Row) → length run ≤ 128 → Plain (give run)) → (rows : List Row) → length rows ≤ 128 → Plain (each give (runs key rows))
runs_plain key give h rows m =
    all_each (λ octet. octet < 256) give (runs key rows)
    (all_map (λ run (k : leb (length run) (length rows) ≡ true). h run (omega (arith, leb-true (length run) (length rows) k))) (runs key rows)
    (every_all (λ run. leb (length run) (length rows)) (runs key rows) (counts.size key rows)))

groups_plain : (rows : List Row) → length rows ≤ 128 → Plain (groups_octets rows)
unfolding groups_octets
groups_plain rows m = runs_plain (λ row. row.third) group_octets group_plain rows m

block_plain : (net : ℕ) (rows : List Row) → length rows ≤ 128 → Plain (block_octets net rows)
unfolding block_octets
block_plain net [] m = tt
block_plain net (row ∷ rest) m =
    all_append (λ octet. octet < 256) (host_octets net row.gateway) (length (distance_runs (row ∷ rest)) ∷ groups_octets (row ∷ rest)) (host_plain net row.gateway)
    (omega (arith, counts.number (λ row. row.third) (row ∷ rest)), groups_plain (row ∷ rest) m)

side_plain : (net : ℕ) (rows : List Row) → length rows ≤ 128 → Plain (side_octets net rows)
unfolding side_octets
side_plain net rows m = runs_plain (λ row. row.gateway) (block_octets net) (block_plain net) rows m

pub blocks_plain : (net : ℕ) (rows : List Row) → writable_rows net rows ≡ true → octets_only (blocks_written net rows) ≡ true
unfolding octets_only blocks_written
blocks_plain net rows w =
    let a = side_octets net (side_rows 0 rows) in
    let b = side_octets net (side_rows 1 rows) in
    all_every (λ octet. ltb octet 256) (a ++ b)
    (all_map (λ octet k. lt-ltb octet 256 k) (a ++ b)
    (all_append (λ octet. octet < 256) a b
    (side_plain net (side_rows 0 rows) (omega (arith, sides_within rows, rows_most net rows w)))
    (side_plain net (side_rows 1 rows) (omega (arith, sides_within rows, rows_most net rows w)))))
