-- The ones of a register, by one test over all sixteen. Assumes nothing.
use Prim.Native.Nat.{ℕ, ◌%◌}
use native.Mathlib.Omega.{arith}
use mathlib.Core.Path.{◌≡◌, ◌∙◌}
use mathlib.Core.Bool.{Bool}
use lib.Dec.{eqb, eqb→eq}
use lib.ListN.{get_or}
use lib.Count.{ones}
use Rattle.neighbour.specs.Rules.{ones_of}
use Rattle.neighbour.specs.Laws.{ones_table, OnesByTable}
use Rattle.neighbour.proofs.Table.{at}

right : ℕ → ℕ → Bool
right k x = eqb x (ones_of k)

pub ones_by_table : OnesByTable
unfolding right ones_of
ones_by_table register h = eqb→eq (get_or ones_table register 0) (ones_of register) (at right ones_table tt register h)

counted : ℕ → ℕ → Bool
counted k x = eqb (ones k) (ones_of k)

-- the ones of the four lowest bits, as the library counts them
pub ones_counted : (register : ℕ) → ones (register % 16) ≡ ones_of register
unfolding counted ones_of ones
ones_counted register =
    let low : ones_of (register % 16) ≡ ones_of register = omega arith in
    eqb→eq (ones (register % 16)) (ones_of (register % 16)) (at counted ones_table tt (register % 16) (omega arith)) ∙ low
