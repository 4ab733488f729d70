-- Laws of a store before others, and of rows read from numbers. Assumes nothing.
use Prim.Native.Nat.{ℕ, zero, suc, ◌*◌, ◌/◌, ◌≤◌, ◌<◌}
use native.Mathlib.Omega.{arith}
use mathlib.Core.Bool.{Bool, true, false, ◌&&◌}
use mathlib.Core.Path.{◌≡◌, refl, ap, ◌∙◌}
use mathlib.Core.List.{List, [], ◌∷◌}
use lib.ListN.{length, take, drop, get_or, set}
use lib.Seq.{take-nil, sets, set_comm}
use Rattle.std.proofs.Common.{map}
use Rattle.std.specs.List.{list_all}
use Rattle.std.specs.Simd.{first_chunks}
use Rattle.checks.specs.Lists.{every}
use Rattle.nets.specs.Rows.{Row, rows_of}

pub and_false : (b : Bool) → (b && false) ≡ false
and_false true = refl
and_false false = refl

-- a store before a run of stores may as well come first
pub set_before : (vs l : List ℕ) (i j v : ℕ) → i < j → set (sets l j vs) i v ≡ sets (set l i v) j vs
set_before [] l i j v h = refl
set_before (w ∷ vs) l i j v h =
    set_before vs (set l j w) i (suc j) v (omega arith)
    ∙ ap (λ (r : List ℕ). sets r (suc j) vs) (set_comm l j i w v (λ e. absurd (omega arith)))

-- the row at the front of numbers, as an array of three lends it
abbrev pub row_at : List ℕ → Row
row_at u = record { net = get_or u 0 0; gateway = get_or u 1 0; third = get_or u 2 0 }

-- rows read from numbers
pub rows_turn : (u : List ℕ) → 2 < length u → rows_of u ≡ row_at u ∷ rows_of (drop 3 u)
unfolding rows_of
rows_turn [] h = absurd (omega arith)
rows_turn (a ∷ []) h = absurd (omega arith)
rows_turn (a ∷ b ∷ []) h = absurd (omega arith)
rows_turn (a ∷ b ∷ c ∷ u) h = refl

pub rows_short : (u : List ℕ) → length u ≤ 2 → rows_of u ≡ []
unfolding rows_of
rows_short [] h = refl
rows_short (a ∷ []) h = refl
rows_short (a ∷ b ∷ []) h = refl
rows_short (a ∷ b ∷ c ∷ u) h = absurd (omega arith)

pub rows_take : (k : ℕ) (u : List ℕ) → rows_of (take (3 * k) u) ≡ take k (rows_of u)
unfolding rows_of
rows_take zero u = refl
rows_take (suc k) [] = rw (take-nil {A = ℕ} (3 * suc k))
rows_take (suc k) (a ∷ []) = let e : 3 * suc k ≡ suc (suc (suc (3 * k))) = omega arith in rw e
rows_take (suc k) (a ∷ b ∷ []) = let e : 3 * suc k ≡ suc (suc (suc (3 * k))) = omega arith in rw e
rows_take (suc k) (a ∷ b ∷ c ∷ u) =
    let e : 3 * suc k ≡ suc (suc (suc (3 * k))) = omega arith in
    rw e (ap (λ (l : List Row). (record { net = a; gateway = b; third = c }) ∷ l) (rows_take k u))

pub rows_length : (u : List ℕ) → length (rows_of u) ≡ length u / 3
unfolding rows_of
rows_length [] = refl
rows_length (a ∷ []) = refl
rows_length (a ∷ b ∷ []) = refl
rows_length (a ∷ b ∷ c ∷ u) = omega (arith, rows_length u)

-- the same as arrays of three numbers
pub rows_chunks : (n : ℕ) (u : List ℕ) → n ≡ length u / 3 → map row_at (first_chunks 3 n u) ≡ rows_of u
unfolding rows_of
rows_chunks zero [] e = refl
rows_chunks zero (a ∷ []) e = refl
rows_chunks zero (a ∷ b ∷ []) e = refl
rows_chunks zero (a ∷ b ∷ c ∷ u) e = absurd (omega arith)
rows_chunks (suc n) [] e = absurd (omega arith)
rows_chunks (suc n) (a ∷ []) e = absurd (omega arith)
rows_chunks (suc n) (a ∷ b ∷ []) e = absurd (omega arith)
rows_chunks (suc n) (a ∷ b ∷ c ∷ u) e = ap (λ (l : List Row). (record { net = a; gateway = b; third = c }) ∷ l) (rows_chunks n u (omega arith))

-- a test of every row that elements lend
pub every_lent : {A : Type 0} (test : Row → Bool) (row : A → Row) (xs : List A) → every test (map row xs) ≡ list_all (λ x. test (row x)) xs
unfolding every
every_lent test row [] = refl
every_lent test row (x ∷ xs) = ap (λ (b : Bool). test (row x) && b) (every_lent test row xs)
