-- Laws of the model's look-up and of the parts that make a table. Assumes nothing.
use Prim.Native.Nat.{ℕ, zero, suc, ◌+◌, ◌*◌, ◌<◌}
use native.Mathlib.Nat.{le_of_suc-le-suc, not-suc-le-zero}
use native.Mathlib.Omega.{arith}
use mathlib.Core.Path.{◌≡◌, refl, ◌∙◌, ap}
use mathlib.Core.Bool.{Bool, true, cond}
use mathlib.Core.List.{List, [], ◌∷◌, ◌++◌, map, append_assoc}
use lib.Dec.{eqb}
use lib.ListN.{length, get_or, set, length-append}
use lib.Seq.{take_at, drop_at, take-append-add, drop-append-add}
use borrow.Author.Tests.{eqb-true}
use Rattle.checks.proofs.Laws.{and_left, and_right}
use Rattle.checks.specs.Lists.{first, every, join}
use Rattle.gateway_state.specs.Places.{part_at, with_part}
use Rattle.model.specs.Model.{Slot}

-- the model's search is the gateway's, through what a slot is shown as
pub first_map : (p : ℕ → Bool) (q : Slot → Bool) (f : Slot → ℕ) (r : Slot → Bool) → ((x : Slot) → r x ≡ true → p (f x) ≡ q x)
    → (l : List Slot) → every r l ≡ true → first p (map f l) ≡ first q l
unfolding first every
first_map p q f r h [] e = refl
first_map p q f r h (x ∷ xs) e =
    rw (h x (and_left (r x) (every r xs) e))
    (ap (λ (k : ℕ). cond (q x) 0 (suc k)) (first_map p q f r h xs (and_right (r x) (every r xs) e)))

pub map_map : {A B C : Type 0} (f : A → B) (h : B → C) (l : List A) → map h (map f l) ≡ map (λ x. h (f x)) l
map_map f h [] = refl
map_map {C = C} f h (x ∷ xs) = ap (λ (r : List C). h (f x) ∷ r) (map_map f h xs)

-- 384 numbers
abbrev pub is_part : List ℕ → Bool
is_part l = eqb (length l) 384

pub join_length : (l : List (List ℕ)) → every is_part l ≡ true → length (join l) ≡ length l * 384
unfolding join every
join_length [] e = refl
join_length (x ∷ xs) e =
    length-append x (join xs)
    ∙ omega (arith, eqb-true (length x) 384 (and_left (is_part x) (every is_part xs) e), join_length xs (and_right (is_part x) (every is_part xs) e))

pub join_put : (l : List (List ℕ)) (i : ℕ) (new : List ℕ) → every is_part l ≡ true → i < length l → with_part (join l) i new ≡ join (set l i new)
unfolding join every with_part
join_put [] i new e h = absurd (not-suc-le-zero h)
join_put (x ∷ xs) zero new e h =
    let k : length x ≡ 384 = eqb-true (length x) 384 (and_left (is_part x) (every is_part xs) e) in
    ap (λ (r : List ℕ). new ++ r) (drop_at x (join xs) 384 k)
join_put (x ∷ xs) (suc i) new e h =
    let k : length x ≡ 384 = eqb-true (length x) 384 (and_left (is_part x) (every is_part xs) e) in
    let a : suc i * 384 ≡ length x + i * 384 = omega (arith) in
    let b : suc i * 384 + 384 ≡ length x + (i * 384 + 384) = omega (arith) in
    rw (b, a, take-append-add, drop-append-add, append_assoc)
    (ap (λ (r : List ℕ). x ++ r) (join_put xs i new (and_right (is_part x) (every is_part xs) e) (le_of_suc-le-suc h)))

pub join_part : (l : List (List ℕ)) (i : ℕ) (d : List ℕ) → every is_part l ≡ true → i < length l → part_at (join l) i ≡ get_or l i d
unfolding join every part_at
join_part [] i d e h = absurd (not-suc-le-zero h)
join_part (x ∷ xs) zero d e h =
    take_at x (join xs) 384 (eqb-true (length x) 384 (and_left (is_part x) (every is_part xs) e))
join_part (x ∷ xs) (suc i) d e h =
    let k : length x ≡ 384 = eqb-true (length x) 384 (and_left (is_part x) (every is_part xs) e) in
    let a : suc i * 384 ≡ length x + i * 384 = omega (arith) in
    rw (a, drop-append-add) (join_part xs i d (and_right (is_part x) (every is_part xs) e) (le_of_suc-le-suc h))
