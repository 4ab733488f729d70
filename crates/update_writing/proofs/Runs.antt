-- Laws of runs of rows and of the two sides. Assumes nothing.
use Prim.Native.Nat.{ℕ, zero, suc, ◌+◌, ◌-◌, ◌*◌, ◌≤◌, ◌<◌}
use native.Mathlib.Nat.{mul-add}
use native.Mathlib.Omega.{arith}
use mathlib.Core.Bool.{Bool, true, false, cond}
use mathlib.Core.Path.{◌≡◌, refl, sym, ap, ◌∙◌}
use mathlib.Core.List.{List, [], ◌∷◌, ◌++◌}
use borrow.Author.Tests.{eqb-true, eq-eqb, ne_eqb, leb-true}
use lib.Dec.{eqb, leb}
use lib.ListN.{length, take, drop, length-append}
use Rattle.std.proofs.Common.{map}
use Rattle.std.proofs.lemmas.List.{map-append}
use Rattle.std.specs.List.{IsChunkByPrefix}
use Rattle.checks.proofs.Laws.{and_left, and_right}
use Rattle.checks.specs.Lists.{every}
use Rattle.nets.specs.Rows.{Row}
use Rattle.update_writing.specs.Blocks.{side_of, side_rows, joined, runs, each}
use Rattle.update_writing.specs.Writable.{ordered}
use Rattle.update_writing.specs.Steps.{agreeing, run_length}

module _ (key : Row → ℕ) where
  -- the first run, and the runs of the rows after it
  pub runs_front : (r : Row) (rs : List Row) → runs key (r ∷ rs) ≡ (r ∷ take (agreeing key (key r) rs) rs) ∷ runs key (drop (agreeing key (key r) rs) rs)
  unfolding runs joined agreeing
  runs_front r [] = refl
  runs_front r (s ∷ ss) = ap (joined key r) (runs_front s ss) ∙ go (eqb (key r) (key s)) refl (runs_front s ss)
    where
      go : (b : Bool) → eqb (key r) (key s) ≡ b
          → joined key s (runs key ss) ≡ (s ∷ take (agreeing key (key s) ss) ss) ∷ runs key (drop (agreeing key (key s) ss) ss)
          → cond (eqb (key r) (key s))
          ((r ∷ s ∷ take (agreeing key (key s) ss) ss) ∷ runs key (drop (agreeing key (key s) ss) ss))
          ((r ∷ []) ∷ (s ∷ take (agreeing key (key s) ss) ss) ∷ runs key (drop (agreeing key (key s) ss) ss))
          ≡ (r ∷ take (cond (eqb (key r) (key s)) (suc (agreeing key (key r) ss)) 0) (s ∷ ss))
          ∷ runs key (drop (cond (eqb (key r) (key s)) (suc (agreeing key (key r) ss)) 0) (s ∷ ss))
      go true e ih = rw e (ap (λ (k : ℕ). (r ∷ s ∷ take (agreeing key k ss) ss) ∷ runs key (drop (agreeing key k ss) ss)) (sym (eqb-true (key r) (key s) e)))
      go false e ih = rw e (ap (λ (l : List (List Row)). (r ∷ []) ∷ l) (sym ih))

  pub runs_turn : (rows : List Row) → 0 < length rows → runs key rows ≡ take (run_length key rows) rows ∷ runs key (drop (run_length key rows) rows)
  unfolding run_length
  runs_turn [] h = absurd (omega arith)
  runs_turn (r ∷ rs) h = runs_front r rs

  pub agreeing_within : (number : ℕ) (rows : List Row) → agreeing key number rows ≤ length rows
  unfolding agreeing
  agreeing_within number [] = omega arith
  agreeing_within number (r ∷ rs) = go (eqb number (key r)) (agreeing_within number rs)
    where
      go : (b : Bool) → agreeing key number rs ≤ length rs → cond b (suc (agreeing key number rs)) 0 ≤ suc (length rs)
      go true h = omega arith
      go false h = omega arith

  pub run_within : (rows : List Row) → run_length key rows ≤ length rows
  unfolding run_length
  run_within [] = omega arith
  run_within (r ∷ rs) = omega (arith, agreeing_within (key r) rs)

  pub run_some : (rows : List Row) → 0 < length rows → 0 < run_length key rows
  unfolding run_length
  run_some [] h = absurd (omega arith)
  run_some (r ∷ rs) h = omega arith

  -- a row with the key of the next one joins its run
  run_longer : (r s : Row) (run rest : List Row) → key r ≡ key s → runs key (s ∷ (run ++ rest)) ≡ (s ∷ run) ∷ runs key rest
      → runs key (r ∷ s ∷ (run ++ rest)) ≡ (r ∷ s ∷ run) ∷ runs key rest
  unfolding runs joined
  run_longer r s run rest e h = ap (joined key r) h ∙ rw (eq-eqb (key r) (key s) e)

  -- a row with another key than the next one is a run alone
  run_alone : (r s : Row) (rest : List Row) → eqb (key r) (key s) ≡ false → runs key (r ∷ s ∷ rest) ≡ (r ∷ []) ∷ runs key (s ∷ rest)
  unfolding runs joined
  run_alone r s rest e =
      let h = runs_front s rest in
      ap (joined key r) h ∙ rw e (ap (λ (l : List (List Row)). (r ∷ []) ∷ l) (sym h))

  -- rows that agree each with the next, and the last of them not with the row behind them, are the first run
  module _ {A : Type 0} (row : A → Row) where
    abbrev pub agree : A → A → Bool
    agree a b = eqb (key (row a)) (key (row b))

    pub first_run : (run rest : List A) → 0 < length run → IsChunkByPrefix agree (run ++ rest) (length run)
        → runs key (map row (run ++ rest)) ≡ map row run ∷ runs key (map row rest)
    unfolding runs joined
    first_run [] rest h p = absurd (omega arith)
    first_run (a ∷ []) [] h p = refl
    first_run (a ∷ []) (b ∷ rest) h p = run_alone (row a) (row b) (map row rest) (p.1 (omega arith) a)
    first_run (a ∷ b ∷ run) rest h p =
        let e : (k : ℕ) → suc k + 1 ≡ suc (k + 1) = λ k. omega arith in
        let f : suc (suc (length run)) - 1 ≡ suc (suc (length run) - 1) = omega arith in
        let q : IsChunkByPrefix agree ((b ∷ run) ++ rest) (length (b ∷ run)) = (
          λ k d l. rw (e k) at (p.0 (suc k) d (omega arith)),
          λ l d. rw f at (p.1 (omega arith) d),
        ) in
        rw (map-append row run rest)
        (run_longer (row a) (row b) (map row run) (map row rest) (eqb-true (key (row a)) (key (row b)) (p.0 0 a (omega arith)))
        (rw (map-append row run rest) at (first_run (b ∷ run) rest (omega arith) q)))

  -- the runs, one after the other, are the rows
  joined_whole : (r : Row) (gs : List (List Row)) → each (λ (run : List Row). run) (joined key r gs) ≡ r ∷ each (λ (run : List Row). run) gs
  unfolding joined each
  joined_whole r [] = refl
  joined_whole r ([] ∷ later) = refl
  joined_whole r ((s ∷ run) ∷ later) = go (eqb (key r) (key s))
    where
      go : (b : Bool) → each (λ (run : List Row). run) (cond b ((r ∷ s ∷ run) ∷ later) ((r ∷ []) ∷ (s ∷ run) ∷ later)) ≡ r ∷ s ∷ (run ++ each (λ (run : List Row). run) later)
      go true = refl
      go false = refl

  pub runs_whole : (rows : List Row) → each (λ (run : List Row). run) (runs key rows) ≡ rows
  unfolding runs each
  runs_whole [] = refl
  runs_whole (r ∷ rs) = joined_whole r (runs key rs) ∙ ap (λ (l : List Row). r ∷ l) (runs_whole rs)

  -- no more runs than rows
  joined_number : (r : Row) (gs : List (List Row)) → length (joined key r gs) ≤ suc (length gs)
  unfolding joined
  joined_number r [] = omega arith
  joined_number r ([] ∷ later) = omega arith
  joined_number r ((s ∷ run) ∷ later) = go (eqb (key r) (key s))
    where
      go : (b : Bool) → length (cond b ((r ∷ s ∷ run) ∷ later) ((r ∷ []) ∷ (s ∷ run) ∷ later)) ≤ suc (suc (length later))
      go true = omega arith
      go false = omega arith

  pub runs_number : (rows : List Row) → length (runs key rows) ≤ length rows
  unfolding runs
  runs_number [] = omega arith
  runs_number (r ∷ rs) = omega (arith, joined_number r (runs key rs), runs_number rs)

each_within : {A : Type 0} (give : List A → List ℕ) (most : ℕ) → ((run : List A) → length (give run) ≤ most * length run)
    → (gs : List (List A)) → length (each give gs) ≤ most * length (each (λ (run : List A). run) gs)
unfolding each
each_within give most h [] = omega arith
each_within give most h (g ∷ gs) =
    let p = each_within give most h gs in
    let q = h g in
    let a = length-append (give g) (each give gs) in
    let b = length-append g (each (λ run. run) gs) in
    let d : most * length (g ++ each (λ run. run) gs) ≡ most * length g + most * length (each (λ run. run) gs) = ap (λ (k : ℕ). most * k) b ∙ mul-add most (length g) (length (each (λ run. run) gs)) in
    omega arith

-- runs give no more octets than most a row
pub runs_octets : (key : Row → ℕ) (give : List Row → List ℕ) (most : ℕ) → ((run : List Row) → length (give run) ≤ most * length run)
    → (rows : List Row) → length (each give (runs key rows)) ≤ most * length rows
runs_octets key give most h rows = rw (runs_whole key rows) at (each_within give most h (runs key rows))

-- the rows of the two sides are no more than there are
pub sides_within : (rows : List Row) → length (side_rows 0 rows) + length (side_rows 1 rows) ≤ length rows
unfolding side_rows
sides_within [] = omega arith
sides_within (r ∷ rs) = go (side_of r) (sides_within rs)
  where
    go : (side : ℕ) → length (side_rows 0 rs) + length (side_rows 1 rs) ≤ length rs
        → length (cond (eqb side 0) (r ∷ side_rows 0 rs) (side_rows 0 rs)) + length (cond (eqb side 1) (r ∷ side_rows 1 rs) (side_rows 1 rs)) ≤ suc (length rs)
    go zero h = omega arith
    go (suc zero) h = omega arith
    go (suc (suc n)) h = rw (ne_eqb (suc (suc n)) 0 (λ e. absurd (omega arith)), ne_eqb (suc (suc n)) 1 (λ e. absurd (omega arith))) (omega arith)

-- no third number above 511
abbrev pub thirds_fit : List Row → Bool
thirds_fit rows = every (λ row. leb row.third 511) rows

-- rows in the order of the sides are those of the internal side and then those of the external one
external_only : (rows : List Row) → thirds_fit rows ≡ true → ordered 1 rows ≡ true → (side_rows 0 rows ≡ []) × (side_rows 1 rows ≡ rows)
unfolding side_rows every ordered
external_only [] f o = (refl, refl)
external_only (r ∷ rs) f o =
    let a = leb-true r.third 511 (and_left (leb r.third 511) (thirds_fit rs) f) in
    let b = leb-true 1 (side_of r) (and_left (leb 1 (side_of r)) (ordered (side_of r) rs) o) in
    let s : side_of r ≡ 1 = omega arith in
    let p = external_only rs (and_right (leb r.third 511) (thirds_fit rs) f) (rw s at (and_right (leb 1 (side_of r)) (ordered (side_of r) rs) o)) in
    (rw s p.0, rw s (ap (λ (l : List Row). r ∷ l) p.1))

pub sides_whole : (rows : List Row) → thirds_fit rows ≡ true → ordered 0 rows ≡ true → side_rows 0 rows ++ side_rows 1 rows ≡ rows
unfolding side_rows every ordered
sides_whole [] f o = refl
sides_whole (r ∷ rs) f o =
    let a = leb-true r.third 511 (and_left (leb r.third 511) (thirds_fit rs) f) in
    let g = and_right (leb r.third 511) (thirds_fit rs) f in
    let q = and_right (leb 0 (side_of r)) (ordered (side_of r) rs) o in
    go (side_of r) refl (omega arith) (λ (o' : ordered 0 rs ≡ true). sides_whole rs g o') (λ (o' : ordered 1 rs ≡ true). external_only rs g o') q
  where
    go : (side : ℕ) → side_of r ≡ side → side ≤ 1
        → (ordered 0 rs ≡ true → side_rows 0 rs ++ side_rows 1 rs ≡ rs)
        → (ordered 1 rs ≡ true → (side_rows 0 rs ≡ []) × (side_rows 1 rs ≡ rs))
        → ordered side rs ≡ true
        → cond (eqb side 0) (r ∷ side_rows 0 rs) (side_rows 0 rs) ++ cond (eqb side 1) (r ∷ side_rows 1 rs) (side_rows 1 rs) ≡ r ∷ rs
    go zero e h whole only q = ap (λ (l : List Row). r ∷ l) (whole q)
    go (suc zero) e h whole only q = rw (only q).0 (ap (λ (l : List Row). r ∷ l) (only q).1)
    go (suc (suc n)) e h whole only q = absurd (omega arith)
