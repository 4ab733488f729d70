-- Laws of a home list: its numbers as rows, and that an Update can carry a good one. Assumes nothing.
use Prim.Native.Nat.{ℕ, ◌/◌, ◌%◌, ◌≤◌, ◌<◌}
use native.Mathlib.Omega.{arith}
use borrow.Author.Tests.{eqb-true, leb-true, leb-false, le-leb, lt-leb}
use mathlib.Core.Path.{◌≡◌, refl, sym, ◌∙◌}
use mathlib.Core.Bool.{Bool, true, false}
use mathlib.Core.List.{List, [], ◌∷◌}
use lib.Dec.{eqb, leb}
use lib.ListN.{length, get_or}
use Rattle.std.proofs.Common.{map}
use Rattle.checks.specs.Lists.{every}
use Rattle.checks.proofs.Laws.{and_left, and_right}
use Rattle.nets.specs.Classes.{good_net, on_net}
use Rattle.nets.specs.Rows.{Row, rows_of}
use Rattle.neighbour.specs.declared.Settings.{Settings}
use Rattle.update_writing.specs.Blocks.{side_of}
use Rattle.update_writing.specs.Writable.{ordered, writable_row, writable_rows, writable_numbers}
use Rattle.update_writing.proofs.Lists.{rows_length}
use Rattle.gateway_rules.specs.Home.{home_row, own_first, good_home}
use Rattle.gateway_home.specs.Rows.{good_rows}

-- ---- the first gateway

module _ {A : Type 0} (row : A → Row) (own : ℕ) where
  pub own_none : (rows : List A) → length rows < 1 → true ≡ own_first own (map row rows)
  unfolding own_first
  own_none [] h = refl
  own_none (a ∷ rows) h = absurd (omega arith)

  pub own_tested : (d : A) (rows : List A) → 1 ≤ length rows → eqb (row (get_or rows 0 d)).gateway own ≡ own_first own (map row rows)
  unfolding own_first
  own_tested d [] h = absurd (omega arith)
  own_tested d (a ∷ rows) h = refl

-- ---- numbers as rows

most_rows : (n : ℕ) → n % 3 ≡ 0 → leb n 384 ≡ leb (n / 3) 128
most_rows n e = go (leb n 384) refl
  where
    go : (b : Bool) → leb n 384 ≡ b → leb n 384 ≡ leb (n / 3) 128
    go true h = h ∙ sym (le-leb (n / 3) 128 (omega (arith, leb-true n 384 h)))
    go false h = h ∙ sym (lt-leb (n / 3) 128 (omega (arith, leb-false n 384 h)))

pub whole_home : (g : Settings) (home : List ℕ) → length home % 3 ≡ 0 → good_home g home ≡ good_rows g (rows_of home)
unfolding good_home
whole_home g home e = rw (e, rows_length home, most_rows (length home) e)

pub ragged_home : (g : Settings) (home : List ℕ) → eqb (length home % 3) 0 ≡ false → good_home g home ≡ false
unfolding good_home
ragged_home g home e = rw e

-- ---- an Update can carry a good home list

row_writable : (net : ℕ) (row : Row) → home_row net row ≡ true → (writable_row net row ≡ true) × (side_of row ≡ 0)
unfolding home_row writable_row
row_writable net row e =
    let a : good_net row.net ≡ true = search (and_left, and_right) in
    let b : on_net net row.gateway ≡ true = search (and_left, and_right) in
    let c : row.third ≤ 255 = leb-true _ _ (search (and_left, and_right)) in
    (rw (a, b, le-leb row.third 511 (omega arith)), omega arith)

rows_writable : (net : ℕ) (rows : List Row) → every (home_row net) rows ≡ true → (every (writable_row net) rows ≡ true) × (ordered 0 rows ≡ true)
unfolding every ordered
rows_writable net [] e = (refl, refl)
rows_writable net (row ∷ rest) e =
    let a = row_writable net row (and_left (home_row net row) (every (home_row net) rest) e) in
    let b = rows_writable net rest (and_right (home_row net row) (every (home_row net) rest) e) in
    (rw a.0 b.0, rw a.1 b.1)

pub home_writable : (g : Settings) (home : List ℕ) → good_home g home ≡ true → writable_numbers g.net home ≡ true
unfolding good_home writable_numbers writable_rows
home_writable g home e =
    let a : length home % 3 ≡ 0 = eqb-true _ _ (search (and_left, and_right)) in
    let b : length home ≤ 384 = leb-true _ _ (search (and_left, and_right)) in
    let c : every (home_row g.net) (rows_of home) ≡ true = search (and_left, and_right) in
    let d = rows_writable g.net (rows_of home) c in
    rw (a, le-leb (length (rows_of home)) 128 (rw (rows_length home) (omega arith)), d.0, d.1)

pub none_writable : (net : ℕ) → writable_numbers net [] ≡ true
unfolding writable_numbers writable_rows rows_of every ordered
none_writable net = refl
