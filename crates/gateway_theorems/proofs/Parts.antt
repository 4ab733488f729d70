-- The parts of the table, and rows read and written through their place. Assumes nothing.
use Prim.Native.Nat.{ℕ, ◌+◌, ◌*◌, ◌-◌, ◌≤◌, ◌<◌}
use native.Mathlib.Omega.{arith}
use mathlib.Core.Path.{◌≡◌, refl, sym, ◌∙◌, ap}
use mathlib.Core.Bool.{Bool, true, false}
use mathlib.Core.List.{List, [], ◌∷◌, ◌++◌, append_assoc}
use lib.Dec.{ltb}
use lib.ListN.{length, take, drop, length-append, length-drop, take-append-drop}
use lib.Seq.{get_or-set_same, get_or-set_other, length-take-le, take_at, drop_at, take-append-le, drop-append-le, drop-append-add, drop-drop}
use borrow.Author.Tests.{ltb-true, ltb-false}
use Rattle.nets.specs.Rows.{Row, flat, rows_of}
use Rattle.update_rows.specs.Storing.{padded}
use Rattle.update_rows.proofs.Laws.{flat_length, padded_length}
use Rattle.gateway_state.specs.Places.{part_at, with_part, read_rows, write_rows}
use Rattle.gateway_theorems.specs.Claims.{PartLaws, PlaceLaws}

-- a part that stands whole in the first of two lists
front_part : (p q : List ℕ) (j : ℕ) → j * 384 + 384 ≤ length p → take 384 (drop (j * 384) (p ++ q)) ≡ take 384 (drop (j * 384) p)
front_part p q j h =
    let a : j * 384 ≤ length p = omega arith in
    let b : 384 ≤ length (drop (j * 384) p) = simp length-drop (omega arith) in
    rw (drop-append-le (j * 384) p q a, take-append-le 384 (drop (j * 384) p) q b)

-- what stands behind the first of two lists
back_drop : (p q : List ℕ) (k : ℕ) → length p ≤ k → drop k (p ++ q) ≡ drop (k - length p) q
back_drop p q k h =
    let e : k ≡ length p + (k - length p) = omega arith in
    ap (λ (m : ℕ). drop m (p ++ q)) e ∙ drop-append-add p q (k - length p)

module _ (table part : List ℕ) (i : ℕ) (long : length table ≡ 3072) (whole : length part ≡ 384) (below : i < 8) where
  head_long : length (take (i * 384) table) ≡ i * 384
  head_long = length-take-le (i * 384) table (omega arith)

  lower : (j : ℕ) → j < i → part_at (with_part table i part) j ≡ part_at table j
  unfolding part_at with_part
  lower j h =
      let n = head_long in
      let b : j * 384 + 384 ≤ length (take (i * 384) table) = omega arith in
      front_part (take (i * 384) table) _ j b
      ∙ sym (front_part (take (i * 384) table) (drop (i * 384) table) j b)
      ∙ ap (λ (l : List ℕ). take 384 (drop (j * 384) l)) (take-append-drop (i * 384) table)

  higher : (j : ℕ) → i < j → part_at (with_part table i part) j ≡ part_at table j
  unfolding part_at with_part
  higher j h =
      let n = head_long in
      let d = drop (i * 384 + 384) table in
      let k : length (take (i * 384) table ++ part) ≡ i * 384 + 384 = length-append (take (i * 384) table) part ∙ omega arith in
      let e : i * 384 + 384 + (j * 384 - length (take (i * 384) table ++ part)) ≡ j * 384 = omega arith in
      ap (λ (l : List ℕ). take 384 (drop (j * 384) l)) (sym (append_assoc (take (i * 384) table) part d))
      ∙ ap (take 384) (back_drop (take (i * 384) table ++ part) d (j * 384) (omega arith))
      ∙ ap (take 384) (drop-drop (j * 384 - length (take (i * 384) table ++ part)) (i * 384 + 384) table)
      ∙ ap (λ (m : ℕ). take 384 (drop m table)) e

  own : part_at (with_part table i part) i ≡ part
  unfolding part_at with_part
  own =
      ap (take 384) (drop_at (take (i * 384) table) (part ++ drop (i * 384 + 384) table) (i * 384) head_long)
      ∙ take_at part (drop (i * 384 + 384) table) 384 whole

  size : length (with_part table i part) ≡ length table
  unfolding with_part
  size =
      let n = head_long in
      simp (length-append, length-drop) (omega arith)

  other : (j : ℕ) → (j ≡ i → ⊥) → part_at (with_part table i part) j ≡ part_at table j
  other j n = go (ltb j i) refl (ltb i j) refl
    where
      go : (a : Bool) → ltb j i ≡ a → (b : Bool) → ltb i j ≡ b → part_at (with_part table i part) j ≡ part_at table j
      go true e b f = lower j (ltb-true j i e)
      go false e true f = higher j (ltb-true i j f)
      go false e false f = absurd (n (omega (arith, ltb-false j i e, ltb-false i j f)))

  pub part_laws : PartLaws table part i
  part_laws = record { same = own; others = other; long = size }

-- ---- rows

rows_flat : (rows : List Row) → rows_of (flat rows) ≡ rows
unfolding rows_of flat
rows_flat [] = refl
rows_flat (row ∷ rest) = ap (λ (l : List Row). row ∷ l) (rows_flat rest)

padded_rows : (rows : List Row) → rows_of (take (3 * length rows) (padded 384 (flat rows))) ≡ rows
unfolding padded
padded_rows rows = rw (take_at (flat rows) _ (3 * length rows) (flat_length rows)) (rows_flat rows)

module _ (table counts : List ℕ) (i : ℕ) (rows : List Row) (long : length table ≡ 3072) (eight : length counts ≡ 8) (few : length rows ≤ 128) (below : i < 8) where
  parts : PartLaws table (padded 384 (flat rows)) i
  parts = part_laws table (padded 384 (flat rows)) i long (padded_length 384 (flat rows) (omega (arith, flat_length rows, few))) below

  pub place_laws : PlaceLaws table counts i rows
  unfolding read_rows write_rows
  place_laws =
      record {
        same = rw (get_or-set_same counts i (length rows) 0 (omega (arith, eight, below)), parts.same) (padded_rows rows);
        others = λ j n. rw (get_or-set_other counts i j (length rows) 0 n, parts.others j n);
      }
