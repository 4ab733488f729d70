-- Laws of rows in order: where the external ones begin. Assumes nothing.
use Rattle.std.proofs.Common.{ℕ, zero, suc, ◌+◌, ◌-◌, ◌≤◌, ◌<◌, ◌≡◌, refl, sym, ap, Bool, true, false, ltb, leb, ◌&&◌, List, [], ◌∷◌, ◌++◌, length, map, get_or, take, drop, arith, take_at, drop_at, length-append, length-drop, length-take-le, ◌*◌}
use borrow.Author.Tests.{lt-ltb, ltb-true, ltb-false, leb-true, ne_eqb}
use Rattle.std.proofs.lemmas.List.{take-map, drop-map}
use Rattle.std.proofs.lemmas.List.{length-map}
use Rattle.std.proofs.lemmas.List.Sorted.{IsPartitionPoint-from_clause}
use Rattle.std.specs.Fn.{Called, ComputesKey}
use denote.Param.Members.{Mut}
use denote.Ref.{Bor}
use Rattle.std.specs.List.Sorted.{IsPartitionedBy, IsPartitionPoint}
use Rattle.checks.proofs.Laws.{and_left, and_right}
use Rattle.nets.specs.Rows.{Row}
use Rattle.nets.specs.Classes.{good_net}
use Rattle.checks.specs.Lists.{every}
use Rattle.update_writing.specs.Blocks.{side_of, side_rows, side_octets, blocks_written}
use Rattle.update_writing.specs.Writable.{ordered, writable_row, writable_rows}
use Rattle.update_writing.proofs.Claims.{rows_most, writable_sides, short}
use Rattle.update_writing.proofs.Runs.{sides_within}

-- the two parts of a list
parts : (s t u : List Row) (n : ℕ) → s ++ t ≡ u → length s ≡ n → (take n u ≡ s) × (drop n u ≡ t)
parts s t u n e f = rw (← e, ← f) (take_at s t (length s) refl, drop_at s t (length s) refl)

module _ {A : Type 0} (row : A → Row) where
  abbrev pub side : A → ℕ
  side a = side_of (row a)

  -- where the external rows begin
  abbrev pub internal : A → Bool
  internal a = ltb (row a).third 256

  lowest : (s : ℕ) (xs : List A) → ordered s (map row xs) ≡ true → (j : ℕ) (d : A) → j < length xs → s ≤ side (get_or xs j d)
  unfolding ordered
  lowest s [] o j d h = absurd (omega arith)
  lowest s (a ∷ xs) o zero d h = leb-true s (side a) (and_left (leb s (side a)) (ordered (side a) (map row xs)) o)
  lowest s (a ∷ xs) o (suc j) d h =
      let p = leb-true s (side a) (and_left (leb s (side a)) (ordered (side a) (map row xs)) o) in
      omega (arith, p, lowest (side a) xs (and_right (leb s (side a)) (ordered (side a) (map row xs)) o) j d (omega arith))

  partitioned : (s : ℕ) (xs : List A) → ordered s (map row xs) ≡ true → IsPartitionedBy internal xs
  unfolding ordered
  partitioned s [] o i j d l h p = absurd (omega arith)
  partitioned s (a ∷ xs) o zero zero d l h p = p
  partitioned s (a ∷ xs) o zero (suc j) d l h p =
      let q = lowest (side a) xs (and_right (leb s (side a)) (ordered (side a) (map row xs)) o) j d (omega arith) in
      lt-ltb (row a).third 256 (omega (arith, ltb-true (row (get_or xs j d)).third 256 p))
  partitioned s (a ∷ xs) o (suc i) zero d l h p = absurd (omega arith)
  partitioned s (a ∷ xs) o (suc i) (suc j) d l h p = partitioned (side a) xs (and_right (leb s (side a)) (ordered (side a) (map row xs)) o) i j d (omega arith) (omega arith) p

  internal_number : (n : ℕ) (xs : List A) → n ≤ length xs → IsPartitionPoint (λ y. internal y ≡ true) (λ y. internal y ≡ false) xs n → length (side_rows 0 (map row xs)) ≡ n
  unfolding side_rows
  internal_number zero [] h p = refl
  internal_number (suc n) [] h p = absurd (omega arith)
  internal_number zero (a ∷ xs) h p =
      let q = ltb-false (row a).third 256 (p.1 0 a (omega arith) (omega arith)) in
      rw (ne_eqb (side a) 0 (λ e. absurd (omega arith))) (internal_number zero xs (omega arith) (λ k d l m. absurd (omega arith), λ k d l m. p.1 (suc k) d (omega arith) (omega arith)))
  internal_number (suc n) (a ∷ xs) h p =
      let q = ltb-true (row a).third 256 (p.0 0 a (omega arith) (omega arith)) in
      let e : side a ≡ 0 = omega arith in
      rw e (ap suc (internal_number n xs (omega arith) (λ k d l m. p.0 (suc k) d (omega arith) (omega arith), λ k d l m. p.1 (suc k) d (omega arith) (omega arith))))

  -- internal_rows: none; all, where the last is internal; those that the search finds
  pub internal_none : (xs : List A) → length xs ≤ 0 → 0 ≡ length (side_rows 0 (map row xs))
  unfolding side_rows
  internal_none [] h = refl
  internal_none (a ∷ xs) h = absurd (omega arith)

  pub internal_all : (xs : List A) (last : A) → ordered 0 (map row xs) ≡ true → 0 < length xs → ((d : A) → last ≡ get_or xs (length xs - 1) d) → (row last).third < 256
      → length xs ≡ length (side_rows 0 (map row xs))
  internal_all xs last o h e p =
      let q : (d : A) → internal (get_or xs (length xs - 1) d) ≡ true = λ d. rw (e d) at (lt-ltb (row last).third 256 p) in
      sym (internal_number (length xs) xs (omega arith) (λ k d l m. partitioned 0 xs o k (length xs - 1) d (omega arith) (omega arith) (q d), λ k d l m. absurd (omega arith)))

  pub internal_found : {F : Type 0} {g : Mut F (Bor A × Unit {0}) Bool} {f : F} (xs : List A) (n : ℕ) → ordered 0 (map row xs) ≡ true → n ≤ length xs
      → ((q : A → Bool) → ComputesKey g q f → IsPartitionedBy q xs → IsPartitionPoint (λ y. q y ≡ true) (λ y. q y ≡ false) xs n)
      → ((a : Bor A × Unit {0}) (r : Bool) (f' : F) → Called g f a r f' → (r ≡ internal a.0.now) × (f' ≡ f)) → n ≡ length (side_rows 0 (map row xs))
  internal_found xs n o h clause calls = sym (internal_number n xs h (IsPartitionPoint-from_clause internal xs n clause (partitioned 0 xs o) calls))

  pub rows_ordered : (net : ℕ) (xs : List A) → writable_rows net (map row xs) ≡ true → ordered 0 (map row xs) ≡ true
  unfolding writable_rows
  rows_ordered net xs w = and_right (leb (length (map row xs)) 128 && every (writable_row net) (map row xs)) (ordered 0 (map row xs)) w

  -- write_blocks: the rows of the two sides
  pub record Sides (net : ℕ) (xs front back : List A) : Type 0 where
    pub first : map row front ≡ side_rows 0 (map row xs)
    pub second : map row back ≡ side_rows 1 (map row xs)
    pub whole : length front + length back ≡ length xs
    pub most : length xs ≤ 128
    pub room : length (side_octets net (map row front)) + length (side_octets net (map row back)) ≤ 9 * length xs

  pub sides : (net : ℕ) (xs front back : List A) (n : ℕ) → good_net net ≡ true → writable_rows net (map row xs) ≡ true → n ≡ length (side_rows 0 (map row xs))
      → front ≡ take n xs → back ≡ drop n xs → Sides net xs front back
  unfolding blocks_written
  sides net xs front back n good w e x y =
      let rows = map row xs in
      let h : n ≤ length xs = omega (arith, e, sides_within rows, length-map xs row) in
      let q = parts (side_rows 0 rows) (side_rows 1 rows) rows n (writable_sides net rows w) (sym e) in
      let a : map row front ≡ side_rows 0 rows = rw (x, ← take-map row n xs) q.0 in
      let b : map row back ≡ side_rows 1 rows = rw (y, ← drop-map row n xs) q.1 in
      record {
        first = a;
        second = b;
        whole = rw (x, y) (omega (arith, length-take-le n xs h, length-drop n xs, h));
        most = omega (arith, rows_most net rows w, length-map xs row);
        room = rw (a, b) (omega (arith, short.blocks net good rows, length-map xs row, length-append (side_octets net (side_rows 0 rows)) (side_octets net (side_rows 1 rows))));
      }
