-- The rows that octets say have third numbers up to 511: what check 2 of a listing asks. Assumes nothing.
use Prim.Native.Nat.{ℕ, zero, suc, ◌+◌, ◌≤◌, ◌<◌}
use native.Mathlib.Omega.{arith}
use mathlib.Core.Path.{◌≡◌, refl}
use mathlib.Core.Bool.{Bool, true, ◌&&◌}
use mathlib.Core.List.{List, [], ◌∷◌, ◌++◌}
use lib.Dec.{ltb, leb, eqb}
use lib.ListN.{length, drop, get_or}
use borrow.Author.Tests.{le-leb, ltb-true}
use Rattle.checks.specs.Lists.{every}
use Rattle.checks.proofs.Laws.{cond_elim, and_left, and_right, and_both}
use Rattle.nets.specs.Classes.{net_width, good_net}
use Rattle.nets.specs.Rows.{Row}
use Rattle.update_walk.proofs.Flat.{group_rows_lem, block_rows_lem, both_sides_lem}
use Rattle.update_walk.specs.Body.{Got, got, stop, and_then, after, many, row_of_width, net_row, group_rows, host_width, gateway_of, block_rows, both_sides, Walk, whole, broken, nothing_left, body_of, further, net_at, walked_blocks, read_within, update_of, rows_read}
use Rattle.gateway_state.proofs.ListLaws.{every_get_or}
use Rattle.listing_lines.specs.Listing.{marked_row}
use Rattle.model.specs.Theorem.{is_octet}

every_drop : {A : Type 0} (p : A → Bool) (k : ℕ) (l : List A) → every p l ≡ true → every p (drop k l) ≡ true
unfolding every
every_drop p zero l e = e
every_drop p (suc k) [] e = refl
every_drop p (suc k) (x ∷ xs) e = every_drop p k xs (and_right (p x) (every p xs) e)

every_append : {A : Type 0} (p : A → Bool) (xs ys : List A) → every p xs ≡ true → every p ys ≡ true → every p (xs ++ ys) ≡ true
unfolding every
every_append p [] ys e f = f
every_append p (x ∷ xs) ys e f =
    and_both (p x) (every p (xs ++ ys)) (and_left (p x) (every p xs) e) (every_append p xs ys (and_right (p x) (every p xs) e) f)

-- all rows marked, and octets after them
unfoldable Fine : Got (List Row) → Type 0
Fine (got rows rest) = (every marked_row rows ≡ true) × (every is_octet rest ≡ true)
Fine (stop left) = left ≡ left

abbrev Marks : (List ℕ → Got (List Row)) → Type 0
Marks f = (t : List ℕ) → every is_octet t ≡ true → Fine (f t)

module _ (f h : List ℕ → Got (List Row)) (mf : Marks f) (mh : Marks h) where
  in_turn : Marks (λ t. and_then (f t) (λ xs rest. after xs (h rest)))
  unfolding Fine
  in_turn t e = go (f t) (mf t e)
    where
      next : (xs : List Row) (r : Got (List Row)) → every marked_row xs ≡ true → Fine r → Fine (after xs r)
      next xs (got ys rest) m k = (every_append marked_row xs ys m k.0, k.1)
      next xs (stop left) m k = refl

      go : (r : Got (List Row)) → Fine r → Fine (and_then r (λ xs rest. after xs (h rest)))
      go (got xs rest) k = next xs (h rest) k.0 (mh rest k.1)
      go (stop left) k = refl

many_marks : (f : List ℕ → Got (List Row)) → Marks f → (n : ℕ) → Marks (many f n)
unfolding many Fine every
many_marks f m zero t e = (refl, e)
many_marks f m (suc n) t e = in_turn f (many f n) m (many_marks f m n) t e

module _ (gateway third : ℕ) (small : third ≤ 511) where
  row_marks : (width : ℕ) → Marks (row_of_width gateway third width)
  unfolding row_of_width Fine every marked_row
  row_marks width t e =
      cond_elim Fine (eqb width 0) _ _ (λ _. refl)
      (λ _. cond_elim Fine (ltb (length t) width) _ _ (λ _. refl) (λ _. (rw (le-leb third 511 small), every_drop is_octet width t e)))

  net_marks : Marks (net_row gateway third)
  unfolding net_row Fine
  net_marks t e = cond_elim Fine (eqb (length t) 0) _ _ (λ _. refl) (λ _. row_marks (net_width (get_or t 0 0)) t e)

-- 01: "distance plus 256 if external", the distance an octet
module _ (side : ℕ) (small : side ≤ 256) where
  group_marks : (gateway : ℕ) → Marks (group_rows side gateway)
  unfolding Fine
  group_marks gateway t e =
      let octet : get_or t 0 0 < 256 = ltb-true (get_or t 0 0) 256 (every_get_or is_octet t 0 0 e refl) in
      rw (group_rows_lem side gateway t) (cond_elim Fine (ltb (length t) 2) _ _ (λ _. refl)
      (λ _. many_marks (net_row gateway (side + get_or t 0 0)) (net_marks gateway (side + get_or t 0 0) (omega (arith, octet, small))) (get_or t 1 0) (drop 2 t) (every_drop is_octet 2 t e)))

  block_marks : (net : ℕ) → Marks (block_rows side net)
  unfolding Fine
  block_marks net t e =
      rw (block_rows_lem side net t) (cond_elim Fine (leb (length t) (host_width net)) _ _ (λ _. refl)
      (λ _. many_marks (group_rows side (gateway_of net t)) (group_marks (gateway_of net t)) (get_or t (host_width net) 0) (drop (host_width net + 1) t) (every_drop is_octet (host_width net + 1) t e)))

sides_marks : (net internal external : ℕ) → Marks (both_sides net internal external)
sides_marks net internal external t e =
    rw (both_sides_lem net internal external t) (in_turn (many (block_rows 0 net) internal) (many (block_rows 256 net) external)
    (many_marks (block_rows 0 net) (block_marks 0 (omega arith) net) internal) (many_marks (block_rows 256 net) (block_marks 256 (omega arith) net) external) t e)

-- the rows of a walk, and of an Update
unfoldable walk_rows : Walk → List Row
walk_rows (whole rows) = rows
walk_rows (broken offset) = []

left_marks : (size : ℕ) (r : Got (List Row)) → Fine r → every marked_row (walk_rows (nothing_left size r)) ≡ true
unfolding nothing_left walk_rows Fine every
left_marks size (got rows []) k = k.0
left_marks size (got rows (octet ∷ rest)) k = refl
left_marks size (stop left) k = refl

further_marks : (start : ℕ) (w : Walk) → every marked_row (walk_rows w) ≡ true → every marked_row (walk_rows (further start w)) ≡ true
unfolding further walk_rows
further_marks start (whole rows) k = k
further_marks start (broken offset) k = k

judged_marks : (room : ℕ) (w : Walk) → every marked_row (walk_rows w) ≡ true → every marked_row (rows_read (read_within room w)) ≡ true
unfolding read_within walk_rows rows_read every
judged_marks room (whole rows) k = cond_elim (λ u. every marked_row (rows_read u) ≡ true) (leb (length rows) room) _ _ (λ _. k) (λ _. refl)
judged_marks room (broken offset) k = refl

pub update_marks : (room net : ℕ) (o : List ℕ) → every is_octet o ≡ true → every marked_row (rows_read (update_of room net o)) ≡ true
unfolding update_of walked_blocks body_of walk_rows every
update_marks room net o e =
    judged_marks room (walked_blocks net o)
    (cond_elim (λ w. every marked_row (walk_rows w) ≡ true) (ltb (length o) 16) _ _ (λ _. refl)
    (λ _. cond_elim (λ w. every marked_row (walk_rows w) ≡ true) (good_net net && eqb (net_at o) net) _ _
    (λ _. further_marks 16 (body_of net (get_or o 10 0) (get_or o 11 0) (drop 16 o))
    (left_marks (length (drop 16 o)) (both_sides net (get_or o 10 0) (get_or o 11 0) (drop 16 o)) (sides_marks net (get_or o 10 0) (get_or o 11 0) (drop 16 o) (every_drop is_octet 16 o e))))
    (λ _. refl)))
