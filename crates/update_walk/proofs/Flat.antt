-- What the flattening of the structured reading comes to: rows read one after the other. Assumes nothing.
use Prim.Native.Nat.{ℕ, zero, suc, ◌+◌}
use mathlib.Core.Path.{◌≡◌, refl, sym, ap, ◌∙◌}
use mathlib.Core.Bool.{Bool, true, false, cond}
use mathlib.Core.List.{List, [], ◌∷◌, ◌++◌, map, append_assoc, append-nil}
use lib.Dec.{ltb, leb}
use lib.ListN.{length, drop, get_or}
use Rattle.checks.specs.Lists.{join}
use Rattle.nets.specs.Rows.{Row}
use Rattle.update_walk.specs.Body.{Got, got, stop, and_then, after, many, net_row, Group, Block, group_at, host_width, gateway_of, block_at, sides_at, groups_hold, blocks_hold, sides_hold, read_as, group_rows, block_rows, both_sides}

join_append : {X : Type 0} (give : X → List Row) (xs ys : List X) → join (map give (xs ++ ys)) ≡ join (map give xs) ++ join (map give ys)
unfolding join
join_append give [] ys = refl
join_append give (x ∷ xs) ys = ap (λ (l : List Row). give x ++ l) (join_append give xs ys) ∙ sym (append_assoc (give x) (join (map give xs)) (join (map give ys)))

module _ {X : Type 0} (give : X → List Row) (hold : List X → List Row) (is : (xs : List X) → hold xs ≡ join (map give xs)) where
  hold_append : (xs ys : List X) → hold (xs ++ ys) ≡ hold xs ++ hold ys
  hold_append xs ys = rw (is (xs ++ ys), is xs, is ys) (join_append give xs ys)

  hold_after : (ys : List X) (r : Got (List X)) → read_as hold (after ys r) ≡ after (hold ys) (read_as hold r)
  unfolding read_as
  hold_after ys (got zs t) = ap (λ (l : List Row). got l t) (hold_append ys zs)
  hold_after ys (stop left) = refl

  hold_then : (g : List ℕ → Got (List X)) (f : List ℕ → Got (List Row)) → ((t : List ℕ) → read_as hold (g t) ≡ f t) → (r : Got (List X))
      → read_as hold (and_then r (λ ys rest. after ys (g rest))) ≡ and_then (read_as hold r) (λ xs rest. after xs (f rest))
  unfolding read_as
  hold_then g f e (got ys rest) = hold_after ys (g rest) ∙ ap (after (hold ys)) (e rest)
  hold_then g f e (stop left) = refl

  -- the flattening of many readings is as many flattened ones
  pub many_as : (g : List ℕ → Got (List X)) (f : List ℕ → Got (List Row)) → ((t : List ℕ) → read_as hold (g t) ≡ f t)
      → (n : ℕ) (t : List ℕ) → read_as hold (many g n t) ≡ many f n t
  unfolding many read_as join
  many_as g f e zero t = ap (λ (l : List Row). got l t) (is [])
  many_as g f e (suc n) t =
      hold_then (many g n) (many f n) (many_as g f e n) (g t) ∙ ap (λ (r : Got (List Row)). and_then r (λ xs rest. after xs (many f n rest))) (e t)

module _ (side : ℕ) where
  pub group_rows_lem : (gateway : ℕ) (t : List ℕ) → group_rows side gateway t ≡ cond (ltb (length t) 2) (stop 0) (many (net_row gateway (side + get_or t 0 0)) (get_or t 1 0) (drop 2 t))
  unfolding group_rows group_at read_as groups_hold join
  group_rows_lem gateway t = go (ltb (length t) 2) (many (net_row gateway (side + get_or t 0 0)) (get_or t 1 0) (drop 2 t))
    where
      go : (b : Bool) (g : Got (List Row)) → read_as groups_hold (cond b (stop 0) (and_then g (λ rows rest. got (record { third = side + get_or t 0 0; rows = rows } ∷ []) rest))) ≡ cond b (stop 0) g
      go true g = refl
      go false (got rows rest) = ap (λ (l : List Row). got l rest) (append-nil rows)
      go false (stop left) = refl

  groups_rows : (gateway n : ℕ) (t : List ℕ) → read_as groups_hold (many (group_at side gateway) n t) ≡ many (group_rows side gateway) n t
  unfolding group_rows groups_hold
  groups_rows gateway n t = many_as (λ (group : Group). group.rows) groups_hold (λ groups. refl) (group_at side gateway) (group_rows side gateway) (λ u. refl) n t

  pub block_rows_lem : (net : ℕ) (t : List ℕ)
      → block_rows side net t ≡ cond (leb (length t) (host_width net)) (stop 0) (many (group_rows side (gateway_of net t)) (get_or t (host_width net) 0) (drop (host_width net + 1) t))
  unfolding block_rows block_at read_as blocks_hold join
  block_rows_lem net t =
      go (leb (length t) (host_width net)) (many (group_at side (gateway_of net t)) (get_or t (host_width net) 0) (drop (host_width net + 1) t))
      ∙ ap (cond (leb (length t) (host_width net)) (stop 0)) (groups_rows (gateway_of net t) (get_or t (host_width net) 0) (drop (host_width net + 1) t))
    where
      go : (b : Bool) (g : Got (List Group)) → read_as blocks_hold (cond b (stop 0) (and_then g (λ groups rest. got (record { gateway = gateway_of net t; groups = groups } ∷ []) rest)))
          ≡ cond b (stop 0) (read_as groups_hold g)
      go true g = refl
      go false (got groups rest) = ap (λ (l : List Row). got l rest) (append-nil (groups_hold groups))
      go false (stop left) = refl

  pub blocks_rows : (net n : ℕ) (t : List ℕ) → read_as blocks_hold (many (block_at side net) n t) ≡ many (block_rows side net) n t
  unfolding block_rows blocks_hold
  blocks_rows net n t = many_as (λ (block : Block). groups_hold block.groups) blocks_hold (λ blocks. refl) (block_at side net) (block_rows side net) (λ u. refl) n t

pub both_sides_lem : (net internal external : ℕ) (t : List ℕ)
    → both_sides net internal external t ≡ and_then (many (block_rows 0 net) internal t) (λ xs rest. after xs (many (block_rows 256 net) external rest))
unfolding both_sides sides_at sides_hold read_as
both_sides_lem net internal external t =
    inner (many (block_at 0 net) internal t) ∙ ap (λ (g : Got (List Row)). and_then g (λ xs rest. after xs (many (block_rows 256 net) external rest))) (blocks_rows 0 net internal t)
  where
    outer : (inside : List Block) (g : Got (List Block)) → read_as sides_hold (and_then g (λ outside last. got (record { inside = inside; outside = outside }) last)) ≡ after (blocks_hold inside) (read_as blocks_hold g)
    outer inside (got outside last) = refl
    outer inside (stop left) = refl

    inner : (g : Got (List Block))
        → read_as sides_hold (and_then g (λ inside rest. and_then (many (block_at 256 net) external rest) (λ outside last. got (record { inside = inside; outside = outside }) last)))
        ≡ and_then (read_as blocks_hold g) (λ xs rest. after xs (many (block_rows 256 net) external rest))
    inner (got inside rest) = outer inside (many (block_at 256 net) external rest) ∙ ap (after (blocks_hold inside)) (blocks_rows 256 net external rest)
    inner (stop left) = refl
