-- The turns of the walk's loops: what is left to skip, and how far that comes. Assumes nothing.
use Prim.Native.Nat.{ℕ, suc, ◌+◌, ◌-◌, ◌≤◌, ◌<◌}
use native.Mathlib.Nat.{add-zero}
use native.Mathlib.Omega.{arith}
use borrow.Author.Tests.{leb-true, leb-false, lt-ltb, le-ltb, le-leb, lt-leb, eq-eqb, ne_eqb}
use mathlib.Core.Path.{◌≡◌, refl, sym, ap, ◌∙◌}
use mathlib.Core.Bool.{Bool, true, false}
use mathlib.Core.List.{List, [], ◌∷◌, ◌++◌, append_assoc}
use lib.Dec.{leb, eqb}
use lib.ListN.{length, take, drop, get_or, length-append, length-drop, drop_of_length-le}
use lib.Seq.{get_or-drop, drop-drop}
use Rattle.std.specs.Prelude.{Result, Ok, Err}
use Rattle.checks.proofs.Laws.{part_from_lem}
use Rattle.nets.specs.Classes.{net_width, good_net}
use Rattle.nets.specs.Rows.{Row}
use Rattle.update_walk.specs.Body.{Got, got, stop, and_then, after, many, left_justified, row_of_width, net_row, group_rows, host_width, gateway_of, block_rows, both_sides, nothing_left, body_of, further, net_at, walked_blocks, read_within, update_of, big_endian, walked_of}
use Rattle.update_walk.specs.Walked.{Skipped, Within, taken, group_end, group_nets}
use Rattle.update_walk.specs.declared.Past.{Past}
use Rattle.update_walk.specs.declared.Stop.{Stop}
use Rattle.update_walk.specs.declared.BodyError.TheVariants.{Broken, TooMany}
use Rattle.update_walk.proofs.Flat.{group_rows_lem, block_rows_lem, both_sides_lem}
use Rattle.update_walk.proofs.Laws.{Sound, Sounds, front_fits, many_next, many_stop, many_none, many_sound, net_sound, block_sound, sides_sound}

-- what a reading was, from what was skipped of it
pub record Passed (g : Got (List Row)) (past : Past) : Type 0 where
  pub items : List Row
  pub is : g ≡ got items past.rest.now
  pub count : past.rows ≡ length items

pub passed : (g : Got (List Row)) (past : Past) → Skipped g (Ok past) → Passed g past
passed (got xs rest) past s = record { items = xs; is = ap (got xs) (sym s.1); count = s.0 }
passed (stop left) past s = absurd s

pub stopped : (g : Got (List Row)) (at : Stop) → Skipped g (Err at) → g ≡ stop at.left
stopped (got xs rest) at s = absurd s
stopped (stop left) at s = ap stop (sym s)

pub skipped_past : (g : Got (List Row)) (items : List Row) (past : Past) → g ≡ got items past.rest.now → past.rows ≡ length items → Skipped g (Ok past)
skipped_past g items past e n = rw e (n, refl)

pub skipped_stop : (g : Got (List Row)) (at : Stop) → g ≡ stop at.left → Skipped g (Err at)
skipped_stop g at e = rw e refl

pub within : (f : List ℕ → Got (List Row)) → Sounds f → (u : List ℕ) (r : Result Past Stop) → Skipped (f u) r → Within u r
within f s u (Ok past) h =
    let p = passed (f u) past h in
    omega (arith, p.count, front_fits (rw p.is at (s u)))
within f s u (Err at) h = tt

after_none : (g : Got (List Row)) → g ≡ after [] g
after_none (got ys t) = refl
after_none (stop left) = refl

after_more : (xs ys : List Row) (g : Got (List Row)) → after xs (after ys g) ≡ after (xs ++ ys) g
after_more xs ys (got zs t) = ap (λ (l : List Row). got l t) (sym (append_assoc xs ys zs))
after_more xs ys (stop left) = refl

-- the goal is so many rows, and then what the rest gives, f read k times from u
pub record Skipping (goal : Got (List Row)) (rows : ℕ) (f : List ℕ → Got (List Row)) (k : ℕ) (u : List ℕ) : Type 0 where
  pub items : List Row
  pub count : rows ≡ length items
  pub same : goal ≡ after items (many f k u)

pub start : (f : List ℕ → Got (List Row)) (k : ℕ) (u : List ℕ) → Skipping (many f k u) 0 f k u
start f k u = record { items = []; count = refl; same = after_none (many f k u) }

module _ {goal : Got (List Row)} {rows : ℕ} {f : List ℕ → Got (List Row)} {k : ℕ} {u : List ℕ} (inv : Skipping goal rows f k u) where
  pub turn_got : (xs : List Row) (rest : List ℕ) (more j : ℕ) → f u ≡ got xs rest → more ≡ length xs → k ≡ j + 1 → Skipping goal (rows + more) f j rest
  turn_got xs rest more j e n h =
      let d : k - 1 ≡ j = omega arith in
      record {
        items = inv.items ++ xs;
        count = omega (arith, inv.count, length-append inv.items xs);
        same =
            inv.same ∙ ap (after inv.items) (many_next f k u xs rest (omega arith) e ∙ ap (λ (i : ℕ). after xs (many f i rest)) d)
            ∙ after_more inv.items xs (many f j rest);
      }

  pub turn_past : (past : Past) (j : ℕ) → Skipped (f u) (Ok past) → k ≡ j + 1 → Skipping goal (rows + past.rows) f j past.rest.now
  turn_past past j s h =
      let p = passed (f u) past s in
      turn_got p.items past.rest.now past.rows j p.is p.count h

  pub goal_stops : (left : ℕ) → 0 < k → f u ≡ stop left → goal ≡ stop left
  goal_stops left h e = inv.same ∙ ap (after inv.items) (many_stop f k u left h e)

  pub turn_stop : (at : Stop) → 0 < k → Skipped (f u) (Err at) → Skipped goal (Err at)
  turn_stop at h s = skipped_stop goal at (goal_stops at.left h (stopped (f u) at s))

  pub turns_done : (past : Past) → k ≤ 0 → past.rows ≡ rows → past.rest.now ≡ u → Skipped goal (Ok past)
  turns_done past h n e =
      skipped_past goal (inv.items ++ []) past (inv.same ∙ ap (after inv.items) (many_none f k u h) ∙ ap (got (inv.items ++ [])) (sym e))
      (omega (arith, n, inv.count, length-append inv.items []))

-- what a net that was read says of the octets
module _ (gateway third : ℕ) (t : List ℕ) where
  abbrev pub row_at : ℕ → Row
  row_at w = record { net = left_justified w t; gateway = gateway; third = third }

  pub record Stepped (w : ℕ) : Type 0 where
    pub is : net_row gateway third t ≡ got (row_at w ∷ []) (drop w t)
    pub some : 0 < w
    pub fits : w ≤ length t

-- the net at octet i, by its width
module _ (gateway third : ℕ) (t : List ℕ) (i : ℕ) (h : i < length t) where
  wide : net_width (get_or (drop i t) 0 0) ≡ net_width (get_or t i 0)
  wide = ap net_width (get_or-drop i t 0 0 ∙ ap (λ (n : ℕ). get_or t n 0) (add-zero i))

  there : eqb (length (drop i t)) 0 ≡ false
  there = ne_eqb (length (drop i t)) 0 (λ z. omega (arith, length-drop i t))

  net_none : 0 ≡ net_width (get_or t i 0) → net_row gateway third (drop i t) ≡ stop (length t - i)
  unfolding net_row row_of_width
  net_none e = rw (there, wide, ← e) (ap (λ (n : ℕ). stop n) (length-drop i t))

  module _ (w : ℕ) (e : w ≡ net_width (get_or t i 0)) (p : 0 < w) where
    net_short : length t < i + w → net_row gateway third (drop i t) ≡ stop 0
    unfolding net_row row_of_width
    net_short b = rw (there, wide, ← e, ne_eqb w 0 (λ z. omega arith), lt-ltb (length (drop i t)) w (omega (arith, length-drop i t)))

    net_whole : i + w ≤ length t → net_row gateway third (drop i t) ≡ got (row_at gateway third (drop i t) w ∷ []) (drop (i + w) t)
    unfolding net_row row_of_width
    net_whole b =
        rw (there, wide, ← e, ne_eqb w 0 (λ z. omega arith), le-ltb (length (drop i t)) w (omega (arith, length-drop i t)))
        (ap (got (row_at gateway third (drop i t) w ∷ [])) (drop-drop w i t))

-- the goal is so many nets, and then what the rest gives, k nets from octet i on; octet i may lie beyond the end, and
-- then the goal is settled
pub record Passing (goal : Got (List Row)) (rows : ℕ) (f : List ℕ → Got (List Row)) (k : ℕ) (t : List ℕ) (i : ℕ) : Type 0 where
  pub inside : i ≤ length t → Skipping goal rows f k (drop i t)
  pub beyond : length t < i → goal ≡ stop 0

pub passing : (f : List ℕ → Got (List Row)) (k : ℕ) (t : List ℕ) → Passing (many f k t) 0 f k t 0
passing f k t = record { inside = λ b. start f k t; beyond = λ b. absurd (omega arith) }

module _ (gateway third : ℕ) {goal : Got (List Row)} {rows k : ℕ} {t : List ℕ} {i : ℕ} (inv : Passing goal rows (net_row gateway third) k t i) where
  pub pass_beyond : length t < i → (at : Stop) → at.left ≡ 0 → Skipped goal (Err at)
  pass_beyond b at e = skipped_stop goal at (inv.beyond b ∙ ap stop (sym e))

  module _ (some : 0 < k) where
    stops : (left : ℕ) → i ≤ length t → net_row gateway third (drop i t) ≡ stop left → goal ≡ stop left
    stops left b e = goal_stops (inv.inside b) left some e

    nothing : length t ≤ i → net_row gateway third (drop i t) ≡ stop 0
    unfolding net_row
    nothing b = rw (drop_of_length-le t b)

    pub pass_end : length t ≤ i → (at : Stop) → at.left ≡ 0 → Skipped goal (Err at)
    pass_end b at z = skipped_stop goal at (go (leb i (length t)) refl ∙ ap stop (sym z))
      where
        go : (x : Bool) → leb i (length t) ≡ x → goal ≡ stop 0
        go true e = stops 0 (leb-true i (length t) e) (nothing b)
        go false e = inv.beyond (leb-false i (length t) e)

    module _ (h : i < length t) where
      pub pass_none : 0 ≡ net_width (get_or t i 0) → (at : Stop) → at.left ≡ length t - i → Skipped goal (Err at)
      pass_none e at z = skipped_stop goal at (stops (length t - i) (omega arith) (net_none gateway third t i h e) ∙ ap stop (sym z))

      pub pass_net : (w : ℕ) → w ≡ net_width (get_or t i 0) → 0 < w → (j : ℕ) → k ≡ j + 1 → Passing goal (rows + 1) (net_row gateway third) j t (i + w)
      pass_net w e p j d =
          record {
            inside =
                λ b.
                turn_got (inv.inside (omega arith)) (row_at gateway third (drop i t) w ∷ []) (drop (i + w) t) 1 j (net_whole gateway third t i h w e p b) refl d;
            beyond = λ b. stops 0 (omega arith) (net_short gateway third t i h w e p b);
          }

  pub pass_done : k ≤ 0 → i ≤ length t → (past : Past) → past.rows ≡ rows → past.rest.now ≡ drop i t → Skipped goal (Ok past)
  pass_done z b past n e = turns_done (inv.inside b) past z n e

-- one group and its nets, and one block, from what the walk of their parts came to
module _ (t : List ℕ) where
  pub group_short : length t < 2 → (at : Stop) → at.left ≡ 0 → (side gateway : ℕ) → Skipped (group_rows side gateway t) (Err at)
  group_short h at z side gateway = skipped_stop (group_rows side gateway t) at (group_rows_lem side gateway t ∙ rw (lt-ltb (length t) 2 h, z))

  module _ (h : 2 ≤ length t) where
    group_is : (side gateway : ℕ) → group_rows side gateway t ≡ many (net_row gateway (side + get_or t 0 0)) (get_or t 1 0) (drop 2 t)
    group_is side gateway = group_rows_lem side gateway t ∙ rw (le-ltb (length t) 2 h)

    pub group_skips : (r : Result Past Stop) → ((gateway third : ℕ) → Skipped (many (net_row gateway third) (get_or t 1 0) (take (length t - 2) (drop 2 t))) r)
        → (side gateway : ℕ) → Skipped (group_rows side gateway t) r
    group_skips r e side gateway = rw (group_is side gateway) (rw (part_from_lem 2 t) at (e gateway (side + get_or t 0 0)))

    module _ (past : Past) (e : (gateway third : ℕ) → Skipped (many (net_row gateway third) (get_or t 1 0) (take (length t - 2) (drop 2 t))) (Ok past)) where
      pub nets_bound : length past.rest.now ≤ length (take (length t - 2) (drop 2 t))
      nets_bound =
          let f = many (net_row 0 0) (get_or t 1 0) in
          let w = within f (many_sound (net_row 0 0) (net_sound 0 0) (get_or t 1 0)) (take (length t - 2) (drop 2 t)) (Ok past) (e 0 0) in
          omega (arith, w)

      pub nets_is : take (length (take (length t - 2) (drop 2 t)) - length past.rest.now) (take (length t - 2) (drop 2 t)) ≡ group_nets t
      unfolding group_nets group_end taken
      nets_is =
          let p = passed (group_rows 0 0 t) past (group_skips (Ok past) e 0 0) in
          let n : length (drop 2 t) - length past.rest.now ≡ length t - length past.rest.now - 2 = omega (arith, length-drop 2 t) in
          rw (part_from_lem 2 t, p.is) (ap (λ (k : ℕ). take k (drop 2 t)) n)

  module _ (net host : ℕ) (w : host ≡ host_width net) where
    pub block_short : length t ≤ host → (at : Stop) → at.left ≡ 0 → (side : ℕ) → Skipped (block_rows side net t) (Err at)
    block_short h at z side = skipped_stop (block_rows side net t) at (block_rows_lem side net t ∙ rw (← w, le-leb (length t) host h, z))

    pub block_skips : (r : Result Past Stop) → host < length t
        → ((side gateway : ℕ) → Skipped (many (group_rows side gateway) (get_or t host 0) (take (length t - (host + 1)) (drop (host + 1) t))) r)
        → (side : ℕ) → Skipped (block_rows side net t) r
    block_skips r h e side = rw (block_rows_lem side net t, ← w, lt-leb (length t) host h) (rw (part_from_lem (host + 1) t) at (e side (gateway_of net t)))

-- both sides
module _ (net internal external : ℕ) (t : List ℕ) where
  pub sides_stop : (at : Stop) → Skipped (many (block_rows 0 net) internal t) (Err at) → Skipped (both_sides net internal external t) (Err at)
  sides_stop at s = skipped_stop _ at (both_sides_lem net internal external t ∙ rw (stopped (many (block_rows 0 net) internal t) at s))

  module _ (inside : Past) (s : Skipped (many (block_rows 0 net) internal t) (Ok inside)) where
    sides_is : both_sides net internal external t ≡ after (passed (many (block_rows 0 net) internal t) inside s).items (many (block_rows 256 net) external inside.rest.now)
    sides_is =
        both_sides_lem net internal external t
        ∙ ap (λ (g : Got (List Row)). and_then g (λ xs rest. after xs (many (block_rows 256 net) external rest))) (passed (many (block_rows 0 net) internal t) inside s).is

    pub sides_stop_2 : (at : Stop) → Skipped (many (block_rows 256 net) external inside.rest.now) (Err at) → Skipped (both_sides net internal external t) (Err at)
    sides_stop_2 at v = skipped_stop _ at (sides_is ∙ rw (stopped (many (block_rows 256 net) external inside.rest.now) at v))

    module _ (outside : Past) (v : Skipped (many (block_rows 256 net) external inside.rest.now) (Ok outside)) where
      pub sides_sum : inside.rows + outside.rows ≤ length t
      sides_sum =
          let w = within (many (block_rows 0 net) internal) (many_sound (block_rows 0 net) (block_sound 0 net) internal) t (Ok inside) s in
          let x = within (many (block_rows 256 net) external) (many_sound (block_rows 256 net) (block_sound 256 net) external) inside.rest.now (Ok outside) v in
          omega (arith, w, x)

      pub sides_past : (past : Past) → past.rows ≡ inside.rows + outside.rows → past.rest.now ≡ outside.rest.now → Skipped (both_sides net internal external t) (Ok past)
      sides_past past n e =
          let p = passed (many (block_rows 0 net) internal t) inside s in
          let q = passed (many (block_rows 256 net) external inside.rest.now) outside v in
          skipped_past _ (p.items ++ q.items) past (sides_is ∙ ap (after p.items) q.is ∙ ap (got (p.items ++ q.items)) (sym e))
          (omega (arith, n, p.count, q.count, length-append p.items q.items))

-- the whole message, from what the walk of its blocks came to
module _ (room net : ℕ) (message : List ℕ) where
  pub walk_short : length message < 16 → Err (Broken (length message)) ≡ walked_of (update_of room net message)
  unfolding update_of walked_blocks read_within
  walk_short h = rw (lt-ltb (length message) 16 h)

  module _ (h : 16 ≤ length message) where
    pub walk_classless : false ≡ good_net net → Err (Broken 12) ≡ walked_of (update_of room net message)
    unfolding update_of walked_blocks read_within
    walk_classless g = rw (le-ltb (length message) 16 h, ← g)

    module _ (g : true ≡ good_net net) (said : ℕ) (e : said ≡ big_endian (take 4 (drop 12 message))) where
      pub walk_other : (said ≡ net → ⊥) → Err (Broken 12) ≡ walked_of (update_of room net message)
      unfolding update_of walked_blocks read_within net_at
      walk_other n = rw (le-ltb (length message) 16 h, ← g, ← e, ne_eqb said net n)

      module _ (n : said ≡ net) where
        abbrev blocks : Got (List Row)
        blocks = both_sides net (get_or message 10 0) (get_or message 11 0) (drop 16 message)

        blocks_read : update_of room net message ≡ read_within room (further 16 (nothing_left (length (drop 16 message)) blocks))
        unfolding update_of walked_blocks body_of net_at
        blocks_read = rw (le-ltb (length message) 16 h, ← g, eq-eqb (big_endian (take 4 (drop 12 message))) net (sym e ∙ n))

        told : (y : Got (List Row)) → blocks ≡ y → walked_of (read_within room (further 16 (nothing_left (length (drop 16 message)) y))) ≡ walked_of (update_of room net message)
        told y k = sym (ap walked_of (blocks_read ∙ ap (λ (x : Got (List Row)). read_within room (further 16 (nothing_left (length (drop 16 message)) x))) k))

        bound : Sound (both_sides net (get_or message 10 0) (get_or message 11 0)) (drop 16 message) blocks
        bound = sides_sound net (get_or message 10 0) (get_or message 11 0) (drop 16 message)

        module _ (at : Stop) (s : Skipped (both_sides net (get_or message 10 0) (get_or message 11 0) (take (length message - 16) (drop 16 message))) (Err at)) where
          stop_is : blocks ≡ stop at.left
          stop_is = stopped blocks at (rw (part_from_lem 16 message) at s)

          pub stop_bound : at.left ≤ length message
          stop_bound = let w = rw stop_is at bound in omega (arith, w, length-drop 16 message)

          pub walk_stops : Err (Broken (length message - at.left)) ≡ walked_of (update_of room net message)
          unfolding read_within further nothing_left
          walk_stops =
              let w = rw stop_is at bound in
              let k : length message - at.left ≡ length (drop 16 message) - at.left + 16 = omega (arith, w, length-drop 16 message) in
              ap (λ (i : ℕ). Err (Broken i)) k ∙ told (stop at.left) stop_is

        module _ (past : Past) (s : Skipped (both_sides net (get_or message 10 0) (get_or message 11 0) (take (length message - 16) (drop 16 message))) (Ok past)) where
          read : Passed blocks past
          read = passed blocks past (rw (part_from_lem 16 message) at s)

          pub rest_bound : length past.rest.now ≤ length message
          rest_bound = let w = rw read.is at bound in omega (arith, front_fits w, length-drop 16 message)

          pub walk_left : (length past.rest.now ≡ 0 → ⊥) → Err (Broken (length message - length past.rest.now)) ≡ walked_of (update_of room net message)
          unfolding read_within further nothing_left
          walk_left z = go past.rest.now refl z
            where
              go : (r : List ℕ) → past.rest.now ≡ r → (length r ≡ 0 → ⊥) → Err (Broken (length message - length past.rest.now)) ≡ walked_of (update_of room net message)
              go [] q z = absurd (z refl)
              go (o ∷ r) q z =
                  let w = rw read.is at bound in
                  let k : length message - length past.rest.now ≡ length (drop 16 message) - suc (length r) + 16 = omega (arith, front_fits w, length-drop 16 message, ap length q) in
                  ap (λ (i : ℕ). Err (Broken i)) k ∙ told (got read.items (o ∷ r)) (read.is ∙ ap (got read.items) q)

          module _ (z : length past.rest.now ≡ 0) where
            whole_is : blocks ≡ got read.items []
            whole_is = read.is ∙ ap (got read.items) (go past.rest.now z)
              where
                go : (r : List ℕ) → length r ≡ 0 → r ≡ []
                go [] q = refl
                go (o ∷ r) q = absurd (omega arith)

            pub walk_rows : past.rows ≤ room → Ok past.rows ≡ walked_of (update_of room net message)
            unfolding read_within further nothing_left
            walk_rows b = ap Ok read.count ∙ rw (le-leb (length read.items) room (omega (arith, read.count))) at (told (got read.items []) whole_is)

            pub walk_many : room < past.rows → Err TooMany ≡ walked_of (update_of room net message)
            unfolding read_within further nothing_left
            walk_many b = rw (lt-leb (length read.items) room (omega (arith, read.count))) at (told (got read.items []) whole_is)
