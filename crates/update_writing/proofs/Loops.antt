-- What the writer's loops keep, over the rows that elements lend. Assumes nothing.
use Rattle.std.proofs.Common.{ℕ, suc, ◌+◌, ◌-◌, ◌/◌, ◌%◌, ◌≤◌, ◌<◌, ◌≡◌, refl, sym, ap, ◌∙◌, Bool, true, false, eqb, ◌&&◌, List, [], ◌∷◌, ◌++◌, length, map, get_or, take, drop, set, add-one, arith, length-append, length-drop, length-take-le, drop-cons, drop_of_length-le, drop_at, take_all}
use borrow.Author.Tests.{eqb-true, eqb-false, eq-eqb, ne_eqb, le-leb, lt-leb}
use Rattle.std.proofs.lemmas.List.{length-map, drop-map}
use Rattle.std.specs.List.{IsChunkByPrefix}
use Rattle.std.specs.Fn.{Called, ComputesOnPairs}
use Rattle.std.proofs.lemmas.Fn.{always_returns_same}
use denote.Param.Members.{Mut}
use denote.Ref.{Bor}
use lib.Seq.{sets}
use Rattle.octets.specs.Written.{Written}
use Rattle.octets.proofs.Storing.{written_append, Writing, start, room, turn, done}
use Rattle.checks.specs.Lists.{every}
use Rattle.nets.specs.Rows.{Row}
use Rattle.update_writing.specs.Blocks.{runs, distance_runs, each, net_octets, host_octets, nets_octets, group_octets, groups_octets, block_octets}
use Rattle.update_writing.specs.Writable.{good_row, writable_row, ordered}
use Rattle.update_writing.specs.Steps.{agreeing, run_length}
use Rattle.update_writing.proofs.Lists.{and_false, set_before}
use Rattle.update_writing.proofs.Runs.{agree, first_run, runs_turn, agreeing_within, run_within, run_some, runs_number}

-- are_writable: what is left to test after a row of this side
abbrev pub allowed : ℕ → ℕ → List Row → Bool
allowed net side rows = every (writable_row net) rows && ordered side rows

-- write_block: whether rows are left
pub some_left : (n : ℕ) (b : Bool) → b ≡ eqb n 0 → b ≡ false → 0 < n
some_left n b e f = let z = eqb-false n 0 (sym e ∙ f) in omega arith

pub none_left : (n : ℕ) (b : Bool) → b ≡ eqb n 0 → b ≡ true → n ≡ 0
none_left n b e t = eqb-true n 0 (sym e ∙ t)

module _ {A : Type 0} (row : A → Row) where
  -- write_nets: how many rows at the front have this third number, and these rows
  abbrev pub agreed : ℕ → List A → ℕ
  agreed third rows = agreeing (λ r. r.third) third (map row rows)

  abbrev pub front : ℕ → List A → List Row
  front third rows = take (agreed third rows) (map row rows)

  -- a row behind those that were passed, as a loop over rows reads it
  module _ (rows : List A) (i : ℕ) (x : A) (s : x ≡ get_or rows i x) (h : i < length rows) where
    next_row : map row (drop i rows) ≡ row x ∷ map row (drop (i + 1) rows)
    next_row = rw (drop-cons rows i x h, ← s, add-one)

    -- are_writable: what is left to test after a row of this side
    module _ (net side : ℕ) where
      pub bad_row : good_row net 511 (row x) ≡ false → allowed net side (map row (drop i rows)) ≡ false
      unfolding every writable_row
      bad_row e = rw (next_row, e)

      module _ (e : good_row net 511 (row x) ≡ true) where
        pub bad_side : (row x).third / 256 < side → allowed net side (map row (drop i rows)) ≡ false
        unfolding every ordered
        bad_side q = rw (next_row, lt-leb side ((row x).third / 256) q) (and_false (every (writable_row net) (row x ∷ map row (drop (i + 1) rows))))

        pub good_side : side ≤ (row x).third / 256 → allowed net side (map row (drop i rows)) ≡ allowed net ((row x).third / 256) (map row (drop (i + 1) rows))
        unfolding every ordered writable_row
        good_side q = rw (next_row, e, le-leb side ((row x).third / 256) q)

    -- write_nets: whether it is of the run
    module _ (third : ℕ) where
      same_distance : (row x).third ≡ third → agreed third (drop i rows) ≡ suc (agreed third (drop (i + 1) rows)) × (front third (drop i rows) ≡ row x ∷ front third (drop (i + 1) rows))
      unfolding agreeing
      same_distance e = let q : eqb third (row x).third ≡ true = eq-eqb third (row x).third (sym e) in (rw (next_row, q), rw (next_row, q))

      other_distance : ((row x).third ≡ third → ⊥) → agreed third (drop i rows) ≡ 0 × (front third (drop i rows) ≡ [])
      unfolding agreeing
      other_distance e = let q : eqb third (row x).third ≡ false = ne_eqb third (row x).third (λ p. e (sym p)) in (rw (next_row, q), rw (next_row, q))

  pub no_row : (net side : ℕ) (rows : List A) (i : ℕ) → length rows ≤ i → allowed net side (map row (drop i rows)) ≡ true
  unfolding every ordered
  no_row net side rows i h = rw (drop_of_length-le rows h)

  no_distance : (third : ℕ) (rows : List A) (i : ℕ) → length rows ≤ i → agreed third (drop i rows) ≡ 0 × (front third (drop i rows) ≡ [])
  unfolding agreeing
  no_distance third rows i h = (rw (drop_of_length-le rows h), rw (drop_of_length-le rows h))

  -- write_nets: the nets of the first rows are written, and the rows counted
  pub record Nets (third : ℕ) (rows : List A) (at : ℕ) (old : List ℕ) (i end count : ℕ) (out : List ℕ) : Type 0 where
    pub writing : Writing (nets_octets (front third rows)) at old (nets_octets (front third (drop i rows))) end out
    pub counted : agreed third rows ≡ count + agreed third (drop i rows)
    pub passed : count ≡ i

  pub nets_start : (third : ℕ) (rows : List A) (at : ℕ) (old : List ℕ) → at + length (nets_octets (front third rows)) ≤ length old → Nets third rows at old 0 at 0 old
  nets_start third rows at old h = record { writing = start (nets_octets (front third rows)) at old h; counted = omega arith; passed = refl }

  module _ {third : ℕ} {rows : List A} {at : ℕ} {old : List ℕ} {i end count : ℕ} {out : List ℕ} (w : Nets third rows at old i end count out) where
    nets_end : agreed third (drop i rows) ≡ 0 × (front third (drop i rows) ≡ []) → Written (nets_octets (front third rows)) at old out end × (count ≡ agreed third rows)
    unfolding nets_octets each
    nets_end e = (done w.writing (rw e.1), omega (arith, w.counted, e.0))

    pub nets_done : length rows ≤ i → Written (nets_octets (front third rows)) at old out end × (count ≡ agreed third rows)
    nets_done h = nets_end (no_distance third rows i h)

    module _ (x : A) (s : x ≡ get_or rows i x) (h : i < length rows) where
      pub nets_stop : ((row x).third ≡ third → ⊥) → Written (nets_octets (front third rows)) at old out end × (count ≡ agreed third rows)
      nets_stop e = nets_end (other_distance rows i x s h third e)

      module _ (e : (row x).third ≡ third) where
        nets_split : nets_octets (front third (drop i rows)) ≡ net_octets (row x).net ++ nets_octets (front third (drop (i + 1) rows))
        unfolding nets_octets each
        nets_split = rw (same_distance rows i x s h third e).1

        pub nets_room : end + length (net_octets (row x).net) ≤ length out
        nets_room = room w.writing (net_octets (row x).net) (nets_octets (front third (drop (i + 1) rows))) nets_split

        pub nets_turn : {new : List ℕ} {next : ℕ} → Written (net_octets (row x).net) end out new next → Nets third rows at old (i + 1) next (count + 1) new
        nets_turn p = record {
          writing = turn w.writing (net_octets (row x).net) (nets_octets (front third (drop (i + 1) rows))) nets_split p;
          counted = omega (arith, w.counted, (same_distance rows i x s h third e).0);
          passed = omega (arith, w.passed);
        }

  -- write_group: distance, number of nets, nets; the number stored last
  module _ (d : A) (rows : List A) (h : 0 < length rows) where
    abbrev first_third : ℕ
    first_third = (row (get_or rows 0 d)).third

    pub run_agrees : run_length (λ r. r.third) (map row rows) ≡ agreed first_third rows
    unfolding run_length agreeing
    run_agrees = go rows h
      where
        go : (l : List A) → 0 < length l → run_length (λ r. r.third) (map row l) ≡ agreeing (λ r. r.third) (row (get_or l 0 d)).third (map row l)
        go [] h = absurd (omega arith)
        go (a ∷ l) h = rw (eq-eqb (row a).third (row a).third refl)

    group_front : group_octets (take (run_length (λ r. r.third) (map row rows)) (map row rows)) ≡ first_third % 256 ∷ run_length (λ r. r.third) (map row rows) ∷ nets_octets (front first_third rows)
    unfolding group_octets run_length agreeing
    group_front = go rows h
      where
        go : (l : List A) → 0 < length l
            → group_octets (take (run_length (λ r. r.third) (map row l)) (map row l))
            ≡ (row (get_or l 0 d)).third % 256 ∷ run_length (λ r. r.third) (map row l) ∷ nets_octets (take (agreeing (λ r. r.third) (row (get_or l 0 d)).third (map row l)) (map row l))
        go [] h = absurd (omega arith)
        go (a ∷ l) h =
            rw (eq-eqb (row a).third (row a).third refl, length-take-le (agreeing (λ r. r.third) (row a).third (map row l)) (map row l) (agreeing_within (λ r. r.third) (row a).third (map row l)))

    pub group_size : length (group_octets (take (run_length (λ r. r.third) (map row rows)) (map row rows))) ≡ 2 + length (nets_octets (front first_third rows))
    group_size = rw group_front (omega arith)

    pub group_most : run_length (λ r. r.third) (map row rows) ≤ length rows
    group_most = omega (arith, run_within (λ r. r.third) (map row rows), length-map rows row)

    pub group_written : (at : ℕ) (old mid : List ℕ) (end count : ℕ) → Written (nets_octets (front first_third rows)) (at + 2) (set old at (first_third % 256)) mid end → count ≡ agreed first_third rows
        → Written (group_octets (take (run_length (λ r. r.third) (map row rows)) (map row rows))) at old (set mid (at + 1) count) end
    group_written at old mid end count w k =
        let e : at + 2 ≡ suc (suc at) = omega arith in
        let n : count ≡ run_length (λ r. r.third) (map row rows) = k ∙ sym run_agrees in
        rw (group_front, ← n)
        (record {
          list =
              ap (λ (l : List ℕ). set l (at + 1) count) w.list
              ∙ set_before (nets_octets (front first_third rows)) (set old at (first_third % 256)) (at + 1) (at + 2) count (omega arith)
              ∙ rw (add-one at, e);
          after = omega (arith, w.after);
        })

  -- the run at the front of rest, and what comes after it
  pub record Next (key : Row → ℕ) (rest run later : List A) : Type 0 where
    pub split : rest ≡ run ++ later
    pub some : 0 < length run
    pub prefix : IsChunkByPrefix (agree key row) rest (length run)

  -- as `chunk_by` gives it
  pub next_run : {F : Type 0} {g : Mut F (Bor A × (Bor A × Unit {0})) Bool} {f f' : F} {start run later : List A} (key : Row → ℕ) {rest : List A}
      → start ≡ rest → (start ≡ run ++ later) × (0 < length run) × ((e : A → A → Bool) → ComputesOnPairs g e f → ComputesOnPairs g e f' × IsChunkByPrefix e start (length run))
      → ((a : Bor A × (Bor A × Unit {0})) (r : Bool) (h : F) → Called g f a r h → (r ≡ agree key row a.0.now a.1.0.now) × (h ≡ f)) → Next key rest run later
  next_run {g = g} {f} {start = start} {run} {later} key {rest} e steps calls =
      let p = (steps.2 (agree key row) (always_returns_same g (λ a r. r ≡ agree key row a.0.now a.1.0.now) f calls)).1 in
      let n : Next key start run later = record { split = steps.0; some = steps.1; prefix = p } in
      rw e at n

  -- the loops over runs: what is left to write and to count, when rest is left of all
  pub record Grouping (key : Row → ℕ) (give : List Row → List ℕ) (all : List A) (at : ℕ) (old : List ℕ) (rest : List A) (end count : ℕ) (out : List ℕ) : Type 0 where
    pub writing : Writing (each give (runs key (map row all))) at old (each give (runs key (map row rest))) end out
    pub counted : length (runs key (map row all)) ≡ count + length (runs key (map row rest))
    pub within : length rest ≤ length all

  pub runs_start : (key : Row → ℕ) (give : List Row → List ℕ) (all : List A) (at : ℕ) (old : List ℕ)
      → at + length (each give (runs key (map row all))) ≤ length old → Grouping key give all at old all at 0 old
  runs_start key give all at old h =
      record { writing = start (each give (runs key (map row all))) at old h; counted = omega arith; within = omega arith }

  module _ {key : Row → ℕ} {give : List Row → List ℕ} {all : List A} {at : ℕ} {old : List ℕ} {rest : List A} {end count : ℕ} {out : List ℕ}
      (g : Grouping key give all at old rest end count out) where
    pub runs_done : length rest ≡ 0 → Written (each give (runs key (map row all))) at old out end × (count ≡ length (runs key (map row all)))
    unfolding runs each
    runs_done h = go rest h g.writing g.counted
      where
        go : (l : List A) → length l ≡ 0 → Writing (each give (runs key (map row all))) at old (each give (runs key (map row l))) end out
            → length (runs key (map row all)) ≡ count + length (runs key (map row l))
            → Written (each give (runs key (map row all))) at old out end × (count ≡ length (runs key (map row all)))
        go [] h w c = (done w refl, omega arith)
        go (a ∷ l) h w c = absurd (omega arith)

    -- by the length of the first run
    module _ (n : ℕ) (e : n ≡ run_length key (map row rest)) (h : 0 < length rest) where
      front_runs : runs key (map row rest) ≡ take n (map row rest) ∷ runs key (map row (drop n rest))
      front_runs = rw (← drop-map row n rest, e) (runs_turn key (map row rest) (rw (length-map rest row) h))

      front_octets : each give (runs key (map row rest)) ≡ give (take n (map row rest)) ++ each give (runs key (map row (drop n rest)))
      unfolding each
      front_octets = rw front_runs

      pub front_within : n ≤ length rest
      front_within = omega (arith, e, run_within key (map row rest), length-map rest row)

      behind_is : take (length rest - n) (drop n rest) ≡ drop n rest
      behind_is = take_all (length rest - n) (drop n rest) (omega (arith, length-drop n rest))

      pub behind_less : length (take (length rest - n) (drop n rest)) < length rest
      behind_less = rw behind_is (omega (arith, length-drop n rest, e, run_some key (map row rest) (rw (length-map rest row) h), front_within))

      pub front_room : end + length (give (take n (map row rest))) ≤ length out
      front_room = room g.writing (give (take n (map row rest))) (each give (runs key (map row (drop n rest)))) front_octets

      pub front_counted : count < length all
      front_counted = omega (arith, g.counted, ap length front_runs, runs_number key (map row all), length-map all row)

      pub front_turn : {new : List ℕ} {next : ℕ} → Written (give (take (run_length key (map row rest)) (map row rest))) end out new next → Grouping key give all at old (take (length rest - n) (drop n rest)) next (count + 1) new
      front_turn p = rw behind_is (record {
        writing = turn g.writing (give (take n (map row rest))) (each give (runs key (map row (drop n rest)))) front_octets (rw (← e) at p);
        counted = omega (arith, g.counted, ap length front_runs);
        within = omega (arith, g.within, length-drop n rest);
      })

    -- as `chunk_by` gives it
    module _ {run later : List A} (n : Next key rest run later) where
      -- as a slice of rest
      pub later_is : take (length rest - length run) (drop (length run) rest) ≡ later
      later_is =
          let e : drop (length run) rest ≡ later = rw n.split (drop_at run later (length run) refl) in
          rw e (take_all (length rest - length run) later (omega (arith, simp length-append at (ap length n.split))))

      pub later_less : length (take (length rest - length run) (drop (length run) rest)) < length rest
      later_less = rw later_is (omega (arith, simp length-append at (ap length n.split)))

      runs_are : runs key (map row rest) ≡ map row run ∷ runs key (map row later)
      runs_are = rw n.split (first_run key row run later n.some (rw n.split at n.prefix))

      octets_are : each give (runs key (map row rest)) ≡ give (map row run) ++ each give (runs key (map row later))
      unfolding each
      octets_are = rw runs_are

      pub run_most : length run ≤ length all
      run_most = omega (arith, g.within, simp length-append at (ap length n.split))

      pub run_room : end + length (give (map row run)) ≤ length out
      run_room = room g.writing (give (map row run)) (each give (runs key (map row later))) octets_are

      pub run_counted : count < length all
      run_counted = omega (arith, g.counted, ap length runs_are, runs_number key (map row all), length-map all row)

      pub run_turn : {new : List ℕ} {next : ℕ} → Written (give (map row run)) end out new next → Grouping key give all at old (take (length rest - length run) (drop (length run) rest)) next (count + 1) new
      run_turn p = rw later_is (record {
        writing = turn g.writing (give (map row run)) (each give (runs key (map row later))) octets_are p;
        counted = omega (arith, g.counted, ap length runs_are);
        within = omega (arith, g.within, simp length-append at (ap length n.split));
      })

  -- write_block: host, number of distances, the groups
  module _ (d : A) (net : ℕ) (rows : List A) (h : 0 < length rows) where
    block_front : block_octets net (map row rows) ≡ host_octets net (row (get_or rows 0 d)).gateway ++ (length (distance_runs (map row rows)) ∷ groups_octets (map row rows))
    unfolding block_octets
    block_front = go rows h
      where
        go : (l : List A) → 0 < length l
            → block_octets net (map row l) ≡ host_octets net (row (get_or l 0 d)).gateway ++ (length (distance_runs (map row l)) ∷ groups_octets (map row l))
        go [] h = absurd (omega arith)
        go (a ∷ l) h = refl

    pub block_size : length (block_octets net (map row rows)) ≡ length (host_octets net (row (get_or rows 0 d)).gateway) + suc (length (groups_octets (map row rows)))
    block_size = rw block_front (length-append (host_octets net (row (get_or rows 0 d)).gateway) (length (distance_runs (map row rows)) ∷ groups_octets (map row rows)))

    pub block_written : (at : ℕ) (old mid groups : List ℕ) (host end count : ℕ)
        → Written (host_octets net (row (get_or rows 0 d)).gateway) at old mid host → Written (groups_octets (map row rows)) (host + 1) mid groups end → count ≡ length (distance_runs (map row rows))
        → Written (block_octets net (map row rows)) at old (set groups host count) end
    block_written at old mid groups host end count p q k =
        rw (block_front, ← k)
        (written_append (host_octets net (row (get_or rows 0 d)).gateway) (count ∷ groups_octets (map row rows)) p
        (record {
          list =
              ap (λ (l : List ℕ). set l host count) q.list ∙ set_before (groups_octets (map row rows)) mid host (host + 1) count (omega arith)
              ∙ ap (λ (i : ℕ). sets (set mid host count) i (groups_octets (map row rows))) (add-one host);
          after = omega (arith, q.after);
        }))
