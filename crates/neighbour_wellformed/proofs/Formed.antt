-- Which transitions leave a record well formed. Assumes nothing.
use Prim.Native.Nat.{ℕ, ◌+◌, ◌≤◌}
use native.Mathlib.Omega.{arith}
use mathlib.Core.Path.{◌≡◌, refl}
use mathlib.Core.Bool.{Bool, true, false, not, ◌&&◌, ◌||◌}
use lib.Dec.{ltb, leb, eqb}
use borrow.Author.Tests.{le-leb, leb-true, ltb-true, eqb-true, not-true}
use Rattle.std.proofs.lemmas.Bool.Decides.{nat_tests}
use Rattle.checks.proofs.Laws.{and_left, and_right, cond_elim}
use Rattle.neighbour.specs.declared.Phase.{Phase}
use Rattle.neighbour.specs.declared.Phase.TheVariants.{Idle, Acquisition, Down, Up, Cease}
use Rattle.neighbour.specs.declared.Mode.{Mode}
use Rattle.neighbour.specs.declared.Mode.TheVariants.{Unset, Active, Passive}
use Rattle.neighbour.specs.declared.Settings.{Settings}
use Rattle.neighbour.specs.declared.Neighbour.{Neighbour}
use Rattle.std.specs.Prelude.{Option, Some, None}
use Rattle.neighbour.specs.declared.Terms.{Terms}
use Rattle.neighbour.specs.Record.{under, is_idle, acquired, idle, waiting, initialised, with_state, with_numbers, with_timers, with_reach, with_counts, heard_from, one_more}
use Rattle.neighbour.specs.Rules.{larger, unacceptable, period1_of, period2_of, mode_of, offer_of}
use Rattle.neighbour_wellformed.specs.Formed.{is_unset, all_zero, idle_formed, timers_below, timers_run, t2_formed, register_formed, agreed, intervals_formed, cause_formed, counts_formed, well_formed}
use Rattle.neighbour.proofs.Laws.{larger_fits, hello_fits, poll_fits}

or_true : (a : Bool) → (a || true) ≡ true
or_true true = refl
or_true false = refl

-- a record in a phase that is written out: the record itself where the phase is its own
abbrev pub at : Neighbour → Phase → Neighbour
at n phase =
    with_state n phase n.mode n.period1 n.period2 n.t1 n.t2 n.t3 n.register n.heard n.cause

-- what Down and Up have in common, as numbers
pub record Fine (n : Neighbour) : Type 0 where
  pub t1_low : 1 ≤ n.t1
  pub t1_high : n.t1 ≤ 122
  pub t3_low : 1 ≤ n.t3
  pub t3_high : n.t3 ≤ 3600
  pub register_high : n.register ≤ 15
  pub heard_high : n.heard ≤ 1
  pub period1_low : 32 ≤ n.period1
  pub period1_high : n.period1 ≤ 122
  pub period2_low : 122 ≤ n.period2
  pub period2_high : n.period2 ≤ 482
  pub causeless : n.cause ≡ 0
  pub hello_high : n.sincehello ≤ 120
  pub poll_high : n.sincepoll ≤ 120

-- a record's well-formedness, sentence by sentence
pub record Pieces (n : Neighbour) : Type 0 where
  pub idles : idle_formed n ≡ true
  pub below : timers_below n ≡ true
  pub run : timers_run n ≡ true
  pub t2s : t2_formed n ≡ true
  pub registers : register_formed n ≡ true
  pub intervals : intervals_formed n ≡ true
  pub causes : cause_formed n ≡ true
  pub counts : counts_formed n ≡ true

module _ (n : Neighbour) where
  pub pieces : well_formed n ≡ true → Pieces n
  unfolding well_formed
  pieces h =
      record {
        idles = search (and_left, and_right) depth 9;
        below = search (and_left, and_right) depth 9;
        run = search (and_left, and_right) depth 9;
        t2s = search (and_left, and_right) depth 9;
        registers = search (and_left, and_right) depth 9;
        intervals = search (and_left, and_right) depth 9;
        causes = search (and_left, and_right) depth 9;
        counts = search (and_left, and_right) depth 9;
      }

  pub whole : Pieces n → well_formed n ≡ true
  unfolding well_formed
  whole p = rw (p.idles, p.below, p.run, p.t2s, p.registers, p.intervals, p.causes, p.counts)

  -- "t1, t2, t3 at most 122, 482, 3,600"
  pub below_numbers : timers_below n ≡ true → (n.t1 ≤ 122) × (n.t2 ≤ 482) × (n.t3 ≤ 3600)
  unfolding timers_below
  below_numbers h = (grind (arith, nat_tests), grind (arith, nat_tests), grind (arith, nat_tests))

  pub run_numbers : is_idle n.phase ≡ false → timers_run n ≡ true → (1 ≤ n.t1) × (1 ≤ n.t3)
  unfolding timers_run
  run_numbers e h = let k = rw e at h in (grind (arith, nat_tests), grind (arith, nat_tests))

  register_numbers : register_formed n ≡ true → (n.register ≤ 15) × (n.heard ≤ 1)
  unfolding register_formed
  register_numbers h =
      let k = and_left (leb n.register 15 && leb n.heard 1) (acquired n.phase || (eqb n.register 0 && eqb n.heard 0)) h in
      (grind (arith, nat_tests), grind (arith, nat_tests))

  interval_numbers : acquired n.phase ≡ true → intervals_formed n ≡ true
      → (32 ≤ n.period1) × (n.period1 ≤ 122) × (122 ≤ n.period2) × (n.period2 ≤ 482) × (not (is_unset n.mode) ≡ true)
  unfolding intervals_formed agreed
  interval_numbers e h = let k = rw e at h in (grind (arith, nat_tests), grind (arith, nat_tests), grind (arith, nat_tests), grind (arith, nat_tests), search (and_left, and_right) depth 9)

  pub counts_numbers : counts_formed n ≡ true → (n.sincehello ≤ 120) × (n.sincepoll ≤ 120)
  unfolding counts_formed
  counts_numbers h = (grind (arith, nat_tests), grind (arith, nat_tests))

  pub fine_of : is_idle n.phase ≡ false → acquired n.phase ≡ true → n.cause ≡ 0 → well_formed n ≡ true → Fine n
  fine_of i a z h =
      let p = pieces h in
      let b = below_numbers p.below in
      let r = run_numbers i p.run in
      let g = register_numbers p.registers in
      let v = interval_numbers a p.intervals in
      let c = counts_numbers p.counts in
      omega arith

  pub moded : acquired n.phase ≡ true → well_formed n ≡ true → is_unset n.mode ≡ false
  moded a h = not-true (is_unset n.mode) (interval_numbers a (pieces h).intervals).4

  -- back from numbers
  pub below_ok : n.t1 ≤ 122 → n.t2 ≤ 482 → n.t3 ≤ 3600 → timers_below n ≡ true
  unfolding timers_below
  below_ok a b c = rw (le-leb _ _ a, le-leb _ _ b, le-leb _ _ c)

  pub run_ok : 1 ≤ n.t1 → 1 ≤ n.t3 → timers_run n ≡ true
  unfolding timers_run
  run_ok a b = rw (le-leb _ _ a, le-leb _ _ b) (or_true (is_idle n.phase))

  pub register_ok : n.register ≤ 15 → n.heard ≤ 1 → acquired n.phase ≡ true → register_formed n ≡ true
  unfolding register_formed
  register_ok a b e = rw (le-leb _ _ a, le-leb _ _ b, e)

  pub interval_ok : acquired n.phase ≡ true → Fine n → is_unset n.mode ≡ false → intervals_formed n ≡ true
  unfolding intervals_formed agreed
  interval_ok e f m = rw (e, le-leb _ _ f.period1_low, le-leb _ _ f.period1_high, le-leb _ _ f.period2_low, le-leb _ _ f.period2_high, m)

  pub counts_ok : n.sincehello ≤ 120 → n.sincepoll ≤ 120 → counts_formed n ≡ true
  unfolding counts_formed
  counts_ok a b = rw (le-leb _ _ a, le-leb _ _ b)

  pub down_ok : n.phase ≡ Down → Fine n → n.t2 ≡ 0 → is_unset n.mode ≡ false → well_formed n ≡ true
  unfolding idle_formed t2_formed cause_formed under
  down_ok e f z m =
      whole (record {
        idles = rw e;
        below = below_ok f.t1_high (omega arith) f.t3_high;
        run = run_ok f.t1_low f.t3_low;
        t2s = rw (e, z);
        registers = register_ok f.register_high f.heard_high (rw e);
        intervals = interval_ok (rw e) f m;
        causes = rw (e, f.causeless);
        counts = counts_ok f.hello_high f.poll_high;
      })

  pub up_ok : n.phase ≡ Up → Fine n → 1 ≤ n.t2 → n.t2 ≤ 482 → is_unset n.mode ≡ false → well_formed n ≡ true
  unfolding idle_formed t2_formed cause_formed under
  up_ok e f l u m =
      whole (record {
        idles = rw e;
        below = below_ok f.t1_high u f.t3_high;
        run = run_ok f.t1_low f.t3_low;
        t2s = rw (e, le-leb _ _ l);
        registers = register_ok f.register_high f.heard_high (rw e);
        intervals = interval_ok (rw e) f m;
        causes = rw (e, f.causeless);
        counts = counts_ok f.hello_high f.poll_high;
      })

-- what is known of a record in a phase that is written out
module _ (n : Neighbour) where
  pub fine_down : well_formed (at n Down) ≡ true → Fine (at n Down)
  unfolding cause_formed under
  fine_down h = fine_of (at n Down) refl refl (eqb-true n.cause 0 (pieces (at n Down) h).causes) h

  pub fine_up : well_formed (at n Up) ≡ true → Fine (at n Up)
  unfolding cause_formed under
  fine_up h = fine_of (at n Up) refl refl (eqb-true n.cause 0 (pieces (at n Up) h).causes) h

  pub t2_down : well_formed (at n Down) ≡ true → n.t2 ≡ 0
  unfolding t2_formed under
  t2_down h = eqb-true n.t2 0 (pieces (at n Down) h).t2s

  pub t2_up : well_formed (at n Up) ≡ true → (1 ≤ n.t2) × (n.t2 ≤ 482)
  unfolding t2_formed under
  t2_up h = (leb-true 1 n.t2 (pieces (at n Up) h).t2s, (below_numbers (at n Up) (pieces (at n Up) h).below).1)

  pub t2_elsewhere : (p : Phase) → (p ≡ Up → ⊥) → well_formed (at n p) ≡ true → n.t2 ≡ 0
  unfolding t2_formed under
  t2_elsewhere Idle u h = eqb-true n.t2 0 (pieces (at n Idle) h).t2s
  t2_elsewhere Acquisition u h = eqb-true n.t2 0 (pieces (at n Acquisition) h).t2s
  t2_elsewhere Down u h = eqb-true n.t2 0 (pieces (at n Down) h).t2s
  t2_elsewhere Up u h = absurd (u refl)
  t2_elsewhere Cease u h = eqb-true n.t2 0 (pieces (at n Cease) h).t2s

  -- S and R are any numbers outside Idle
  pub numbers_ok : (s r : ℕ) (p : Phase) → is_idle p ≡ false → well_formed (at n p) ≡ true → well_formed (with_numbers (at n p) s r) ≡ true
  unfolding with_numbers well_formed idle_formed timers_below timers_run t2_formed register_formed agreed intervals_formed cause_formed counts_formed under
  numbers_ok s r Idle i h = let z : ◌≡◌ {A = ℕ} 0 1 = cc in absurd (omega arith)
  numbers_ok s r Acquisition i h = h
  numbers_ok s r Down i h = h
  numbers_ok s r Up i h = h
  numbers_ok s r Cease i h = h

  -- t1 and t3 may run outside Idle
  pub timers_ok : (t1 t3 : ℕ) (p : Phase) → is_idle p ≡ false → 1 ≤ t1 → t1 ≤ 122 → 1 ≤ t3 → t3 ≤ 3600
      → well_formed (at n p) ≡ true → well_formed (with_timers (at n p) t1 n.t2 t3) ≡ true
  unfolding with_timers idle_formed t2_formed register_formed agreed intervals_formed cause_formed counts_formed
  timers_ok t1 t3 p i u v w x h =
      let q = pieces (at n p) h in
      whole (with_timers (at n p) t1 n.t2 t3) (record {
        idles = rw i;
        below = below_ok (with_timers (at n p) t1 n.t2 t3) v (below_numbers (at n p) q.below).1 x;
        run = run_ok (with_timers (at n p) t1 n.t2 t3) u w;
        t2s = q.t2s;
        registers = q.registers;
        intervals = q.intervals;
        causes = q.causes;
        counts = q.counts;
      })

  -- and the counts up to 120
  pub counted_ok : (hello poll : ℕ) (p : Phase) → is_idle p ≡ false → hello ≤ 120 → poll ≤ 120
      → well_formed (at n p) ≡ true → well_formed (with_counts (at n p) hello poll) ≡ true
  unfolding idle_formed timers_below timers_run t2_formed register_formed agreed intervals_formed cause_formed
  counted_ok hello poll p i u v h =
      let q = pieces (at n p) h in
      whole (with_counts (at n p) hello poll) (record {
        idles = rw i;
        below = q.below;
        run = q.run;
        t2s = q.t2s;
        registers = q.registers;
        intervals = q.intervals;
        causes = q.causes;
        counts = counts_ok (with_counts (at n p) hello poll) u v;
      })

  pub counts_bounds : well_formed n ≡ true → (n.sincehello ≤ 120) × (n.sincepoll ≤ 120)
  counts_bounds h = counts_numbers n (pieces n h).counts

  pub timer_bounds : (p : Phase) → is_idle p ≡ false → well_formed (at n p) ≡ true → (1 ≤ n.t1) × (n.t1 ≤ 122) × (1 ≤ n.t3) × (n.t3 ≤ 3600)
  timer_bounds p i h =
      let q = pieces (at n p) h in
      let b = below_numbers (at n p) q.below in
      let r = run_numbers (at n p) i q.run in
      (r.0, b.0, r.1, b.2)

  -- an indication in Down or Up
  pub heard_ok : (p : Phase) → acquired p ≡ true → well_formed (at n p) ≡ true → well_formed (heard_from (at n p)) ≡ true
  unfolding heard_from with_reach with_timers
  heard_ok Idle a h = let z : ◌≡◌ {A = ℕ} 0 1 = cc in absurd (omega arith)
  heard_ok Acquisition a h = let z : ◌≡◌ {A = ℕ} 0 1 = cc in absurd (omega arith)
  heard_ok Down a h = let f = fine_down h in down_ok (heard_from (at n Down)) refl (omega arith) (t2_down h) (moded (at n Down) refl h)
  heard_ok Up a h = let f = fine_up h in up_ok (heard_from (at n Up)) refl (omega arith) (t2_up h).0 (t2_up h).1 (moded (at n Up) refl h)
  heard_ok Cease a h = let z : ◌≡◌ {A = ℕ} 0 1 = cc in absurd (omega arith)

  -- entering Acquisition or Cease, from a record that is well formed: what outlives the change is as it was
  pub acquisition_ok : well_formed n ≡ true → well_formed (waiting n Acquisition 0) ≡ true
  unfolding waiting well_formed idle_formed timers_below timers_run t2_formed register_formed agreed intervals_formed cause_formed counts_formed under
  acquisition_ok h = (pieces n h).counts

  pub cease_5_ok : well_formed n ≡ true → well_formed (waiting n Cease 5) ≡ true
  unfolding waiting well_formed idle_formed timers_below timers_run t2_formed register_formed agreed intervals_formed cause_formed counts_formed under
  cease_5_ok h = (pieces n h).counts

  pub cease_6_ok : well_formed n ≡ true → well_formed (waiting n Cease 6) ≡ true
  unfolding waiting well_formed idle_formed timers_below timers_run t2_formed register_formed agreed intervals_formed cause_formed counts_formed under
  cease_6_ok h = (pieces n h).counts

pub idle_ok : well_formed idle ≡ true
unfolding idle well_formed idle_formed all_zero timers_below timers_run t2_formed register_formed agreed intervals_formed cause_formed counts_formed under
idle_ok = refl

-- a tick more stays below the bound
pub one_more_high : (count : ℕ) → count ≤ 120 → one_more count ≤ 120
unfolding one_more
one_more_high count h = cond_elim (λ (k : ℕ). k ≤ 120) (ltb count 120) (count + 1) count (λ e. omega (arith, ltb-true count 120 e)) (λ _. h)

abbrev Set : Mode → Type 0
Set m = is_unset m ≡ false

larger_least : (a b : ℕ) → a ≤ larger a b
larger_least a b = cond_elim (λ (k : ℕ). a ≤ k) (leb a b) b a (λ e. leb-true a b e) (λ _. omega arith)

mode_set : (capability status own peer : ℕ) → is_unset (mode_of capability status own peer) ≡ false
unfolding mode_of
mode_set capability status own peer =
    cond_elim Set (eqb capability 1) _ _ (λ _. refl)
    (λ _. cond_elim Set (eqb capability 2) _ _ (λ _. refl)
    (λ _. cond_elim Set (eqb status 1) _ _ (λ _. refl)
    (λ _. cond_elim Set (eqb status 2) _ _ (λ _. refl)
    (λ _. cond_elim Set (ltb own peer) _ _ (λ _. refl) (λ _. refl)))))

pub initialised_ok : (n : Neighbour) (hello poll : ℕ) (mode : Mode) → 32 ≤ hello → hello ≤ 122 → 122 ≤ poll → poll ≤ 482 → is_unset mode ≡ false
    → well_formed (initialised n hello poll mode) ≡ true
unfolding initialised
initialised_ok n hello poll mode a b c d m = down_ok (initialised n hello poll mode) refl (omega arith) refl m

-- what an offer may be
pub offer_elim : (g : Settings) (asn status hello poll : ℕ) (P : Option Terms → Type 0)
    → ((h p : ℕ) (m : Mode) → 32 ≤ h → h ≤ 122 → 122 ≤ p → p ≤ 482 → is_unset m ≡ false → P (Some (record { period1 = h; period2 = p; mode = m })))
    → P None → P (offer_of g asn status hello poll)
unfolding offer_of period1_of period2_of
offer_elim g asn status hello poll P acc rej =
    cond_elim P (unacceptable g.capability status hello poll) _ _ (λ _. rej)
    (λ e.
    let a = larger_fits 30 hello 120 (omega arith) (hello_fits g.capability status hello poll e) in
    let b = larger_fits 120 poll 480 (omega arith) (poll_fits g.capability status hello poll e) in
    let c = larger_least 30 hello in
    let d = larger_least 120 poll in
    acc (larger 30 hello + 2) (larger 120 poll + 2) _ (omega arith) (omega arith) (omega arith) (omega arith) (mode_set g.capability status g.asn asn))

-- a well-formed record in Idle is the idle record
unset : (m : Mode) → is_unset m ≡ true → m ≡ Unset
unset Unset e = refl
unset Active e = let z : ◌≡◌ {A = ℕ} 0 1 = cc in absurd (omega arith)
unset Passive e = let z : ◌≡◌ {A = ℕ} 0 1 = cc in absurd (omega arith)

pub idle_only : (n : Neighbour) → well_formed (at n Idle) ≡ true → at n Idle ≡ idle
unfolding idle idle_formed all_zero
idle_only n h =
    let a = eqb n.s 0 in
    let b = eqb n.r 0 in
    let c = eqb n.period1 0 in
    let d = eqb n.period2 0 in
    let e = eqb n.t1 0 in
    let f = eqb n.t2 0 in
    let g = eqb n.t3 0 in
    let i = is_unset n.mode in
    let j = eqb n.register 0 in
    let k = eqb n.heard 0 in
    let l = eqb n.cause 0 in
    let m = eqb n.sincehello 0 in
    let o = eqb n.sincepoll 0 in
    let hm = and_left (a && b && c && d && e && f && g && i && j && k && l && m) o (pieces (at n Idle) h).idles in
    let hl = and_left (a && b && c && d && e && f && g && i && j && k && l) m hm in
    let hk = and_left (a && b && c && d && e && f && g && i && j && k) l hl in
    let hj = and_left (a && b && c && d && e && f && g && i && j) k hk in
    let hi = and_left (a && b && c && d && e && f && g && i) j hj in
    let hg = and_left (a && b && c && d && e && f && g) i hi in
    let hf = and_left (a && b && c && d && e && f) g hg in
    let he = and_left (a && b && c && d && e) f hf in
    let hd = and_left (a && b && c && d) e he in
    let hc = and_left (a && b && c) d hd in
    let hb = and_left (a && b) c hc in
    rw (
      eqb-true n.s 0 (and_left a b hb),
      eqb-true n.r 0 (and_right a b hb),
      eqb-true n.period1 0 (and_right (a && b) c hc),
      eqb-true n.period2 0 (and_right (a && b && c) d hd),
      eqb-true n.t1 0 (and_right (a && b && c && d) e he),
      eqb-true n.t2 0 (and_right (a && b && c && d && e) f hf),
      eqb-true n.t3 0 (and_right (a && b && c && d && e && f) g hg),
      unset n.mode (and_right (a && b && c && d && e && f && g) i hi),
      eqb-true n.register 0 (and_right (a && b && c && d && e && f && g && i) j hj),
      eqb-true n.heard 0 (and_right (a && b && c && d && e && f && g && i && j) k hk),
      eqb-true n.cause 0 (and_right (a && b && c && d && e && f && g && i && j && k) l hl),
      eqb-true n.sincehello 0 (and_right (a && b && c && d && e && f && g && i && j && k && l) m hm),
      eqb-true n.sincepoll 0 (and_right (a && b && c && d && e && f && g && i && j && k && l && m) o (pieces (at n Idle) h).idles),
    )
