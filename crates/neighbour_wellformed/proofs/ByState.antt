-- A record's well-formedness by its state: what the code asks in each is what the definition asks. Assumes nothing.
use Prim.Native.Nat.{ℕ, ◌≤◌}
use native.Mathlib.Omega.{arith}
use mathlib.Core.Path.{◌≡◌, refl, sym, ◌∙◌, ap}
use mathlib.Core.Bool.{Bool, true, false, ◌&&◌, ◌||◌, false≢true}
use lib.Dec.{leb, eqb}
use borrow.Author.Tests.{le-leb, leb-true, eqb-true, not-true}
use Rattle.checks.proofs.Laws.{and_left, and_right}
use denote.Enum.Bare.{sameb}
use Rattle.neighbour.specs.contracts.Phase as Phases
use Rattle.neighbour.specs.contracts.Mode as Modes
use Rattle.neighbour.specs.declared.Phase.{Phase}
use Rattle.neighbour.specs.declared.Phase.TheVariants.{Idle, Acquisition, Down, Up, Cease}
use Rattle.neighbour.specs.declared.Mode.{Mode}
use Rattle.neighbour.specs.declared.Mode.TheVariants.{Unset, Active, Passive}
use Rattle.neighbour.specs.declared.Neighbour.{Neighbour}
use Rattle.neighbour.specs.Record.{under, is_idle, is_up, acquired, idle}
use Rattle.neighbour_wellformed.specs.Formed.{is_unset, all_zero, idle_formed, timers_below, timers_run, t2_formed, register_formed, agreed, intervals_formed, cause_formed, counts_formed, well_formed}
use Rattle.neighbour_wellformed.specs.ByState.{reached_formed, waiting_formed}
use Rattle.neighbour_wellformed.proofs.Formed.{at, Fine, pieces, whole, below_numbers, run_numbers, fine_of, moded, below_ok, run_ok, counts_numbers, counts_ok, t2_elsewhere, down_ok, up_ok}

same_bool : (a b : Bool) → (a ≡ true → b ≡ true) → (b ≡ true → a ≡ true) → a ≡ b
same_bool true b f g = sym (f refl)
same_bool false false f g = refl
same_bool false true f g = g refl

up_of : (p : Phase) → is_up p ≡ true → p ≡ Up
up_of Idle e = absurd (false≢true e)
up_of Acquisition e = absurd (false≢true e)
up_of Down e = absurd (false≢true e)
up_of Up e = refl
up_of Cease e = absurd (false≢true e)

module _ (n : Neighbour) where
  reached_fine : (low high : ℕ) → reached_formed low high n ≡ true → Fine n × (is_unset n.mode ≡ false) × (low ≤ n.t2) × (n.t2 ≤ high)
  unfolding agreed counts_formed
  reached_fine low high h = (
    record {
      t1_low = leb-true _ _ (search (and_left, and_right) depth 14);
      t1_high = leb-true _ _ (search (and_left, and_right) depth 14);
      t3_low = leb-true _ _ (search (and_left, and_right) depth 14);
      t3_high = leb-true _ _ (search (and_left, and_right) depth 14);
      register_high = leb-true _ _ (search (and_left, and_right) depth 14);
      heard_high = leb-true _ _ (search (and_left, and_right) depth 14);
      period1_low = leb-true _ _ (search (and_left, and_right) depth 14);
      period1_high = leb-true _ _ (search (and_left, and_right) depth 14);
      period2_low = leb-true _ _ (search (and_left, and_right) depth 14);
      period2_high = leb-true _ _ (search (and_left, and_right) depth 14);
      causeless = eqb-true _ _ (search (and_left, and_right) depth 14);
      hello_high = leb-true _ _ (search (and_left, and_right) depth 14);
      poll_high = leb-true _ _ (search (and_left, and_right) depth 14);
    },
    not-true _ (search (and_left, and_right) depth 14),
    leb-true _ _ (search (and_left, and_right) depth 14),
    leb-true _ _ (search (and_left, and_right) depth 14),
  )

  fine_reached : (low high : ℕ) → low ≤ n.t2 → n.t2 ≤ high → Fine n → is_unset n.mode ≡ false → reached_formed low high n ≡ true
  unfolding agreed counts_formed
  fine_reached low high l u f m =
      rw (
        le-leb _ _ l,
        le-leb _ _ u,
        le-leb _ _ f.t1_low,
        le-leb _ _ f.t1_high,
        le-leb _ _ f.t3_low,
        le-leb _ _ f.t3_high,
        le-leb _ _ f.hello_high,
        le-leb _ _ f.poll_high,
        le-leb _ _ f.period1_low,
        le-leb _ _ f.period1_high,
        le-leb _ _ f.period2_low,
        le-leb _ _ f.period2_high,
        m,
        le-leb _ _ f.register_high,
        le-leb _ _ f.heard_high,
        f.causeless,
      )

  module _ (i : is_idle n.phase ≡ false) (a : acquired n.phase ≡ true) (z : n.cause ≡ 0) (h : well_formed n ≡ true) where
    reached_of : (low high : ℕ) → low ≤ n.t2 → n.t2 ≤ high → reached_formed low high n ≡ true
    reached_of low high l u = fine_reached low high l u (fine_of n i a z h) (moded n a h)

  pub formed_down : n.phase ≡ Down → reached_formed 0 0 n ≡ well_formed n
  unfolding cause_formed t2_formed under
  formed_down e =
      same_bool _ _
      (λ h. let r = reached_fine 0 0 h in down_ok n e r.0 (omega arith) r.1)
      (λ h.
      let t : n.t2 ≡ 0 = eqb-true n.t2 0 (rw e at (pieces n h).t2s) in
      reached_of (rw e) (rw e) (eqb-true n.cause 0 (rw e at (pieces n h).causes)) h 0 0 (omega arith) (omega arith))

  formed_up : n.phase ≡ Up → reached_formed 1 482 n ≡ well_formed n
  unfolding cause_formed t2_formed under
  formed_up e =
      same_bool _ _
      (λ h. let r = reached_fine 1 482 h in up_ok n e r.0 r.2 r.3 r.1)
      (λ h.
      let low : 1 ≤ n.t2 = leb-true 1 n.t2 (rw e at (pieces n h).t2s) in
      let high : n.t2 ≤ 482 = (below_numbers n (pieces n h).below).1 in
      reached_of (rw e) (rw e) (eqb-true n.cause 0 (rw e at (pieces n h).causes)) h 1 482 low high)

  pub formed_in_up : (b : Bool) → is_up n.phase ≡ b → (b && reached_formed 1 482 n) ≡ (is_up n.phase && well_formed n)
  formed_in_up false e = rw e
  formed_in_up true e = rw e (formed_up (up_of n.phase e))

-- ---- Acquisition and Cease

pub record Still (n : Neighbour) : Type 0 where
  pub t1_low : 1 ≤ n.t1
  pub t1_high : n.t1 ≤ 122
  pub t3_low : 1 ≤ n.t3
  pub t3_high : n.t3 ≤ 3600
  pub t2_none : n.t2 ≡ 0
  pub period1_none : n.period1 ≡ 0
  pub period2_none : n.period2 ≡ 0
  pub register_none : n.register ≡ 0
  pub heard_none : n.heard ≡ 0
  pub hello_high : n.sincehello ≤ 120
  pub poll_high : n.sincepoll ≤ 120

not_up : (p : Phase) → acquired p ≡ false → p ≡ Up → ⊥
not_up p a e = false≢true (sym a ∙ ap acquired e)

module _ (n : Neighbour) where
  none_registered : acquired n.phase ≡ false → register_formed n ≡ true → (n.register ≡ 0) × (n.heard ≡ 0)
  unfolding register_formed
  none_registered a h =
      let x = eqb n.register 0 in
      let y = eqb n.heard 0 in
      let k = and_right (leb n.register 15 && leb n.heard 1) (x && y) (rw a at h) in
      (eqb-true n.register 0 (and_left x y k), eqb-true n.heard 0 (and_right x y k))

  none_agreed : acquired n.phase ≡ false → intervals_formed n ≡ true → (n.period1 ≡ 0) × (n.period2 ≡ 0) × (is_unset n.mode ≡ true)
  unfolding intervals_formed
  none_agreed a h =
      let x = eqb n.period1 0 in
      let y = eqb n.period2 0 in
      let z = is_unset n.mode in
      let k = rw a at h in
      let l = and_left (x && y) z k in
      (eqb-true n.period1 0 (and_left x y l), eqb-true n.period2 0 (and_right x y l), and_right (x && y) z k)

  none_t2 : (p : Phase) → acquired p ≡ false → n.t2 ≡ 0 → t2_formed (at n p) ≡ true
  unfolding t2_formed under
  none_t2 Idle a z = rw z
  none_t2 Acquisition a z = rw z
  none_t2 Down a z = absurd (false≢true (sym a))
  none_t2 Up a z = absurd (false≢true (sym a))
  none_t2 Cease a z = rw z

  module _ (i : is_idle n.phase ≡ false) (a : acquired n.phase ≡ false) where
    still_of : well_formed n ≡ true → Still n
    still_of h =
        let p = pieces n h in
        let b = below_numbers n p.below in
        let r = run_numbers n i p.run in
        let g = none_registered a p.registers in
        let v = none_agreed a p.intervals in
        let c = counts_numbers n p.counts in
        let t : n.t2 ≡ 0 = t2_elsewhere n n.phase (not_up n.phase a) h in
        omega arith

    unset_of : well_formed n ≡ true → is_unset n.mode ≡ true
    unset_of h = (none_agreed a (pieces n h).intervals).2

    waiting_ok : Still n → is_unset n.mode ≡ true → cause_formed n ≡ true → well_formed n ≡ true
    unfolding idle_formed register_formed intervals_formed
    waiting_ok s m c =
        whole n (record {
          idles = rw i;
          below = below_ok n s.t1_high (omega arith) s.t3_high;
          run = run_ok n s.t1_low s.t3_low;
          t2s = none_t2 n.phase a s.t2_none;
          registers = rw (a, s.register_none, s.heard_none);
          intervals = rw (a, s.period1_none, s.period2_none, m);
          causes = c;
          counts = counts_ok n s.hello_high s.poll_high;
        })

module _ (n : Neighbour) where
  waits_still : waiting_formed n ≡ true → Still n × (is_unset n.mode ≡ true)
  unfolding counts_formed
  waits_still h = (
    record {
      t1_low = leb-true _ _ (search (and_left, and_right) depth 14);
      t1_high = leb-true _ _ (search (and_left, and_right) depth 14);
      t3_low = leb-true _ _ (search (and_left, and_right) depth 14);
      t3_high = leb-true _ _ (search (and_left, and_right) depth 14);
      t2_none = eqb-true _ _ (search (and_left, and_right) depth 14);
      period1_none = eqb-true _ _ (search (and_left, and_right) depth 14);
      period2_none = eqb-true _ _ (search (and_left, and_right) depth 14);
      register_none = eqb-true _ _ (search (and_left, and_right) depth 14);
      heard_none = eqb-true _ _ (search (and_left, and_right) depth 14);
      hello_high = leb-true _ _ (search (and_left, and_right) depth 14);
      poll_high = leb-true _ _ (search (and_left, and_right) depth 14);
    },
    search (and_left, and_right) depth 14,
  )

  still_waits : Still n → is_unset n.mode ≡ true → waiting_formed n ≡ true
  unfolding counts_formed
  still_waits s m =
      rw (
        le-leb _ _ s.t1_low,
        le-leb _ _ s.t1_high,
        le-leb _ _ s.t3_low,
        le-leb _ _ s.t3_high,
        le-leb _ _ s.hello_high,
        le-leb _ _ s.poll_high,
        s.t2_none,
        s.period1_none,
        s.period2_none,
        m,
        s.register_none,
        s.heard_none,
      )

  -- `causes` is what the state asks of the cause
  formed_waiting : is_idle n.phase ≡ false → acquired n.phase ≡ false → (causes : Bool) → cause_formed n ≡ causes → (causes && waiting_formed n) ≡ well_formed n
  formed_waiting i a causes e =
      same_bool _ _
      (λ h.
      let w = waits_still (and_right causes (waiting_formed n) h) in
      waiting_ok n i a w.0 w.1 (e ∙ and_left causes (waiting_formed n) h))
      (λ h. rw (sym e ∙ (pieces n h).causes) (still_waits (still_of n i a h) (unset_of n i a h)))

  pub formed_acquisition : n.phase ≡ Acquisition → (eqb n.cause 0 && waiting_formed n) ≡ well_formed n
  unfolding cause_formed under
  formed_acquisition e = formed_waiting (rw e) (rw e) (eqb n.cause 0) (rw e)

  pub formed_cease : n.phase ≡ Cease → ((eqb n.cause 5 || eqb n.cause 6) && waiting_formed n) ≡ well_formed n
  unfolding cause_formed under
  formed_cease e = formed_waiting (rw e) (rw e) (eqb n.cause 5 || eqb n.cause 6) (rw e)

-- ---- Idle

is_idle_lem : (phase : Phase) → is_idle phase ≡ true → phase ≡ Idle
is_idle_lem Idle e = refl
is_idle_lem Acquisition e = absurd (false≢true e)
is_idle_lem Down e = absurd (false≢true e)
is_idle_lem Up e = absurd (false≢true e)
is_idle_lem Cease e = absurd (false≢true e)

is_unset_lem : (mode : Mode) → is_unset mode ≡ true → mode ≡ Unset
is_unset_lem Unset e = refl
is_unset_lem Active e = absurd (false≢true e)
is_unset_lem Passive e = absurd (false≢true e)

-- there is one record in Idle that is all zero
module _ (n : Neighbour) (i : is_idle n.phase ≡ true) where
  pub zero_idle : all_zero n ≡ true → n ≡ idle
  unfolding all_zero idle
  zero_idle e =
      let s : n.s ≡ 0 = eqb-true _ _ (search (and_left, and_right) depth 14) in
      let r : n.r ≡ 0 = eqb-true _ _ (search (and_left, and_right) depth 14) in
      let period1 : n.period1 ≡ 0 = eqb-true _ _ (search (and_left, and_right) depth 14) in
      let period2 : n.period2 ≡ 0 = eqb-true _ _ (search (and_left, and_right) depth 14) in
      let t1 : n.t1 ≡ 0 = eqb-true _ _ (search (and_left, and_right) depth 14) in
      let t2 : n.t2 ≡ 0 = eqb-true _ _ (search (and_left, and_right) depth 14) in
      let t3 : n.t3 ≡ 0 = eqb-true _ _ (search (and_left, and_right) depth 14) in
      let mode : n.mode ≡ Unset = is_unset_lem n.mode (search (and_left, and_right) depth 14) in
      let register : n.register ≡ 0 = eqb-true _ _ (search (and_left, and_right) depth 14) in
      let heard : n.heard ≡ 0 = eqb-true _ _ (search (and_left, and_right) depth 14) in
      let cause : n.cause ≡ 0 = eqb-true _ _ (search (and_left, and_right) depth 14) in
      let sincehello : n.sincehello ≡ 0 = eqb-true _ _ (search (and_left, and_right) depth 14) in
      let sincepoll : n.sincepoll ≡ 0 = eqb-true _ _ (search (and_left, and_right) depth 14) in
      λ k. record {
        s = s k;
        r = r k;
        period1 = period1 k;
        period2 = period2 k;
        t1 = t1 k;
        t2 = t2 k;
        t3 = t3 k;
        phase = is_idle_lem n.phase i k;
        mode = mode k;
        register = register k;
        heard = heard k;
        cause = cause k;
        sincehello = sincehello k;
        sincepoll = sincepoll k;
      }

pub idle_formed_lem : well_formed idle ≡ true
unfolding well_formed idle idle_formed all_zero timers_below timers_run t2_formed register_formed intervals_formed cause_formed counts_formed under
idle_formed_lem = refl

some_formed : (n : Neighbour) → is_idle n.phase ≡ true → all_zero n ≡ false → well_formed n ≡ false
unfolding well_formed idle_formed
some_formed n i e = rw (i, e)

-- in Idle, well formed and all zero are the same
pub idle_zero : (n : Neighbour) → is_idle n.phase ≡ true → well_formed n ≡ all_zero n
idle_zero n i = go (all_zero n) refl
  where
    go : (b : Bool) → all_zero n ≡ b → well_formed n ≡ all_zero n
    go true e = ap well_formed (zero_idle n i e) ∙ idle_formed_lem ∙ sym e
    go false e = some_formed n i e ∙ sym e

-- the comparison with the idle record, field by field
abbrev pub is_the_idle : Neighbour → Bool
is_the_idle n =
    eqb n.s 0 && (eqb n.r 0 && (eqb n.period1 0 && (eqb n.period2 0 && (eqb n.t1 0 && (eqb n.t2 0 && (eqb n.t3 0
    && (sameb Phases.the_type n.phase Idle && (sameb Modes.the_type n.mode Unset && (eqb n.register 0 && (eqb n.heard 0 && (eqb n.cause 0
    && (eqb n.sincehello 0 && eqb n.sincepoll 0))))))))))))

unset_same : (m : Mode) → sameb Modes.the_type m Unset ≡ is_unset m
unset_same Unset = refl
unset_same Active = refl
unset_same Passive = refl

pub formed_idle : (n : Neighbour) → n.phase ≡ Idle → is_the_idle n ≡ well_formed n
unfolding all_zero idle
formed_idle n e =
    same_bool _ _
    (λ h.
    let s : eqb n.s 0 ≡ true = search (and_left, and_right) depth 15 in
    let r : eqb n.r 0 ≡ true = search (and_left, and_right) depth 15 in
    let period1 : eqb n.period1 0 ≡ true = search (and_left, and_right) depth 15 in
    let period2 : eqb n.period2 0 ≡ true = search (and_left, and_right) depth 15 in
    let t1 : eqb n.t1 0 ≡ true = search (and_left, and_right) depth 15 in
    let t2 : eqb n.t2 0 ≡ true = search (and_left, and_right) depth 15 in
    let t3 : eqb n.t3 0 ≡ true = search (and_left, and_right) depth 15 in
    let register : eqb n.register 0 ≡ true = search (and_left, and_right) depth 15 in
    let heard : eqb n.heard 0 ≡ true = search (and_left, and_right) depth 15 in
    let cause : eqb n.cause 0 ≡ true = search (and_left, and_right) depth 15 in
    let sincehello : eqb n.sincehello 0 ≡ true = search (and_left, and_right) depth 15 in
    let sincepoll : eqb n.sincepoll 0 ≡ true = search (and_left, and_right) depth 15 in
    let same : sameb Modes.the_type n.mode Unset ≡ true = search (and_left, and_right) depth 15 in
    let mode : is_unset n.mode ≡ true = sym (unset_same n.mode) ∙ same in
    idle_zero n (rw e) ∙ rw (s, r, period1, period2, t1, t2, t3, mode, register, heard, cause, sincehello, sincepoll))
    (λ h. ap is_the_idle (zero_idle n (rw e) (sym (idle_zero n (rw e)) ∙ h)))
