-- Every tick is counted once; 22. Assumes nothing.
use Prim.Native.Nat.{ℕ, ◌+◌, ◌<◌}
use native.Mathlib.Omega.{arith}
use mathlib.Core.Path.{◌≡◌, refl, sym, ◌∙◌, ap}
use mathlib.Core.Bool.{Bool, true, false, cond, not, true≢false, false≢true}
use mathlib.Core.List.{List, [], ◌∷◌, ◌++◌, append_assoc}
use lib.Dec.{leb}
use lib.ListN.{length}
use borrow.Author.Tests.{eq-eqb, lt-ltb}
use Rattle.checks.specs.Checks.{check}
use Rattle.checks.proofs.Laws.{check_holds, if_ok_new, if_ok_old}
use Rattle.neighbour.specs.declared.Phase.{Phase}
use Rattle.neighbour.specs.declared.Phase.TheVariants.{Idle, Acquisition, Down, Up, Cease}
use Rattle.neighbour.specs.declared.Settings.{Settings}
use Rattle.neighbour.specs.Record.{idle}
use Rattle.neighbour_seconds.specs.declared.Seconds.{Seconds}
use Rattle.neighbour_seconds.specs.Seconds.{seconds_in, no_seconds, seconds_sum, clock_full, counted}
use Rattle.neighbour_seconds.proofs.Laws.{seconds_laws}
use Rattle.neighbour_machine.specs.Intrinsics.{Intrinsic, Start, Stop, Tick, as_event}
use Rattle.gateway_state.specs.declared.Slot as Stored
use Rattle.gateway_state.specs.declared.State.{State}
use Rattle.gateway_state.specs.declared.Outcome.{Outcome}
use Rattle.gateway_state.specs.Slots.{free_slot, slot_at, slot_of, present}
use Rattle.gateway_state.specs.Formed.{state_formed}
use Rattle.gateway_state.specs.Outcomes.{refused_of}
use Rattle.gateway_state.proofs.Theorems.{slot_unique}
use Rattle.gateway_rules.specs.Seconds.{has_time}
use Rattle.gateway_rules.specs.Ruling.{stepped}
use Rattle.gateway_rules.specs.Carried.{outcome_after}
use Rattle.gateway_rules.specs.Calls.{table_fits, buffer_fits, lent_checks, event_checks, event_ruling, event_outcome, event_table}
use Rattle.model.specs.Model.{Call, add, Slot, free, used, Model, slot_in, step, model, model_from}
use Rattle.model.specs.Ticks.{ticks, phase_of, finds, changes_hands, keeps_hands, tally, tally_since}
use Rattle.model.specs.Theorem.{Gateway, outcome_of, table_left, gateway_step, run, cell, Sensible}
use Rattle.model.specs.Corollaries.{Taken, slot_on, Used}
use Rattle.model.specs.Seconds.{OneCall, EveryTickOnce, CountedSince, SinceAdded, ByTheClock, TwentyTwo}
use Rattle.model.proofs.Represent.{Good, at_of}
use Rattle.model.proofs.History.{model_next, model_append}
use Rattle.model.proofs.Ticks.{seconds_held, clock_elim, in_state, in_all, none_in_all, since_from, plain}
use Rattle.model.proofs.Theorem.{run_state, model_good, slot_seconds}
use Rattle.model.proofs.Corollaries.{no_dead_row}

-- ---- one call

phase_shown : (slot : Slot) → (cell slot).neighbour.phase ≡ phase_of slot
unfolding cell free_slot idle phase_of
phase_shown free = refl
phase_shown (used p) = refl

-- what a call makes of these seconds, by whether a tick is carried out and whether the slot changes hands
abbrev Ends : Phase → Seconds → Seconds → Bool → Bool → Type 0
Ends q old new hands ticked =
    (ticked ≡ true → new ≡ counted q old) × ((hands ≡ true → new ≡ no_seconds) × (ticked ≡ false → hands ≡ false → new ≡ old))

module _ (g : Settings) (z : Taken g) (calls : List Call) (j : ℕ) (j8 : j < 8) where
  abbrev m : Model
  m = model g calls

  slot_phase : (slot_on (run g calls) j).neighbour.phase ≡ phase_of (slot_in m j)
  slot_phase =
      ap (λ (s : State). (slot_at s j).neighbour.phase) (run_state g z calls)
      ∙ ap (λ (s : Stored.Slot). s.neighbour.phase) (at_of m (model_good g z calls) j) ∙ phase_shown (slot_in m j)

  ends : (call : Call) → Ends (phase_of (slot_in m j)) (seconds_held (slot_in m j)) (seconds_held (slot_in (model g (calls ++ (call ∷ []))) j)) (changes_hands m j call) (ticks m j call)
  ends call =
      rw (model_next g calls call)
      (clock_elim m (model_good g z calls) j j8 (Ends (phase_of (slot_in m j)) (seconds_held (slot_in m j)))
      (λ e. absurd (false≢true e), (λ e. refl, λ e f. absurd (true≢false f)))
      (λ e. refl, (λ e. absurd (false≢true e), λ e f. absurd (true≢false e)))
      (λ e. absurd (false≢true e), (λ e. absurd (false≢true e), λ e f. refl)) call)

  pub one_call : (call : Call) → OneCall g calls call j
  one_call call =
      let after = slot_seconds g z (calls ++ (call ∷ [])) j in
      let before = slot_seconds g z calls j in
      record {
        once = λ e. after ∙ (ends call).0 e ∙ sym (ap (λ (p : Phase). counted p (slot_on (run g calls) j).seconds) slot_phase ∙ ap (counted (phase_of (slot_in m j))) before);
        anew = λ e. after ∙ (ends call).1.0 e;
        rests = λ e f. after ∙ (ends call).1.1 e f ∙ sym before;
        bare = λ e. (no_dead_row g z calls j j8 e).rows;
      }

pub every_tick_once : EveryTickOnce
every_tick_once g z calls call j j8 = one_call g z calls j j8 call

-- ---- since the add

module _ (g : Settings) (z : Taken g) (before since : List Call) (address asn j : ℕ) (j8 : j < 8)
    (new : changes_hands (model g before) j (add address asn) ≡ true) (kept : keeps_hands g j (before ++ (add address asn ∷ [])) since ≡ true) where
  abbrev from : List Call
  from = before ++ (add address asn ∷ [])

  at_zero : seconds_held (slot_in (model g from) j) ≡ no_seconds
  at_zero = (ends g z before j j8 (add address asn)).1.0 new

  model_then : model g (before ++ (add address asn ∷ since)) ≡ model_from (model g from) since
  unfolding model
  model_then = ap (model g) (sym (append_assoc before (add address asn ∷ []) since)) ∙ model_append _ from since

  -- a number read off the seconds
  module _ (count : Seconds → ℕ) (none : count no_seconds ≡ 0) (test : Model → ℕ → Call → Bool)
      (law : (m : Model) → Good m → (call : Call)
      → count (seconds_held (slot_in (step call m).model j)) ≡ cond (changes_hands m j call) 0 (count (seconds_held (slot_in m j))) + cond (test m j call) 1 0) where
    counted_since : count (slot_on (run g (before ++ (add address asn ∷ since))) j).seconds ≡ tally test g j from since
    counted_since =
        let e : count (seconds_held (slot_in (model g from) j)) ≡ 0 = ap count at_zero ∙ none in
        let f = since_from count none test j law g from since (model_good g z from) in
        let h : tally_since test g j from since + count (seconds_held (slot_in (model g from) j)) ≡ count (seconds_held (slot_in (model_from (model g from) since) j)) =
        rw kept at f in
        let k : tally_since test g j from since ≡ count (seconds_held (slot_in (model_from (model g from) since) j)) = omega (arith, e, h) in
        ap count (slot_seconds g z (before ++ (add address asn ∷ since)) j)
        ∙ ap (λ (m : Model). count (seconds_held (slot_in m j))) model_then ∙ sym k ∙ plain count test g j from since kept

  pub counts_since : CountedSince g before address asn since j
  counts_since =
      let s = (slot_on (run g (before ++ (add address asn ∷ since))) j).seconds in
      let found : (phase : Phase) → seconds_in phase s ≡ tally (finds phase) g j from since =
      λ phase. counted_since (seconds_in phase) (seconds_laws.from_zero phase) (finds phase) (λ m ok call. in_state m ok j j8 phase call) in
      let all : seconds_sum s ≡ tally ticks g j from since = counted_since seconds_sum none_in_all ticks (λ m ok call. in_all m ok j j8 call) in
      record { found = found; all = rw (← (found Idle), ← (found Acquisition), ← (found Down), ← (found Up), ← (found Cease)) (sym (seconds_laws.five s) ∙ all) }

pub since_added : SinceAdded
since_added g z before since address asn j j8 new kept = counts_since g z before since address asn j j8 new kept

-- ---- 22

module _ (b : Gateway) (w : Sensible b) (j : ℕ) (j8 : j < 8) (u : Used b j) (buffer : List ℕ) (r : leb 2048 (length buffer) ≡ true) where
  abbrev a : ℕ
  a = (slot_on b j).address

  there : slot_of b.state a ≡ j
  there = slot_unique b.state a j w.eight w.formed j8 refl u

  checks : (event : Intrinsic) → event_checks event b.state b.table buffer a ≡ check (has_time (as_event event) (slot_on b j).seconds) 22 0
  unfolding event_checks lent_checks
  checks event =
      check_holds (state_formed b.state) 1 _ w.formed ∙ check_holds (table_fits b.table) 2 _ (eq-eqb (length b.table) 3072 w.long)
      ∙ check_holds (buffer_fits buffer) 3 _ r ∙ check_holds (present b.state a) 5 _ (rw there (lt-ltb j 8 j8)) ∙ rw there

  -- not refused
  goes : (event : Intrinsic) → has_time (as_event event) (slot_on b j).seconds ≡ true → (event_outcome event b.state b.table buffer a).answer ≡ 0
  unfolding event_outcome outcome_after event_ruling stepped
  goes event t = ap (λ (o : Outcome). o.answer) (if_ok_new _ _ _ (checks event ∙ check_holds (has_time (as_event event) (slot_on b j).seconds) 22 0 t))

  module _ (full : clock_full (slot_on b j).seconds ≡ true) where
    refuses : event_checks Tick b.state b.table buffer a ≡ 22
    unfolding has_time check
    refuses = checks Tick ∙ rw full

    not_zero : event_checks Tick b.state b.table buffer a ≡ 0 → ⊥
    not_zero e = absurd (omega (arith, refuses, e))

    is_late_lem : event_outcome Tick b.state b.table buffer a ≡ refused_of b.state 22
    unfolding event_outcome
    is_late_lem = if_ok_old _ _ _ not_zero ∙ ap (refused_of b.state) refuses

    keeps_table : event_table Tick b.state b.table buffer a ≡ b.table
    unfolding event_table
    keeps_table = if_ok_old _ _ _ not_zero

  pub by_the_clock : ByTheClock b j buffer
  unfolding outcome_of gateway_step table_left has_time refused_of
  by_the_clock =
      record {
        late = is_late_lem;
        unchanged = λ full k. record { state = (is_late_lem full k).state; table = keeps_table full k };
        in_time = λ e. goes Tick (ap not e);
        started = goes Start refl;
        stopped = goes Stop refl;
      }

pub twenty_two : TwentyTwo
twenty_two b w j j8 u buffer r = by_the_clock b w j j8 u buffer r
