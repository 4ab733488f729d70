-- What holds of the trace of every recording. Assumes nothing.
use Prim.Native.Nat.{ℕ, suc, ◌+◌, ◌≤◌, ◌<◌}
use native.Mathlib.Omega.{arith}
use mathlib.Core.Path.{◌≡◌, refl, sym, ap, ◌∙◌}
use mathlib.Core.Bool.{Bool, true, false, cond, not, ◌&&◌, false≢true}
use mathlib.Core.List.{List, [], ◌∷◌}
use lib.Dec.{eqb}
use lib.ListN.{length}
use borrow.Author.Tests.{lt-ltb, eqb-true}
use Rattle.checks.proofs.Laws.{and_left, and_right}
use Rattle.neighbour.specs.declared.Settings.{Settings}
use Rattle.neighbour.specs.declared.Phase.{Phase}
use Rattle.neighbour.specs.declared.Phase.TheVariants as P
use Rattle.neighbour.specs.Record.{phase_number}
use Rattle.neighbour_seconds.specs.Seconds.{seconds_sum}
use Rattle.gateway_state.specs.declared.State.{State}
use Rattle.gateway_state.specs.Slots.{slot_at, slot_of}
use Rattle.gateway_slots.specs.Calls.{fresh_of}
use Rattle.model.specs.Model as M
use Rattle.model.specs.Theorem.{state_of}
use Rattle.model.specs.Ticks.{ticks_since}
use Rattle.model.proofs.Theorem.{list_of_calls}
use Rattle.recording_bad_line.specs.BadLine.{one_more}
use Rattle.recording_trace.specs.declared.Deed.{Deed}
use Rattle.recording_trace.specs.declared.Deed.TheVariants as D
use Rattle.recording_trace.specs.declared.Telling.{Telling}
use Rattle.recording_trace.specs.Trace.{Happened, slot_for, is_tick, is_unchanged, is_quiet_tick, is_passed_over, trace_text}
use Rattle.recording_call.specs.Told.{tell_text, passed_after}
use Rattle.recording_theorem.specs.Output.{happened, telling, calls_told}
use Rattle.recording_theorem.specs.Trace.{tally, QuietTick, Traces}
use Rattle.recording_theorem.proofs.Laws.{no_length}
use Rattle.recording_theorem.proofs.OneByOne.{one_by_one}

-- ---- each is told of or counted

one_more_lem : (n : ℕ) → n < 18446744073709551615 → one_more n ≡ suc n
unfolding one_more
one_more_lem n k = rw (lt-ltb n 18446744073709551615 k)

-- the last call of a line is never passed over
last_told : (number passed : ℕ) (h : Happened) → is_passed_over (telling true number passed []) h ≡ false
unfolding is_passed_over telling
last_told number passed h = refl

-- passed over or not, the rest of the line begins with what this call leaves to count
on_tally : (over : Bool) (passed more total : ℕ) → passed + suc more ≤ 18446744073709551615
    → total ≡ cond (true && over) (one_more passed) 0 + more → cond over 0 (suc passed) + total ≡ passed + suc more
on_tally true passed more total k e = let o = one_more_lem passed (omega (arith, k)) in omega (arith, e, o)
on_tally false passed more total k e = omega (arith, e)

all_counted : (number passed : ℕ) (m : M.Model) (call : M.Call) (rest : List M.Call) → passed + suc (length rest) ≤ 18446744073709551615
    → tally (calls_told true number passed m (call ∷ rest)) ≡ passed + suc (length rest)
unfolding tally calls_told passed_after telling
all_counted number passed m call [] k =
    ap (λ (b : Bool). cond b 0 (suc passed) + 0) (last_told number passed (happened call m)) ∙ omega arith
all_counted number passed m call (next ∷ rest) k =
    let t = telling true number passed (next ∷ rest) in
    let h = happened call m in
    on_tally (is_passed_over t h) passed (suc (length rest)) _ k
    (all_counted number (passed_after t h) (M.step call m).model next rest (left (is_passed_over t h) refl))
  where
    left : (over : Bool) → is_passed_over (telling true number passed (next ∷ rest)) (happened call m) ≡ over
        → passed_after (telling true number passed (next ∷ rest)) (happened call m) + suc (length rest) ≤ 18446744073709551615
    left true e = rw e (let o = one_more_lem passed (omega (arith, k)) in omega (arith, k, o))
    left false e = rw e (omega (arith, k))

-- ---- none is passed over but a quiet tick

tick_deed : (deed : Deed) → is_tick deed ≡ true → deed ≡ D.Tick
unfolding is_tick
tick_deed D.Add e = absurd (false≢true e)
tick_deed D.Remove e = absurd (false≢true e)
tick_deed D.Start e = absurd (false≢true e)
tick_deed D.Stop e = absurd (false≢true e)
tick_deed D.Tick e = refl
tick_deed D.Receive e = absurd (false≢true e)

-- phases are told apart by their numbers
phase_of : ℕ → Phase
phase_of n = cond (eqb n 0) P.Idle (cond (eqb n 1) P.Acquisition (cond (eqb n 2) P.Down (cond (eqb n 3) P.Up P.Cease)))

phase_back : (phase : Phase) → phase_of (phase_number phase) ≡ phase
unfolding phase_of
phase_back P.Idle = refl
phase_back P.Acquisition = refl
phase_back P.Down = refl
phase_back P.Up = refl
phase_back P.Cease = refl

same_phase : (x y : Phase) → phase_number x ≡ phase_number y → x ≡ y
same_phase x y e = sym (phase_back x) ∙ ap phase_of e ∙ phase_back y

not_so : (b : Bool) → not b ≡ true → b ≡ false
not_so true e = absurd (false≢true e)
not_so false e = refl

passed_quiet : (t : Telling) (h : Happened) → is_passed_over t h ≡ true
    → (t.last ≡ false) × QuietTick h (slot_for h.before h.address) (slot_for h.after h.address)
unfolding is_passed_over is_quiet_tick is_unchanged
passed_quiet t h e =
    let found = slot_for h.before h.address in
    let left = slot_for h.after h.address in
    let inner = and_right (not t.last) _ e in
    let silent = and_right (is_tick h.deed) _ inner in
    let same = and_right (eqb (length h.first) 0) _ silent in
    let rest = and_right (eqb (phase_number found.neighbour.phase) (phase_number left.neighbour.phase)) _ same in (
      not_so t.last (and_left (not t.last) _ e),
      record {
        tick = tick_deed h.deed (and_left (is_tick h.deed) _ inner);
        unsent = no_length h.first (eqb-true (length h.first) 0 (and_left (eqb (length h.first) 0) _ silent));
        phase = same_phase found.neighbour.phase left.neighbour.phase (eqb-true _ _ (and_left (eqb (phase_number found.neighbour.phase) (phase_number left.neighbour.phase)) _ same));
        register = eqb-true found.neighbour.register left.neighbour.register (and_left (eqb found.neighbour.register left.neighbour.register) _ rest);
        rows = eqb-true found.rows left.rows (and_right (eqb found.neighbour.register left.neighbour.register) _ rest);
      },
    )

shown_line : (t : Telling) (h : Happened) → t.traced ≡ true → is_passed_over t h ≡ false → tell_text t h ≡ trace_text t h
unfolding tell_text
shown_line t h e f = rw (f, e)

-- ---- seconds

the_second : (g : Settings) → (fresh_of g).answer ≡ 0 → (calls : List M.Call) (a : ℕ) → slot_of (state_of (M.model g calls)) a < 8
    → seconds_sum (slot_for (state_of (M.model g calls)) a).seconds ≡ ticks_since g (slot_of (state_of (M.model g calls)) a) calls
unfolding slot_for
the_second g z calls a k =
    let all = list_of_calls g z calls in
    let j = slot_of (state_of (M.model g calls)) a in
    ap (λ (st : State). seconds_sum (slot_at st j).seconds) (sym all.state) ∙ all.clock j k

pub traces : Traces
traces =
    record {
      calls = λ g lines events. (one_by_one true g lines events).calls ∙ sym (one_by_one false g lines events).calls;
      said = λ g lines events. (one_by_one true g lines events).said ∙ sym (one_by_one false g lines events).said;
      counted = all_counted;
      quiet = passed_quiet;
      shown = shown_line;
      second = the_second;
    }
