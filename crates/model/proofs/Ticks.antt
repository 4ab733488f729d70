-- The model's seconds are those that the history tells. Assumes nothing.
use Prim.Native.Nat.{ℕ, zero, suc, ◌+◌, ◌<◌}
use native.Mathlib.Omega.{arith}
use mathlib.Core.Path.{◌≡◌, refl, sym, ◌∙◌, ap}
use mathlib.Core.Bool.{Bool, true, false, cond, not, ◌&&◌}
use mathlib.Core.List.{List, [], ◌∷◌, ◌++◌}
use lib.Dec.{eqb}
use lib.ListN.{get_or, replicate}
use borrow.Author.Tests.{eq-eqb}
use Rattle.checks.specs.Checks.{if_ok}
use Rattle.checks.proofs.Laws.{and_right}
use Rattle.message_reading.specs.Reading.{decode_of}
use Rattle.neighbour.specs.declared.Phase.{Phase}
use Rattle.neighbour.specs.declared.Settings.{Settings}
use Rattle.neighbour_seconds.specs.declared.Seconds.{Seconds}
use Rattle.neighbour_seconds.specs.Seconds.{seconds_in, no_seconds, seconds_sum, counted}
use Rattle.neighbour_seconds.specs.Claims.{is_phase}
use Rattle.neighbour_seconds.proofs.Laws.{seconds_laws}
use Rattle.neighbour_machine.specs.Intrinsics.{Intrinsic, Start, Stop, Tick}
use Rattle.model.specs.Model.{Call, add, remove, happen, receive, listing, Slot, free, used, Model, slot_in, found_at, vacancy, has_address, silent, answer_to_add, answer_to_remove, add_turn, remove_turn, no_move, moved, seconds_after, event_move, answer_to, after_message, rows_after, message_move, event_answer, message_answer, turn_at, event_turn, message_turn, listing_turn, step, model, model_from, empty, new_peer, refused_move}
use Rattle.model.specs.Ticks.{ticks, phase_of, finds, changes_hands, keeps_hands, tally, tally_since, ticks_since, ticks_finding}
use Rattle.model.proofs.Represent.{Good, used_at}
use Rattle.model.proofs.Simulation.{good_step, found_used}
use Rattle.model.proofs.History.{model_next}
use Rattle.model.proofs.Puts.{turn_zero, event_zero, put_elim}

-- the seconds in a slot: none where nobody is
unfoldable pub seconds_held : Slot → Seconds
seconds_held free = no_seconds
seconds_held (used p) = p.seconds

-- ---- one call

-- Start and Stop leave them, a tick counts one
stood : (g : Settings) (slot : Slot) → (seconds_held (event_move g Start slot).slot ≡ seconds_held slot) × (seconds_held (event_move g Stop slot).slot ≡ seconds_held slot)
unfolding event_move no_move moved seconds_held seconds_after
stood g free = (refl, refl)
stood g (used p) = (refl, refl)

tick_counts_lem : (g : Settings) (slot : Slot) (a : ℕ) → has_address a slot ≡ true
    → seconds_held (event_move g Tick slot).slot ≡ counted (phase_of slot) (seconds_held slot)
unfolding event_move moved seconds_held phase_of seconds_after
tick_counts_lem g slot a e = used_at (λ s. seconds_held (event_move g Tick s).slot ≡ counted (phase_of s) (seconds_held s)) a (λ p. refl) slot e

message_keeps : (g : Settings) (o : List ℕ) (slot : Slot) → seconds_held (message_move g o slot).slot ≡ seconds_held slot
unfolding message_move no_move moved if_ok seconds_held
message_keeps g o free = refl
message_keeps g o (used p) = go (eqb (answer_to g p.asn p.neighbour o) 0)
  where
    go : (b : Bool)
        → seconds_held (cond b (moved p (after_message g p.asn p.neighbour o (decode_of o)) (rows_after g p.neighbour o (decode_of o) p.rows) p.seconds)
        (refused_move g o p (answer_to g p.asn p.neighbour o))).slot ≡ p.seconds
    go true = refl
    go false = refl

module _ (m : Model) (ok : Good m) (j : ℕ) (j8 : j < 8) where
  -- three ends: the slot changes hands, a tick is carried out for its neighbour, or neither
  module _ (P : Seconds → Bool → Bool → Type 0) (hands : P no_seconds true false) (tick : P (counted (phase_of (slot_in m j)) (seconds_held (slot_in m j))) false true)
      (rests : P (seconds_held (slot_in m j)) false false) where
    kept : (s : Seconds) → s ≡ seconds_held (slot_in m j) → P s false false
    kept s e = rw e rests

    answered : (a : ℕ) (buffer : List ℕ) → eqb (step (happen Tick a buffer) m).said.answer 0 ≡ eqb (event_answer Tick m a buffer) 0
    unfolding step event_turn
    answered a buffer =
        turn_zero m (event_answer Tick m a buffer) (found_at m a) (event_move m.settings Tick (slot_in m (found_at m a))) []
        ∙ ap (λ (x : ℕ). eqb (event_answer Tick m a buffer) 0 && eqb x 0) (event_zero m.settings Tick (slot_in m (found_at m a)))
        ∙ go (eqb (event_answer Tick m a buffer) 0)
      where
        go : (b : Bool) → (b && true) ≡ b
        go true = refl
        go false = refl

    tick_elim : (a : ℕ) (buffer : List ℕ)
        → P (seconds_held (slot_in (step (happen Tick a buffer) m).model j)) false (eqb (event_answer Tick m a buffer) 0 && eqb (found_at m a) j)
    unfolding step event_turn turn_at
    tick_elim a buffer =
        put_elim m ok j j8 (λ s. P (seconds_held s) false (eqb (event_answer Tick m a buffer) 0 && eqb (found_at m a) j))
        (event_answer Tick m a buffer) (found_at m a) (event_move m.settings Tick (slot_in m (found_at m a))).slot
        (λ z e. rw (
          z,
          e,
          eq-eqb j j refl,
          tick_counts_lem m.settings (slot_in m j) a (ap (λ (i : ℕ). has_address a (slot_in m i)) (sym e) ∙ found_used m ok a (omega (arith, e, j8))),
        ) tick)
        (λ f. rw f rests)

    event_keeps : (event : Intrinsic) (a : ℕ) (buffer : List ℕ) → ((slot : Slot) → seconds_held (event_move m.settings event slot).slot ≡ seconds_held slot)
        → P (seconds_held (slot_in (event_turn event m a buffer).model j)) false false
    unfolding event_turn turn_at
    event_keeps event a buffer h =
        put_elim m ok j j8 (λ s. P (seconds_held s) false false) (event_answer event m a buffer) (found_at m a) _
        (λ z e. rw e (kept _ (h (slot_in m j)))) (λ f. rests)

    pub clock_elim : (call : Call) → P (seconds_held (slot_in (step call m).model j)) (changes_hands m j call) (ticks m j call)
    unfolding step changes_hands ticks add_turn remove_turn message_turn listing_turn turn_at silent seconds_held
    clock_elim (add address asn) =
        put_elim m ok j j8 (λ s. P (seconds_held s) (eqb (answer_to_add m address asn) 0 && eqb (vacancy m) j) false)
        (answer_to_add m address asn) (vacancy m) (used (new_peer address asn)) (λ z e. rw (z, e, eq-eqb j j refl) hands) (λ f. rw f rests)
    clock_elim (remove a) =
        put_elim m ok j j8 (λ s. P (seconds_held s) (eqb (answer_to_remove m a) 0 && eqb (found_at m a) j) false)
        (answer_to_remove m a) (found_at m a) free (λ z e. rw (z, e, eq-eqb j j refl) hands) (λ f. rw f rests)
    clock_elim (happen Start a buffer) = event_keeps Start a buffer (λ slot. (stood m.settings slot).0)
    clock_elim (happen Stop a buffer) = event_keeps Stop a buffer (λ slot. (stood m.settings slot).1)
    clock_elim (happen Tick a buffer) = rw (answered a buffer) (tick_elim a buffer)
    clock_elim (receive a o home buffer) =
        put_elim m ok j j8 (λ s. P (seconds_held s) false false) (message_answer m a home buffer) (found_at m a) _
        (λ z e. rw e (kept _ (message_keeps m.settings o (slot_in m j)))) (λ f. rests)
    clock_elim (listing buffer) = rests

  pub in_state : (phase : Phase) (call : Call)
      → seconds_in phase (seconds_held (slot_in (step call m).model j))
      ≡ cond (changes_hands m j call) 0 (seconds_in phase (seconds_held (slot_in m j))) + cond (finds phase m j call) 1 0
  unfolding finds
  in_state phase call =
      let q = phase_of (slot_in m j) in
      let n = seconds_in phase (seconds_held (slot_in m j)) in
      clock_elim (λ s b t. seconds_in phase s ≡ cond b 0 n + cond (t && is_phase q phase) 1 0)
      (seconds_laws.from_zero phase) (seconds_laws.once phase q (seconds_held (slot_in m j))) (omega arith) call

  pub in_all : (call : Call)
      → seconds_sum (seconds_held (slot_in (step call m).model j)) ≡ cond (changes_hands m j call) 0 (seconds_sum (seconds_held (slot_in m j))) + cond (ticks m j call) 1 0
  unfolding seconds_sum
  in_all call =
      let n = seconds_sum (seconds_held (slot_in m j)) in
      clock_elim (λ s b t. seconds_sum s ≡ cond b 0 n + cond t 1 0) refl (seconds_laws.more (phase_of (slot_in m j)) (seconds_held (slot_in m j))) (omega arith) call

pub none_in_all : seconds_sum no_seconds ≡ 0
unfolding seconds_sum
none_in_all = refl

-- ---- over a list

free_held : (k i : ℕ) → seconds_held (get_or (replicate k free) i free) ≡ no_seconds
unfolding seconds_held
free_held zero i = refl
free_held (suc k) zero = refl
free_held (suc k) (suc i) = free_held k i

-- a number read off the seconds of slot j: none at first, and by each call as the test says
module _ (count : Seconds → ℕ) (none : count no_seconds ≡ 0) (test : Model → ℕ → Call → Bool) (j : ℕ)
    (law : (m : Model) → Good m → (call : Call)
    → count (seconds_held (slot_in (step call m).model j)) ≡ cond (changes_hands m j call) 0 (count (seconds_held (slot_in m j))) + cond (test m j call) 1 0) where
  abbrev now : Model → ℕ
  now m = count (seconds_held (slot_in m j))

  module _ (g : Settings) where
    next : (before : List Call) (call : Call) → Good (model g before)
        → now (model g (before ++ (call ∷ []))) ≡ cond (changes_hands (model g before) j call) 0 (now (model g before)) + cond (test (model g before) j call) 1 0
    next before call ok = ap now (model_next g before call) ∙ law (model g before) ok call

    good_next : (before : List Call) (call : Call) → Good (model g before) → Good (model g (before ++ (call ∷ [])))
    good_next before call ok = rw (model_next g before call) (good_step (model g before) ok call)

    pub since_from : (before rest : List Call) → Good (model g before)
        → tally_since test g j before rest + cond (keeps_hands g j before rest) (now (model g before)) 0 ≡ now (model_from (model g before) rest)
    unfolding tally_since keeps_hands model_from
    since_from before [] ok = omega arith
    since_from before (call ∷ rest) ok =
        go (changes_hands (model g before) j call) (test (model g before) j call) (keeps_hands g j (before ++ (call ∷ [])) rest)
        (now (model g before)) (now (model g (before ++ (call ∷ [])))) (tally_since test g j (before ++ (call ∷ [])) rest)
        (now (model_from (step call (model g before)).model rest))
        (next before call ok)
        (since_from (before ++ (call ∷ [])) rest (good_next before call ok) ∙ ap (λ (m : Model). now (model_from m rest)) (model_next g before call))
      where
        go : (h t k : Bool) (n n' c end : ℕ) → n' ≡ cond h 0 n + cond t 1 0 → c + cond k n' 0 ≡ end
            → cond (t && k) 1 0 + c + cond (not h && k) n 0 ≡ end
        go true true true n n' c end e f = omega (arith, e, f)
        go true true false n n' c end e f = omega (arith, f)
        go true false true n n' c end e f = omega (arith, e, f)
        go true false false n n' c end e f = omega (arith, f)
        go false true true n n' c end e f = omega (arith, e, f)
        go false true false n n' c end e f = omega (arith, f)
        go false false true n n' c end e f = omega (arith, e, f)
        go false false false n n' c end e f = omega (arith, f)

    pub since_start : Good (empty g) → (calls : List Call) → now (model g calls) ≡ tally_since test g j [] calls
    unfolding model model_from empty slot_in seconds_held
    since_start ok calls =
        sym (since_from [] calls ok)
        ∙ go (keeps_hands g j [] calls) (tally_since test g j [] calls) (count (seconds_held (get_or (replicate 8 free) j free))) (ap count (free_held 8 j) ∙ none)
      where
        go : (b : Bool) (c n : ℕ) → n ≡ 0 → c + cond b n 0 ≡ c
        go true c n e = omega (arith, e)
        go false c n e = omega arith

-- from a neighbour that has none, while the slot keeps hands: each call is counted as it comes
module _ (count : Seconds → ℕ) (test : Model → ℕ → Call → Bool) (g : Settings) (j : ℕ) where
  pub plain : (before rest : List Call) → keeps_hands g j before rest ≡ true → tally_since test g j before rest ≡ tally test g j before rest
  unfolding tally_since tally keeps_hands
  plain before [] k = refl
  plain before (call ∷ rest) k =
      let later = and_right (not (changes_hands (model g before) j call)) (keeps_hands g j (before ++ (call ∷ [])) rest) k in
      rw (later, plain (before ++ (call ∷ [])) rest later) (ap (λ (b : Bool). cond b 1 0 + tally test g j (before ++ (call ∷ [])) rest) (and_true (test (model g before) j call)))
    where
      and_true : (b : Bool) → (b && true) ≡ b
      and_true true = refl
      and_true false = refl

-- ---- both, after any list of calls

module _ (g : Settings) (ok : Good (empty g)) (calls : List Call) (j : ℕ) (j8 : j < 8) where
  pub found_in : (phase : Phase) → seconds_in phase (seconds_held (slot_in (model g calls) j)) ≡ ticks_finding g j phase calls
  unfolding ticks_finding
  found_in phase =
      since_start (seconds_in phase) (seconds_laws.from_zero phase) (finds phase) j (λ m k call. in_state m k j j8 phase call) g ok calls

  pub found_in_all : seconds_sum (seconds_held (slot_in (model g calls) j)) ≡ ticks_since g j calls
  unfolding ticks_since
  found_in_all = since_start seconds_sum none_in_all ticks j (λ m k call. in_all m k j j8 call) g ok calls
