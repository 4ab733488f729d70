-- The theorem about lists of calls, by induction from any good model. Assumes nothing.
use Prim.Native.Nat.{ℕ, ◌<◌}
use mathlib.Core.Path.{◌≡◌, refl, sym, ◌∙◌, ap}
use mathlib.Core.Bool.{true, true≢false}
use mathlib.Core.List.{List, [], ◌∷◌, ◌++◌}
use lib.ListN.{length}
use Rattle.checks.specs.Checks.{check, if_ok}
use Rattle.checks.proofs.Laws.{and_left, and_right}
use Rattle.checks.specs.Lists.{every, join}
use Rattle.nets.specs.Classes.{net_width, host_span, good_net, on_net}
use Rattle.nets.specs.Rows.{flat}
use Rattle.update_rows.specs.Storing.{zeros, padded}
use Rattle.neighbour.specs.declared.Phase.{Phase}
use Rattle.neighbour.specs.declared.Settings.{Settings}
use Rattle.neighbour_seconds.specs.Seconds.{seconds_in, seconds_sum}
use Rattle.gateway_state.specs.declared.State.{State}
use Rattle.gateway_state.specs.declared.Slot as Stored
use Rattle.gateway_state.specs.Slots.{free_slot, slot_at}
use Rattle.gateway_state.specs.Places.{part_at}
use Rattle.gateway_state.specs.Formed.{good_settings, state_formed}
use Rattle.gateway_state.specs.Outcomes.{silent_of}
use Rattle.gateway_slots.specs.Calls.{free_slots, empty_state, fresh_answer, fresh_of}
use Rattle.gateway_theorems.proofs.Formed.{well_formed_kept}
use Rattle.model.specs.Model.{Call, Slot, free, used, Model, slot_in, empty, model, model_from, said_from, step}
use Rattle.model.specs.Theorem.{Gateway, gateway_step, gateway_from, Seen, seen_of, seen_from, empty_table, begun, run, seen_by, cell, state_of, rows_held, part, table_of, buffer_of, shown_in, shown, rows_at, carries_octets, lists_nothing, ListOfCalls}
use Rattle.model.specs.History.{last_accepted, is_elsewhere, takes_no_slot}
use Rattle.model.specs.Ticks.{ticks_since, ticks_finding}
use Rattle.model.proofs.Represent.{sound, Good, at_of, sound_at, part_of, read_of}
use Rattle.model.proofs.Listed.{marked, Marked, marked_step}
use Rattle.model.proofs.History.{model_append, last_is, others_slot, free_from, shown_free}
use Rattle.model.proofs.Ticks.{seconds_held, found_in, found_in_all}
use Rattle.model.proofs.Simulation.{represent, Heeds, simulates, leaves, good_step}

module _ (m : Model) (ok : Good m) where
  pub step_is : (call : Call) → gateway_step call (represent m) ≡ represent (step call m).model
  unfolding gateway_step represent
  step_is call = let s = leaves m ok call in λ i. record { state = s.state i; table = s.table i }

  pub seen_is : (call : Call) → Heeds m ok call → seen_of call (represent m) ≡ shown_in (buffer_of call) (step call m).said
  unfolding seen_of shown_in
  seen_is call h = let s = simulates m ok call h in λ i. record { answer = s.answer i; first = s.first i; second = s.second i; buffer = s.written i }

-- any good model, any list
pub run_from : (m : Model) → Good m → (calls : List Call) → gateway_from (represent m) calls ≡ represent (model_from m calls)
unfolding gateway_from model_from
run_from m ok [] = refl
run_from m ok (call ∷ rest) = rw (step_is m ok call) (run_from (step call m).model (good_step m ok call) rest)

-- every listing finds its rows marked: messages were of octets, or nothing is listed
unfoldable pub Heeded : (m : Model) → Good m → List Call → Type 0
Heeded m ok [] = m ≡ m
Heeded m ok (call ∷ rest) = Heeds m ok call × Heeded (step call m).model (good_step m ok call) rest

pub octets_heed : (m : Model) (ok : Good m) → Marked m → (calls : List Call) → every carries_octets calls ≡ true → Heeded m ok calls
unfolding Heeded every
octets_heed m ok k [] e = refl
octets_heed m ok k (call ∷ rest) e = (
  λ _. k,
  octets_heed (step call m).model (good_step m ok call) (marked_step m k call (and_left (carries_octets call) (every carries_octets rest) e)) rest
      (and_right (carries_octets call) (every carries_octets rest) e),
)

pub unlisted_heed : (m : Model) (ok : Good m) (calls : List Call) → every lists_nothing calls ≡ true → Heeded m ok calls
unfolding Heeded every
unlisted_heed m ok [] e = refl
unlisted_heed m ok (call ∷ rest) e = (
  λ f. absurd (true≢false (sym (and_left (lists_nothing call) (every lists_nothing rest) e) ∙ f)),
  unlisted_heed (step call m).model (good_step m ok call) rest (and_right (lists_nothing call) (every lists_nothing rest) e),
)

pub seen_from_lem : (m : Model) (ok : Good m) (calls : List Call) → Heeded m ok calls → seen_from (represent m) calls ≡ shown calls (said_from m calls)
unfolding seen_from said_from shown Heeded
seen_from_lem m ok [] h = refl
seen_from_lem m ok (call ∷ rest) h =
    rw (seen_is m ok call h.0, step_is m ok call)
    (ap (λ (l : List Seen). shown_in (buffer_of call) (step call m).said ∷ l) (seen_from_lem (step call m).model (good_step m ok call) rest h.1))

pub good_from : (m : Model) → Good m → (calls : List Call) → Good (model_from m calls)
unfolding model_from
good_from m ok [] = ok
good_from m ok (call ∷ rest) = good_from (step call m).model (good_step m ok call) rest

-- ---- the start

empty_state_lem : (g : Settings) → state_of (empty g) ≡ empty_state g
unfolding state_of empty empty_state free_slots cell
empty_state_lem g = refl

empty_table_lem : (g : Settings) → table_of (empty g) ≡ empty_table
unfolding table_of empty empty_table part rows_held padded flat join zeros
empty_table_lem g = refl

module _ (g : Settings) (z : (fresh_of g).answer ≡ 0) where
  fresh_state : (fresh_of g).state ≡ state_of (empty g)
  unfolding fresh_of silent_of if_ok
  fresh_state = rw z (sym (empty_state_lem g))

  pub begun_is : begun g ≡ represent (empty g)
  unfolding begun represent
  begun_is = λ i. record { state = fresh_state i; table = sym (empty_table_lem g) i }

  pub empty_good : Good (empty g)
  unfolding empty every sound
  empty_good =
      record { eight = refl; each = refl; formed = ap state_formed (sym fresh_state) ∙ (well_formed_kept.fresh g z).formed }

  pub run_is : (calls : List Call) → run g calls ≡ represent (model g calls)
  unfolding run model
  run_is calls = rw begun_is (run_from (empty g) empty_good calls)

  pub run_state : (calls : List Call) → (run g calls).state ≡ state_of (model g calls)
  unfolding represent
  run_state calls = ap (λ (b : Gateway). b.state) (run_is calls)

  pub run_table : (calls : List Call) → (run g calls).table ≡ table_of (model g calls)
  unfolding represent
  run_table calls = ap (λ (b : Gateway). b.table) (run_is calls)

  pub empty_marked : Marked (empty g)
  unfolding empty every marked rows_held
  empty_marked = refl

  run_seen : (calls : List Call) → every carries_octets calls ≡ true → seen_by g calls ≡ shown calls (said_from (empty g) calls)
  unfolding seen_by
  run_seen calls e = rw begun_is (seen_from_lem (empty g) empty_good calls (octets_heed (empty g) empty_good empty_marked calls e))

  run_unlisted : (calls : List Call) → every lists_nothing calls ≡ true → seen_by g calls ≡ shown calls (said_from (empty g) calls)
  unfolding seen_by
  run_unlisted calls e = rw begun_is (seen_from_lem (empty g) empty_good calls (unlisted_heed (empty g) empty_good calls e))

-- ---- what is read off state and table

pub cell_count : (slot : Slot) → (cell slot).rows ≡ length (rows_held slot)
unfolding cell rows_held free_slot
cell_count free = refl
cell_count (used peer) = refl

module _ (m : Model) (ok : Good m) (j : ℕ) (j8 : j < 8) where
  pub rows_read_lem : rows_at (represent m) j ≡ rows_held (slot_in m j)
  unfolding rows_at represent
  rows_read_lem = read_of m ok j j8

  count_read : (slot_at (state_of m) j).rows ≡ length (rows_held (slot_in m j))
  count_read = rw (at_of m ok j) (cell_count (slot_in m j))

  numbers_read : part_at (table_of m) j ≡ padded 384 (flat (rows_held (slot_in m j)))
  unfolding part
  numbers_read = part_of m ok j j8

pub cell_seconds : (slot : Slot) → (cell slot).seconds ≡ seconds_held slot
unfolding cell free_slot seconds_held
cell_seconds free = refl
cell_seconds (used peer) = refl

module _ (g : Settings) (z : (fresh_of g).answer ≡ 0) (calls : List Call) where
  pub model_good : Good (model g calls)
  unfolding model
  model_good = good_from (empty g) (empty_good g z) calls

  pub last : (j : ℕ) → j < 8 → last_accepted g j calls ≡ rows_held (slot_in (model g calls) j)
  last j j8 = last_is g j j8 (empty_good g z) calls

  run_rows : (j : ℕ) → j < 8 → rows_at (run g calls) j ≡ last_accepted g j calls
  run_rows j j8 = ap (λ (b : Gateway). rows_at b j) (run_is g z calls) ∙ rows_read_lem (model g calls) model_good j j8 ∙ sym (last j j8)

  run_count : (j : ℕ) → j < 8 → (slot_at (run g calls).state j).rows ≡ length (last_accepted g j calls)
  run_count j j8 = rw (run_state g z calls, last j j8) (count_read (model g calls) model_good j j8)

  run_numbers : (j : ℕ) → j < 8 → part_at (run g calls).table j ≡ padded 384 (flat (last_accepted g j calls))
  run_numbers j j8 = rw (run_table g z calls, last j j8) (numbers_read (model g calls) model_good j j8)

  pub slot_seconds : (j : ℕ) → (slot_at (run g calls).state j).seconds ≡ seconds_held (slot_in (model g calls) j)
  slot_seconds j =
      ap (λ (s : State). (slot_at s j).seconds) (run_state g z calls)
      ∙ ap (λ (s : Stored.Slot). s.seconds) (at_of (model g calls) model_good j) ∙ cell_seconds (slot_in (model g calls) j)

  run_seconds : (j : ℕ) → j < 8 → (phase : Phase) → seconds_in phase (slot_at (run g calls).state j).seconds ≡ ticks_finding g j phase calls
  run_seconds j j8 phase = ap (seconds_in phase) (slot_seconds j) ∙ found_in g (empty_good g z) calls j j8 phase

  run_clock : (j : ℕ) → j < 8 → seconds_sum (slot_at (run g calls).state j).seconds ≡ ticks_since g j calls
  run_clock j j8 = ap seconds_sum (slot_seconds j) ∙ found_in_all g (empty_good g z) calls j j8

  pub model_more : (more : List Call) → model g (calls ++ more) ≡ model_from (model g calls) more
  unfolding model
  model_more more = model_append (empty g) calls more

  more_good : (more : List Call) → Good (model g (calls ++ more))
  more_good more = rw (model_more more) (good_from (model g calls) model_good more)

  more_slot : (more : List Call) (j : ℕ) → ((slot_at (run g calls).state j).address ≡ 0 → ⊥)
      → every (is_elsewhere (slot_at (run g calls).state j).address) more ≡ true
      → slot_in (model g (calls ++ more)) j ≡ slot_in (model g calls) j
  more_slot more j p e =
      let here : (slot_at (run g calls).state j).address ≡ (cell (slot_in (model g calls) j)).address =
      ap (λ (s : State). (slot_at s j).address) (run_state g z calls) ∙ ap (λ (s : Stored.Slot). s.address) (at_of (model g calls) model_good j) in
      ap (λ (m : Model). slot_in m j) (model_more more)
      ∙ others_slot (model g calls) model_good j more (λ q. p (here ∙ q)) (ap (λ (a : ℕ). every (is_elsewhere a) more) (sym here) ∙ e)

  run_others : (more : List Call) (j : ℕ) → j < 8 → ((slot_at (run g calls).state j).address ≡ 0 → ⊥)
      → every (is_elsewhere (slot_at (run g calls).state j).address) more ≡ true
      → (slot_at (run g (calls ++ more)).state j ≡ slot_at (run g calls).state j)
      × (part_at (run g (calls ++ more)).table j ≡ part_at (run g calls).table j)
      × (rows_at (run g (calls ++ more)) j ≡ rows_at (run g calls) j)
  run_others more j j8 p e =
      let same = more_slot more j p e in
      let after = more_good more in (
        ap (λ (s : State). slot_at s j) (run_state g z (calls ++ more)) ∙ at_of (model g (calls ++ more)) after j ∙ ap cell same
            ∙ sym (ap (λ (s : State). slot_at s j) (run_state g z calls) ∙ at_of (model g calls) model_good j),
        ap (λ (t : List ℕ). part_at t j) (run_table g z (calls ++ more)) ∙ part_of (model g (calls ++ more)) after j j8 ∙ ap part same
            ∙ sym (ap (λ (t : List ℕ). part_at t j) (run_table g z calls) ∙ part_of (model g calls) model_good j j8),
        ap (λ (b : Gateway). rows_at b j) (run_is g z (calls ++ more)) ∙ rows_read_lem (model g (calls ++ more)) after j j8 ∙ ap rows_held same
            ∙ sym (ap (λ (b : Gateway). rows_at b j) (run_is g z calls) ∙ rows_read_lem (model g calls) model_good j j8),
      )

free_part : part free ≡ zeros 384
unfolding part rows_held padded flat
free_part = refl

free_rows : rows_held free ≡ []
unfolding rows_held
free_rows = refl

free_cell : cell free ≡ free_slot
unfolding cell
free_cell = refl

module _ (g : Settings) (z : (fresh_of g).answer ≡ 0) (calls more : List Call) (j : ℕ) (j8 : j < 8) where
  run_free : (slot_at (run g calls).state j).address ≡ 0 → every takes_no_slot more ≡ true
      → (slot_at (run g (calls ++ more)).state j ≡ free_slot) × (part_at (run g (calls ++ more)).table j ≡ zeros 384) × (rows_at (run g (calls ++ more)) j ≡ [])
  run_free p e =
      let here : (cell (slot_in (model g calls) j)).address ≡ 0 =
      sym (ap (λ (s : State). (slot_at s j).address) (run_state g z calls) ∙ ap (λ (s : Stored.Slot). s.address) (at_of (model g calls) (model_good g z calls) j)) ∙ p in
      let after : slot_in (model g (calls ++ more)) j ≡ free =
      ap (λ (x : Model). slot_in x j) (model_more g z calls more)
      ∙ free_from (model g calls) (model_good g z calls) j
      (shown_free (slot_in (model g calls) j) (sound_at (model g calls) (model_good g z calls) j) here) more e in (
        ap (λ (s : State). slot_at s j) (run_state g z (calls ++ more)) ∙ at_of (model g (calls ++ more)) (more_good g z calls more) j ∙ ap cell after ∙ free_cell,
        ap (λ (t : List ℕ). part_at t j) (run_table g z (calls ++ more)) ∙ part_of (model g (calls ++ more)) (more_good g z calls more) j j8 ∙ ap part after ∙ free_part,
        ap (λ (b : Gateway). rows_at b j) (run_is g z (calls ++ more)) ∙ rows_read_lem (model g (calls ++ more)) (more_good g z calls more) j j8 ∙ ap rows_held after ∙ free_rows,
      )

pub list_of_calls : ListOfCalls
list_of_calls g z calls =
    record {
      state = run_state g z calls;
      table = run_table g z calls;
      seen = run_seen g z calls;
      seen_unlisted = run_unlisted g z calls;
      rows = run_rows g z calls;
      count = run_count g z calls;
      numbers = run_numbers g z calls;
      seconds = run_seconds g z calls;
      clock = run_clock g z calls;
      others = run_others g z calls;
      free_slots_lem = run_free g z calls;
    }

-- there are settings that fresh takes: AS 9 at 128.9.0.1 on 128.9.0.0
pub some_settings_lem : (fresh_of (record { asn = 9; own = 2148073473; capability = 0; net = 2148073472; quiet = 0 })).answer ≡ 0
unfolding fresh_of silent_of fresh_answer check good_settings good_net on_net net_width host_span
some_settings_lem = refl
