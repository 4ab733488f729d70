-- A quiet passive neighbour, over lists of calls from fresh. Assumes nothing.
use Prim.Native.Nat.{ℕ, zero, suc, ◌%◌, ◌<◌}
use mathlib.Core.Path.{◌≡◌, refl, sym, ◌∙◌, ap}
use mathlib.Core.Bool.{Bool, true, false, ◌&&◌, ◌||◌, false≢true}
use mathlib.Core.List.{List, [], ◌∷◌, ◌++◌}
use mathlib.Core.Option.{Option, none, some}
use lib.Dec.{eqb}
use lib.ListN.{get_or, replicate}
use borrow.Author.Tests.{eqb-true}
use Rattle.std.specs.Prelude.{Ok}
use Rattle.checks.proofs.Laws.{and_left, and_right}
use Rattle.nets.specs.Rows.{Row}
use Rattle.message.specs.declared.Message.TheVariants as M
use Rattle.message_reading.specs.Reading.{decode_of}
use Rattle.neighbour.specs.declared.Mode.TheVariants.{Passive}
use Rattle.neighbour.specs.declared.Phase.{Phase}
use Rattle.neighbour.specs.declared.Phase.TheVariants as Phases
use Rattle.neighbour.specs.declared.Settings.{Settings}
use Rattle.neighbour.specs.declared.Neighbour.{Neighbour}
use Rattle.neighbour.specs.Record.{is_idle, is_up, acquired}
use Rattle.neighbour.specs.Rules.{indicates}
use Rattle.neighbour_machine.specs.declared.Event.{Event}
use Rattle.neighbour_machine.specs.declared.Event.TheVariants.{Received, Tick}
use Rattle.gateway_state.specs.declared.Slot as Stored
use Rattle.gateway_state.specs.Slots.{free_slot}
use Rattle.gateway_theorems.proofs.Calls.{is_up_lem}
use Rattle.model.specs.Model.{Call, receive, Slot, free, used, Model, slot_in, is_free, is_idle_slot, found_at, step, model, empty}
use Rattle.model.specs.History.{is_up_slot, says_update, accepts}
use Rattle.model.specs.Theorem.{Gateway, gateway_step, gateway_from, run, cell, rows_held, rows_at}
use Rattle.model.specs.Windows.{is_indication, is_restart, record_in, said_event, done_for, event_for, holds_of, brings, restarts_none, windows, one_in_four, latest}
use Rattle.model.specs.Corollaries.{Taken, slot_on, is_up_on, EnteredUp, StillUp, QuietStaysUp, UpdateIndicates}
use Rattle.model.proofs.Represent.{Good}
use Rattle.model.proofs.History.{model_next}
use Rattle.model.proofs.Theorem.{run_is, rows_read_lem, empty_good, model_good, model_more}
use Rattle.model.proofs.Corollaries.{up_shown, slot_is, runs_are_sensible, enters_up_bare}
use Rattle.model.proofs.Reach.{idle_waits, indication_noted}
use Rattle.model.proofs.Windows.{step_elim, WaitsIn, HeldIn, PassiveIn, enters_step, waits_from, after, stays_up_lem}

-- ---- a run and its model

module _ (g : Settings) (z : Taken g) (calls : List Call) (j : ℕ) where
  pub slot_run : slot_on (run g calls) j ≡ cell (slot_in (model g calls) j)
  slot_run = ap (λ (b : Gateway). slot_on b j) (run_is g z calls) ∙ slot_is (model g calls) (model_good g z calls) j

  pub up_run : is_up_on (run g calls) j ≡ is_up_slot (slot_in (model g calls) j)
  up_run = ap (λ (s : Stored.Slot). is_up s.neighbour.phase) slot_run ∙ sym (up_shown (slot_in (model g calls) j))

  rows_run : j < 8 → rows_at (run g calls) j ≡ rows_held (slot_in (model g calls) j)
  rows_run j8 = ap (λ (b : Gateway). rows_at b j) (run_is g z calls) ∙ rows_read_lem (model g calls) (model_good g z calls) j j8

next_run : (g : Settings) → Taken g → (before : List Call) (call : Call) → run g (before ++ (call ∷ [])) ≡ gateway_step call (run g before)
unfolding gateway_from
next_run g z before call = (runs_are_sensible g z before).onward (call ∷ [])

-- ---- from fresh

free_waits : (k j : ℕ) → WaitsIn (get_or (replicate k free) j free)
unfolding WaitsIn cell free_slot
free_waits zero j = idle_waits
free_waits (suc k) zero = idle_waits
free_waits (suc k) (suc j) = free_waits k j

empty_waits : (g : Settings) (j : ℕ) → WaitsIn (slot_in (empty g) j)
unfolding empty slot_in
empty_waits g j = free_waits 8 j

waits_run : (g : Settings) → Taken g → (calls : List Call) (j : ℕ) → j < 8 → WaitsIn (slot_in (model g calls) j)
unfolding model
waits_run g z calls j j8 = waits_from (empty g) (empty_good g z) j j8 calls (empty_waits g j)

module _ (g : Settings) (z : Taken g) (before : List Call) (call : Call) (j : ℕ) (j8 : j < 8) (entered : EnteredUp g before call j) where
  abbrev since : List Call
  since = before ++ (call ∷ [])

  held_since : HeldIn (slot_in (model g since) j) 0 false
  unfolding PassiveIn
  held_since =
      rw (model_next g before call)
      (enters_step (model g before) (model_good g z before) j j8 call (waits_run g z before j j8)
      (sym (up_run g z before j) ∙ entered.not_before)
      (ap (λ (m : Model). is_up_slot (slot_in m j)) (sym (model_next g before call)) ∙ sym (up_run g z since j) ∙ entered.since)
      (ap (λ (m : Model). (cell (slot_in m j)).neighbour.mode) (sym (model_next g before call))
      ∙ ap (λ (s : Stored.Slot). s.neighbour.mode) (sym (slot_run g z since j)) ∙ entered.passive))

  bare_since : rows_held (slot_in (model g since) j) ≡ []
  bare_since =
      sym (rows_run g z since j j8) ∙ ap (λ (b : Gateway). rows_at b j) (next_run g z before call)
      ∙ (enters_up_bare (run g before) (runs_are_sensible g z before).sensible call j j8 entered.not_before).rows

  still_up : (more : List Call) → restarts_none (model g since) j more ≡ true → one_in_four (windows (model g since) j false more) ≡ true → StillUp g since more j
  unfolding after
  still_up more r q =
      let s = stays_up_lem (model g since) (model_good g z since) j j8 more 0 false held_since r q in
      record {
        up = up_run g z (since ++ more) j ∙ ap (λ (m : Model). is_up_slot (slot_in m j)) (model_more g z since more) ∙ s.0;
        rows =
            rows_run g z (since ++ more) j j8 ∙ ap (λ (m : Model). rows_held (slot_in m j)) (model_more g z since more) ∙ s.1
            ∙ ap (λ (known : List Row). latest (model g since) j known more) bare_since;
      }

pub quiet_stays_up : QuietStaysUp
quiet_stays_up g z before call more j j8 entered r q = still_up g z before call j j8 entered more r q

-- ---- an Update as an indication

-- of a neighbour in Up and passive
update_indicates_by : (n : Neighbour) (asn number status net : ℕ) → is_up n.phase ≡ true → n.mode ≡ Passive
    → is_indication n (Received (M.Update asn number status net)) ≡ eqb (status % 128) 1
unfolding is_indication indicates
update_indicates_by n asn number status net u p = rw (up_acquired n.phase u, p)
  where
    up_acquired : (q : Phase) → is_up q ≡ true → acquired q ≡ true
    up_acquired Phases.Idle e = absurd (false≢true e)
    up_acquired Phases.Acquisition e = absurd (false≢true e)
    up_acquired Phases.Down e = refl
    up_acquired Phases.Up e = refl
    up_acquired Phases.Cease e = absurd (false≢true e)

-- the statuses of an Update that say Up, and the others
says_up : (status : ℕ) → (eqb status 1 || eqb status 129) ≡ true → eqb (status % 128) 1 ≡ true
says_up status e = go (eqb status 1) refl (eqb status 129) refl e
  where
    go : (a : Bool) → eqb status 1 ≡ a → (b : Bool) → eqb status 129 ≡ b → (a || b) ≡ true → eqb (status % 128) 1 ≡ true
    go true f b h q = rw (eqb-true status 1 f)
    go false f true h q = rw (eqb-true status 129 h)
    go false f false h q = absurd (false≢true q)

says_other : (status : ℕ) → (eqb status 0 || eqb status 2 || eqb status 128 || eqb status 130) ≡ true → eqb (status % 128) 1 ≡ false
says_other status e = go (eqb status 0) refl (eqb status 2) refl (eqb status 128) refl (eqb status 130) refl e
  where
    go : (a : Bool) → eqb status 0 ≡ a → (b : Bool) → eqb status 2 ≡ b → (c : Bool) → eqb status 128 ≡ c → (d : Bool) → eqb status 130 ≡ d
        → (a || b || c || d) ≡ true → eqb (status % 128) 1 ≡ false
    go true f b h c k d l q = rw (eqb-true status 0 f)
    go false f true h c k d l q = rw (eqb-true status 2 h)
    go false f false h true k d l q = rw (eqb-true status 128 k)
    go false f false h false k true l q = rw (eqb-true status 130 l)
    go false f false h false k false l q = absurd (false≢true q)

not_free : (slot : Slot) → is_free slot ≡ true → is_up_slot slot ≡ true → ⊥
unfolding is_free is_up_slot
not_free free f u = false≢true u
not_free (used peer) f u = false≢true f

not_idle : (slot : Slot) → is_idle_slot slot ≡ true → is_up_slot slot ≡ true → ⊥
unfolding is_idle_slot is_up_slot
not_idle free f u = false≢true u
not_idle (used peer) f u = go peer.neighbour.phase f u
  where
    go : (p : Phase) → is_idle p ≡ true → is_up p ≡ true → ⊥
    go Phases.Idle f u = false≢true u
    go Phases.Acquisition f u = false≢true f
    go Phases.Down f u = false≢true f
    go Phases.Up f u = false≢true f
    go Phases.Cease f u = false≢true f

unfoldable unwrapped : Option Event → Event
unwrapped none = Tick
unwrapped (some event) = event

module _ (m : Model) (ok : Good m) (j : ℕ) (j8 : j < 8) (a : ℕ) (o home buffer : List ℕ) (asn number status net : ℕ)
    (taken : accepts m j (receive a o home buffer) ≡ true) (says : decode_of o ≡ Ok (M.Update asn number status net)) where
  abbrev call : Call
  call = receive a o home buffer

  is_event : event_for m j call ≡ some (Received (M.Update asn number status net))
  unfolding event_for done_for said_event accepts
  is_event =
      let done = eqb (step call m).said.answer 0 in
      let here = eqb (found_at m a) j in
      let behind = and_right done (here && (is_up_slot (slot_in m j) && says_update (decode_of o))) taken in
      rw (and_left done (here && (is_up_slot (slot_in m j) && says_update (decode_of o))) taken, and_left here (is_up_slot (slot_in m j) && says_update (decode_of o)) behind, says)

  is_up_slot_lem : is_up_slot (slot_in m j) ≡ true
  unfolding accepts
  is_up_slot_lem =
      let done = eqb (step call m).said.answer 0 in
      let here = eqb (found_at m a) j in
      and_left (is_up_slot (slot_in m j)) (says_update (decode_of o))
      (and_right here (is_up_slot (slot_in m j) && says_update (decode_of o)) (and_right done (here && (is_up_slot (slot_in m j) && says_update (decode_of o))) taken))

  module _ (passive : (record_in m j).mode ≡ Passive) where
    brought : brings is_indication m j call ≡ eqb (status % 128) 1
    unfolding brings holds_of record_in
    brought =
        ap (holds_of (is_indication (record_in m j))) is_event
        ∙ update_indicates_by (record_in m j) asn number status net (sym (up_shown (slot_in m j)) ∙ is_up_slot_lem) passive

    abbrev NotedIn : Slot → Type 0
    NotedIn slot = ((cell slot).neighbour.heard ≡ 1) × ((cell slot).neighbour.t3 ≡ 3600)

    noted_in : eqb (status % 128) 1 ≡ true → NotedIn (slot_in (step call m).model j)
    unfolding cell is_up_slot record_in is_restart unwrapped holds_of
    noted_in e =
        step_elim m ok j j8 NotedIn call
        (λ none_is. absurd (false≢true (ap (holds_of (λ _. true)) (sym none_is ∙ is_event))))
        (λ peer here event some_is head new.
        let up : is_up peer.neighbour.phase ≡ true = sym (ap is_up_slot here) ∙ is_up_slot_lem in
        let mode : peer.neighbour.mode ≡ Passive = ap (λ (slot : Slot). (cell slot).neighbour.mode) (sym here) ∙ passive in
        let same : event ≡ Received (M.Update asn number status net) = ap unwrapped (sym some_is ∙ is_event) in
        let x = indication_noted m.settings peer.asn peer.neighbour (M.Update asn number status net) head (is_up_lem peer.neighbour.phase up) refl (update_indicates_by peer.neighbour asn number status net up mode ∙ e) in
        rw same (x.1, x.2))
        (λ f. absurd (not_free (slot_in m j) f is_up_slot_lem)) (λ f. absurd (not_idle (slot_in m j) f is_up_slot_lem))

pub update_indicates : UpdateIndicates
unfolding record_in
update_indicates g z calls j a o home buffer asn number status net j8 taken says passive =
    let m = model g calls in
    let ok = model_good g z calls in
    let mode : (record_in m j).mode ≡ Passive = ap (λ (s : Stored.Slot). s.neighbour.mode) (sym (slot_run g z calls j)) ∙ passive in
    let is = brought m ok j j8 a o home buffer asn number status net taken says mode in
    let after_is : slot_on (run g (calls ++ (receive a o home buffer ∷ []))) j ≡ cell (slot_in (step (receive a o home buffer) m).model j) =
    slot_run g z (calls ++ (receive a o home buffer ∷ [])) j ∙ ap (λ (x : Model). cell (slot_in x j)) (model_next g calls (receive a o home buffer)) in
    record {
      up =
          λ e.
          let x = noted_in m ok j j8 a o home buffer asn number status net taken says mode (says_up status e) in
          record {
            indication = is ∙ says_up status e;
            heard = ap (λ (s : Stored.Slot). s.neighbour.heard) after_is ∙ x.0;
            t3 = ap (λ (s : Stored.Slot). s.neighbour.t3) after_is ∙ x.1;
          };
      other = λ e. is ∙ says_other status e;
    }
