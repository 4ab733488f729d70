-- What a call makes of a slot, by the event carried out there; a quiet passive neighbour stays Up. Assumes nothing.
use Prim.Native.Nat.{ℕ, zero, suc, ◌≤◌, ◌<◌}
use native.Mathlib.Omega.{arith}
use mathlib.Core.Path.{◌≡◌, refl, sym, ◌∙◌, ap, subst}
use mathlib.Core.Bool.{Bool, true, false, cond, not, ◌&&◌, ◌||◌, or-false, false≢true, true≢false}
use mathlib.Core.List.{List, [], ◌∷◌, ◌++◌}
use mathlib.Core.Option.{none, some}
use lib.Dec.{eqb}
use lib.ListN.{length}
use borrow.Author.Tests.{eq-eqb, eqb-true, eqb-false, not-true, le-ltb}
use Rattle.std.specs.Prelude.{Result, Ok, Err}
use Rattle.checks.specs.declared.Refusal.{Refusal}
use Rattle.checks.specs.Checks.{check, if_ok}
use Rattle.checks.proofs.Laws.{number_some, and_left, and_right}
use Rattle.message.specs.declared.Message.{Message}
use Rattle.nets.specs.Rows.{Row, rows_of}
use Rattle.message_reading.specs.Reading.{header_answer, asn_at, decode_of}
use Rattle.neighbour.specs.declared.Mode.TheVariants.{Passive}
use Rattle.neighbour.specs.declared.Phase.TheVariants as Phases
use Rattle.neighbour.specs.declared.Settings.{Settings}
use Rattle.neighbour.specs.declared.Neighbour.{Neighbour}
use Rattle.neighbour.specs.Record.{idle, is_idle, is_up}
use Rattle.neighbour_wellformed.specs.Formed.{well_formed}
use Rattle.neighbour_messages.specs.declared.Head.{Head}
use Rattle.neighbour_machine.specs.declared.Event.{Event}
use Rattle.neighbour_machine.specs.declared.Event.TheVariants.{Received}
use Rattle.neighbour_machine.specs.Intrinsics.{Intrinsic, as_event}
use Rattle.neighbour_machine.specs.Step.{step_of}
use Rattle.gateway_state.specs.Slots.{free_slot}
use Rattle.model.specs.Model.{Call, add, remove, happen, receive, listing, Slot, free, used, Model, slot_in, is_free, has_address, found_at, is_present, vacancy, Turn, is_idle_slot, answer_to_add, answer_to_remove, add_turn, remove_turn, moved, no_octets, seconds_after, event_move, kind_answer, answer_to, first_twelve, after_message, rows_after, message_move, event_answer, message_answer, turn_at, event_turn, message_turn, listing_turn, step, model_from, Peer, new_peer, peer_with}
use Rattle.model.specs.History.{is_up_slot, accepts, rows_said}
use Rattle.model.specs.Theorem.{cell, rows_held}
use Rattle.model.specs.Windows.{is_indication, is_evaluation, is_restart, record_in, said_event, done_for, event_for, holds_of, brings, restarts_none, windows, any_of, first_four, one_in_four, latest}
use Rattle.model.proofs.Represent.{Good, good_at, used_at}
use Rattle.model.proofs.Simulation.{good_step, found_used, found_free, add_free}
use Rattle.model.proofs.History.{message_stays, step_told}
use Rattle.model.proofs.Puts.{turn_zero, event_zero, put_elim}
use Rattle.model.proofs.Reach.{fine_in, Waits, idle_waits, step_waits, Held, step_enters, silent_after, heard_after, event_held}

-- ---- what a call makes of slot j

removed_idle : (m : Model) (a : ℕ) → answer_to_remove m a ≡ 0 → is_idle_slot (slot_in m (found_at m a)) ≡ true
unfolding answer_to_remove check
removed_idle m a e = go (is_present m a) (is_idle_slot (slot_in m (found_at m a))) e
  where
    go : (b c : Bool) → ◌≡◌ {A = ℕ} (cond b (cond c 0 18) 5) 0 → c ≡ true
    go true true f = refl
    go true false f = absurd (omega (arith, f))
    go false c f = absurd (omega (arith, f))

-- an answer of 0 is one to a message of a known kind
kind_zero : (g : Settings) (asn : ℕ) (n : Neighbour) (o : List ℕ) → eqb (answer_to g asn n o) 0 ≡ true → kind_answer g n o (decode_of o) ≡ 0
unfolding answer_to if_ok check
kind_zero g asn n o e = go (eqb (header_answer o) 0) refl (eqb (asn_at o) asn) (kind_answer g n o (decode_of o)) (eqb-true _ 0 e)
  where
    go : (b : Bool) → eqb (header_answer o) 0 ≡ b → (c : Bool) (k : ℕ) → cond b (cond c k 9) (header_answer o) ≡ 0 → k ≡ 0
    go true z true k f = f
    go true z false k f = absurd (omega (arith, f))
    go false z c k f = absurd (eqb-false (header_answer o) 0 z f)

thirds_false : (a b c : Bool) → (a && b) ≡ false → ((a && c) && b) ≡ false
thirds_false true b true e = e
thirds_false true b false e = refl
thirds_false false b c e = refl

module _ (m : Model) (ok : Good m) (j : ℕ) (j8 : j < 8) where
  module _ (P : Slot → Type 0) (call : Call) (stays : event_for m j call ≡ none → P (slot_in m j))
      (goes : (peer : Peer) → slot_in m j ≡ used peer → (event : Event) → event_for m j call ≡ some event
      → (head : Head) (new : List Row) → P (used (peer_with peer (step_of m.settings peer.asn peer.neighbour event head).neighbour new (seconds_after event peer)))) where
    -- the neighbour that a call is about, where it is in slot j
    found : (a : ℕ) (Q : Type 0) → found_at m a ≡ j → ((peer : Peer) → slot_in m j ≡ used peer → Q) → Q
    found a Q e h =
        used_at (λ s. slot_in m j ≡ s → Q) a (λ peer here. h peer here) (slot_in m j)
        (ap (λ (i : ℕ). has_address a (slot_in m i)) (sym e) ∙ found_used m ok a (omega (arith, e, j8))) refl

    -- Start, Stop and tick
    module _ (event : Intrinsic) (a : ℕ) (buffer : List ℕ) (s : step call m ≡ event_turn event m a buffer) (c : event_for m j call ≡ done_for m j a call (some (as_event event))) where
      event_answer_lem : eqb (step call m).said.answer 0 ≡ (eqb (event_answer event m a buffer) 0 && true)
      unfolding event_turn
      event_answer_lem =
          ap (λ (t : Turn). eqb t.said.answer 0) s
          ∙ turn_zero m (event_answer event m a buffer) (found_at m a) (event_move m.settings event (slot_in m (found_at m a))) []
          ∙ ap (λ (x : ℕ). eqb (event_answer event m a buffer) 0 && eqb x 0) (event_zero m.settings event (slot_in m (found_at m a)))

      event_done : event_answer event m a buffer ≡ 0 → found_at m a ≡ j → event_for m j call ≡ some (as_event event)
      unfolding done_for
      event_done z e = c ∙ rw (event_answer_lem, z, e, eq-eqb j j refl)

      event_left : (eqb (event_answer event m a buffer) 0 && eqb (found_at m a) j) ≡ false → event_for m j call ≡ none
      unfolding done_for
      event_left f = c ∙ rw (event_answer_lem, thirds_false (eqb (event_answer event m a buffer) 0) (eqb (found_at m a) j) true f)

      event_moved : event_answer event m a buffer ≡ 0 → found_at m a ≡ j → P (event_move m.settings event (slot_in m (found_at m a))).slot
      unfolding event_move moved
      event_moved z e = found a _ e (λ peer here. rw (e, here) (goes peer here (as_event event) (event_done z e) no_octets _))

      event_elim : P (slot_in (step call m).model j)
      unfolding event_turn turn_at
      event_elim =
          rw s
          (put_elim m ok j j8 P (event_answer event m a buffer) (found_at m a) (event_move m.settings event (slot_in m (found_at m a))).slot
          event_moved (λ f. stays (event_left f)))

    -- a message
    module _ (a : ℕ) (o home buffer : List ℕ) (s : step call m ≡ message_turn m a o home buffer)
        (c : event_for m j call ≡ done_for m j a call (said_event (decode_of o))) where
      message_answer_lem : eqb (step call m).said.answer 0
          ≡ (eqb (message_answer m a home buffer) 0 && eqb (message_move m.settings o (slot_in m (found_at m a))).answer 0)
      unfolding message_turn
      message_answer_lem =
          ap (λ (t : Turn). eqb t.said.answer 0) s
          ∙ turn_zero m (message_answer m a home buffer) (found_at m a) (message_move m.settings o (slot_in m (found_at m a))) (rows_of home)

      message_left : (eqb (message_answer m a home buffer) 0 && eqb (found_at m a) j) ≡ false → event_for m j call ≡ none
      unfolding done_for
      message_left f =
          c ∙ rw (message_answer_lem, thirds_false (eqb (message_answer m a home buffer) 0) (eqb (found_at m a) j) (eqb (message_move m.settings o (slot_in m (found_at m a))).answer 0) f)

      module _ (z : message_answer m a home buffer ≡ 0) (e : found_at m a ≡ j) (peer : Peer) (here : slot_in m j ≡ used peer) where
        refused_answer : eqb (answer_to m.settings peer.asn peer.neighbour o) 0 ≡ false → event_for m j call ≡ none
        unfolding done_for
        refused_answer f = c ∙ rw (message_answer_lem, z, e, here, message_stays m.settings o peer f, f)

        done_move : eqb (answer_to m.settings peer.asn peer.neighbour o) 0 ≡ true
            → message_move m.settings o (used peer) ≡ moved peer (after_message m.settings peer.asn peer.neighbour o (decode_of o)) (rows_after m.settings peer.neighbour o (decode_of o) peer.rows) peer.seconds
        unfolding message_move if_ok
        done_move f = rw f

        done_answer : eqb (answer_to m.settings peer.asn peer.neighbour o) 0 ≡ true → event_for m j call ≡ said_event (decode_of o)
        unfolding done_for moved
        done_answer f = c ∙ rw (message_answer_lem, z, e, here, done_move f, eq-eqb j j refl)

        by_kind : (d : Result Message Refusal) → decode_of o ≡ d → kind_answer m.settings peer.neighbour o d ≡ 0 → event_for m j call ≡ said_event d
            → P (moved peer (after_message m.settings peer.asn peer.neighbour o d) (rows_after m.settings peer.neighbour o d peer.rows) peer.seconds).slot
        unfolding moved after_message kind_answer said_event seconds_after
        by_kind (Ok x) d k q = goes peer here (Received x) q (first_twelve o) _
        by_kind (Err refused) d k q = absurd (number_some refused k)

        heard_here : P (message_move m.settings o (used peer)).slot
        heard_here = go (eqb (answer_to m.settings peer.asn peer.neighbour o) 0) refl
          where
            go : (b : Bool) → eqb (answer_to m.settings peer.asn peer.neighbour o) 0 ≡ b → P (message_move m.settings o (used peer)).slot
            go true f = rw (done_move f) (by_kind (decode_of o) refl (kind_zero m.settings peer.asn peer.neighbour o f) (done_answer f))
            go false f = rw (message_stays m.settings o peer f) (subst P here (stays (refused_answer f)))

      message_moved : message_answer m a home buffer ≡ 0 → found_at m a ≡ j → P (message_move m.settings o (slot_in m (found_at m a))).slot
      message_moved z e = found a _ e (λ peer here. rw (e, here) (heard_here z e peer here))

      message_elim : P (slot_in (step call m).model j)
      unfolding message_turn turn_at
      message_elim =
          rw s
          (put_elim m ok j j8 P (message_answer m a home buffer) (found_at m a) (message_move m.settings o (slot_in m (found_at m a))).slot
          message_moved (λ f. stays (message_left f)))

  -- any call: the slot stays where nothing is carried out for it; it moves by the event; it is taken, or freed
  pub step_elim : (P : Slot → Type 0) (call : Call) → (event_for m j call ≡ none → P (slot_in m j))
      → ((peer : Peer) → slot_in m j ≡ used peer → (event : Event) → event_for m j call ≡ some event
      → (head : Head) (new : List Row) → P (used (peer_with peer (step_of m.settings peer.asn peer.neighbour event head).neighbour new (seconds_after event peer))))
      → (is_free (slot_in m j) ≡ true → (address asn : ℕ) → P (used (new_peer address asn)))
      → (is_idle_slot (slot_in m j) ≡ true → P free)
      → P (slot_in (step call m).model j)
  unfolding step event_for add_turn remove_turn listing_turn
  step_elim P (add address asn) stays goes taken freed =
      put_elim m ok j j8 P (answer_to_add m address asn) (vacancy m) (used (new_peer address asn))
      (λ z e. taken (ap (λ (i : ℕ). is_free (slot_in m i)) (sym e) ∙ found_free m ok (add_free m ok address asn z)) address asn) (λ _. stays refl)
  step_elim P (remove a) stays goes taken freed =
      put_elim m ok j j8 P (answer_to_remove m a) (found_at m a) free
      (λ z e. freed (ap (λ (i : ℕ). is_idle_slot (slot_in m i)) (sym e) ∙ removed_idle m a z)) (λ _. stays refl)
  step_elim P (happen event a buffer) stays goes taken freed = event_elim P (happen event a buffer) stays goes event a buffer refl refl
  step_elim P (receive a o home buffer) stays goes taken freed = message_elim P (receive a o home buffer) stays goes a o home buffer refl refl
  step_elim P (listing buffer) stays goes taken freed = stays refl

-- ---- one call

-- the record in a slot
unfoldable pub WaitsIn : Slot → Type 0
WaitsIn slot = Waits (cell slot).neighbour

unfoldable pub HeldIn : Slot → ℕ → Bool → Type 0
HeldIn slot silent heard = Held (cell slot).neighbour silent heard

unfoldable pub PassiveIn : Slot → Type 0
PassiveIn slot = (cell slot).neighbour.mode ≡ Passive

still_held : (slot : Slot) (silent : ℕ) (heard : Bool) → HeldIn slot silent heard → HeldIn slot (silent_after false heard silent) (heard_after false heard false)
unfolding silent_after heard_after
still_held slot silent heard h = rw (or-false heard) h

held_used : (slot : Slot) (silent : ℕ) (heard : Bool) → HeldIn slot silent heard → is_free slot ≡ false
unfolding HeldIn cell free_slot idle is_free
held_used free silent heard h = absurd (false≢true (ap is_up h.up))
held_used (used peer) silent heard h = refl

few_in : (slot : Slot) (silent : ℕ) (heard : Bool) → HeldIn slot silent heard → silent ≤ 3
unfolding HeldIn
few_in slot silent heard h = h.few

held_busy : (slot : Slot) (silent : ℕ) (heard : Bool) → HeldIn slot silent heard → is_idle_slot slot ≡ false
unfolding HeldIn cell free_slot idle is_idle_slot
held_busy free silent heard h = absurd (false≢true (ap is_up h.up))
held_busy (used peer) silent heard h = ap is_idle h.up

held_up : (slot : Slot) (silent : ℕ) (heard : Bool) → HeldIn slot silent heard → is_up_slot slot ≡ true
unfolding HeldIn cell free_slot idle is_up_slot
held_up free silent heard h = ap is_up h.up
held_up (used peer) silent heard h = ap is_up h.up

module _ (m : Model) (ok : Good m) (j : ℕ) (j8 : j < 8) where
  pub formed_in : (peer : Peer) → slot_in m j ≡ used peer → well_formed peer.neighbour ≡ true
  unfolding cell
  formed_in peer here = subst (λ (slot : Slot). well_formed (cell slot).neighbour ≡ true) here (good_at m ok j).neighbour

  -- what a call brings, by the event that it carries out
  pub brings_none : (test : Neighbour → Event → Bool) (call : Call) → event_for m j call ≡ none → brings test m j call ≡ false
  unfolding brings holds_of
  brings_none test call e = rw e

  pub brings_some : (test : Neighbour → Event → Bool) (call : Call) (peer : Peer) (event : Event)
      → slot_in m j ≡ used peer → event_for m j call ≡ some event → brings test m j call ≡ test peer.neighbour event
  unfolding brings holds_of record_in cell
  brings_some test call peer event here e = ap (holds_of (test (record_in m j))) e ∙ ap (λ (slot : Slot). test (cell slot).neighbour event) here

  -- a passive neighbour in Down stays one without ones
  waits_step : (call : Call) → WaitsIn (slot_in m j) → WaitsIn (slot_in (step call m).model j)
  unfolding WaitsIn cell free_slot
  waits_step call w =
      step_elim m ok j j8 WaitsIn call (λ _. w)
      (λ peer here event e head new. step_waits m.settings peer.asn peer.neighbour event head (formed_in peer here) (subst WaitsIn here w))
      (λ _ address asn. idle_waits) (λ _. idle_waits)

  -- entering Up
  pub enters_step : (call : Call) → WaitsIn (slot_in m j) → is_up_slot (slot_in m j) ≡ false
      → is_up_slot (slot_in (step call m).model j) ≡ true → PassiveIn (slot_in (step call m).model j) → HeldIn (slot_in (step call m).model j) 0 false
  unfolding WaitsIn HeldIn PassiveIn cell free_slot is_up_slot idle
  enters_step call w d =
      step_elim m ok j j8 (λ slot. is_up_slot slot ≡ true → PassiveIn slot → HeldIn slot 0 false) call
      (λ _ u. absurd (false≢true (sym d ∙ u)))
      (λ peer here event e head new.
      step_enters m.settings peer.asn peer.neighbour event head (formed_in peer here) (subst WaitsIn here w) (sym (ap is_up_slot here) ∙ d))
      (λ _ address asn u. absurd (false≢true u)) (λ _ u. absurd (false≢true u))

  -- staying Up
  held_step : (call : Call) (silent : ℕ) (heard : Bool) → HeldIn (slot_in m j) silent heard → brings is_restart m j call ≡ false
      → (brings is_evaluation m j call ≡ true → heard ≡ false → suc silent ≤ 3)
      → HeldIn (slot_in (step call m).model j) (silent_after (brings is_evaluation m j call) heard silent) (heard_after (brings is_evaluation m j call) heard (brings is_indication m j call))
  unfolding HeldIn cell
  held_step call silent heard h r few =
      step_elim m ok j j8
      (λ slot. HeldIn slot (silent_after (brings is_evaluation m j call) heard silent) (heard_after (brings is_evaluation m j call) heard (brings is_indication m j call))) call
      (λ e. rw (brings_none is_evaluation call e, brings_none is_indication call e) (still_held (slot_in m j) silent heard h))
      (λ peer here event e head new.
      let k : Held peer.neighbour silent heard = subst (λ (slot : Slot). HeldIn slot silent heard) here h in
      let ends = brings_some is_evaluation call peer event here e in
      rw (ends, brings_some is_indication call peer event here e)
      (event_held m.settings peer.asn peer.neighbour head silent (fine_in peer.neighbour Phases.Up refl k.up (formed_in peer here)) event heard k
      (sym (brings_some is_restart call peer event here e) ∙ r) (λ q. few (ends ∙ q))))
      (λ f. absurd (true≢false (sym f ∙ held_used (slot_in m j) silent heard h)))
      (λ f. absurd (true≢false (sym f ∙ held_busy (slot_in m j) silent heard h)))

-- ---- a list of calls

-- from any good model with a passive neighbour in Down without ones
pub waits_from : (m : Model) → Good m → (j : ℕ) → j < 8 → (calls : List Call) → WaitsIn (slot_in m j) → WaitsIn (slot_in (model_from m calls) j)
unfolding model_from
waits_from m ok j j8 [] w = w
waits_from m ok j j8 (call ∷ rest) w = waits_from (step call m).model (good_step m ok call) j j8 rest (waits_step m ok j j8 call w)

-- so many silent windows before these
unfoldable pub after : ℕ → List Bool → List Bool
after zero l = l
after (suc k) l = false ∷ after k l

after_later : (k : ℕ) (l : List Bool) → after k (false ∷ l) ≡ after (suc k) l
unfolding after
after_later zero l = refl
after_later (suc k) l = ap (λ (x : List Bool). false ∷ x) (after_later k l)

-- what holds of a list of windows holds of its end
in_rest : (window : Bool) (l : List Bool) → one_in_four (window ∷ l) ≡ true → one_in_four l ≡ true
unfolding one_in_four
in_rest window l e = and_right (first_four window l) (one_in_four l) e

in_after : (k : ℕ) (l : List Bool) → one_in_four (after k l) ≡ true → one_in_four l ≡ true
unfolding after
in_after zero l e = e
in_after (suc k) l e = in_after k l (in_rest false (after k l) e)

-- no four are silent
three : (l : List Bool) → 3 ≤ length (false ∷ false ∷ false ∷ l)
three l = omega arith

four_silent : (l : List Bool) → first_four false (after 3 l) ≡ false
unfolding after first_four any_of
four_silent l = rw (le-ltb (length (after 3 l)) 3 (three l))

not_four : (l : List Bool) → one_in_four (after 4 l) ≡ true → ⊥
unfolding after one_in_four
not_four l e = false≢true (sym (four_silent l) ∙ and_left (first_four false (after 3 l)) (one_in_four (after 3 l)) e)

few_silent : (silent : ℕ) (l : List Bool) → silent ≤ 3 → one_in_four (after silent (false ∷ l)) ≡ true → suc silent ≤ 3
unfolding after
few_silent silent l few e = go silent few e
  where
    go : (k : ℕ) → k ≤ 3 → one_in_four (after k (false ∷ l)) ≡ true → suc k ≤ 3
    go zero f q = omega arith
    go (suc zero) f q = omega arith
    go (suc (suc zero)) f q = omega arith
    go (suc (suc (suc zero))) f q = absurd (not_four l q)
    go (suc (suc (suc (suc k)))) f q = absurd (omega (arith, f))

-- Up for as long as one window in four holds an indication
abbrev pub Stays : Model → ℕ → List Row → List Call → Type 0
Stays m j known more = (is_up_slot (slot_in (model_from m more) j) ≡ true) × (rows_held (slot_in (model_from m more) j) ≡ latest m j known more)

module _ (m : Model) (ok : Good m) (j : ℕ) (j8 : j < 8) (call : Call) where
  -- the rows by a call that finds and leaves the neighbour Up
  rows_step : is_up_slot (slot_in m j) ≡ true → is_up_slot (slot_in (step call m).model j) ≡ true
      → rows_held (slot_in (step call m).model j) ≡ cond (accepts m j call) (rows_said m.settings call) (rows_held (slot_in m j))
  rows_step old new =
      step_told m ok j j8 call
      ∙ ap (λ (b : Bool). cond b (cond (accepts m j call) (rows_said m.settings call) (cond (is_up_slot (slot_in m j)) (rows_held (slot_in m j)) [])) []) new
      ∙ ap (λ (b : Bool). cond (accepts m j call) (rows_said m.settings call) (cond b (rows_held (slot_in m j)) [])) old

  held_by : (silent : ℕ) (heard ends : Bool) → HeldIn (slot_in m j) silent heard → brings is_restart m j call ≡ false → brings is_evaluation m j call ≡ ends
      → (ends ≡ true → heard ≡ false → suc silent ≤ 3)
      → HeldIn (slot_in (step call m).model j) (silent_after ends heard silent) (heard_after ends heard (brings is_indication m j call))
  held_by silent heard ends h r e few =
      subst (λ (b : Bool). HeldIn (slot_in (step call m).model j) (silent_after b heard silent) (heard_after b heard (brings is_indication m j call))) e
      (held_step m ok j j8 call silent heard h r (λ f. few (sym e ∙ f)))

  -- the next call, by whether it ends a window and whether that one holds an indication
  next_held : (silent : ℕ) (heard ends : Bool) (rest : List Call) → HeldIn (slot_in m j) silent heard → silent ≤ 3 → brings is_restart m j call ≡ false → brings is_evaluation m j call ≡ ends
      → one_in_four (after silent (cond ends (heard ∷ []) [] ++ windows (step call m).model j (cond ends false (heard || brings is_indication m j call)) rest)) ≡ true
      → HeldIn (slot_in (step call m).model j) (silent_after ends heard silent) (heard_after ends heard (brings is_indication m j call))
      × (one_in_four (after (silent_after ends heard silent) (windows (step call m).model j (heard_after ends heard (brings is_indication m j call)) rest)) ≡ true)
  unfolding silent_after heard_after after
  next_held silent heard false rest h few r e q = (held_by silent heard false h r e (λ f. absurd (false≢true f)), q)
  next_held silent true true rest h few r e q = (held_by silent true true h r e (λ _ f. absurd (true≢false f)), in_rest true _ (in_after silent _ q))
  next_held silent false true rest h few r e q = (
    held_by silent false true h r e (λ _ _. few_silent silent _ few q),
    ap one_in_four (sym (after_later silent _)) ∙ q,
  )

pub stays_up_lem : (m : Model) → Good m → (j : ℕ) → j < 8 → (more : List Call) (silent : ℕ) (heard : Bool) → HeldIn (slot_in m j) silent heard
    → restarts_none m j more ≡ true → one_in_four (after silent (windows m j heard more)) ≡ true → Stays m j (rows_held (slot_in m j)) more
unfolding model_from restarts_none windows latest
stays_up_lem m ok j j8 [] silent heard h r q = (held_up (slot_in m j) silent heard h, refl)
stays_up_lem m ok j j8 (call ∷ rest) silent heard h r q =
    let m' = (step call m).model in
    let n = next_held m ok j j8 call silent heard (brings is_evaluation m j call) rest h (few_in (slot_in m j) silent heard h)
    (not-true (brings is_restart m j call) (and_left (not (brings is_restart m j call)) (restarts_none m' j rest) r)) refl q in
    let s = stays_up_lem m' (good_step m ok call) j j8 rest _ _ n.0 (and_right (not (brings is_restart m j call)) (restarts_none m' j rest) r) n.1 in (
      s.0,
      s.1 ∙ ap (λ (known : List Row). latest m' j known rest) (rows_step m ok j j8 call (held_up (slot_in m j) silent heard h) (held_up (slot_in m' j) _ _ n.0)),
    )
