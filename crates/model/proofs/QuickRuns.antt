-- A passive neighbour whose Hello of status 1 comes every second, over lists of calls from fresh. Assumes nothing.
use Prim.Native.Nat.{ℕ, ◌%◌, ◌≤◌, ◌<◌}
use native.Mathlib.Omega.{arith}
use mathlib.Core.Path.{◌≡◌, refl, sym, ◌∙◌, ap, subst}
use mathlib.Core.Bool.{Bool, true, false, cond, not, ◌&&◌, ◌||◌, or-false, false≢true, true≢false}
use mathlib.Core.List.{List, [], ◌∷◌, ◌++◌}
use mathlib.Core.Option.{Option, none, some}
use lib.Dec.{ltb, eqb}
use borrow.Author.Tests.{eq-eqb, eqb-true, ltb-true, not-true}
use Rattle.std.specs.Prelude.{Result, Ok, Err}
use Rattle.checks.specs.declared.Refusal.{Refusal}
use Rattle.checks.specs.Checks.{check, if_ok}
use Rattle.checks.proofs.Laws.{cond_elim, and_left, and_right, and_both}
use Rattle.nets.specs.Rows.{rows_of}
use Rattle.message.specs.Kinds.{kind_of, status_of}
use Rattle.message.specs.declared.Kind.TheVariants as K
use Rattle.message.specs.declared.Message.TheVariants as M
use Rattle.message.specs.declared.Message.{Message}
use Rattle.message_reading.specs.Reading.{header_answer, asn_at, decode_of}
use Rattle.neighbour.specs.declared.Mode.TheVariants.{Passive}
use Rattle.neighbour.specs.declared.Settings.{Settings}
use Rattle.neighbour.specs.declared.Neighbour.{Neighbour}
use Rattle.neighbour.specs.Record.{idle, acquired}
use Rattle.neighbour.specs.Rules.{same, in_sequence, too_quick}
use Rattle.neighbour_machine.specs.declared.Event.{Event}
use Rattle.neighbour_machine.specs.declared.Event.TheVariants.{Received, Start, Stop, Tick}
use Rattle.neighbour_messages.specs.declared.Head.{Head}
use Rattle.neighbour_machine.specs.Step.{step_of}
use Rattle.gateway_state.specs.declared.Slot as Stored
use Rattle.gateway_state.specs.Slots.{free_slot}
use Rattle.model.specs.Model.{Call, add, remove, happen, receive, listing, Slot, free, used, Model, slot_in, is_free, is_idle_slot, found_at, Move, moved, is_update, kind_answer, answer_to, message_move, message_answer, turn_at, message_turn, step, model, model_from, Peer}
use Rattle.model.specs.History.{is_up_slot}
use Rattle.model.specs.Theorem.{Gateway, outcome_of, run, lists_nothing, cell}
use Rattle.model.specs.Windows.{is_indication, is_evaluation, is_restart, record_in, said_event, done_for, event_for, holds_of, brings, windows}
use Rattle.model.specs.Quick.{says_hello_up, hello_comes, is_ticked, is_hello, is_other_hello, due_after, keeps_time, hello_every_tick, ticks_after, one_in_thirty, is_lit, shifts_ones, never_falls, all_of, HelloEverySecond, OtherStatusUnheard}
use Rattle.model.specs.Corollaries.{slot_on}
use Rattle.model.proofs.Represent.{Good, good_at}
use Rattle.model.proofs.Simulation.{spoken_answer, simulates, good_step}
use Rattle.model.proofs.History.{model_next}
use Rattle.model.proofs.Theorem.{run_is, model_good, model_more}
use Rattle.model.proofs.Reach.{fine_in, acquired_runs}
use Rattle.model.proofs.Windows.{step_elim, formed_in, brings_none, brings_some}
use Rattle.model.proofs.Quiet.{slot_run}
use Rattle.model.proofs.Corollaries.{up_shown}
use Rattle.model.proofs.Quick.{passive_acquired, hello_elim, Hurried, Lit, Goes, eased, is_up_hello, hello_hurried, hello_unheard, event_onward}

-- ---- a Hello that comes

-- it is a command, so 13 is not about it
pub hello_sequenced : (n : Neighbour) (a q s : ℕ) → acquired n.phase ≡ true → in_sequence n (M.Hello a q s) ≡ true
unfolding in_sequence
hello_sequenced n a q s r = rw (acquired_runs n.phase r)

pub hello_quick : (n : Neighbour) (a q s : ℕ) → acquired n.phase ≡ true → too_quick n (M.Hello a q s) ≡ ltb n.sincehello 30
unfolding too_quick
hello_quick n a q s r = rw r (or-false (ltb n.sincehello 30))

too_soon : (quick : Bool) → ◌≡◌ {A = ℕ} (cond (not quick) 0 21) (cond quick 21 0)
too_soon true = refl
too_soon false = refl

hello_answered : (g : Settings) (asn : ℕ) (n : Neighbour) (o : List ℕ) (a q s : ℕ) → header_answer o ≡ 0 → asn_at o ≡ asn → decode_of o ≡ Ok (M.Hello a q s)
    → acquired n.phase ≡ true → answer_to g asn n o ≡ cond (ltb n.sincehello 30) 21 0
unfolding answer_to if_ok check kind_answer is_update
hello_answered g asn n o a q s h f d r =
    rw (h, eq-eqb (asn_at o) asn f, d, hello_sequenced n a q s r, hello_quick n a q s r) (too_soon (ltb n.sincehello 30))

move_says : (g : Settings) (o : List ℕ) (peer : Peer) → (message_move g o (used peer)).answer ≡ answer_to g peer.asn peer.neighbour o
unfolding message_move if_ok moved
move_says g o peer =
    cond_elim (λ (x : Move). x.answer ≡ answer_to g peer.asn peer.neighbour o) (eqb (answer_to g peer.asn peer.neighbour o) 0) _ _
    (λ e. sym (eqb-true (answer_to g peer.asn peer.neighbour o) 0 e)) (λ _. refl)

-- octets that say such a Hello
says_elim : (Q : Type 0) (d : Result Message Refusal) → says_hello_up d ≡ true → ((a q s : ℕ) → d ≡ Ok (M.Hello a q s) → Q) → Q
unfolding says_hello_up
says_elim Q (Ok x) e k =
    hello_elim (λ y. ◌≡◌ {A = Result Message Refusal} (Ok x) (Ok y) → Q) (λ a q s f. k a q s f) x (and_left (same (kind_of x) K.Hello) (eqb (status_of x) 1) e) refl
says_elim Q (Err refused) e k = absurd (false≢true e)

-- what it passed
record Came (m : Model) (j a : ℕ) (o home buffer : List ℕ) : Type 0 where
  lent : message_answer m a home buffer ≡ 0
  place : found_at m a ≡ j
  header : header_answer o ≡ 0
  from : asn_at o ≡ (cell (slot_in m j)).asn
  meaning : says_hello_up (decode_of o) ≡ true

came : (m : Model) (j a : ℕ) (o home buffer : List ℕ) → hello_comes m j (receive a o home buffer) ≡ true → Came m j a o home buffer
unfolding hello_comes
came m j a o home buffer e =
    let p = eqb (message_answer m a home buffer) 0 in
    let q = eqb (found_at m a) j in
    let r = eqb (header_answer o) 0 in
    let s = eqb (asn_at o) (cell (slot_in m j)).asn in
    let four = and_left (p && q && r && s) (says_hello_up (decode_of o)) e in
    let three = and_left (p && q && r) s four in
    let two = and_left (p && q) r three in
    record {
      lent = eqb-true (message_answer m a home buffer) 0 (and_left p q two);
      place = eqb-true (found_at m a) j (and_right p q two);
      header = eqb-true (header_answer o) 0 (and_right (p && q) r three);
      from = eqb-true (asn_at o) (cell (slot_in m j)).asn (and_right (p && q && r) s four);
      meaning = and_right (p && q && r && s) (says_hello_up (decode_of o)) e;
    }

-- its answer, by the count
module _ (m : Model) (j : ℕ) (peer : Peer) (here : slot_in m j ≡ used peer) (reached : acquired peer.neighbour.phase ≡ true) where
  receive_says : (a : ℕ) (o home buffer : List ℕ) → Came m j a o home buffer → (step (receive a o home buffer) m).said.answer ≡ (message_move m.settings o (used peer)).answer
  unfolding step message_turn turn_at if_ok
  receive_says a o home buffer c =
      rw (c.lent, c.place, here) (spoken_answer (message_move m.settings o (used peer)).answer (message_move m.settings o (used peer)).reply (rows_of home))

  comes_answered : (call : Call) → hello_comes m j call ≡ true → (step call m).said.answer ≡ cond (ltb peer.neighbour.sincehello 30) 21 0
  unfolding hello_comes cell
  comes_answered (add address asn) e = absurd (false≢true e)
  comes_answered (remove address) e = absurd (false≢true e)
  comes_answered (happen event a buffer) e = absurd (false≢true e)
  comes_answered (receive a o home buffer) e =
      let c = came m j a o home buffer e in
      receive_says a o home buffer c ∙ move_says m.settings o peer
      ∙ says_elim _ (decode_of o) c.meaning
      (λ x q s d. hello_answered m.settings peer.asn peer.neighbour o x q s c.header (c.from ∙ ap (λ (slot : Slot). (cell slot).asn) here) d reached)
  comes_answered (listing buffer) e = absurd (false≢true e)

-- ---- a Hello that comes is carried out where it is answered 0

answered_zero : (b c : Bool) (found : Option Event) (event : Event) → cond (b && c) found none ≡ some event → b ≡ true
unfolding holds_of
answered_zero true c found event e = refl
answered_zero false c found event e = absurd (false≢true (ap (holds_of (λ _. true)) e))

module _ (m : Model) (j : ℕ) where
  done_zero : (call : Call) (event : Event) → event_for m j call ≡ some event → eqb (step call m).said.answer 0 ≡ true
  unfolding event_for done_for holds_of
  done_zero (add address asn) event e = absurd (false≢true (ap (holds_of (λ _. true)) e))
  done_zero (remove address) event e = absurd (false≢true (ap (holds_of (λ _. true)) e))
  done_zero (happen i a buffer) event e = answered_zero _ (eqb (found_at m a) j) _ event e
  done_zero (receive a o home buffer) event e = answered_zero _ (eqb (found_at m a) j) _ event e
  done_zero (listing buffer) event e = absurd (false≢true (ap (holds_of (λ _. true)) e))

  comes_brings : (call : Call) → hello_comes m j call ≡ true → brings is_up_hello m j call ≡ eqb (step call m).said.answer 0
  unfolding brings event_for holds_of done_for said_event hello_comes says_hello_up is_up_hello
  comes_brings (add address asn) e = absurd (false≢true e)
  comes_brings (remove address) e = absurd (false≢true e)
  comes_brings (happen event a buffer) e = absurd (false≢true e)
  comes_brings (receive a o home buffer) e =
      let c = came m j a o home buffer e in
      go (eqb (step (receive a o home buffer) m).said.answer 0) (eqb (found_at m a) j) (decode_of o) (eq-eqb (found_at m a) j c.place) c.meaning
    where
      go : (b c : Bool) (d : Result Message Refusal) → c ≡ true → says_hello_up d ≡ true → holds_of (is_up_hello (record_in m j)) (cond (b && c) (said_event d) none) ≡ b
      go true true (Ok x) f q = q
      go true true (Err refused) f q = q
      go true false d f q = absurd (false≢true f)
      go false c d f q = refl
  comes_brings (listing buffer) e = absurd (false≢true e)

  none_comes : (call : Call) → event_for m j call ≡ none → hello_comes m j call ≡ true → (step call m).said.answer ≡ 0 → ⊥
  unfolding brings holds_of
  none_comes call e c z =
      false≢true (sym (ap (holds_of (is_up_hello (record_in m j))) e) ∙ comes_brings call c ∙ eq-eqb (step call m).said.answer 0 z)

  some_comes : (call : Call) (event : Event) → event_for m j call ≡ some event → hello_comes m j call ≡ true → is_up_hello (record_in m j) event ≡ true
  unfolding brings holds_of
  some_comes call event e c = sym (ap (holds_of (is_up_hello (record_in m j))) e) ∙ comes_brings call c ∙ done_zero call event e

-- ---- one call

unfoldable HurriedIn : Slot → ℕ → Bool → Bool → Type 0
HurriedIn slot ticks due heard = Hurried (cell slot).neighbour ticks due heard

abbrev ReachedIn : Slot → Type 0
ReachedIn slot = acquired (cell slot).neighbour.phase ≡ true

reached_in : (slot : Slot) (ticks : ℕ) (due heard : Bool) → HurriedIn slot ticks due heard → ReachedIn slot
unfolding HurriedIn
reached_in slot ticks due heard h = h.reached

-- a slot in Down or Up is neither free nor Idle
reached_used : (slot : Slot) → ReachedIn slot → is_free slot ≡ false
unfolding cell free_slot idle is_free
reached_used free r = absurd (false≢true r)
reached_used (used peer) r = refl

reached_busy : (slot : Slot) → ReachedIn slot → is_idle_slot slot ≡ false
unfolding cell free_slot idle is_idle_slot
reached_busy free r = absurd (false≢true r)
reached_busy (used peer) r = acquired_runs peer.neighbour.phase r

told_quick : (ticks answer : ℕ) → answer ≡ cond (ltb ticks 30) 21 0 → (answer ≡ 0 → ⊥) → ticks ≤ 29
told_quick ticks answer e z = go (ltb ticks 30) refl
  where
    go : (b : Bool) → ltb ticks 30 ≡ b → ticks ≤ 29
    go true f = omega (arith, ltb-true ticks 30 f)
    go false f = absurd (z (e ∙ ap (λ (b : Bool). cond b 21 0) f))

module _ (m : Model) (ok : Good m) (j : ℕ) (j8 : j < 8) (call : Call) (ticks : ℕ) (due heard : Bool) (h : HurriedIn (slot_in m j) ticks due heard) where
  -- it is answered by the ticks
  answered : hello_comes m j call ≡ true → (step call m).said.answer ≡ cond (ltb ticks 30) 21 0
  unfolding HurriedIn cell free_slot idle
  answered c = go (slot_in m j) refl h
    where
      go : (slot : Slot) → slot_in m j ≡ slot → HurriedIn slot ticks due heard → (step call m).said.answer ≡ cond (ltb ticks 30) 21 0
      go free here k = absurd (false≢true k.reached)
      go (used peer) here k = comes_answered m j peer here k.reached call c ∙ ap (λ (t : ℕ). cond (ltb t 30) 21 0) k.count

  abbrev Then : Slot → Type 0
  Then slot =
      Goes (cell (slot_in m j)).neighbour (cell slot).neighbour (ticks_after m j ticks call) (due_after m j due call)
      (cond (brings is_evaluation m j call) false (heard || brings is_indication m j call)) (brings is_evaluation m j call)
      × (brings is_evaluation m j call ≡ true → heard ≡ true)

  hurried_step : brings is_restart m j call ≡ false → brings is_other_hello m j call ≡ false → (due && brings is_ticked m j call) ≡ false
      → Then (slot_in (step call m).model j)
  unfolding HurriedIn ticks_after due_after cell record_in
  hurried_step r o t =
      step_elim m ok j j8 Then call
      (λ e.
      rw (brings_none m ok j j8 is_ticked call e, brings_none m ok j j8 is_hello call e, brings_none m ok j j8 is_evaluation call e, brings_none m ok j j8 is_indication call e, or-false heard) (
        record {
          hurried = eased (cell (slot_in m j)).neighbour ticks due heard (hello_comes m j call) h (λ c. told_quick ticks _ (answered c) (none_comes m j call e c));
          up = λ u. u;
          lit = λ f. absurd (false≢true f);
        },
        λ f. absurd (false≢true f),
      ))
      (λ peer here event e head new.
      let k : Hurried peer.neighbour ticks due heard = subst (λ (slot : Slot). HurriedIn slot ticks due heard) here h in
      let is : (test : Neighbour → Event → Bool) → brings test m j call ≡ test peer.neighbour event = λ test. brings_some m ok j j8 test call peer event here e in
      let f = fine_in peer.neighbour peer.neighbour.phase k.reached refl (formed_in m ok j j8 peer here) in
      let x =
      event_onward m.settings peer.asn peer.neighbour head ticks due heard f k (hello_comes m j call) event (sym (is is_restart) ∙ r) (sym (is is_other_hello) ∙ o)
      (ap (λ (b : Bool). due && b) (sym (is is_ticked)) ∙ t)
      (λ c. ap (λ (slot : Slot). is_up_hello (cell slot).neighbour event) (sym here) ∙ some_comes m j call event e c) in
      rw (is is_ticked, is is_hello, is is_evaluation, is is_indication, here) x)
      (λ f. absurd (true≢false (sym f ∙ reached_used (slot_in m j) (reached_in (slot_in m j) ticks due heard h))))
      (λ f. absurd (true≢false (sym f ∙ reached_busy (slot_in m j) (reached_in (slot_in m j) ticks due heard h))))

-- ---- a list of calls

implied : (a b : Bool) → (a ≡ true → b ≡ true) → (not a || b) ≡ true
implied true b f = f refl
implied false b f = refl

-- the window that ends holds an indication, and so do all behind it
all_hold : (ends heard : Bool) (rest : List Bool) → (ends ≡ true → heard ≡ true) → all_of rest ≡ true → all_of (cond ends (heard ∷ []) [] ++ rest) ≡ true
unfolding all_of
all_hold true heard rest f e = rw (f refl) e
all_hold false heard rest f e = e

lit_in : (m : Model) (j : ℕ) → Lit (cell (slot_in m j)).neighbour → is_lit m j ≡ true
unfolding is_lit record_in
lit_in m j l =
    and_both (eqb ((cell (slot_in m j)).neighbour.register % 2) 1) (is_up_slot (slot_in m j))
    (eq-eqb ((cell (slot_in m j)).neighbour.register % 2) 1 l.0) (up_shown (slot_in m j) ∙ l.1)

-- through these calls, as `Unhurt` says it of a run
pub record UnhurtFrom (m : Model) (j ticks : ℕ) (heard : Bool) (more : List Call) : Type 0 where
  pub answers : one_in_thirty m j ticks more ≡ true
  pub ones : all_of (windows m j heard more) ≡ true
  pub reached : ReachedIn (slot_in (model_from m more) j)
  pub shifts : shifts_ones m j more ≡ true
  pub stays : never_falls m j more ≡ true

in_time : (m : Model) (j : ℕ) (due : Bool) (call : Call) → keeps_time m j due call ≡ true
    → (brings is_restart m j call ≡ false) × (brings is_other_hello m j call ≡ false) × ((due && brings is_ticked m j call) ≡ false)
unfolding keeps_time
in_time m j due call e =
    let a = brings is_restart m j call in
    let b = brings is_other_hello m j call in
    let c = due && brings is_ticked m j call in
    let f = and_left (not a && not b) (not c) e in
    (not-true a (and_left (not a) (not b) f), not-true b (and_right (not a) (not b) f), not-true c (and_right (not a && not b) (not c) e))

unhurt_from : (m : Model) → Good m → (j : ℕ) → j < 8 → (more : List Call) (ticks : ℕ) (due heard : Bool) → HurriedIn (slot_in m j) ticks due heard
    → hello_every_tick m j due more ≡ true → UnhurtFrom m j ticks heard more
unfolding model_from hello_every_tick one_in_thirty windows all_of shifts_ones never_falls HurriedIn
unhurt_from m ok j j8 [] ticks due heard h e =
    record { answers = refl; ones = refl; reached = reached_in (slot_in m j) ticks due heard h; shifts = refl; stays = refl }
unhurt_from m ok j j8 (call ∷ rest) ticks due heard h e =
    let m' = (step call m).model in
    let k = in_time m j due call (and_left (keeps_time m j due call) (hello_every_tick m' j (due_after m j due call) rest) e) in
    let x = hurried_step m ok j j8 call ticks due heard h k.0 k.1 k.2 in
    let y = unhurt_from m' (good_step m ok call) j j8 rest _ _ _ x.0.hurried (and_right (keeps_time m j due call) (hello_every_tick m' j (due_after m j due call) rest) e) in
    record {
      answers =
          and_both _ (one_in_thirty m' j (ticks_after m j ticks call) rest)
          (implied (hello_comes m j call) _ (λ c. eq-eqb _ _ (answered m ok j j8 call ticks due heard h c))) y.answers;
      ones = all_hold (brings is_evaluation m j call) heard _ x.1 y.ones;
      reached = y.reached;
      shifts = and_both _ (shifts_ones m' j rest) (implied (brings is_evaluation m j call) (is_lit m' j) (λ f. lit_in m' j (x.0.lit f))) y.shifts;
      stays =
          and_both _ (never_falls m' j rest)
          (implied (is_up_slot (slot_in m j)) (is_up_slot (slot_in m' j)) (λ f. up_shown (slot_in m' j) ∙ x.0.up (sym (up_shown (slot_in m j)) ∙ f))) y.stays;
    }

-- ---- from fresh

up_hello_event : (g : Settings) (asn : ℕ) (n : Neighbour) (head : Head) → acquired n.phase ≡ true → n.mode ≡ Passive
    → (event : Event) → is_up_hello n event ≡ true → Hurried (step_of g asn n event head).neighbour 0 false true
unfolding is_up_hello
up_hello_event g asn n head r p (Received m) e =
    hello_hurried g asn n m head r p (and_left (same (kind_of m) K.Hello) (eqb (status_of m) 1) e) (and_right (same (kind_of m) K.Hello) (eqb (status_of m) 1) e)
up_hello_event g asn n head r p Start e = absurd (false≢true e)
up_hello_event g asn n head r p Stop e = absurd (false≢true e)
up_hello_event g asn n head r p Tick e = absurd (false≢true e)

comes_unlisted : (m : Model) (j : ℕ) (call : Call) → hello_comes m j call ≡ true → lists_nothing call ≡ true
unfolding hello_comes lists_nothing
comes_unlisted m j (add address asn) e = refl
comes_unlisted m j (remove address) e = refl
comes_unlisted m j (happen event a buffer) e = refl
comes_unlisted m j (receive a o home buffer) e = refl
comes_unlisted m j (listing buffer) e = absurd (false≢true e)

module _ (m : Model) (ok : Good m) (j : ℕ) (j8 : j < 8) (call : Call) (passive : (cell (slot_in m j)).neighbour.mode ≡ Passive) where
  reached_passive : ReachedIn (slot_in m j)
  reached_passive = passive_acquired (cell (slot_in m j)).neighbour (good_at m ok j).neighbour passive

  module _ (P : Slot → Type 0) (test : Neighbour → Event → Bool) (done : brings test m j call ≡ true)
      (goes : (asn : ℕ) (head : Head) (event : Event) → event_for m j call ≡ some event → test (cell (slot_in m j)).neighbour event ≡ true
      → (new : Slot) → (cell new).neighbour ≡ (step_of m.settings asn (cell (slot_in m j)).neighbour event head).neighbour → P new) where
    -- such an event carried out in passive mode
    passive_elim : P (slot_in (step call m).model j)
    unfolding cell
    passive_elim =
        step_elim m ok j j8 P call (λ e. absurd (false≢true (sym (brings_none m ok j j8 test call e) ∙ done)))
        (λ peer here event e head new.
        let is = ap (λ (slot : Slot). (cell slot).neighbour) here in
        goes peer.asn head event e (ap (λ (n : Neighbour). test n event) is ∙ sym (brings_some m ok j j8 test call peer event here e) ∙ done) _
        (ap (λ (n : Neighbour). (step_of m.settings peer.asn n event head).neighbour) (sym is)))
        (λ f. absurd (true≢false (sym f ∙ reached_used (slot_in m j) reached_passive)))
        (λ f. absurd (true≢false (sym f ∙ reached_busy (slot_in m j) reached_passive)))

  hello_begins : hello_comes m j call ≡ true → (step call m).said.answer ≡ 0 → HurriedIn (slot_in (step call m).model j) 0 false true
  unfolding HurriedIn
  hello_begins c z =
      passive_elim (λ slot. HurriedIn slot 0 false true) is_up_hello (comes_brings m j call c ∙ eq-eqb (step call m).said.answer 0 z)
      (λ asn head event e t new is.
      subst (λ (n : Neighbour). Hurried n 0 false true) (sym is)
      (up_hello_event m.settings asn (cell (slot_in m j)).neighbour head reached_passive passive event t))

pub hello_every_second : HelloEverySecond
hello_every_second g z before call more j j8 first e =
    let m = model g before in
    let ok = model_good g z before in
    let since = before ++ (call ∷ []) in
    let said : (step call m).said.answer ≡ 0 =
    sym (simulates m ok call (λ f. absurd (true≢false (sym (comes_unlisted m j call first.comes) ∙ f)))).answer
    ∙ ap (λ (b : Gateway). (outcome_of call b).answer) (sym (run_is g z before)) ∙ first.answer in
    let passive = ap (λ (s : Stored.Slot). s.neighbour.mode) (sym (slot_run g z before j)) ∙ first.passive in
    let h = subst (λ (x : Model). HurriedIn (slot_in x j) 0 false true) (sym (model_next g before call)) (hello_begins m ok j j8 call passive first.comes said) in
    let u = unhurt_from (model g since) (model_good g z since) j j8 more 0 false true h e in
    record {
      answers = u.answers;
      ones = u.ones;
      reached =
          ap (λ (s : Stored.Slot). acquired s.neighbour.phase) (slot_run g z (since ++ more) j)
          ∙ ap (λ (x : Model). acquired (cell (slot_in x j)).neighbour.phase) (model_more g z since more) ∙ u.reached;
      shifts = u.shifts;
      stays = u.stays;
    }

-- ---- a Hello of status 0 or 2

other_hello_event : (g : Settings) (asn : ℕ) (n : Neighbour) (head : Head) → acquired n.phase ≡ true → n.mode ≡ Passive
    → (event : Event) → is_other_hello n event ≡ true
    → (is_indication n event ≡ false) × ((step_of g asn n event head).neighbour.heard ≡ n.heard) × ((step_of g asn n event head).neighbour.t3 ≡ n.t3)
unfolding is_other_hello
other_hello_event g asn n head r p (Received m) e =
    hello_unheard g asn n m head r p (and_left (same (kind_of m) K.Hello) (not (eqb (status_of m) 1)) e)
    (not-true (eqb (status_of m) 1) (and_right (same (kind_of m) K.Hello) (not (eqb (status_of m) 1)) e))
other_hello_event g asn n head r p Start e = absurd (false≢true e)
other_hello_event g asn n head r p Stop e = absurd (false≢true e)
other_hello_event g asn n head r p Tick e = absurd (false≢true e)

pub other_status_unheard : OtherStatusUnheard
unfolding brings holds_of record_in
other_status_unheard g z calls call j j8 mode done =
    let m = model g calls in
    let ok = model_good g z calls in
    let now : slot_on (run g calls) j ≡ cell (slot_in m j) = slot_run g z calls j in
    let next : slot_on (run g (calls ++ (call ∷ []))) j ≡ cell (slot_in (step call m).model j) =
    slot_run g z (calls ++ (call ∷ [])) j ∙ ap (λ (x : Model). cell (slot_in x j)) (model_next g calls call) in
    let passive = ap (λ (s : Stored.Slot). s.neighbour.mode) (sym now) ∙ mode in
    let x =
    passive_elim m ok j j8 call passive
    (λ slot.
    (brings is_indication m j call ≡ false) × ((cell slot).neighbour.heard ≡ (cell (slot_in m j)).neighbour.heard)
    × ((cell slot).neighbour.t3 ≡ (cell (slot_in m j)).neighbour.t3))
    is_other_hello done
    (λ asn head event e t new is.
    let y = other_hello_event m.settings asn (cell (slot_in m j)).neighbour head (reached_passive m ok j j8 call passive) passive event t in
    (ap (holds_of (is_indication (record_in m j))) e ∙ y.0, ap (λ (n : Neighbour). n.heard) is ∙ y.1, ap (λ (n : Neighbour). n.t3) is ∙ y.2)) in
    record {
      no_indication = x.0;
      heard = ap (λ (s : Stored.Slot). s.neighbour.heard) next ∙ x.1 ∙ ap (λ (s : Stored.Slot). s.neighbour.heard) (sym now);
      t3 = ap (λ (s : Stored.Slot). s.neighbour.t3) next ∙ x.2 ∙ ap (λ (s : Stored.Slot). s.neighbour.t3) (sym now);
    }
