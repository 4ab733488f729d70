-- The numbers that a turn answers. Assumes nothing.
use Prim.Native.Nat.{ℕ, ◌≤◌}
use native.Mathlib.Omega.{arith}
use mathlib.Core.Path.{◌≡◌, refl, sym, ap, ◌∙◌}
use mathlib.Core.Bool.{Bool, true, false, cond, false≢true}
use mathlib.Core.List.{List, [], ◌∷◌}
use lib.Dec.{ltb, eqb}
use lib.ListN.{length}
use borrow.Author.Tests.{eq-eqb, eqb-true, eqb-false}
use Rattle.checks.specs.Checks.{check, if_ok}
use Rattle.checks.proofs.Laws.{cond_elim}
use Rattle.neighbour.specs.declared.Settings.{Settings}
use Rattle.neighbour.specs.Record.{with_quiet}
use Rattle.gateway_state.specs.Formed.{state_formed}
use Rattle.gateway_slots.specs.Calls.{fresh_of}
use Rattle.std.specs.Prelude.{Option, Some, None}
use Rattle.recording_lines.specs.Lines.{Event, bad, add, remove, start, stop, tick, rx, event_of, quiet_of}
use Rattle.recording_lines.proofs.Events.{quiet_no_event}
use Rattle.recording_gather.specs.Gathering.{gathered}
use Rattle.model.specs.Model as M
use Rattle.model.specs.Theorem.{outcome_of}
use Rattle.recording_call.specs.Told.{on}
use Rattle.gateway_rules.specs.Calls.{lent_checks}
use Rattle.recording_player.specs.declared.Player.{Player}
use Rattle.recording_player.specs.Player.{next_line, Step, line_fits, call_checks, report_check, given, with_used, silent_step, bad_step, broken_step, with_net, fresh_step, head_step, is_setting, call_step, only_step, event_step, event_checked, line_step, line_checked, ended_line, free_step, turn_checked, turn_step}
use Rattle.recording_player.proofs.Laws.{head_net, head_quiet, setting_early, setting_late, setting_none, setting_quiet}
use Rattle.recording_theorem.specs.Output.{calls_of}
use Rattle.recording_theorem.specs.Answers.{TakesLine, checks_room, EveryAnswer}

on_true : {A : Type 0} (b : Bool) (x y : A) → b ≡ true → cond b x y ≡ x
on_true b x y e = rw e

on_false : {A : Type 0} (b : Bool) (x y : A) → b ≡ false → cond b x y ≡ y
on_false b x y e = rw e

module _ (p : Player) (line table input : List ℕ) (t : TakesLine p line input) where
  abbrev whole : List ℕ
  whole = ended_line p line input

  abbrev used : ℕ
  used = (gathered 0 p.held input).used

  not_due : ltb 0 p.ticks ≡ false
  not_due = rw t.idle

  asks : (room : Bool) → turn_checked room p line table input ≡ line_checked room p table whole
  unfolding turn_checked check
  asks room =
      on_false p.broken _ _ t.playing ∙ on_false (ltb 0 p.ticks) _ _ not_due ∙ on_true (line_fits line) _ _ t.fits
      ∙ on_true (gathered 0 p.held input).ended _ _ t.ended

  takes : free_step p line table input ≡ with_used used (line_step p table whole)
  unfolding free_step
  takes =
      on_false p.broken _ _ t.playing ∙ on_false (ltb 0 p.ticks) _ _ not_due
      ∙ ap (with_used used) (on_true (gathered 0 p.held input).ended _ _ t.ended)

  turn_is : (room : Bool) (c : ℕ) (s : Step) → line_checked room p table whole ≡ c → line_step p table whole ≡ s
      → turn_step room p line table input ≡ given p table c (with_used used s)
  unfolding turn_step
  turn_is room c s e f =
      ap (λ (n : ℕ). given p table n (free_step p line table input)) (asks room ∙ e) ∙ ap (given p table c) (takes ∙ ap (with_used used) f)

  -- an event
  module _ (no : is_setting p.lines whole ≡ false) (e : Event) (k : event_of whole ≡ e) where
    event_is : (room : Bool) → turn_step room p line table input ≡ given p table (event_checked p.traced room p.state (length table) e) (with_used used (event_step p table e))
    unfolding line_checked line_step
    event_is room =
        turn_is room (event_checked p.traced room p.state (length table) e) (event_step p table e)
        (on_false (is_setting p.lines whole) _ _ no ∙ ap (event_checked p.traced room p.state (length table)) k)
        (on_false (is_setting p.lines whole) _ _ no ∙ ap (event_step p table) k)

  -- an event that asks for room is no setting
  no_quiet : (e : Event) → event_of whole ≡ e → checks_room e ≡ true → quiet_of whole ≡ None
  unfolding checks_room
  no_quiet e k h = go (quiet_of whole) refl
    where
      go : (value : Option ℕ) → quiet_of whole ≡ value → value ≡ None
      go None q = refl
      go (Some n) q = absurd (false≢true (ap checks_room (sym (quiet_no_event n whole q) ∙ k) ∙ h))

  an_event : (e : Event) → 4 ≤ p.lines → event_of whole ≡ e → checks_room e ≡ true → is_setting p.lines whole ≡ false
  an_event e late k h = go (eqb p.lines 4) refl
    where
      go : (b : Bool) → eqb p.lines 4 ≡ b → is_setting p.lines whole ≡ false
      go true f = sym (setting_none p.lines whole late (eqb-true p.lines 4 f) (no_quiet e k h))
      go false f = sym (setting_late p.lines whole late (eqb-false p.lines 4 f))

  bad_19 : (room : Bool) → (given p table (event_checked p.traced room p.state (length table) bad) (with_used used (event_step p table bad))).answer ≡ 19
  unfolding given if_ok event_checked report_check check with_used event_step bad_step silent_step
  bad_19 true = refl
  bad_19 false = refl

  module _ (formed : state_formed p.state ≡ true) (long : length table ≡ 3072) where
    lent_is : (room : Bool) → call_checks room p.state (length table) ≡ check room 3 0
    unfolding lent_checks check
    lent_is room = rw (formed, eq-eqb (length table) 3072 long)

    reply_asks : (room : Bool) (e : Event) → checks_room e ≡ true → event_checked p.traced room p.state (length table) e ≡ check room 3 0
    unfolding event_checked checks_room
    reply_asks room bad h = absurd (false≢true h)
    reply_asks room (add a asn) h = absurd (false≢true h)
    reply_asks room (remove a) h = absurd (false≢true h)
    reply_asks room (start a) h = lent_is room
    reply_asks room (stop a) h = lent_is room
    reply_asks room (tick a count) h = absurd (false≢true h)
    reply_asks room (rx a octets) h = lent_is room

    short_3 : (e : Event) → checks_room e ≡ true → (given p table (event_checked p.traced false p.state (length table) e) (with_used used (event_step p table e))).answer ≡ 3
    unfolding given if_ok silent_step check
    short_3 e h = ap (λ (n : ℕ). (given p table n (with_used used (event_step p table e))).answer) (reply_asks false e h)

    head_call : M.Call → List M.Call → M.Call
    head_call none [] = none
    head_call none (call ∷ rest) = call

    event_own : (e : Event) (call : M.Call) → checks_room e ≡ true → calls_of e ≡ call ∷ [] → (event_step p table e).answer ≡ (outcome_of call (on p.state table)).answer
    unfolding event_step only_step call_step next_line calls_of checks_room head_call
    event_own bad call h c = absurd (false≢true h)
    event_own (add a asn) call h c = absurd (false≢true h)
    event_own (remove a) call h c = absurd (false≢true h)
    event_own (start a) call h c = ap (λ (l : List M.Call). (outcome_of (head_call call l) (on p.state table)).answer) c
    event_own (stop a) call h c = ap (λ (l : List M.Call). (outcome_of (head_call call l) (on p.state table)).answer) c
    event_own (tick a count) call h c = absurd (false≢true h)
    event_own (rx a octets) call h c = ap (λ (l : List M.Call). (outcome_of (head_call call l) (on p.state table)).answer) c

    made_own : (e : Event) (call : M.Call) → checks_room e ≡ true → calls_of e ≡ call ∷ []
        → (given p table (event_checked p.traced true p.state (length table) e) (with_used used (event_step p table e))).answer ≡ (outcome_of call (on p.state table)).answer
    unfolding given if_ok check with_used
    made_own e call h c =
        ap (λ (n : ℕ). (given p table n (with_used used (event_step p table e))).answer) (reply_asks true e h) ∙ event_own e call h c

  -- the fourth line
  reported_answer : (room : Bool) (s : Step) → (given p table (report_check room s.answer) (with_used used s)).answer ≡ s.answer
  unfolding given if_ok report_check check with_used silent_step
  reported_answer true s = refl
  reported_answer false s = cond_elim (λ (x : Step). x.answer ≡ s.answer) (eqb s.answer 0) _ _ (λ e. refl) (λ e. refl)

  fresh_answer_lem : (g : Settings) → (fresh_step p table g).answer ≡ (fresh_of g).answer
  unfolding fresh_step broken_step silent_step
  fresh_answer_lem g =
      cond_elim (λ (x : Step). x.answer ≡ (fresh_of g).answer)
      (eqb (fresh_of g).answer 0) _ _ (λ e. sym (eqb-true _ 0 e)) (λ e. refl)

  -- a line that asks for fresh
  fresh_own : (room : Bool) (g : Settings) → is_setting p.lines whole ≡ true → head_step p table whole ≡ fresh_step p table g
      → (turn_step room p line table input).answer ≡ (fresh_of g).answer
  unfolding line_checked line_step
  fresh_own room g b e =
      ap (λ (s : Step). s.answer)
      (turn_is room (report_check room (head_step p table whole).answer) (head_step p table whole) (on_true (is_setting p.lines whole) _ _ b)
      (on_true (is_setting p.lines whole) _ _ b))
      ∙ reported_answer room (head_step p table whole) ∙ ap (λ (s : Step). s.answer) e ∙ fresh_answer_lem g

pub every_answer : EveryAnswer
every_answer p line table input t =
    let whole = ended_line p line input in
    record {
      bad_line_lem = λ room no k. ap (λ (s : Step). s.answer) (event_is p line table input t no bad k room) ∙ bad_19 p line table input t room;
      short = λ e late k h f l.
          ap (λ (s : Step). s.answer) (event_is p line table input t (an_event p line table input t e late k h) e k false) ∙ short_3 p line table input t f l e h;
      fresh = λ room net three k.
          fresh_own p line table input t room (with_net p.settings net) (sym (setting_early p.lines whole (omega (arith, three))))
          (head_net p table whole net three k);
      fresh_quiet = λ room quiet four k.
          fresh_own p line table input t room (with_quiet p.settings quiet)
          (sym (setting_quiet p.lines whole quiet (omega (arith, four)) four k)) (head_quiet p table whole quiet four k);
      own = λ e call late k h c f l.
          ap (λ (s : Step). s.answer) (event_is p line table input t (an_event p line table input t e late k h) e k true) ∙ made_own p line table input t f l e call h c;
    }
