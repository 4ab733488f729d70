-- The laws of specs/Laws.antt. Assumes nothing.
use Prim.Native.Nat.{ℕ, ◌-◌, ◌≤◌}
use native.Mathlib.Omega.{arith}
use mathlib.Core.Path.{◌≡◌, refl, sym, subst, ap, ◌∙◌}
use mathlib.Core.Bool.{Bool, true, false, cond, not, ◌&&◌, ◌||◌, and-false}
use lib.Dec.{eqb}
use borrow.Author.Tests.{eqb-false}
use Rattle.checks.proofs.Laws.{cond_elim, and_left}
use Rattle.message.specs.Kinds.{kind_of, sequence_of, status_of}
use Rattle.message.specs.declared.Message.{Message}
use Rattle.message.specs.declared.Message.TheVariants as M
use Rattle.message.specs.declared.Kind.TheVariants as K
use Rattle.neighbour.specs.declared.Phase.{Phase}
use Rattle.neighbour.specs.declared.Phase.TheVariants.{Idle, Acquisition, Down, Up, Cease}
use Rattle.neighbour.specs.declared.Mode.{Mode}
use Rattle.neighbour.specs.declared.Mode.TheVariants.{Unset, Active, Passive}
use Rattle.neighbour.specs.declared.Settings.{Settings}
use Rattle.neighbour.specs.declared.Neighbour.{Neighbour}
use Rattle.std.specs.Prelude.{Option, Some, None}
use Rattle.neighbour.specs.declared.Terms.{Terms}
use Rattle.neighbour_messages.specs.declared.Head.{Head}
use Rattle.neighbour.specs.Record.{under, is_idle, acquired, idle, left_idle, waiting, initialised, with_numbers, with_timers, with_reach, with_counts, heard_from, shifted, enter_up, leave_up, polled, one_more, aged, is_up, with_quiet}
use Rattle.neighbour.specs.Rules.{same, is_command, commanded, indicates, noted, recounted, offer_of, goes_up, goes_down, ones_of, judged}
use Rattle.neighbour_messages.specs.Sent.{hello_message, poll_message}
use Rattle.neighbour_wellformed.specs.Formed.{is_unset, well_formed}
use Rattle.neighbour_wellformed.proofs.Formed.{at, Fine, offer_elim, idle_ok, idle_only, acquisition_ok, cease_5_ok, cease_6_ok, initialised_ok, numbers_ok, counted_ok, counts_bounds, one_more_high, heard_ok, timers_ok, timer_bounds, fine_down, fine_up, t2_down, t2_up, t2_elsewhere, down_ok, up_ok, moded}
use Rattle.neighbour_machine.specs.declared.Event.{Event}
use Rattle.neighbour_machine.specs.declared.Event.TheVariants.{Received, Start, Stop, Tick}
use Rattle.neighbour_machine.specs.declared.Reply.{Reply}
use Rattle.neighbour_machine.specs.declared.Reply.TheVariants.{Nothing, One, Two}
use Rattle.neighbour_machine.specs.declared.After.{After}
use Rattle.neighbour_machine.specs.Table.{followed, unanswered, answers, says, hello_if, does_a, does_b, ceases, repeats_cease, acquires, stray, on_request, settles, on_confirm, on_refuse, on_cease, on_cease_ack, on_hello, on_i_heard_you, answers_poll, on_poll, on_update, on_start, on_stop}
use Rattle.neighbour_machine.specs.Tick.{takes_t1, expired, repeats, listens, polls, polls_on_entry, takes_t2, polls_in_up, tick_on, tick_outside, on_tick}
use Rattle.neighbour_machine.specs.Step.{on_message, step_of}
use Rattle.neighbour_machine.specs.Laws.{is_poll, sends_poll, brought, is_tick, Lawful, StepLawful, IdleIsZero, T2OnlyInUp, ErrorIgnored, is_stray, StrayAnswered, StrayUnanswered, QuietElsewhere, UpdateStaysUp}

never : {A : Type 0} → true ≡ false → A
never e = let z : ◌≡◌ {A = ℕ} 0 1 = cc in absurd (omega arith)

-- the outcomes that a row may have, outside Idle
module _ (n : Neighbour) (tick : Bool) where
  stays : (p : Phase) → is_idle p ≡ false → well_formed (at n p) ≡ true → (reply : Reply) → sends_poll reply ≡ false
      → Lawful p n.s n.r tick (record { neighbour = at n p; reply = reply })
  stays Idle i h reply e = never i
  stays Acquisition i h reply e = record { formed = h; s_moves = rw e; r_moves = refl; up_entered = refl }
  stays Down i h reply e = record { formed = h; s_moves = rw e; r_moves = refl; up_entered = refl }
  stays Up i h reply e = record { formed = h; s_moves = rw e; r_moves = refl; up_entered = refl }
  stays Cease i h reply e = record { formed = h; s_moves = rw e; r_moves = refl; up_entered = refl }

  -- another record with the same S and R that is neither Idle nor Up
  moves : (p : Phase) → is_idle p ≡ false → (m : Neighbour) → is_idle m.phase ≡ false → is_up m.phase ≡ false
      → m.s ≡ n.s → m.r ≡ n.r → well_formed m ≡ true → (reply : Reply) → sends_poll reply ≡ false
      → Lawful p n.s n.r tick (record { neighbour = m; reply = reply })
  moves p i m j u s r h reply e = record { formed = h; s_moves = rw (i, j, e) s; r_moves = rw j r; up_entered = rw u }

gone : (p : Phase) (s r : ℕ) (tick : Bool) (reply : Reply) → Lawful p s r tick (record { neighbour = idle; reply = reply })
unfolding idle
gone p s r tick reply = record { formed = idle_ok; s_moves = rw (or_true (is_idle p)); r_moves = refl; up_entered = refl }
  where
    or_true : (b : Bool) → (b || true) ≡ true
    or_true true = refl
    or_true false = refl

module _ (g : Settings) where
  -- A and B, from a record that is left with its S and R
  does_a_lem : (n : Neighbour) (tick : Bool) (p : Phase) → is_idle p ≡ false → (h q : ℕ) (m : Mode)
      → 32 ≤ h → h ≤ 122 → 122 ≤ q → q ≤ 482 → is_unset m ≡ false → Lawful p n.s n.r tick (does_a g n h q m)
  unfolding does_a answers says followed hello_if initialised
  does_a_lem n tick p i h q Unset a b c d e = moves n tick p i (initialised n h q Unset) refl refl refl refl (initialised_ok n h q Unset a b c d e) (One _) refl
  does_a_lem n tick p i h q Active a b c d e = moves n tick p i (initialised n h q Active) refl refl refl refl (initialised_ok n h q Active a b c d e) (Two _ _) refl
  does_a_lem n tick p i h q Passive a b c d e = moves n tick p i (initialised n h q Passive) refl refl refl refl (initialised_ok n h q Passive a b c d e) (One _) refl

  does_b_lem : (n : Neighbour) (tick : Bool) (p : Phase) → is_idle p ≡ false → (h q : ℕ) (m : Mode)
      → 32 ≤ h → h ≤ 122 → 122 ≤ q → q ≤ 482 → is_unset m ≡ false → Lawful p n.s n.r tick (does_b g n h q m)
  unfolding does_b unanswered says followed hello_if initialised
  does_b_lem n tick p i h q Unset a b c d e = moves n tick p i (initialised n h q Unset) refl refl refl refl (initialised_ok n h q Unset a b c d e) Nothing refl
  does_b_lem n tick p i h q Active a b c d e = moves n tick p i (initialised n h q Active) refl refl refl refl (initialised_ok n h q Active a b c d e) (One _) refl
  does_b_lem n tick p i h q Passive a b c d e = moves n tick p i (initialised n h q Passive) refl refl refl refl (initialised_ok n h q Passive a b c d e) Nothing refl

  -- A out of Idle
  leaves_idle : (sequence h q : ℕ) (m : Mode) → 32 ≤ h → h ≤ 122 → 122 ≤ q → q ≤ 482 → is_unset m ≡ false
      → Lawful Idle 0 sequence false (does_a g (left_idle sequence) h q m)
  unfolding does_a answers says followed hello_if initialised left_idle with_numbers idle
  leaves_idle sequence h q Unset a b c d e = record { formed = initialised_ok (left_idle sequence) h q Unset a b c d e; s_moves = refl; r_moves = refl; up_entered = refl }
  leaves_idle sequence h q Active a b c d e = record { formed = initialised_ok (left_idle sequence) h q Active a b c d e; s_moves = refl; r_moves = refl; up_entered = refl }
  leaves_idle sequence h q Passive a b c d e = record { formed = initialised_ok (left_idle sequence) h q Passive a b c d e; s_moves = refl; r_moves = refl; up_entered = refl }

  -- Cease 5, Cease 6 and Acquisition, from any state but Idle
  ceases_5 : (n : Neighbour) (tick : Bool) (p : Phase) → is_idle p ≡ false → well_formed n ≡ true → Lawful p n.s n.r tick (ceases g n 5)
  unfolding ceases answers waiting
  ceases_5 n tick p i h = moves n tick p i (waiting n Cease 5) refl refl refl refl (cease_5_ok n h) (One _) refl

  ceases_6 : (n : Neighbour) (tick : Bool) (p : Phase) → is_idle p ≡ false → well_formed n ≡ true → Lawful p n.s n.r tick (ceases g n 6)
  unfolding ceases answers waiting
  ceases_6 n tick p i h = moves n tick p i (waiting n Cease 6) refl refl refl refl (cease_6_ok n h) (One _) refl

  acquires_on : (n : Neighbour) (tick : Bool) (p : Phase) → is_idle p ≡ false → well_formed n ≡ true → Lawful p n.s n.r tick (acquires g n)
  unfolding acquires answers waiting
  acquires_on n tick p i h = moves n tick p i (waiting n Acquisition 0) refl refl refl refl (acquisition_ok n h) (One _) refl

  -- the rows of messages, outside Idle
  module _ (n : Neighbour) where
    request_row : (sequence : ℕ) (asn status hello poll : ℕ) (p : Phase) → is_idle p ≡ false → well_formed (at n p) ≡ true
        → Lawful p n.s n.r false (on_request g (at n p) sequence (offer_of g asn status hello poll))
    unfolding on_request repeats_cease unanswered answers under
    request_row sequence asn status hello poll Idle i h = never i
    request_row sequence asn status hello poll Acquisition i h =
        offer_elim g asn status hello poll (λ o. Lawful Acquisition n.s n.r false (on_request g (at n Acquisition) sequence o))
        (does_a_lem (at n Acquisition) false Acquisition i) (gone Acquisition n.s n.r false Nothing)
    request_row sequence asn status hello poll Down i h =
        offer_elim g asn status hello poll (λ o. Lawful Down n.s n.r false (on_request g (at n Down) sequence o))
        (does_a_lem (at n Down) false Down i) (ceases_6 (at n Down) false Down i h)
    request_row sequence asn status hello poll Up i h =
        offer_elim g asn status hello poll (λ o. Lawful Up n.s n.r false (on_request g (at n Up) sequence o))
        (does_a_lem (at n Up) false Up i) (ceases_6 (at n Up) false Up i h)
    request_row sequence asn status hello poll Cease i h =
        offer_elim g asn status hello poll (λ o. Lawful Cease n.s n.r false (on_request g (at n Cease) sequence o))
        (λ a b c d e f k l. stays n false Cease i h (One _) refl) (stays n false Cease i h (One _) refl)

    confirm_row_lem : (asn status hello poll : ℕ) (p : Phase) → is_idle p ≡ false → well_formed (at n p) ≡ true
        → Lawful p n.s n.r false (on_confirm g (at n p) (offer_of g asn status hello poll))
    unfolding on_confirm settles unanswered under
    confirm_row_lem asn status hello poll Idle i h = never i
    confirm_row_lem asn status hello poll Acquisition i h =
        offer_elim g asn status hello poll (λ o. Lawful Acquisition n.s n.r false (on_confirm g (at n Acquisition) o))
        (does_b_lem (at n Acquisition) false Acquisition i) (gone Acquisition n.s n.r false Nothing)
    confirm_row_lem asn status hello poll Down i h = stays n false Down i h Nothing refl
    confirm_row_lem asn status hello poll Up i h = stays n false Up i h Nothing refl
    confirm_row_lem asn status hello poll Cease i h = stays n false Cease i h Nothing refl

    refuse_row_lem : (p : Phase) → is_idle p ≡ false → well_formed (at n p) ≡ true → Lawful p n.s n.r false (on_refuse g (at n p))
    unfolding on_refuse unanswered under
    refuse_row_lem Idle i h = never i
    refuse_row_lem Acquisition i h = gone Acquisition n.s n.r false Nothing
    refuse_row_lem Down i h = stays n false Down i h Nothing refl
    refuse_row_lem Up i h = stays n false Up i h Nothing refl
    refuse_row_lem Cease i h = stays n false Cease i h Nothing refl

    cease_ack_row_lem : (p : Phase) → is_idle p ≡ false → well_formed (at n p) ≡ true → Lawful p n.s n.r false (on_cease_ack (at n p))
    unfolding on_cease_ack unanswered under
    cease_ack_row_lem Idle i h = never i
    cease_ack_row_lem Acquisition i h = stays n false Acquisition i h Nothing refl
    cease_ack_row_lem Down i h = stays n false Down i h Nothing refl
    cease_ack_row_lem Up i h = stays n false Up i h Nothing refl
    cease_ack_row_lem Cease i h = gone Cease n.s n.r false Nothing

    hello_row_lem : (p : Phase) → is_idle p ≡ false → well_formed (at n p) ≡ true → Lawful p n.s n.r false (on_hello g (at n p))
    unfolding on_hello unanswered answers under
    hello_row_lem Idle i h = never i
    hello_row_lem Acquisition i h = stays n false Acquisition i h Nothing refl
    hello_row_lem Down i h = stays n false Down i h (One _) refl
    hello_row_lem Up i h = stays n false Up i h (One _) refl
    hello_row_lem Cease i h = stays n false Cease i h Nothing refl

    i_heard_you_row : (p : Phase) → is_idle p ≡ false → well_formed (at n p) ≡ true → Lawful p n.s n.r false (on_i_heard_you g (at n p))
    unfolding on_i_heard_you unanswered under
    i_heard_you_row Idle i h = never i
    i_heard_you_row Acquisition i h = stays n false Acquisition i h Nothing refl
    i_heard_you_row Down i h = stays n false Down i h Nothing refl
    i_heard_you_row Up i h = stays n false Up i h Nothing refl
    i_heard_you_row Cease i h = stays n false Cease i h Nothing refl

    poll_row_lem : (net : ℕ) (head : Head) (p : Phase) → is_idle p ≡ false → well_formed (at n p) ≡ true
        → Lawful p n.s n.r false (on_poll g (at n p) net head)
    unfolding on_poll answers_poll unanswered answers under
    poll_row_lem net head Idle i h = never i
    poll_row_lem net head Acquisition i h = stays n false Acquisition i h Nothing refl
    poll_row_lem net head Down i h = stays n false Down i h Nothing refl
    poll_row_lem net head Up i h =
        cond_elim (Lawful Up n.s n.r false) (eqb net g.net) _ _
        (λ _. stays n false Up i h (One _) refl) (λ _. stays n false Up i h (One _) refl)
    poll_row_lem net head Cease i h = stays n false Cease i h Nothing refl

    update_row_lem : (p : Phase) → is_idle p ≡ false → well_formed (at n p) ≡ true → Lawful p n.s n.r false (on_update g (at n p))
    unfolding on_update on_i_heard_you
    update_row_lem p i h = i_heard_you_row p i h

  message_lawful : (asn : ℕ) (n : Neighbour) (p : Phase) (m : Message) (head : Head) → is_idle p ≡ false → well_formed (at n p) ≡ true
      → Lawful p n.s n.r false (on_message g asn (at n p) m head)
  unfolding on_message on_cease answers unanswered
  message_lawful asn n p (M.Request a q s h o) head i f = request_row n q asn s h o p i f
  message_lawful asn n p (M.Confirm a q s h o) head i f = confirm_row_lem n asn s h o p i f
  message_lawful asn n p (M.Refuse a q s) head i f = refuse_row_lem n p i f
  message_lawful asn n p (M.Cease a q s) head i f = gone p n.s n.r false (One _)
  message_lawful asn n p (M.CeaseAck a q s) head i f = cease_ack_row_lem n p i f
  message_lawful asn n p (M.Hello a q s) head i f = hello_row_lem n p i f
  message_lawful asn n p (M.IHeardYou a q s) head i f = i_heard_you_row n p i f
  message_lawful asn n p (M.Poll a q s net) head i f = poll_row_lem n net head p i f
  message_lawful asn n p (M.Update a q s net) head i f = update_row_lem n p i f
  message_lawful asn n p (M.Error a q s r x y z) head i f = stays n false p i f Nothing refl

  -- a count that starts anew changes neither the phase nor S nor R
  recounted_lawful : (asn : ℕ) (n : Neighbour) (p : Phase) (m : Message) (head : Head) → is_idle p ≡ false → well_formed (at n p) ≡ true
      → Lawful p n.s n.r false (on_message g asn (recounted (at n p) m) m head)
  unfolding recounted
  recounted_lawful asn n p m head i f =
      let b = counts_bounds (at n p) f in
      let hello = cond (same (kind_of m) K.Hello) 0 n.sincehello in
      let poll = cond (same (kind_of m) K.Poll) 0 n.sincepoll in
      cond_elim (λ k. Lawful p n.s n.r false (on_message g asn k m head)) (acquired p) (with_counts (at n p) hello poll) (at n p)
      (λ _. message_lawful asn (with_counts n hello poll) p m head i
      (counted_ok n hello poll p i (zero_or (same (kind_of m) K.Hello) n.sincehello b.0) (zero_or (same (kind_of m) K.Poll) n.sincepoll b.1) f))
      (λ _. message_lawful asn n p m head i f)
    where
      zero_or : (z : Bool) (count : ℕ) → count ≤ 120 → cond z 0 count ≤ 120
      zero_or true count h = omega arith
      zero_or false count h = h

  -- nor does an indication
  noted_lawful : (asn : ℕ) (n : Neighbour) (p : Phase) (m : Message) (head : Head) → is_idle p ≡ false → well_formed (at n p) ≡ true
      → Lawful p n.s n.r false (on_message g asn (recounted (noted (at n p) m) m) m head)
  unfolding noted heard_from with_reach with_timers
  noted_lawful asn n p m head i f =
      cond_elim (λ k. Lawful p n.s n.r false (on_message g asn (recounted k m) m head))
      (acquired p && indicates n.mode (kind_of m) (status_of m)) (heard_from (at n p)) (at n p)
      (λ e. recounted_lawful asn (heard_from (at n p)) p m head i (heard_ok n p (and_left (acquired p) _ e) f))
      (λ _. recounted_lawful asn n p m head i f)

  -- a command sets R, and a message that is no command leaves it
  received_lawful : (asn : ℕ) (n : Neighbour) (p : Phase) (m : Message) (head : Head) → is_idle p ≡ false → well_formed (at n p) ≡ true
      → Lawful p n.s (brought (Received m) n.r) false (step_of g asn (at n p) (Received m) head)
  unfolding step_of commanded with_numbers
  received_lawful asn n p m head i f = rw i (go (is_command (kind_of m)))
    where
      go : (b : Bool)
          → Lawful p n.s (cond b (sequence_of m) n.r) false
          (on_message g asn (recounted (noted (cond b (with_numbers (at n p) n.s (sequence_of m)) (at n p)) m) m) m head)
      go true = noted_lawful asn (with_numbers n n.s (sequence_of m)) p m head i (numbers_ok n n.s (sequence_of m) p i f)
      go false = noted_lawful asn n p m head i f

  -- a stray message leaves the idle record, answered or not
  stray_idle : (q : ℕ) → Lawful Idle 0 q false (stray g idle)
  unfolding stray unanswered answers
  stray_idle q =
      cond_elim (Lawful Idle 0 q false) (eqb g.quiet 1) _ _ (λ _. gone Idle 0 q false Nothing) (λ _. gone Idle 0 q false (One _))

  -- the idle record
  idle_received : (asn : ℕ) (m : Message) (head : Head) → Lawful Idle 0 (brought (Received m) 0) false (step_of g asn idle (Received m) head)
  unfolding step_of recounted noted commanded idle on_message on_request on_confirm on_refuse on_cease on_cease_ack on_hello on_i_heard_you on_poll on_update unanswered answers under
  idle_received asn (M.Request a q s h o) head =
      offer_elim g asn s h o (λ k. Lawful Idle 0 q false (on_request g idle q k)) (leaves_idle q) (gone Idle 0 q false (One _))
  idle_received asn (M.Confirm a q s h o) head = stray_idle 0
  idle_received asn (M.Refuse a q s) head = stray_idle 0
  idle_received asn (M.Cease a q s) head = gone Idle 0 q false (One _)
  idle_received asn (M.CeaseAck a q s) head = gone Idle 0 0 false Nothing
  idle_received asn (M.Hello a q s) head = stray_idle q
  idle_received asn (M.IHeardYou a q s) head = stray_idle 0
  idle_received asn (M.Poll a q s net) head = stray_idle q
  idle_received asn (M.Update a q s net) head = stray_idle 0
  idle_received asn (M.Error a q s r x y z) head = gone Idle 0 0 false Nothing

  idle_lawful : (asn : ℕ) (event : Event) (head : Head) → Lawful Idle 0 (brought event 0) (is_tick event) (step_of g asn idle event head)
  unfolding step_of on_start on_stop on_tick acquires answers waiting left_idle with_numbers idle unanswered under
  idle_lawful asn (Received m) head = idle_received asn m head
  idle_lawful asn Start head = record { formed = acquisition_ok (left_idle 0) idle_ok; s_moves = refl; r_moves = refl; up_entered = refl }
  idle_lawful asn Stop head = gone Idle 0 0 false Nothing
  idle_lawful asn Tick head = gone Idle 0 0 true Nothing

  idle_all : (asn : ℕ) (event : Event) (head : Head)
      → Lawful idle.phase idle.s (brought event idle.r) (is_tick event) (step_of g asn idle event head)
  unfolding idle
  idle_all asn event head = idle_lawful asn event head

  start_lawful : (n : Neighbour) (p : Phase) → is_idle p ≡ false → well_formed (at n p) ≡ true → Lawful p n.s n.r false (on_start g (at n p))
  unfolding on_start unanswered under
  start_lawful n Idle i h = never i
  start_lawful n Acquisition i h = acquires_on (at n Acquisition) false Acquisition i h
  start_lawful n Down i h = acquires_on (at n Down) false Down i h
  start_lawful n Up i h = acquires_on (at n Up) false Up i h
  start_lawful n Cease i h = stays n false Cease i h Nothing refl

  stop_lawful : (n : Neighbour) (tick : Bool) (p : Phase) → is_idle p ≡ false → well_formed (at n p) ≡ true → Lawful p n.s n.r tick (on_stop g (at n p))
  unfolding on_stop unanswered under
  stop_lawful n tick Idle i h = never i
  stop_lawful n tick Acquisition i h = gone Acquisition n.s n.r tick Nothing
  stop_lawful n tick Down i h = ceases_5 (at n Down) tick Down i h
  stop_lawful n tick Up i h = ceases_5 (at n Up) tick Up i h
  stop_lawful n tick Cease i h = gone Cease n.s n.r tick Nothing

  -- the tick
  hello_elim : (P : After → Type 0) (mode : Mode) (x : After) → P x → P (says x (hello_message g x.neighbour)) → P (hello_if mode g x)
  unfolding hello_if
  hello_elim P Unset x p q = p
  hello_elim P Active x p q = q
  hello_elim P Passive x p q = p

  repeats_lawful : (n : Neighbour) (p : Phase) (m : Message) → is_poll m ≡ false → is_idle p ≡ false → well_formed (at n p) ≡ true
      → Lawful p n.s n.r true (repeats (at n p) m)
  unfolding repeats answers unanswered with_timers
  repeats_lawful n p m e i h =
      let t = timer_bounds n p i h in
      cond_elim (Lawful p n.s n.r true) (eqb (n.t1 - 1) 0) _ _
      (λ z. stays (with_timers n 30 n.t2 n.t3) true p i (timers_ok n 30 n.t3 p i (omega arith) (omega arith) t.2 t.3 h) (One m) e)
      (λ z.
      let k = eqb-false (n.t1 - 1) 0 z in
      stays (with_timers n (n.t1 - 1) n.t2 n.t3) true p i
      (timers_ok n (n.t1 - 1) n.t3 p i (omega (arith, k)) (omega arith) t.2 t.3 h) Nothing refl)

  takes_t2_lem : (k : Neighbour) (reply : Reply) → sends_poll reply ≡ false → ((m : Neighbour) → sends_poll (followed reply (poll_message g m)) ≡ true)
      → Fine k → 1 ≤ k.t2 → k.t2 ≤ 482 → is_unset k.mode ≡ false
      → Lawful Up k.s k.r true (takes_t2 g (record { neighbour = at k Up; reply = reply }))
  unfolding takes_t2 polls says polled with_numbers with_timers
  takes_t2_lem k reply q p f a b u =
      cond_elim (Lawful Up k.s k.r true) (eqb (k.t2 - 1) 0) _ _
      (λ z.
      record {
        formed = up_ok (polled (at k Up)) refl (omega arith) (omega arith) (omega arith) u;
        s_moves = rw (p (polled (at k Up)));
        r_moves = refl;
        up_entered = refl;
      })
      (λ z.
      let w = eqb-false (k.t2 - 1) 0 z in
      record {
        formed = up_ok (with_timers (at k Up) k.t1 (k.t2 - 1) k.t3) refl (omega arith) (omega (arith, w)) (omega arith) u;
        s_moves = rw q;
        r_moves = refl;
        up_entered = refl;
      })

  -- a record that ends a hello interval
  shifted_fine : (n : Neighbour) → Fine n → Fine (shifted n)
  unfolding shifted with_reach with_timers
  shifted_fine n f = omega arith

  ticked_fine : (n : Neighbour) → Fine n → (n.t1 - 1 ≡ 0 → ⊥) → Fine (with_timers n (n.t1 - 1) n.t2 n.t3)
  unfolding with_timers
  ticked_fine n f z = omega (arith, z)

  -- Down, with k the record once its hello interval has ended
  module _ (k : Neighbour) (f : Fine k) (z : k.t2 ≡ 0) (u : is_unset k.mode ≡ false) where
    enters_up : (reply : Reply) → ((m : Neighbour) → sends_poll (followed reply (poll_message g m)) ≡ true)
        → Lawful Down k.s k.r true (polls_on_entry g (record { neighbour = enter_up (at k Down); reply = reply }))
    unfolding polls_on_entry polls says polled enter_up with_numbers with_timers with_reach under
    enters_up reply p =
        record {
          formed = up_ok (polled (enter_up (at k Down))) refl (omega arith) (omega arith) (omega arith) u;
          s_moves = rw (p (polled (enter_up (at k Down))));
          r_moves = refl;
          up_entered = refl;
        }

    stays_down : (reply : Reply) → sends_poll reply ≡ false → Lawful Down k.s k.r true (polls_on_entry g (record { neighbour = at k Down; reply = reply }))
    unfolding polls_on_entry under
    stays_down reply q = stays k true Down refl (down_ok (at k Down) refl (omega arith) z u) reply q

    judged_down : (P : Neighbour → Type 0) → P (enter_up (at k Down)) → P (at k Down) → P (judged (at k Down))
    unfolding judged under
    judged_down P a b = cond_elim P (goes_up k.mode (ones_of k.register)) (enter_up (at k Down)) (at k Down) (λ _. a) (λ _. b)

    down_judged : Lawful Down k.s k.r true (polls_on_entry g (hello_if (judged (at k Down)).mode g (unanswered (judged (at k Down)))))
    unfolding unanswered says followed
    down_judged =
        hello_elim (λ x. Lawful Down k.s k.r true (polls_on_entry g x)) (judged (at k Down)).mode (unanswered (judged (at k Down)))
        (judged_down (λ j. Lawful Down k.s k.r true (polls_on_entry g (unanswered j))) (enters_up Nothing (λ _. refl)) (stays_down Nothing refl))
        (judged_down (λ j. Lawful Down k.s k.r true (polls_on_entry g (says (unanswered j) (hello_message g j))))
        (enters_up (One _) (λ _. refl)) (stays_down (One _) refl))

  -- Up likewise
  module _ (k : Neighbour) (f : Fine k) (a : 1 ≤ k.t2) (b : k.t2 ≤ 482) (u : is_unset k.mode ≡ false) where
    leaves_up : (reply : Reply) → sends_poll reply ≡ false → Lawful Up k.s k.r true (polls_in_up g (record { neighbour = leave_up (at k Up); reply = reply }))
    unfolding polls_in_up leave_up with_timers with_reach under
    leaves_up reply q = moves k true Up refl (leave_up (at k Up)) refl refl refl refl (down_ok (leave_up (at k Up)) refl (omega arith) refl u) reply q

    stays_up_lem : (reply : Reply) → sends_poll reply ≡ false → ((m : Neighbour) → sends_poll (followed reply (poll_message g m)) ≡ true)
        → Lawful Up k.s k.r true (polls_in_up g (record { neighbour = at k Up; reply = reply }))
    unfolding polls_in_up under
    stays_up_lem reply q p = takes_t2_lem k reply q p f a b u

    judged_up : (P : Neighbour → Type 0) → P (leave_up (at k Up)) → P (at k Up) → P (judged (at k Up))
    unfolding judged under
    judged_up P c d = cond_elim P (goes_down k.mode (ones_of k.register)) (leave_up (at k Up)) (at k Up) (λ _. c) (λ _. d)

    up_judged : Lawful Up k.s k.r true (polls_in_up g (hello_if (judged (at k Up)).mode g (unanswered (judged (at k Up)))))
    unfolding unanswered says followed
    up_judged =
        hello_elim (λ x. Lawful Up k.s k.r true (polls_in_up g x)) (judged (at k Up)).mode (unanswered (judged (at k Up)))
        (judged_up (λ j. Lawful Up k.s k.r true (polls_in_up g (unanswered j))) (leaves_up Nothing refl) (stays_up_lem Nothing refl (λ _. refl)))
        (judged_up (λ j. Lawful Up k.s k.r true (polls_in_up g (says (unanswered j) (hello_message g j))))
        (leaves_up (One _) refl) (stays_up_lem (One _) refl (λ _. refl)))

  runs_lawful : (n : Neighbour) (p : Phase) → is_idle p ≡ false → well_formed (at n p) ≡ true → Lawful p n.s n.r true (tick_on g (at n p))
  unfolding tick_on listens shifted with_reach with_timers unanswered followed under
  runs_lawful n Idle i h = never i
  runs_lawful n Acquisition i h = repeats_lawful n Acquisition _ refl i h
  runs_lawful n Down i h =
      let f = fine_down n h in
      let z = t2_down n h in
      let u = moded (at n Down) refl h in
      cond_elim (λ x. Lawful Down n.s n.r true (polls_on_entry g x)) (eqb (n.t1 - 1) 0) _ _
      (λ _. down_judged (shifted (at n Down)) (shifted_fine (at n Down) f) z u)
      (λ e. stays_down (with_timers (at n Down) (n.t1 - 1) n.t2 n.t3) (ticked_fine (at n Down) f (eqb-false (n.t1 - 1) 0 e)) z u Nothing refl)
  runs_lawful n Up i h =
      let f = fine_up n h in
      let t = t2_up n h in
      let u = moded (at n Up) refl h in
      cond_elim (λ x. Lawful Up n.s n.r true (polls_in_up g x)) (eqb (n.t1 - 1) 0) _ _
      (λ _. up_judged (shifted (at n Up)) (shifted_fine (at n Up) f) t.0 t.1 u)
      (λ e. stays_up_lem (with_timers (at n Up) (n.t1 - 1) n.t2 n.t3) (ticked_fine (at n Up) f (eqb-false (n.t1 - 1) 0 e)) t.0 t.1 u Nothing refl (λ _. refl))
  runs_lawful n Cease i h = repeats_lawful n Cease _ refl i h

  outside_lawful : (n : Neighbour) (p : Phase) → is_idle p ≡ false → well_formed (at n p) ≡ true → Lawful p n.s n.r true (tick_outside g (at n p))
  unfolding tick_outside expired with_timers
  outside_lawful n p i h =
      let t = timer_bounds n p i h in
      cond_elim (Lawful p n.s n.r true) (eqb (n.t3 - 1) 0) _ _
      (λ _. stop_lawful n true p i h)
      (λ e.
      let k = eqb-false (n.t3 - 1) 0 e in
      runs_lawful (with_timers n n.t1 n.t2 (n.t3 - 1)) p i
      (timers_ok n n.t1 (n.t3 - 1) p i t.0 t.1 (omega (arith, k)) (omega arith) h))

  tick_lawful : (n : Neighbour) (p : Phase) → is_idle p ≡ false → well_formed (at n p) ≡ true → Lawful p n.s n.r true (on_tick g (at n p))
  unfolding on_tick aged
  tick_lawful n p i h =
      let b = counts_bounds (at n p) h in
      let hello = one_more n.sincehello in
      let poll = one_more n.sincepoll in
      rw i
      (outside_lawful (with_counts n hello poll) p i
      (counted_ok n hello poll p i (one_more_high n.sincehello b.0) (one_more_high n.sincepoll b.1) h))

  -- every event outside Idle
  event_lawful : (asn : ℕ) (n : Neighbour) (p : Phase) (event : Event) (head : Head) → is_idle p ≡ false → well_formed (at n p) ≡ true
      → Lawful p n.s (brought event n.r) (is_tick event) (step_of g asn (at n p) event head)
  unfolding step_of
  event_lawful asn n p (Received m) head i h = received_lawful asn n p m head i h
  event_lawful asn n p Start head i h = start_lawful n p i h
  event_lawful asn n p Stop head i h = stop_lawful n false p i h
  event_lawful asn n p Tick head i h = tick_lawful n p i h

  by_phase : (asn : ℕ) (n : Neighbour) (p : Phase) (event : Event) (head : Head) → well_formed (at n p) ≡ true
      → Lawful p n.s (brought event n.r) (is_tick event) (step_of g asn (at n p) event head)
  by_phase asn n Idle event head h =
      subst (λ (k : Neighbour). Lawful k.phase k.s (brought event k.r) (is_tick event) (step_of g asn k event head))
      (sym (idle_only n h)) (idle_all asn event head)
  by_phase asn n Acquisition event head h = event_lawful asn n Acquisition event head refl h
  by_phase asn n Down event head h = event_lawful asn n Down event head refl h
  by_phase asn n Up event head h = event_lawful asn n Up event head refl h
  by_phase asn n Cease event head h = event_lawful asn n Cease event head refl h

pub step_lawful : StepLawful
step_lawful g asn n event head h = by_phase g asn n n.phase event head h

pub idle_is_zero : IdleIsZero
idle_is_zero n h e = go n.phase e h
  where
    go : (p : Phase) → p ≡ Idle → well_formed (at n p) ≡ true → at n p ≡ idle
    go p e h = rw e (idle_only n (rw e at h))

pub t2_only_in_up : T2OnlyInUp
t2_only_in_up n h e = t2_elsewhere n n.phase (λ z. never (sym (ap is_up z) ∙ e)) h

error_silent : (mode : Mode) (status : ℕ) → indicates mode K.Error status ≡ false
unfolding indicates
error_silent Unset status = refl
error_silent Active status = refl
error_silent Passive status = refl

same_either : (b : Bool) (n : Neighbour) → cond b n n ≡ n
same_either true n = refl
same_either false n = refl

pub error_ignored : ErrorIgnored
unfolding step_of on_message commanded noted recounted unanswered
error_ignored g asn n a sequence status reason first second third head =
    rw (and-false (not (is_idle n.phase)), error_silent n.mode status, and-false (acquired n.phase)) (ap unanswered (same_either (acquired n.phase) n))

-- in Idle a stray message's row is `stray`: no command sets R there, nothing is noted, no count starts anew
stray_row : (g : Settings) (asn : ℕ) (n : Neighbour) (m : Message) (head : Head) → n.phase ≡ Idle → is_stray m ≡ true
    → step_of g asn n (Received m) head ≡ stray g n
unfolding step_of recounted noted commanded on_message on_confirm on_refuse on_hello on_i_heard_you on_poll on_update under
stray_row g asn n m head e t = go n.phase e m t
  where
    go : (p : Phase) → p ≡ Idle → (m : Message) → is_stray m ≡ true → step_of g asn (at n p) (Received m) head ≡ stray g (at n p)
    go Idle e (M.Request a q s h o) t = never (sym t)
    go Idle e (M.Confirm a q s h o) t = refl
    go Idle e (M.Refuse a q s) t = refl
    go Idle e (M.Cease a q s) t = never (sym t)
    go Idle e (M.CeaseAck a q s) t = never (sym t)
    go Idle e (M.Hello a q s) t = refl
    go Idle e (M.IHeardYou a q s) t = refl
    go Idle e (M.Poll a q s net) t = refl
    go Idle e (M.Update a q s net) t = refl
    go Idle e (M.Error a q s r x y z) t = never (sym t)
    go Acquisition e m t = never (sym (ap is_idle e))
    go Down e m t = never (sym (ap is_idle e))
    go Up e m t = never (sym (ap is_idle e))
    go Cease e m t = never (sym (ap is_idle e))

pub stray_answered : StrayAnswered
unfolding stray answers
stray_answered g asn n m head i t q = stray_row g asn n m head i t ∙ rw q

pub stray_unanswered : StrayUnanswered
unfolding stray unanswered
stray_unanswered g asn n m head i t q = stray_row g asn n m head i t ∙ rw q

-- everything else reads the other four settings alone
module _ (g : Settings) (quiet : ℕ) where
  hello_same : (mode : Mode) (x : After) → hello_if mode (with_quiet g quiet) x ≡ hello_if mode g x
  unfolding hello_if
  hello_same Unset x = refl
  hello_same Active x = refl
  hello_same Passive x = refl

  a_same : (n : Neighbour) (h q : ℕ) (m : Mode) → does_a (with_quiet g quiet) n h q m ≡ does_a g n h q m
  unfolding does_a
  a_same n h q m = hello_same _ _

  b_same : (n : Neighbour) (h q : ℕ) (m : Mode) → does_b (with_quiet g quiet) n h q m ≡ does_b g n h q m
  unfolding does_b
  b_same n h q m = hello_same _ _

  request_same : (n : Neighbour) (sequence : ℕ) (offer : Option Terms) → on_request (with_quiet g quiet) n sequence offer ≡ on_request g n sequence offer
  unfolding on_request ceases repeats_cease
  request_same n sequence (Some t) = rw (a_same n t.period1 t.period2 t.mode, a_same (left_idle sequence) t.period1 t.period2 t.mode)
  request_same n sequence None = refl

  settles_same : (n : Neighbour) (offer : Option Terms) → settles (with_quiet g quiet) n offer ≡ settles g n offer
  unfolding settles
  settles_same n (Some t) = b_same n t.period1 t.period2 t.mode
  settles_same n None = refl

  listens_same : (n : Neighbour) → listens (with_quiet g quiet) n ≡ listens g n
  unfolding listens
  listens_same n = ap (takes_t1 n) (hello_same _ (unanswered (judged (shifted n))))

  tick_on_same : (n : Neighbour) → tick_on (with_quiet g quiet) n ≡ tick_on g n
  unfolding tick_on polls_on_entry takes_t2 polls_in_up polls
  tick_on_same n = rw (listens_same n)

  -- outside Idle a row does not come to its first cell
  outside : (p : Phase) (a b c d e f : After) → (is_idle p && true) ≡ false → under p a c d e f ≡ under p b c d e f
  unfolding under
  outside Idle a b c d e f i = never i
  outside Acquisition a b c d e f i = refl
  outside Down a b c d e f i = refl
  outside Up a b c d e f i = refl
  outside Cease a b c d e f i = refl

  message_same : (asn : ℕ) (n : Neighbour) (m : Message) (head : Head) → (is_idle n.phase && is_stray m) ≡ false
      → on_message (with_quiet g quiet) asn n m head ≡ on_message g asn n m head
  unfolding on_message offer_of on_confirm on_refuse on_cease on_hello on_i_heard_you answers_poll on_poll on_update
  message_same asn n (M.Request a q s h o) head i = request_same n q (offer_of g asn s h o)
  message_same asn n (M.Confirm a q s h o) head i = rw (settles_same n (offer_of g asn s h o)) (outside n.phase _ _ _ _ _ _ i)
  message_same asn n (M.Refuse a q s) head i = outside n.phase _ _ _ _ _ _ i
  message_same asn n (M.Cease a q s) head i = refl
  message_same asn n (M.CeaseAck a q s) head i = refl
  message_same asn n (M.Hello a q s) head i = outside n.phase _ _ _ _ _ _ i
  message_same asn n (M.IHeardYou a q s) head i = outside n.phase _ _ _ _ _ _ i
  message_same asn n (M.Poll a q s net) head i = outside n.phase _ _ _ _ _ _ i
  message_same asn n (M.Update a q s net) head i = outside n.phase _ _ _ _ _ _ i
  message_same asn n (M.Error a q s r x y z) head i = refl

-- what a message does before its row leaves the state
phase_stays : (n : Neighbour) (m : Message) → (recounted (noted (commanded n m) m) m).phase ≡ n.phase
unfolding recounted noted commanded heard_from with_numbers with_timers with_reach
phase_stays n m = recounted_stays (noted (commanded n m) m) ∙ (noted_stays (commanded n m) ∙ commanded_stays)
  where
    recounted_stays : (k : Neighbour) → (recounted k m).phase ≡ k.phase
    recounted_stays k = cond_elim (λ (x : Neighbour). x.phase ≡ k.phase) (acquired k.phase) _ _ (λ _. refl) (λ _. refl)

    noted_stays : (k : Neighbour) → (noted k m).phase ≡ k.phase
    noted_stays k =
        cond_elim (λ (x : Neighbour). x.phase ≡ k.phase) (acquired k.phase && indicates k.mode (kind_of m) (status_of m)) _ _
        (λ _. refl) (λ _. refl)

    commanded_stays : (commanded n m).phase ≡ n.phase
    commanded_stays =
        cond_elim (λ (x : Neighbour). x.phase ≡ n.phase) (not (is_idle n.phase) && is_command (kind_of m)) _ _ (λ _. refl) (λ _. refl)

pub quiet_elsewhere : QuietElsewhere
unfolding step_of on_start on_stop on_tick acquires ceases expired tick_outside
quiet_elsewhere g quiet asn n (Received m) head i =
    message_same g quiet asn _ m head (ap (λ (p : Phase). is_idle p && is_stray m) (phase_stays n m) ∙ i)
quiet_elsewhere g quiet asn n Start head i = refl
quiet_elsewhere g quiet asn n Stop head i = refl
quiet_elsewhere g quiet asn n Tick head i = rw (tick_on_same g quiet (with_timers (aged n) (aged n).t1 (aged n).t2 ((aged n).t3 - 1)))

pub update_stays_up : UpdateStaysUp
unfolding step_of on_message commanded noted recounted heard_from with_reach with_timers on_update unanswered under
update_stays_up g asn n a sequence status net head e =
    rw (and-false (not (is_idle n.phase))) (go n.phase e (indicates n.mode K.Update status))
  where
    go : (p : Phase) → p ≡ Up → (b : Bool)
        → ((on_update g (recounted (cond (acquired p && b) (heard_from (at n p)) (at n p)) (M.Update a sequence status net))).neighbour.phase ≡ Up)
        × ((on_update g (recounted (cond (acquired p && b) (heard_from (at n p)) (at n p)) (M.Update a sequence status net))).reply ≡ Nothing)
    go Up e true = (refl, refl)
    go Up e false = (refl, refl)
    go Idle e b = never (sym (ap is_up e))
    go Acquisition e b = never (sym (ap is_up e))
    go Down e b = never (sym (ap is_up e))
    go Cease e b = never (sym (ap is_up e))
