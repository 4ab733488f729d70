-- What a step may send, row by row: `StepSends` and `NoThird` of specs/Laws.antt, and an eliminator for those who
-- cite it. Assumes nothing.
use Prim.Native.Nat.{ℕ, ◌-◌}
use mathlib.Core.Path.{◌≡◌, refl, subst}
use mathlib.Core.Bool.{Bool, true, false, ◌&&◌, ◌||◌, false≢true}
use lib.Dec.{eqb}
use borrow.Author.Tests.{eqb-true, eq-eqb}
use Rattle.checks.proofs.Laws.{cond_elim, and_left, and_right}
use Rattle.message.specs.declared.Message.{Message}
use Rattle.message.specs.declared.Message.TheVariants as M
use Rattle.neighbour.specs.declared.Phase.{Phase}
use Rattle.neighbour.specs.declared.Phase.TheVariants.{Idle, Acquisition, Down, Up, Cease}
use Rattle.neighbour.specs.declared.Mode.{Mode}
use Rattle.neighbour.specs.declared.Mode.TheVariants.{Unset, Active, Passive}
use Rattle.std.specs.Prelude.{Option, Some, None}
use Rattle.neighbour.specs.declared.Terms.{Terms}
use Rattle.neighbour.specs.declared.Settings.{Settings}
use Rattle.neighbour.specs.declared.Neighbour.{Neighbour}
use Rattle.neighbour.specs.Record.{under, is_idle, shifted, aged}
use Rattle.neighbour.specs.Rules.{judged, offer_of, commanded, noted, recounted}
use Rattle.neighbour_messages.specs.declared.Head.{Head}
use Rattle.neighbour_wellformed.proofs.Formed.{at}
use Rattle.neighbour_machine.specs.declared.Event.{Event}
use Rattle.neighbour_machine.specs.declared.Event.TheVariants.{Received, Start, Stop, Tick}
use Rattle.neighbour_machine.specs.declared.Reply.{Reply}
use Rattle.neighbour_machine.specs.declared.Reply.TheVariants.{Nothing, One, Two}
use Rattle.neighbour_machine.specs.declared.After.{After}
use Rattle.neighbour_machine.specs.Table.{followed, unanswered, answers, says, hello_if, does_a, does_b, ceases, repeats_cease, acquires, stray, on_request, settles, on_confirm, on_refuse, on_cease, on_cease_ack, on_hello, on_i_heard_you, answers_poll, on_poll, on_update, on_start, on_stop}
use Rattle.neighbour_machine.specs.Tick.{expired, repeats, listens, polls, polls_on_entry, takes_t2, polls_in_up, tick_on, tick_outside, on_tick}
use Rattle.neighbour_machine.specs.Step.{on_message, step_of}
use Rattle.neighbour_machine.specs.Laws.{short, our_update, may_send, StepSends, NoThird}

-- the four replies that there are
pub send_elim : (g : Settings) (P : Reply → Type 0) → P Nothing → ((m : Message) → short m ≡ true → P (One m))
    → ((q : ℕ) → P (One (M.Update g.asn q 1 g.net))) → ((m next : Message) → short m ≡ true → short next ≡ true → P (Two m next))
    → (r : Reply) → may_send g r ≡ true → P r
send_elim g P none one update two Nothing e = none
send_elim g P none one update two (One m) e = go m e
  where
    go : (m : Message) → (short m || our_update g m) ≡ true → P (One m)
    go (M.Request a q s hello poll) e = one _ refl
    go (M.Confirm a q s hello poll) e = one _ refl
    go (M.Refuse a q s) e = one _ refl
    go (M.Cease a q s) e = one _ refl
    go (M.CeaseAck a q s) e = one _ refl
    go (M.Hello a q s) e = one _ refl
    go (M.IHeardYou a q s) e = one _ refl
    go (M.Poll a q s net) e = one _ refl
    go (M.Update a q s net) e =
        let i = eqb-true a g.asn (and_left _ (eqb s 1) (and_left (eqb a g.asn && eqb s 1) (eqb net g.net) e)) in
        let j = eqb-true s 1 (and_right (eqb a g.asn) _ (and_left (eqb a g.asn && eqb s 1) (eqb net g.net) e)) in
        let k = eqb-true net g.net (and_right (eqb a g.asn && eqb s 1) _ e) in
        rw (i, j, k) (update q)
    go (M.Error a q s reason x y z) e = one _ refl
send_elim g P none one update two (Two m next) e = two m next (and_left (short m) (short next) e) (and_right (short m) (short next) e)

-- nothing yet, or one short message: another may follow
unfoldable roomy : Reply → Bool
roomy Nothing = true
roomy (One m) = short m
roomy (Two m next) = false

module _ (g : Settings) where
  unfoldable Roomy : After → Type 0
  Roomy x = roomy x.reply ≡ true

  unfoldable Sends : After → Type 0
  Sends x = may_send g x.reply ≡ true

  each : (phase : Phase) (a b c d e : After) → Sends a → Sends b → Sends c → Sends d → Sends e → Sends (under phase a b c d e)
  unfolding under
  each Idle a b c d e p q r s t = p
  each Acquisition a b c d e p q r s t = q
  each Down a b c d e p q r s t = r
  each Up a b c d e p q r s t = s
  each Cease a b c d e p q r s t = t

  unanswered_sends : (n : Neighbour) → Sends (unanswered n)
  unfolding Sends unanswered
  unanswered_sends n = refl

  answers_sends : (n : Neighbour) (m : Message) → short m ≡ true → Sends (answers n m)
  unfolding Sends answers
  answers_sends n m e = rw e

  stray_sends : (n : Neighbour) → Sends (stray g n)
  unfolding stray
  stray_sends n = cond_elim Sends (eqb g.quiet 1) _ _ (λ _. unanswered_sends n) (λ _. answers_sends n _ refl)

  unanswered_roomy : (n : Neighbour) → Roomy (unanswered n)
  unfolding Roomy unanswered roomy
  unanswered_roomy n = refl

  answers_roomy : (n : Neighbour) (m : Message) → short m ≡ true → Roomy (answers n m)
  unfolding Roomy answers roomy
  answers_roomy n m e = e

  roomy_may : (r : Reply) → roomy r ≡ true → may_send g r ≡ true
  unfolding roomy
  roomy_may Nothing e = refl
  roomy_may (One m) e = rw e
  roomy_may (Two m next) e = absurd (false≢true e)

  followed_may : (r : Reply) (m : Message) → roomy r ≡ true → short m ≡ true → may_send g (followed r m) ≡ true
  unfolding roomy followed
  followed_may Nothing m e f = rw f
  followed_may (One first) m e f = rw (e, f)
  followed_may (Two first second) m e f = absurd (false≢true e)

  roomy_sends : (x : After) → Roomy x → Sends x
  unfolding Roomy Sends
  roomy_sends x e = roomy_may x.reply e

  hello_sends : (mode : Mode) (x : After) → Roomy x → Sends (hello_if mode g x)
  unfolding hello_if says Roomy Sends
  hello_sends Unset x e = roomy_may x.reply e
  hello_sends Active x e = followed_may x.reply _ e refl
  hello_sends Passive x e = roomy_may x.reply e

  a_sends : (n : Neighbour) (hello poll : ℕ) (mode : Mode) → Sends (does_a g n hello poll mode)
  unfolding does_a
  a_sends n hello poll mode = hello_sends _ _ (answers_roomy _ _ refl)

  b_sends : (n : Neighbour) (hello poll : ℕ) (mode : Mode) → Sends (does_b g n hello poll mode)
  unfolding does_b
  b_sends n hello poll mode = hello_sends _ _ (unanswered_roomy _)

  request_sends : (n : Neighbour) (sequence : ℕ) (offer : Option Terms) → Sends (on_request g n sequence offer)
  unfolding on_request repeats_cease ceases
  request_sends n sequence (Some t) =
      each n.phase _ _ _ _ _ (a_sends _ t.period1 t.period2 t.mode) (a_sends n t.period1 t.period2 t.mode) (a_sends n t.period1 t.period2 t.mode) (a_sends n t.period1 t.period2 t.mode) (answers_sends n _ refl)
  request_sends n sequence None =
      each n.phase _ _ _ _ _ (answers_sends n _ refl) (unanswered_sends _) (answers_sends _ _ refl) (answers_sends _ _ refl) (answers_sends n _ refl)

  settles_sends : (n : Neighbour) (offer : Option Terms) → Sends (settles g n offer)
  unfolding settles
  settles_sends n (Some t) = b_sends n t.period1 t.period2 t.mode
  settles_sends n None = unanswered_sends _

  -- a Poll in Up: our Update has the status of Up
  answers_poll_sends : (n : Neighbour) (net : ℕ) (head : Head) → Sends (answers_poll g (at n Up) net head)
  unfolding answers_poll answers Sends
  answers_poll_sends n net head =
      cond_elim Sends (eqb net g.net) _ _ (λ _. rw (eq-eqb g.asn g.asn refl, eq-eqb g.net g.net refl)) (λ _. refl)

  poll_sends : (n : Neighbour) (net : ℕ) (head : Head) (p : Phase) → Sends (on_poll g (at n p) net head)
  unfolding on_poll under
  poll_sends n net head Idle = stray_sends _
  poll_sends n net head Acquisition = unanswered_sends _
  poll_sends n net head Down = unanswered_sends _
  poll_sends n net head Up = answers_poll_sends n net head
  poll_sends n net head Cease = unanswered_sends _

  message_sends : (asn : ℕ) (n : Neighbour) (m : Message) (head : Head) → Sends (on_message g asn n m head)
  unfolding on_message on_confirm on_refuse on_cease on_cease_ack on_hello on_i_heard_you on_update
  message_sends asn n (M.Request a q s hello poll) head = request_sends n q (offer_of g asn s hello poll)
  message_sends asn n (M.Confirm a q s hello poll) head =
      each n.phase _ _ _ _ _ (stray_sends n) (settles_sends n (offer_of g asn s hello poll)) (unanswered_sends n) (unanswered_sends n) (unanswered_sends n)
  message_sends asn n (M.Refuse a q s) head =
      each n.phase _ _ _ _ _ (stray_sends n) (unanswered_sends _) (unanswered_sends n) (unanswered_sends n) (unanswered_sends n)
  message_sends asn n (M.Cease a q s) head = answers_sends _ _ refl
  message_sends asn n (M.CeaseAck a q s) head =
      each n.phase _ _ _ _ _ (unanswered_sends n) (unanswered_sends n) (unanswered_sends n) (unanswered_sends n) (unanswered_sends _)
  message_sends asn n (M.Hello a q s) head =
      each n.phase _ _ _ _ _ (stray_sends n) (unanswered_sends n) (answers_sends n _ refl) (answers_sends n _ refl) (unanswered_sends n)
  message_sends asn n (M.IHeardYou a q s) head =
      each n.phase _ _ _ _ _ (stray_sends n) (unanswered_sends n) (unanswered_sends n) (unanswered_sends n) (unanswered_sends n)
  message_sends asn n (M.Poll a q s net) head = poll_sends n net head n.phase
  message_sends asn n (M.Update a q s net) head =
      each n.phase _ _ _ _ _ (stray_sends n) (unanswered_sends n) (unanswered_sends n) (unanswered_sends n) (unanswered_sends n)
  message_sends asn n (M.Error a q s reason x y z) head = unanswered_sends n

  start_sends : (n : Neighbour) → Sends (on_start g n)
  unfolding on_start acquires
  start_sends n =
      each n.phase _ _ _ _ _ (answers_sends _ _ refl) (answers_sends _ _ refl) (answers_sends _ _ refl) (answers_sends _ _ refl) (unanswered_sends n)

  stop_sends : (n : Neighbour) → Sends (on_stop g n)
  unfolding on_stop ceases
  stop_sends n = each n.phase _ _ _ _ _ (unanswered_sends n) (unanswered_sends _) (answers_sends _ _ refl) (answers_sends _ _ refl) (unanswered_sends _)

  -- the tick: before a Poll at most a Hello was said
  hello_roomy : (mode : Mode) (n : Neighbour) → Roomy (hello_if mode g (unanswered n))
  unfolding hello_if says unanswered followed Roomy roomy
  hello_roomy Unset n = refl
  hello_roomy Active n = refl
  hello_roomy Passive n = refl

  listens_roomy : (n : Neighbour) → Roomy (listens g n)
  unfolding listens
  listens_roomy n = cond_elim Roomy (eqb (n.t1 - 1) 0) _ _ (λ _. hello_roomy _ (judged (shifted n))) (λ _. unanswered_roomy _)

  repeats_sends : (n : Neighbour) (m : Message) → short m ≡ true → Sends (repeats n m)
  unfolding repeats
  repeats_sends n m e = cond_elim Sends (eqb (n.t1 - 1) 0) _ _ (λ _. answers_sends _ m e) (λ _. unanswered_sends _)

  polls_sends : (x : After) → Roomy x → Sends (polls g x)
  unfolding polls says Roomy Sends
  polls_sends x e = followed_may x.reply _ e refl

  entry_sends : (x : After) → Roomy x → Sends (polls_on_entry g x)
  unfolding polls_on_entry
  entry_sends x e =
      each x.neighbour.phase _ _ _ _ _ (roomy_sends x e) (roomy_sends x e) (roomy_sends x e) (polls_sends x e) (roomy_sends x e)

  t2_sends : (x : After) → Roomy x → Sends (takes_t2 g x)
  unfolding takes_t2 Roomy Sends
  t2_sends x e = cond_elim Sends (eqb (x.neighbour.t2 - 1) 0) _ _ (λ _. polls_sends x e) (λ _. roomy_may x.reply e)

  up_sends : (x : After) → Roomy x → Sends (polls_in_up g x)
  unfolding polls_in_up
  up_sends x e =
      each x.neighbour.phase _ _ _ _ _ (roomy_sends x e) (roomy_sends x e) (roomy_sends x e) (t2_sends x e) (roomy_sends x e)

  runs_sends : (n : Neighbour) → Sends (tick_on g n)
  unfolding tick_on
  runs_sends n =
      each n.phase _ _ _ _ _ (unanswered_sends n) (repeats_sends n _ refl) (entry_sends _ (listens_roomy n)) (up_sends _ (listens_roomy n))
      (repeats_sends n _ refl)

  outside_sends : (n : Neighbour) → Sends (tick_outside g n)
  unfolding tick_outside expired
  outside_sends n = cond_elim Sends (eqb (n.t3 - 1) 0) _ _ (λ _. stop_sends n) (λ _. runs_sends _)

  tick_sends : (n : Neighbour) → Sends (on_tick g n)
  unfolding on_tick
  tick_sends n = cond_elim Sends (is_idle n.phase) _ _ (λ _. unanswered_sends n) (λ _. outside_sends (aged n))

  event_sends : (asn : ℕ) (n : Neighbour) (event : Event) (head : Head) → Sends (step_of g asn n event head)
  unfolding step_of
  event_sends asn n (Received m) head = message_sends asn (recounted (noted (commanded n m) m) m) m head
  event_sends asn n Start head = start_sends n
  event_sends asn n Stop head = stop_sends n
  event_sends asn n Tick head = tick_sends n

pub step_sends : StepSends
unfolding Sends
step_sends g asn n event head = event_sends g asn n event head

pub no_third : NoThird
no_third g asn n event head e = false≢true (subst (λ (r : Reply). may_send g r ≡ true) e (step_sends g asn n event head))
