-- A passive neighbour's register, heard and t3, from the record that A or B leaves on: facts of one record. Assumes
-- nothing.
use Prim.Native.Nat.{ℕ, zero, suc, ◌+◌, ◌-◌, ◌*◌, ◌/◌, ◌%◌, ◌≤◌}
use native.Mathlib.Omega.{arith}
use mathlib.Core.Path.{◌≡◌, refl, sym, ◌∙◌, ap, subst}
use mathlib.Core.Bool.{Bool, true, false, cond, not, ◌&&◌, ◌||◌, or-false, false≢true, true≢false}
use lib.Dec.{leb, eqb}
use borrow.Author.Tests.{eq-eqb, ne_eqb, eqb-true, eqb-false, leb-true, leb-false}
use Rattle.checks.proofs.Laws.{cond_elim, and_left, and_right}
use Rattle.message.specs.Kinds.{kind_of, status_of, sequence_of}
use Rattle.message.specs.declared.Message.{Message}
use Rattle.message.specs.declared.Message.TheVariants as M
use Rattle.neighbour.specs.declared.Phase.{Phase}
use Rattle.neighbour.specs.declared.Phase.TheVariants.{Idle, Acquisition, Down, Up, Cease}
use Rattle.neighbour.specs.declared.Mode.{Mode}
use Rattle.neighbour.specs.declared.Mode.TheVariants.{Unset, Active, Passive}
use Rattle.neighbour.specs.declared.Settings.{Settings}
use Rattle.neighbour.specs.declared.Neighbour.{Neighbour}
use Rattle.std.specs.Prelude.{Option, Some, None}
use Rattle.neighbour.specs.declared.Terms.{Terms}
use Rattle.neighbour.specs.Record.{under, is_idle, is_up, acquired, idle, left_idle, with_numbers, with_timers, with_reach, waiting, initialised, heard_from, shifted, enter_up, leave_up, polled, aged}
use Rattle.neighbour.specs.Rules.{is_command, commanded, indicates, noted, recounted, offer_of, ones_of, goes_up, goes_down, judged}
use Rattle.neighbour.proofs.Laws.{at_up, at_down}
use Rattle.neighbour_wellformed.specs.Formed.{well_formed}
use Rattle.neighbour_wellformed.proofs.Formed.{at, Fine, fine_down, fine_up, timer_bounds}
use Rattle.neighbour_messages.specs.declared.Head.{Head}
use Rattle.neighbour_machine.specs.declared.Event.{Event}
use Rattle.neighbour_machine.specs.declared.Event.TheVariants.{Received, Start, Stop, Tick}
use Rattle.neighbour_machine.specs.declared.After.{After}
use Rattle.neighbour_machine.specs.Table.{unanswered, answers, says, hello_if, does_a, does_b, ceases, repeats_cease, acquires, stray, on_request, settles, on_confirm, on_refuse, on_cease, on_cease_ack, on_hello, on_i_heard_you, answers_poll, on_poll, on_update, on_start, on_stop}
use Rattle.neighbour_machine.specs.Tick.{expired, repeats, listens, polls, polls_on_entry, takes_t2, polls_in_up, tick_on, tick_outside, on_tick}
use Rattle.neighbour_machine.specs.Step.{on_message, step_of}
use Rattle.neighbour_machine.specs.Laws.{is_down, is_tick}
use Rattle.neighbour_machine.proofs.Theorems.{step_lawful}
use Rattle.model.specs.Windows.{is_indication, is_evaluation, is_restart}
use Rattle.model.proofs.Closing.{under_elim, up_under, later}

-- ---- well formed

pub acquired_runs : (p : Phase) → acquired p ≡ true → is_idle p ≡ false
acquired_runs Idle e = absurd (false≢true e)
acquired_runs Acquisition e = refl
acquired_runs Down e = refl
acquired_runs Up e = refl
acquired_runs Cease e = refl

t1_high : (n : Neighbour) → well_formed n ≡ true → acquired n.phase ≡ true → n.t1 ≤ 122
t1_high n h a = (timer_bounds n n.phase (acquired_runs n.phase a) h).1

pub fine_in : (n : Neighbour) (p : Phase) → acquired p ≡ true → n.phase ≡ p → well_formed n ≡ true → Fine n
fine_in n p a e h = go p a (subst (λ (q : Phase). well_formed (at n q) ≡ true) e h)
  where
    go : (q : Phase) → acquired q ≡ true → well_formed (at n q) ≡ true → Fine n
    go Idle b k = absurd (false≢true b)
    go Acquisition b k = absurd (false≢true b)
    go Down b k = let f = fine_down n k in omega arith
    go Up b k = let f = fine_up n k in omega arith
    go Cease b k = absurd (false≢true b)

-- ---- Down

-- In Down a passive neighbour's register is 0, for one bit takes it Up; and an indication that is noted is no older
-- than this window.
pub record Waits (n : Neighbour) : Type 0 where
  pub blank : n.phase ≡ Down → n.mode ≡ Passive → n.register ≡ 0
  pub young : n.phase ≡ Down → n.mode ≡ Passive → n.heard ≡ 1 → 3600 + n.t1 ≤ n.t3 + 122

-- not in Down
not_down : (p : Phase) → is_down p ≡ false → p ≡ Down → {A : Type 0} → A
not_down p e f = absurd (false≢true (sym e ∙ ap is_down f))

elsewhere : (n : Neighbour) → is_down n.phase ≡ false → Waits n
elsewhere n e = record { blank = λ f _. not_down n.phase e f; young = λ f _ _. not_down n.phase e f }

pub idle_waits : Waits idle
unfolding idle
idle_waits = elsewhere idle refl

waiting_waits : (n : Neighbour) (p : Phase) (cause : ℕ) → is_down p ≡ false → Waits (waiting n p cause)
unfolding waiting
waiting_waits n p cause e = elsewhere (waiting n p cause) e

initialised_waits : (n : Neighbour) (hello poll : ℕ) (mode : Mode) → Waits (initialised n hello poll mode)
unfolding initialised
initialised_waits n hello poll mode = record { blank = λ _ _. refl; young = λ _ _ (e : ◌≡◌ {A = ℕ} 0 1). absurd (omega arith) }

-- a Hello sent changes no record
pub hello_same : (mode : Mode) (g : Settings) (x : After) → (hello_if mode g x).neighbour ≡ x.neighbour
unfolding hello_if says
hello_same Unset g x = refl
hello_same Active g x = refl
hello_same Passive g x = refl

abbrev WaitsAfter : After → Type 0
WaitsAfter x = Waits x.neighbour

-- the record after a row, by what it may become
module _ (P : Neighbour → Type 0) (g : Settings) (n : Neighbour) (same : P n) (idles : P idle)
    (begins : (k : Neighbour) (hello poll : ℕ) (mode : Mode) → P (initialised k hello poll mode)) (ends : (k : Neighbour) (cause : ℕ) → P (waiting k Cease cause)) where
  abbrev Ends : After → Type 0
  Ends x = P x.neighbour

  does_a_lem : (k : Neighbour) (hello poll : ℕ) (mode : Mode) → Ends (does_a g k hello poll mode)
  unfolding does_a answers
  does_a_lem k hello poll mode = rw (hello_same _ g _) (begins k hello poll mode)

  does_b_lem : (k : Neighbour) (hello poll : ℕ) (mode : Mode) → Ends (does_b g k hello poll mode)
  unfolding does_b unanswered
  does_b_lem k hello poll mode = rw (hello_same _ g _) (begins k hello poll mode)

  request_row : (sequence : ℕ) (offer : Option Terms) → Ends (on_request g n sequence offer)
  unfolding on_request ceases repeats_cease answers unanswered
  request_row sequence (Some t) =
      let a = does_a_lem n t.period1 t.period2 t.mode in
      under_elim Ends n.phase _ _ _ _ _ (λ _. does_a_lem (left_idle sequence) t.period1 t.period2 t.mode) (λ _. a) (λ _. a) (λ _. a) (λ _. same)
  request_row sequence None = under_elim Ends n.phase _ _ _ _ _ (λ _. same) (λ _. idles) (λ _. ends n 6) (λ _. ends n 6) (λ _. same)

  settled : (offer : Option Terms) → Ends (settles g n offer)
  unfolding settles unanswered
  settled (Some t) = does_b_lem n t.period1 t.period2 t.mode
  settled None = idles

  poll_answered : (net : ℕ) (head : Head) → Ends (answers_poll g n net head)
  unfolding answers_poll answers
  poll_answered net head = cond_elim Ends (eqb net g.net) _ _ (λ _. same) (λ _. same)

  strayed : Ends (stray g n)
  unfolding stray unanswered answers
  strayed = cond_elim Ends (eqb g.quiet 1) _ _ (λ _. same) (λ _. same)

  message_elim : (asn : ℕ) (m : Message) (head : Head) → Ends (on_message g asn n m head)
  unfolding on_message on_confirm on_refuse on_cease on_cease_ack on_hello on_i_heard_you on_poll on_update unanswered answers
  message_elim asn (M.Request a q s hello poll) head = request_row q (offer_of g asn s hello poll)
  message_elim asn (M.Confirm a q s hello poll) head =
      under_elim Ends n.phase _ _ _ _ _ (λ _. strayed) (λ _. settled (offer_of g asn s hello poll)) (λ _. same) (λ _. same) (λ _. same)
  message_elim asn (M.Refuse a q s) head = under_elim Ends n.phase _ _ _ _ _ (λ _. strayed) (λ _. idles) (λ _. same) (λ _. same) (λ _. same)
  message_elim asn (M.Cease a q s) head = idles
  message_elim asn (M.CeaseAck a q s) head = under_elim Ends n.phase _ _ _ _ _ (λ _. same) (λ _. same) (λ _. same) (λ _. same) (λ _. idles)
  message_elim asn (M.Hello a q s) head = under_elim Ends n.phase _ _ _ _ _ (λ _. strayed) (λ _. same) (λ _. same) (λ _. same) (λ _. same)
  message_elim asn (M.IHeardYou a q s) head = under_elim Ends n.phase _ _ _ _ _ (λ _. strayed) (λ _. same) (λ _. same) (λ _. same) (λ _. same)
  message_elim asn (M.Poll a q s net) head = under_elim Ends n.phase _ _ _ _ _ (λ _. strayed) (λ _. same) (λ _. same) (λ _. poll_answered net head) (λ _. same)
  message_elim asn (M.Update a q s net) head = under_elim Ends n.phase _ _ _ _ _ (λ _. strayed) (λ _. same) (λ _. same) (λ _. same) (λ _. same)
  message_elim asn (M.Error a q s reason x y z) head = same

-- a command's number and an indication
commanded_waits : (n : Neighbour) (m : Message) → Waits n → Waits (commanded n m)
unfolding commanded with_numbers
commanded_waits n m w = cond_elim Waits (not (is_idle n.phase) && is_command (kind_of m)) _ _ (λ _. record { blank = w.blank; young = w.young }) (λ _. w)

heard_waits : (n : Neighbour) → n.t1 ≤ 122 → Waits n → Waits (heard_from n)
unfolding heard_from with_reach with_timers
heard_waits n t w = record { blank = w.blank; young = λ _ _ _. omega (arith, t) }

noted_waits : (n : Neighbour) (m : Message) → (acquired n.phase ≡ true → n.t1 ≤ 122) → Waits n → Waits (noted n m)
unfolding noted
noted_waits n m t w =
    cond_elim Waits (acquired n.phase && indicates n.mode (kind_of m) (status_of m)) _ _ (λ e. heard_waits n (t (and_left (acquired n.phase) _ e)) w) (λ _. w)

-- the counts are no part of it
recounted_waits : (n : Neighbour) (m : Message) → Waits n → Waits (recounted n m)
unfolding recounted
recounted_waits n m w = cond_elim Waits (acquired n.phase) _ _ (λ _. record { blank = w.blank; young = w.young }) (λ _. w)

aged_waits : (n : Neighbour) → Waits n → Waits (aged n)
unfolding aged
aged_waits n w = record { blank = w.blank; young = w.young }

commanded_t1 : (n : Neighbour) (m : Message) → (commanded n m).t1 ≡ n.t1
unfolding commanded with_numbers
commanded_t1 n m = cond_elim (λ (k : Neighbour). k.t1 ≡ n.t1) (not (is_idle n.phase) && is_command (kind_of m)) _ _ (λ _. refl) (λ _. refl)

commanded_phase : (n : Neighbour) (m : Message) → (commanded n m).phase ≡ n.phase
unfolding commanded with_numbers
commanded_phase n m = cond_elim (λ (k : Neighbour). k.phase ≡ n.phase) (not (is_idle n.phase) && is_command (kind_of m)) _ _ (λ _. refl) (λ _. refl)

message_waits : (g : Settings) (asn : ℕ) (n : Neighbour) (m : Message) (head : Head) → (acquired n.phase ≡ true → n.t1 ≤ 122) → Waits n → Waits (step_of g asn n (Received m) head).neighbour
unfolding step_of
message_waits g asn n m head t w =
    message_elim Waits g (recounted (noted (commanded n m) m) m)
    (recounted_waits (noted (commanded n m) m) m
    (noted_waits (commanded n m) m (λ a. omega (arith, t (ap acquired (sym (commanded_phase n m)) ∙ a), commanded_t1 n m)) (commanded_waits n m w)))
    idle_waits initialised_waits (λ k cause. waiting_waits k Cease cause refl) asn m head

start_waits : (g : Settings) (n : Neighbour) → Waits n → WaitsAfter (on_start g n)
unfolding on_start acquires answers unanswered
start_waits g n w =
    let a = waiting_waits n Acquisition 0 refl in
    under_elim WaitsAfter n.phase _ _ _ _ _ (λ _. waiting_waits (left_idle 0) Acquisition 0 refl) (λ _. a) (λ _. a) (λ _. a) (λ _. w)

stop_waits : (g : Settings) (n : Neighbour) → Waits n → WaitsAfter (on_stop g n)
unfolding on_stop ceases answers unanswered
stop_waits g n w =
    let a = waiting_waits n Cease 5 refl in
    under_elim WaitsAfter n.phase _ _ _ _ _ (λ _. w) (λ _. idle_waits) (λ _. a) (λ _. a) (λ _. idle_waits)

-- ---- the register

-- no ones: each of the four bits is 0
record Zeros (r : ℕ) : Type 0 where
  first : r % 2 ≡ 0
  second : r / 2 % 2 ≡ 0
  third : r / 4 % 2 ≡ 0
  fourth : r / 8 % 2 ≡ 0

zeros_of : (r : ℕ) → ones_of r ≡ 0 → Zeros r
unfolding ones_of
zeros_of r e = let z = each (r % 2) (r / 2 % 2) (r / 4 % 2) (r / 8 % 2) e in record { first = z.0; second = z.1; third = z.2; fourth = z.3 }
  where
    each : (a b c d : ℕ) → a + b + c + d ≡ 0 → (a ≡ 0) × (b ≡ 0) × (c ≡ 0) × (d ≡ 0)
    each a b c d f = (omega (arith, f), omega (arith, f), omega (arith, f), omega (arith, f))

below_8 : (r : ℕ) → r ≤ 15 → r / 8 % 2 ≡ 0 → r ≤ 7
below_8 r h e = omega (arith, h, e)

below_4 : (r : ℕ) → r ≤ 7 → r / 4 % 2 ≡ 0 → r ≤ 3
below_4 r h e = omega (arith, h, e)

below_2 : (r : ℕ) → r ≤ 3 → r / 2 % 2 ≡ 0 → r ≤ 1
below_2 r h e = omega (arith, h, e)

no_ones : (r : ℕ) → r ≤ 15 → ones_of r ≡ 0 → r ≡ 0
no_ones r h e =
    let z = zeros_of r e in
    last (below_2 r (below_4 r (below_8 r h z.fourth) z.third) z.second) z.first
  where
    last : r ≤ 1 → r % 2 ≡ 0 → r ≡ 0
    last l f = omega (arith, l, f)

stays_blank : (mode : Mode) (r : ℕ) → r ≤ 15 → goes_up mode (ones_of r) ≡ false → mode ≡ Passive → r ≡ 0
unfolding goes_up
stays_blank mode r h f e =
    let none : leb 1 (ones_of r) ≡ false = ap (λ (m : Mode). goes_up m (ones_of r)) (sym e) ∙ f in
    no_ones r h (omega (arith, leb-false 1 (ones_of r) none))

falls_blank : (mode : Mode) (r : ℕ) → r ≤ 15 → goes_down mode (ones_of r) ≡ true → mode ≡ Passive → r ≡ 0
unfolding goes_down
falls_blank mode r h f e =
    let none : eqb (ones_of r) 0 ≡ true = ap (λ (m : Mode). goes_down m (ones_of r)) (sym e) ∙ f in
    no_ones r h (eqb-true (ones_of r) 0 none)

-- the lowest one of a register, by its place: so many windows ended since the one with the last indication
unfoldable pub Lowest : ℕ → ℕ → Type 0
Lowest zero r = r % 2 ≡ 1
Lowest (suc zero) r = r % 4 ≡ 2
Lowest (suc (suc zero)) r = r % 8 ≡ 4
Lowest (suc (suc (suc k))) r = r % 16 ≡ 8

two : (r : ℕ) → r % 4 ≡ 2 → r / 2 % 2 ≡ 0 → ⊥
two r e f = absurd (omega (arith, e, f))

four : (r : ℕ) → r % 8 ≡ 4 → r / 4 % 2 ≡ 0 → ⊥
four r e f = absurd (omega (arith, e, f))

eight : (r : ℕ) → r % 16 ≡ 8 → r / 8 % 2 ≡ 0 → ⊥
eight r e f = absurd (omega (arith, e, f))

not_lowest : (k r : ℕ) → Lowest k r → r % 2 ≡ 0 → r / 2 % 2 ≡ 0 → r / 4 % 2 ≡ 0 → r / 8 % 2 ≡ 0 → ⊥
unfolding Lowest
not_lowest zero r l a b c d = one l a
  where
    one : r % 2 ≡ 1 → r % 2 ≡ 0 → ⊥
    one e f = absurd (omega (arith, e, f))
not_lowest (suc zero) r l a b c d = two r l b
not_lowest (suc (suc zero)) r l a b c d = four r l c
not_lowest (suc (suc (suc k))) r l a b c d = eight r l d

pub some_ones : (k r : ℕ) → Lowest k r → ones_of r ≡ 0 → ⊥
some_ones k r l e = let z = zeros_of r e in not_lowest k r l z.first z.second z.third z.fourth

shift_silent : (k r : ℕ) → suc k ≤ 3 → Lowest k r → Lowest (suc k) ((r * 2 + 0) % 16)
unfolding Lowest
shift_silent zero r h l = omega (arith, l)
shift_silent (suc zero) r h l = omega (arith, l)
shift_silent (suc (suc zero)) r h l = omega (arith, l)
shift_silent (suc (suc (suc k))) r h l = absurd (omega (arith, h))

pub shift_heard : (r : ℕ) → Lowest 0 ((r * 2 + 1) % 16)
unfolding Lowest
shift_heard r = omega arith

-- ---- ticks outside Up

module _ (n : Neighbour) where
  shifted_low : (shifted n).register ≤ 15
  unfolding shifted with_reach with_timers
  shifted_low = omega arith

  shifted_heard : (shifted n).heard ≡ 0
  unfolding shifted with_reach with_timers
  shifted_heard = refl

judged_waits : (n : Neighbour) → n.register ≤ 15 → n.heard ≡ 0 → Waits (judged n)
unfolding judged enter_up leave_up with_reach with_timers
judged_waits n low z =
    under_elim Waits n.phase _ _ _ _ _
    (λ e. elsewhere n (ap is_down e)) (λ e. elsewhere n (ap is_down e))
    (λ _. cond_elim Waits (goes_up n.mode (ones_of n.register)) _ _ (λ _. elsewhere (enter_up n) refl)
    (λ f. record { blank = λ _ p. stays_blank n.mode n.register low f p; young = λ _ _ h. absurd (omega (arith, z, h)) }))
    (λ e. cond_elim Waits (goes_down n.mode (ones_of n.register)) _ _
    (λ f. record { blank = λ _ p. falls_blank n.mode n.register low f p; young = λ _ _ h. absurd (omega (arith, z, h)) })
    (λ _. elsewhere n (ap is_down e)))
    (λ e. elsewhere n (ap is_down e))

listens_waits : (g : Settings) (n : Neighbour) → Waits n → WaitsAfter (listens g (later n))
unfolding listens unanswered aged with_timers
listens_waits g n w =
    cond_elim WaitsAfter (eqb (n.t1 - 1) 0) _ _
    (λ _. rw (hello_same _ g _) (judged_waits (shifted (later n)) (shifted_low (later n)) (shifted_heard (later n))))
    (λ f.
    let k = eqb-false (n.t1 - 1) 0 f in
    record { blank = w.blank; young = λ d p h. omega (arith, k, w.young d p h) })

entry_waits : (g : Settings) (x : After) → WaitsAfter x → WaitsAfter (polls_on_entry g x)
unfolding polls_on_entry polls says polled with_numbers with_timers
entry_waits g x w =
    under_elim WaitsAfter x.neighbour.phase _ _ _ _ _ (λ _. w) (λ _. w) (λ _. w) (λ e. elsewhere (polled x.neighbour) (ap is_down e)) (λ _. w)

t2_waits : (g : Settings) (x : After) → WaitsAfter x → WaitsAfter (polls_in_up g x)
unfolding polls_in_up takes_t2 polls says polled with_numbers with_timers
t2_waits g x w =
    under_elim WaitsAfter x.neighbour.phase _ _ _ _ _ (λ _. w) (λ _. w) (λ _. w)
    (λ e.
    cond_elim WaitsAfter (eqb (x.neighbour.t2 - 1) 0) _ _ (λ _. elsewhere (polled x.neighbour) (ap is_down e))
    (λ _. elsewhere _ (ap is_down e)))
    (λ _. w)

repeats_waits : (n : Neighbour) (m : Message) → is_down n.phase ≡ false → WaitsAfter (repeats n m)
unfolding repeats answers unanswered with_timers
repeats_waits n m e = cond_elim WaitsAfter (eqb (n.t1 - 1) 0) _ _ (λ _. elsewhere _ e) (λ _. elsewhere _ e)

runs_waits : (g : Settings) (n : Neighbour) → Waits n → WaitsAfter (tick_on g (later n))
unfolding tick_on unanswered aged with_timers
runs_waits g n w =
    under_elim WaitsAfter n.phase _ _ _ _ _ (λ e. elsewhere _ (ap is_down e)) (λ e. repeats_waits (later n) _ (ap is_down e))
    (λ _. entry_waits g (listens g (later n)) (listens_waits g n w)) (λ _. t2_waits g (listens g (later n)) (listens_waits g n w))
    (λ e. repeats_waits (later n) _ (ap is_down e))

tick_waits : (g : Settings) (n : Neighbour) → Waits n → WaitsAfter (on_tick g n)
unfolding on_tick tick_outside aged expired unanswered
tick_waits g n w =
    cond_elim WaitsAfter (is_idle n.phase) _ _ (λ _. w) (λ _. cond_elim WaitsAfter (eqb (n.t3 - 1) 0) _ _ (λ _. stop_waits g (aged n) (aged_waits n w)) (λ _. runs_waits g n w))

-- whatever happens
pub step_waits : (g : Settings) (asn : ℕ) (n : Neighbour) (event : Event) (head : Head) → well_formed n ≡ true → Waits n → Waits (step_of g asn n event head).neighbour
unfolding step_of
step_waits g asn n (Received m) head h w = message_waits g asn n m head (t1_high n h) w
step_waits g asn n Start head h w = start_waits g n w
step_waits g asn n Stop head h w = stop_waits g n w
step_waits g asn n Tick head h w = tick_waits g n w

-- ---- Up

-- A passive neighbour in Up: `silent` windows ended since the one with its last indication, or since Up was entered;
-- `heard`: whether the one that is open holds one. t3 has run for no longer than these windows.
pub record Held (n : Neighbour) (silent : ℕ) (heard : Bool) : Type 0 where
  pub up : n.phase ≡ Up
  pub passive : n.mode ≡ Passive
  pub few : silent ≤ 3
  pub lowest : Lowest silent n.register
  pub flag : n.heard ≡ cond heard 1 0
  pub young : 3600 + n.t1 ≤ n.t3 + 122 * cond heard 1 (silent + 2)

-- t3 is far from its end
far : (heard : Bool) (silent t1 t3 : ℕ) → silent ≤ 3 → 1 ≤ t1 → 3600 + t1 ≤ t3 + 122 * cond heard 1 (silent + 2) → 2 ≤ t3
far true silent t1 t3 few low y = omega (arith, y)
far false silent t1 t3 few low y = omega (arith, y, few)

-- the record that shifts, judged: it stays in Up
shifts : (n : Neighbour) (silent : ℕ) → n.phase ≡ Up → n.mode ≡ Passive → Lowest silent ((n.register * 2 + n.heard) % 16)
    → judged (shifted n) ≡ shifted n
unfolding judged goes_down shifted with_reach with_timers under
shifts n silent up passive l =
    rw (up, passive, ne_eqb (ones_of ((n.register * 2 + n.heard) % 16)) 0 (some_ones silent ((n.register * 2 + n.heard) % 16) l))

shifted_is : (n : Neighbour) (silent : ℕ) → silent ≤ 3 → n.phase ≡ Up → n.mode ≡ Passive → Lowest silent ((n.register * 2 + n.heard) % 16)
    → 3600 + n.period1 ≤ n.t3 + 122 * (silent + 2) → Held (shifted n) silent false
unfolding shifted with_reach with_timers
shifted_is n silent few up passive l y = record { up = up; passive = passive; few = few; lowest = l; flag = refl; young = y }

module _ (g : Settings) (asn : ℕ) (n : Neighbour) (head : Head) (silent : ℕ) (heard : Bool) (fine : Fine n) (held : Held n silent heard) where
  t3_far : 2 ≤ n.t3
  t3_far = far heard silent n.t1 n.t3 held.few fine.t1_low held.young

  -- the tick goes on to t1 and t2
  up_runs : (P : After → Type 0) → P (polls_in_up g (listens g (later n))) → P (step_of g asn n Tick head)
  unfolding step_of on_tick tick_outside aged tick_on with_timers
  up_runs P p =
      cond_elim P (is_idle n.phase) _ _ (λ i. absurd (false≢true (sym (ap is_idle held.up) ∙ i)))
      (λ _. cond_elim P (eqb (n.t3 - 1) 0) _ _ (λ z. absurd (omega (arith, eqb-true (n.t3 - 1) 0 z, t3_far)))
      (λ _. up_under P n.phase _ _ _ _ _ held.up p))

  evaluation_is : is_evaluation n Tick ≡ eqb (n.t1 - 1) 0
  unfolding is_evaluation
  evaluation_is = rw (ap acquired held.up, ne_eqb n.t3 1 (λ z. absurd (omega (arith, z, t3_far)))) (go (eqb (n.t1 - 1) 0) refl)
    where
      go : (b : Bool) → eqb (n.t1 - 1) 0 ≡ b → (eqb n.t1 1 && true) ≡ b
      go true e = rw (eq-eqb n.t1 1 (omega (arith, eqb-true (n.t1 - 1) 0 e, fine.t1_low)))
      go false e = rw (ne_eqb n.t1 1 (λ z. eqb-false (n.t1 - 1) 0 e (omega (arith, z))))

  -- what t2 does touches none of it
  t2_held : (k : ℕ) (b : Bool) (x : After) → Held x.neighbour k b → Held (polls_in_up g x).neighbour k b
  unfolding polls_in_up takes_t2 polls says polled with_numbers with_timers
  t2_held k b x w =
      under_elim (λ (y : After). Held y.neighbour k b) x.neighbour.phase _ _ _ _ _ (λ _. w) (λ _. w) (λ _. w)
      (λ _.
      cond_elim (λ (y : After). Held y.neighbour k b) (eqb (x.neighbour.t2 - 1) 0) _ _
      (λ _. record { up = w.up; passive = w.passive; few = w.few; lowest = w.lowest; flag = w.flag; young = w.young })
      (λ _. record { up = w.up; passive = w.passive; few = w.few; lowest = w.lowest; flag = w.flag; young = w.young }))
      (λ _. w)

  -- a tick within a window
  pub tick_within : is_evaluation n Tick ≡ false → Held (step_of g asn n Tick head).neighbour silent heard
  unfolding listens unanswered aged with_timers
  tick_within e =
      up_runs (λ x. Held x.neighbour silent heard)
      (t2_held silent heard (listens g (later n))
      (cond_elim (λ (x : After). Held x.neighbour silent heard) (eqb (n.t1 - 1) 0) _ _
      (λ z. absurd (false≢true (sym (sym evaluation_is ∙ e) ∙ z)))
      (λ z.
      let k = eqb-false (n.t1 - 1) 0 z in
      record {
        up = held.up;
        passive = held.passive;
        few = held.few;
        lowest = held.lowest;
        flag = held.flag;
        young = omega (arith, k, t3_far, held.young);
      })))

  -- a tick that ends one
  ends_window : (k : ℕ) → k ≤ 3 → Lowest k ((n.register * 2 + n.heard) % 16) → 3722 ≤ n.t3 - 1 + 122 * (k + 2)
      → is_evaluation n Tick ≡ true → Held (step_of g asn n Tick head).neighbour k false
  unfolding listens unanswered aged with_timers
  ends_window k few l y e =
      up_runs (λ x. Held x.neighbour k false)
      (t2_held k false (listens g (later n))
      (cond_elim (λ (x : After). Held x.neighbour k false) (eqb (n.t1 - 1) 0) _ _
      (λ _. rw (hello_same _ g _, shifts (later n) k held.up held.passive l) shifted_held)
      (λ z. absurd (false≢true (sym z ∙ (sym evaluation_is ∙ e))))))
    where
      shifted_held : Held (shifted (later n)) k false
      shifted_held = shifted_is (later n) k few held.up held.passive l (omega (arith, y, fine.period1_high))

-- by whether it held an indication
pub tick_heard : (g : Settings) (asn : ℕ) (n : Neighbour) (head : Head) (silent : ℕ) → Fine n → Held n silent true → is_evaluation n Tick ≡ true
    → Held (step_of g asn n Tick head).neighbour 0 false
tick_heard g asn n head silent fine held e =
    ends_window g asn n head silent true fine held 0 (omega arith)
    (rw held.flag (shift_heard n.register)) (omega (arith, held.young, fine.t1_low)) e

pub tick_silent : (g : Settings) (asn : ℕ) (n : Neighbour) (head : Head) (silent : ℕ) → Fine n → Held n silent false → suc silent ≤ 3 → is_evaluation n Tick ≡ true
    → Held (step_of g asn n Tick head).neighbour (suc silent) false
tick_silent g asn n head silent fine held few e =
    ends_window g asn n head silent false fine held (suc silent) few
    (rw held.flag (shift_silent silent n.register few held.lowest)) (omega (arith, held.young, fine.t1_low)) e

-- ---- messages in Up

-- a row in Up, but a Request's and a Cease's
up_row : (g : Settings) (asn : ℕ) (n : Neighbour) (m : Message) (head : Head) → n.phase ≡ Up → is_restart n (Received m) ≡ false
    → (on_message g asn n m head).neighbour ≡ n
unfolding is_restart on_message on_confirm on_refuse on_cease_ack on_hello on_i_heard_you on_poll on_update answers_poll answers unanswered
up_row g asn n (M.Request a q s hello poll) head up e = absurd (true≢false e)
up_row g asn n (M.Confirm a q s hello poll) head up e = ap (λ (x : After). x.neighbour) (at_up n.phase _ _ _ _ _ up)
up_row g asn n (M.Refuse a q s) head up e = ap (λ (x : After). x.neighbour) (at_up n.phase _ _ _ _ _ up)
up_row g asn n (M.Cease a q s) head up e = absurd (true≢false e)
up_row g asn n (M.CeaseAck a q s) head up e = ap (λ (x : After). x.neighbour) (at_up n.phase _ _ _ _ _ up)
up_row g asn n (M.Hello a q s) head up e = ap (λ (x : After). x.neighbour) (at_up n.phase _ _ _ _ _ up)
up_row g asn n (M.IHeardYou a q s) head up e = ap (λ (x : After). x.neighbour) (at_up n.phase _ _ _ _ _ up)
up_row g asn n (M.Poll a q s net) head up e =
    ap (λ (x : After). x.neighbour) (at_up n.phase _ _ _ _ _ up)
    ∙ cond_elim (λ (x : After). x.neighbour ≡ n) (eqb net g.net) _ _ (λ _. refl) (λ _. refl)
up_row g asn n (M.Update a q s net) head up e = ap (λ (x : After). x.neighbour) (at_up n.phase _ _ _ _ _ up)
up_row g asn n (M.Error a q s reason x y z) head up e = refl

abbrev notes : Neighbour → Message → Bool
notes n m = acquired n.phase && indicates n.mode (kind_of m) (status_of m)

commanded_held : (n : Neighbour) (m : Message) (silent : ℕ) (heard : Bool) → Held n silent heard
    → Held (commanded n m) silent heard × (notes (commanded n m) m ≡ notes n m)
unfolding commanded with_numbers
commanded_held n m silent heard h =
    cond_elim (λ (k : Neighbour). Held k silent heard × (notes k m ≡ notes n m)) (not (is_idle n.phase) && is_command (kind_of m)) _ _
    (λ _. (record { up = h.up; passive = h.passive; few = h.few; lowest = h.lowest; flag = h.flag; young = h.young }, refl))
    (λ _. (h, refl))

noted_held : (n : Neighbour) (m : Message) (silent : ℕ) (heard : Bool) → n.t1 ≤ 122 → Held n silent heard → Held (noted n m) silent (heard || notes n m)
unfolding noted heard_from with_reach with_timers
noted_held n m silent heard t h = go (notes n m) heard h
  where
    go : (b c : Bool) → Held n silent c → Held (cond b (heard_from n) n) silent (c || b)
    go true true k = record { up = k.up; passive = k.passive; few = k.few; lowest = k.lowest; flag = refl; young = omega (arith, t) }
    go true false k = record { up = k.up; passive = k.passive; few = k.few; lowest = k.lowest; flag = refl; young = omega (arith, t) }
    go false true k = k
    go false false k = k

recounted_held : (n : Neighbour) (m : Message) (silent : ℕ) (heard : Bool) → Held n silent heard → Held (recounted n m) silent heard
unfolding recounted
recounted_held n m silent heard h =
    cond_elim (λ (k : Neighbour). Held k silent heard) (acquired n.phase) _ _
    (λ _. record { up = h.up; passive = h.passive; few = h.few; lowest = h.lowest; flag = h.flag; young = h.young }) (λ _. h)

pub message_held : (g : Settings) (asn : ℕ) (n : Neighbour) (m : Message) (head : Head) (silent : ℕ) (heard : Bool) → Fine n → Held n silent heard
    → is_restart n (Received m) ≡ false → Held (step_of g asn n (Received m) head).neighbour silent (heard || is_indication n (Received m))
unfolding step_of is_indication is_restart
message_held g asn n m head silent heard fine h e =
    let c = commanded_held n m silent heard h in
    let k =
    recounted_held (noted (commanded n m) m) m silent _
    (noted_held (commanded n m) m silent heard (omega (arith, commanded_t1 n m, fine.t1_high)) c.0) in
    rw (up_row g asn (recounted (noted (commanded n m) m) m) m head k.up e, ← c.1) k

-- an indication in Up: heard is 1 and t3 starts anew
module _ (g : Settings) (asn : ℕ) (n : Neighbour) (m : Message) (head : Head) (up : n.phase ≡ Up) (plain : is_restart n (Received m) ≡ false)
    (e : is_indication n (Received m) ≡ true) where
  abbrev Noted : Neighbour → Type 0
  Noted k = (k.phase ≡ Up) × (k.heard ≡ 1) × (k.t3 ≡ 3600)

  heard_noted : (k : Neighbour) → k.phase ≡ Up → Noted (heard_from k)
  unfolding heard_from with_reach with_timers
  heard_noted k u = (u, refl, refl)

  noted_is : (k : Neighbour) → k.phase ≡ Up → notes k m ≡ true → Noted (noted k m)
  unfolding noted
  noted_is k u f = rw f (heard_noted k u)

  commanded_noted : Noted (noted (commanded n m) m)
  unfolding commanded with_numbers is_indication
  commanded_noted =
      cond_elim (λ (k : Neighbour). Noted (noted k m)) (not (is_idle n.phase) && is_command (kind_of m)) _ _
      (λ _. noted_is (with_numbers n n.s (sequence_of m)) up e) (λ _. noted_is n up e)

  recounted_noted : (k : Neighbour) → Noted k → Noted (recounted k m)
  unfolding recounted
  recounted_noted k h = cond_elim Noted (acquired k.phase) _ _ (λ _. h) (λ _. h)

  pub indication_noted : Noted (step_of g asn n (Received m) head).neighbour
  unfolding step_of is_restart
  indication_noted =
      let h = recounted_noted (noted (commanded n m) m) commanded_noted in
      rw (up_row g asn (recounted (noted (commanded n m) m) m) m head h.0 plain) h

-- ---- entering Up

-- in passive mode the window just ended holds an indication
abbrev Enters : Neighbour → Type 0
Enters n = is_up n.phase ≡ true → n.mode ≡ Passive → Held n 0 false

abbrev EntersAfter : After → Type 0
EntersAfter x = Enters x.neighbour

never : (n : Neighbour) → is_up n.phase ≡ false → Enters n
never n e u = absurd (false≢true (sym e ∙ u))

one_bit : (r heard : ℕ) → r ≡ 0 → heard ≤ 1 → 1 ≤ ones_of ((r * 2 + heard) % 16) → heard ≡ 1
unfolding ones_of
one_bit r heard z low e = omega (arith, z, low, e)

goes_up_lem : (mode : Mode) (ones : ℕ) → mode ≡ Passive → goes_up mode ones ≡ true → 1 ≤ ones
unfolding goes_up
goes_up_lem mode ones p e = leb-true 1 ones (ap (λ (m : Mode). goes_up m ones) (sym p) ∙ e)

entered_is : (n : Neighbour) → Held n 0 false → Held (polled n) 0 false
unfolding polled with_numbers with_timers
entered_is n h = record { up = h.up; passive = h.passive; few = h.few; lowest = h.lowest; flag = h.flag; young = h.young }

entry_polls : (g : Settings) (x : After) → EntersAfter x → EntersAfter (polls_on_entry g x)
unfolding polls_on_entry polls says polled with_numbers with_timers
entry_polls g x h =
    under_elim EntersAfter x.neighbour.phase _ _ _ _ _ (λ _. h) (λ _. h) (λ _. h)
    (λ e u p. entered_is x.neighbour (h (ap is_up e) p)) (λ _. h)

module _ (g : Settings) (n : Neighbour) (fine : Fine n) (w : Waits n) (down : n.phase ≡ Down) where
  judged_enters : Enters (judged (shifted (later n)))
  unfolding judged shifted enter_up with_reach aged with_timers
  judged_enters =
      rw (at_down n.phase _ _ _ _ _ down)
      (cond_elim Enters (goes_up n.mode (ones_of ((n.register * 2 + n.heard) % 16))) _ _
      (λ f _ p.
      let z = w.blank down p in
      let one = one_bit n.register n.heard z fine.heard_high (goes_up_lem n.mode _ p f) in
      let y = w.young down p one in
      record {
        up = refl;
        passive = p;
        few = omega arith;
        lowest = rw one (shift_heard n.register);
        flag = refl;
        young = omega (arith, y, fine.t1_low, fine.period1_high);
      })
      (λ _. never _ (ap is_up down)))

  listens_enters : EntersAfter (listens g (later n))
  unfolding listens unanswered aged with_timers
  listens_enters =
      cond_elim EntersAfter (eqb (n.t1 - 1) 0) _ _ (λ _. rw (hello_same _ g _) judged_enters) (λ _. never _ (ap is_up down))

  stop_enters : EntersAfter (on_stop g (aged n))
  unfolding on_stop ceases answers waiting unanswered aged
  stop_enters = rw (at_down n.phase _ _ _ _ _ down) (never _ refl)

  tick_enters : EntersAfter (on_tick g n)
  unfolding on_tick tick_outside aged expired tick_on with_timers
  tick_enters =
      cond_elim EntersAfter (is_idle n.phase) _ _ (λ i. absurd (false≢true (sym (ap is_idle down) ∙ i)))
      (λ _. cond_elim EntersAfter (eqb (n.t3 - 1) 0) _ _ (λ _. stop_enters)
      (λ _. rw (at_down n.phase _ _ _ _ _ down) (entry_polls g (listens g (later n)) listens_enters)))

is_down_lem : (p : Phase) → is_down p ≡ true → p ≡ Down
is_down_lem Idle e = absurd (false≢true e)
is_down_lem Acquisition e = absurd (false≢true e)
is_down_lem Down e = refl
is_down_lem Up e = absurd (false≢true e)
is_down_lem Cease e = absurd (false≢true e)

by_tick : (a b c t : Bool) → (not a || (b || (c && t))) ≡ true → a ≡ true → b ≡ false → (c ≡ true) × (t ≡ true)
by_tick true true c t e f k = absurd (true≢false k)
by_tick true false c t e f k = (and_left c t e, and_right c t e)
by_tick false b c t e f k = absurd (false≢true f)

tick_step_lem : (g : Settings) (asn : ℕ) (n : Neighbour) (head : Head) → Fine n → Waits n → n.phase ≡ Down → Enters (step_of g asn n Tick head).neighbour
unfolding step_of
tick_step_lem g asn n head fine w down = tick_enters g n fine w down

pub step_enters : (g : Settings) (asn : ℕ) (n : Neighbour) (event : Event) (head : Head) → well_formed n ≡ true → Waits n → is_up n.phase ≡ false
    → Enters (step_of g asn n event head).neighbour
step_enters g asn n event head h w d u = go event (step_lawful g asn n event head h).up_entered u
  where
    go : (e : Event) → (not (is_up (step_of g asn n e head).neighbour.phase) || (is_up n.phase || (is_down n.phase && is_tick e))) ≡ true
        → is_up (step_of g asn n e head).neighbour.phase ≡ true → (step_of g asn n e head).neighbour.mode ≡ Passive → Held (step_of g asn n e head).neighbour 0 false
    go (Received m) e u = absurd (false≢true (by_tick _ (is_up n.phase) (is_down n.phase) false e u d).1)
    go Start e u = absurd (false≢true (by_tick _ (is_up n.phase) (is_down n.phase) false e u d).1)
    go Stop e u = absurd (false≢true (by_tick _ (is_up n.phase) (is_down n.phase) false e u d).1)
    go Tick e u =
        let down = is_down_lem n.phase (by_tick _ (is_up n.phase) (is_down n.phase) true e u d).0 in
        tick_step_lem g asn n head (fine_in n Down refl down h) w down u

-- ---- any event in Up

-- how many silent windows there are after an event, and whether the open one holds an indication
unfoldable pub silent_after : Bool → Bool → ℕ → ℕ
silent_after ends heard silent = cond ends (cond heard 0 (suc silent)) silent

unfoldable pub heard_after : Bool → Bool → Bool → Bool
heard_after ends heard indication = cond ends false (heard || indication)

module _ (g : Settings) (asn : ℕ) (n : Neighbour) (head : Head) (silent : ℕ) (fine : Fine n) where
  tick_held : (heard ends : Bool) → Held n silent heard → is_evaluation n Tick ≡ ends → (ends ≡ true → heard ≡ false → suc silent ≤ 3)
      → Held (step_of g asn n Tick head).neighbour (silent_after ends heard silent) (heard_after ends heard false)
  unfolding silent_after heard_after
  tick_held heard false h e few = rw (or-false heard) (tick_within g asn n head silent heard fine h e)
  tick_held true true h e few = tick_heard g asn n head silent fine h e
  tick_held false true h e few = tick_silent g asn n head silent fine h (few refl refl) e

  pub event_held : (event : Event) (heard : Bool) → Held n silent heard → is_restart n event ≡ false → (is_evaluation n event ≡ true → heard ≡ false → suc silent ≤ 3)
      → Held (step_of g asn n event head).neighbour (silent_after (is_evaluation n event) heard silent) (heard_after (is_evaluation n event) heard (is_indication n event))
  unfolding is_restart is_evaluation is_indication silent_after heard_after
  event_held (Received m) heard h r few = message_held g asn n m head silent heard fine h r
  event_held Start heard h r few = absurd (true≢false r)
  event_held Stop heard h r few = absurd (true≢false r)
  event_held Tick heard h r few = tick_held heard (is_evaluation n Tick) h refl few
