-- What takes a neighbour out of Up, and what the poll after number 65,535 leaves: facts of one record. Assumes nothing.
use Prim.Native.Nat.{ℕ, ◌+◌, ◌-◌, ◌*◌, ◌%◌}
use mathlib.Core.Path.{◌≡◌, refl, sym, ◌∙◌, ap}
use mathlib.Core.Bool.{true, false, false≢true, true≢false}
use lib.Dec.{eqb}
use Rattle.checks.proofs.Laws.{cond_elim}
use Rattle.message.specs.declared.Message.TheVariants as M
use Rattle.neighbour.specs.declared.Phase.{Phase}
use Rattle.neighbour.specs.declared.Phase.TheVariants.{Idle, Acquisition, Down, Up, Cease}
use Rattle.neighbour.specs.declared.Mode.{Mode}
use Rattle.neighbour.specs.declared.Mode.TheVariants.{Unset, Active, Passive}
use Rattle.neighbour.specs.declared.Settings.{Settings}
use Rattle.neighbour.specs.declared.Neighbour.{Neighbour}
use Rattle.std.specs.Prelude.{Option, Some, None}
use Rattle.neighbour.specs.declared.Terms.{Terms}
use Rattle.neighbour.specs.Record.{under, idle, is_idle, left_idle, with_numbers, with_timers, with_reach, waiting, initialised, shifted, leave_up, polled, aged, is_up}
use Rattle.neighbour.specs.Rules.{offer_of, commanded, noted, recounted, ones_of, goes_down, judged}
use Rattle.neighbour.proofs.Laws.{at_up}
use Rattle.neighbour_messages.specs.declared.Head.{Head}
use Rattle.neighbour_machine.specs.declared.Event.TheVariants.{Received, Start, Stop, Tick}
use Rattle.neighbour_machine.specs.declared.After.{After}
use Rattle.neighbour_machine.specs.Table.{unanswered, answers, says, hello_if, does_a, ceases, repeats_cease, acquires, on_request, on_cease, on_start, on_stop}
use Rattle.neighbour_machine.specs.Tick.{expired, listens, polls, takes_t2, polls_in_up, tick_on, tick_outside, on_tick}
use Rattle.neighbour_machine.specs.Step.{on_message, step_of}

-- the neighbour after it is not Up
abbrev pub NotUp : After → Type 0
NotUp x = is_up x.neighbour.phase ≡ false

-- a cell, by the phase
pub under_elim : {A : Type 0} (P : A → Type 0) (p : Phase) (a b c d e : A)
    → (p ≡ Idle → P a) → (p ≡ Acquisition → P b) → (p ≡ Down → P c) → (p ≡ Up → P d) → (p ≡ Cease → P e) → P (under p a b c d e)
unfolding under
under_elim P Idle a b c d e ka kb kc kd ke = ka refl
under_elim P Acquisition a b c d e ka kb kc kd ke = kb refl
under_elim P Down a b c d e ka kb kc kd ke = kc refl
under_elim P Up a b c d e ka kb kc kd ke = kd refl
under_elim P Cease a b c d e ka kb kc kd ke = ke refl

pub up_under : {A : Type 0} (P : A → Type 0) (p : Phase) (a b c d e : A) → p ≡ Up → P d → P (under p a b c d e)
up_under P p a b c d e h k = rw (at_up p a b c d e h) k

-- ---- Stop, Start

stop_up : (g : Settings) (n : Neighbour) → n.phase ≡ Up → NotUp (on_stop g n)
unfolding on_stop ceases answers waiting
stop_up g n e = up_under NotUp n.phase _ _ _ _ _ e refl

pub up_stopped : (g : Settings) (asn : ℕ) (n : Neighbour) (head : Head) → n.phase ≡ Up → NotUp (step_of g asn n Stop head)
unfolding step_of
up_stopped g asn n head e = stop_up g n e

pub up_started : (g : Settings) (asn : ℕ) (n : Neighbour) (head : Head) → n.phase ≡ Up → NotUp (step_of g asn n Start head)
unfolding step_of on_start acquires answers waiting
up_started g asn n head e = up_under NotUp n.phase _ _ _ _ _ e refl

-- ---- Cease and Request, in any state

pub ceased : (g : Settings) (asn : ℕ) (n : Neighbour) (head : Head) (a q s : ℕ) → NotUp (step_of g asn n (Received (M.Cease a q s)) head)
unfolding step_of on_message on_cease answers idle
ceased g asn n head a q s = refl

hello_not_up : (mode : Mode) (g : Settings) (x : After) → NotUp x → NotUp (hello_if mode g x)
unfolding hello_if says
hello_not_up Unset g x e = e
hello_not_up Active g x e = e
hello_not_up Passive g x e = e

a_not_up : (g : Settings) (n : Neighbour) (hello poll : ℕ) (mode : Mode) → NotUp (does_a g n hello poll mode)
unfolding does_a answers initialised
a_not_up g n hello poll mode = hello_not_up mode g _ refl

requested : (g : Settings) (n : Neighbour) (q : ℕ) (offer : Option Terms) → NotUp (on_request g n q offer)
unfolding on_request ceases repeats_cease answers waiting unanswered idle
requested g n q (Some t) =
    let a = a_not_up g n t.period1 t.period2 t.mode in
    under_elim NotUp n.phase _ _ _ _ _ (λ _. a_not_up g (left_idle q) t.period1 t.period2 t.mode) (λ _. a) (λ _. a) (λ _. a) (λ e. ap is_up e)
requested g n q None = under_elim NotUp n.phase _ _ _ _ _ (λ e. ap is_up e) (λ _. refl) (λ _. refl) (λ _. refl) (λ e. ap is_up e)

pub reacquired : (g : Settings) (asn : ℕ) (n : Neighbour) (head : Head) (a q s hello poll : ℕ) → NotUp (step_of g asn n (Received (M.Request a q s hello poll)) head)
unfolding step_of on_message
reacquired g asn n head a q s hello poll =
    requested g (recounted (noted (commanded n (M.Request a q s hello poll)) (M.Request a q s hello poll)) (M.Request a q s hello poll)) q (offer_of g asn s hello poll)

-- ---- the clock

-- a tick's beginning outside Idle: the counts go up, a second less on t3
abbrev pub later : Neighbour → Neighbour
later n = with_timers (aged n) n.t1 n.t2 (n.t3 - 1)

-- one tick in Up: t3 ran out, or what follows
tick_up : (P : After → Type 0) (g : Settings) (asn : ℕ) (n : Neighbour) (head : Head) → n.phase ≡ Up
    → P (on_stop g (aged n)) → P (polls_in_up g (listens g (later n))) → P (step_of g asn n Tick head)
unfolding step_of on_tick tick_outside aged expired tick_on with_timers
tick_up P g asn n head e p q =
    cond_elim P (is_idle n.phase) _ _ (λ i. absurd (false≢true (sym (ap is_idle e) ∙ i)))
    (λ _. cond_elim P (eqb (n.t3 - 1) 0) _ _ (λ _. p) (λ _. up_under P n.phase _ _ _ _ _ e q))

pub timed_out : (g : Settings) (asn : ℕ) (n : Neighbour) (head : Head) → n.phase ≡ Up → n.t3 ≡ 1 → NotUp (step_of g asn n Tick head)
unfolding step_of on_tick tick_outside aged expired
timed_out g asn n head e t =
    cond_elim NotUp (is_idle n.phase) _ _ (λ i. absurd (false≢true (sym (ap is_idle e) ∙ i)))
    (λ _. cond_elim NotUp (eqb (n.t3 - 1) 0) _ _ (λ _. stop_up g (aged n) e) (λ f. absurd (true≢false (sym (ap (λ (k : ℕ). eqb (k - 1) 0) t) ∙ f))))

-- what a tick that is not Up leaves is not polled
left_up : (g : Settings) (x : After) → NotUp x → NotUp (polls_in_up g x)
unfolding polls_in_up
left_up g x e =
    under_elim NotUp x.neighbour.phase _ _ _ _ _ (λ _. e) (λ _. e) (λ _. e) (λ f. absurd (false≢true (sym e ∙ ap is_up f))) (λ _. e)

-- the register judged in Up
judged_up : (P : Neighbour → Type 0) (n : Neighbour) → n.phase ≡ Up
    → (goes_down n.mode (ones_of n.register) ≡ true → P (leave_up n)) → (goes_down n.mode (ones_of n.register) ≡ false → P n) → P (judged n)
unfolding judged
judged_up P n e p q = up_under P n.phase _ _ _ _ _ e (cond_elim P (goes_down n.mode (ones_of n.register)) _ _ p q)

-- t1 ran out and the register says Down
quieted : (g : Settings) (n : Neighbour) → n.phase ≡ Up → n.t1 ≡ 1 → goes_down n.mode (ones_of ((n.register * 2 + n.heard) % 16)) ≡ true
    → NotUp (listens g (later n))
unfolding listens unanswered shifted leave_up aged with_timers with_reach
quieted g n e t d =
    cond_elim NotUp (eqb (n.t1 - 1) 0) _ _
    (λ _. hello_not_up _ g _ (judged_up (λ k. is_up k.phase ≡ false) (shifted (later n)) e (λ _. refl) (λ f. absurd (true≢false (sym d ∙ f)))))
    (λ f. absurd (true≢false (sym (ap (λ (k : ℕ). eqb (k - 1) 0) t) ∙ f)))

pub silenced : (g : Settings) (asn : ℕ) (n : Neighbour) (head : Head) → n.phase ≡ Up → n.t1 ≡ 1
    → goes_down n.mode (ones_of ((n.register * 2 + n.heard) % 16)) ≡ true → NotUp (step_of g asn n Tick head)
unfolding aged
silenced g asn n head e t d = tick_up NotUp g asn n head e (stop_up g (aged n) e) (left_up g (listens g (later n)) (quieted g n e t d))

-- ---- the number after 65,535

-- still Up after it, so it was polled
abbrev Wraps : Settings → After → Type 0
Wraps g x = is_up (polls_in_up g x).neighbour.phase ≡ true → (polls_in_up g x).neighbour.s ≡ 0

taken : (g : Settings) (x : After) → x.neighbour.s ≡ 65535 → x.neighbour.t2 ≡ 1 → (takes_t2 g x).neighbour.s ≡ 0
unfolding takes_t2 polls says polled with_numbers
taken g x s t =
    cond_elim (λ (y : After). y.neighbour.s ≡ 0) (eqb (x.neighbour.t2 - 1) 0) _ _ (λ _. ap (λ (k : ℕ). (k + 1) % 65536) s)
    (λ f. absurd (true≢false (sym (ap (λ (k : ℕ). eqb (k - 1) 0) t) ∙ f)))

module _ (n : Neighbour) where
  shifted_up : n.phase ≡ Up → (shifted n).phase ≡ Up
  unfolding shifted with_timers with_reach
  shifted_up e = e

  shifted_s : (shifted n).s ≡ n.s
  unfolding shifted with_timers with_reach
  shifted_s = refl

  shifted_t2 : (shifted n).t2 ≡ n.t2
  unfolding shifted with_timers with_reach
  shifted_t2 = refl

  leaves_up : is_up (leave_up n).phase ≡ false
  unfolding leave_up with_reach
  leaves_up = refl

polls_wrap : (g : Settings) (x : After) → x.neighbour.s ≡ 65535 → x.neighbour.t2 ≡ 1 → Wraps g x
unfolding polls_in_up
polls_wrap g x s t =
    under_elim (λ (y : After). is_up y.neighbour.phase ≡ true → y.neighbour.s ≡ 0) x.neighbour.phase _ _ _ _ _
    (λ f u. absurd (false≢true (sym (ap is_up f) ∙ u))) (λ f u. absurd (false≢true (sym (ap is_up f) ∙ u))) (λ f u. absurd (false≢true (sym (ap is_up f) ∙ u)))
    (λ _ _. taken g x s t) (λ f u. absurd (false≢true (sym (ap is_up f) ∙ u)))

hello_wraps : (mode : Mode) (g : Settings) (n : Neighbour) → ((x : After) → x.neighbour ≡ n → Wraps g x) → Wraps g (hello_if mode g (unanswered n))
unfolding hello_if says unanswered
hello_wraps Unset g n h = h _ refl
hello_wraps Active g n h = h _ refl
hello_wraps Passive g n h = h _ refl

listens_wraps : (g : Settings) (n : Neighbour) → n.phase ≡ Up → n.s ≡ 65535 → n.t2 ≡ 1 → Wraps g (listens g n)
unfolding listens with_timers unanswered
listens_wraps g n e s t =
    cond_elim (Wraps g) (eqb (n.t1 - 1) 0) _ _
    (λ _. hello_wraps _ g (judged (shifted n))
    (judged_up (λ k. (x : After) → x.neighbour ≡ k → Wraps g x) (shifted n) (shifted_up n e)
    (λ _ x f u. absurd (false≢true (sym (left_up g x (ap (λ (k : Neighbour). is_up k.phase) f ∙ leaves_up (shifted n))) ∙ u)))
    (λ _ x f. polls_wrap g x (ap (λ (k : Neighbour). k.s) f ∙ shifted_s n ∙ s) (ap (λ (k : Neighbour). k.t2) f ∙ shifted_t2 n ∙ t))))
    (λ _. polls_wrap g _ s t)

pub wrapped : (g : Settings) (asn : ℕ) (n : Neighbour) (head : Head) → n.phase ≡ Up → n.s ≡ 65535 → n.t2 ≡ 1
    → is_up (step_of g asn n Tick head).neighbour.phase ≡ true → (step_of g asn n Tick head).neighbour.s ≡ 0
unfolding with_timers aged
wrapped g asn n head e s t =
    tick_up (λ x. is_up x.neighbour.phase ≡ true → x.neighbour.s ≡ 0) g asn n head e
    (λ u. absurd (false≢true (sym (stop_up g (aged n) e) ∙ u))) (listens_wraps g (later n) e s t)
