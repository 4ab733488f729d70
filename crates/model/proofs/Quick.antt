-- A passive neighbour whose Hello of status 1 comes every second: facts of one record. Assumes nothing.
use Prim.Native.Nat.{ℕ, zero, suc, ◌+◌, ◌-◌, ◌*◌, ◌%◌, ◌≤◌}
use native.Mathlib.Omega.{arith}
use mathlib.Core.Path.{◌≡◌, refl, sym, ◌∙◌, ap, subst}
use mathlib.Core.Bool.{Bool, true, false, cond, not, ◌&&◌, ◌||◌, and-true, and-false, or-true, or-false, false≢true, true≢false}
use lib.Dec.{eqb}
use borrow.Author.Tests.{lt-ltb, le-leb, eq-eqb, ne_eqb, eqb-true, eqb-false}
use Rattle.checks.proofs.Laws.{cond_elim, and_right}
use Rattle.message.specs.Kinds.{kind_of, status_of}
use Rattle.message.specs.declared.Kind.TheVariants as K
use Rattle.message.specs.declared.Message.{Message}
use Rattle.message.specs.declared.Message.TheVariants as M
use Rattle.neighbour.specs.declared.Phase.{Phase}
use Rattle.neighbour.specs.declared.Phase.TheVariants.{Idle, Acquisition, Down, Up, Cease}
use Rattle.neighbour.specs.declared.Mode.TheVariants.{Passive}
use Rattle.neighbour.specs.declared.Settings.{Settings}
use Rattle.neighbour.specs.declared.Neighbour.{Neighbour}
use Rattle.neighbour.specs.Record.{under, is_idle, is_up, acquired, with_numbers, with_timers, with_reach, heard_from, shifted, enter_up, polled, one_more, aged}
use Rattle.neighbour.specs.Rules.{same, is_command, commanded, indicates, noted, recounted, ones_of, goes_up, goes_down, judged}
use Rattle.neighbour_wellformed.specs.Formed.{is_unset, agreed, intervals_formed, well_formed}
use Rattle.neighbour_wellformed.proofs.Formed.{Fine, pieces}
use Rattle.neighbour_messages.specs.declared.Head.{Head}
use Rattle.neighbour_machine.specs.declared.Event.{Event}
use Rattle.neighbour_machine.specs.declared.Event.TheVariants.{Received, Start, Stop, Tick}
use Rattle.neighbour_machine.specs.declared.After.{After}
use Rattle.neighbour_machine.specs.Table.{unanswered, answers, says, on_confirm, on_refuse, on_cease_ack, on_hello, on_i_heard_you, answers_poll, on_poll, on_update}
use Rattle.neighbour_machine.specs.Tick.{listens, polls, polls_on_entry, takes_t2, polls_in_up, tick_on, tick_outside, on_tick}
use Rattle.neighbour_machine.specs.Step.{on_message, step_of}
use Rattle.model.specs.Windows.{is_indication, is_evaluation, is_restart}
use Rattle.model.specs.Quick.{is_ticked, is_hello, is_other_hello}
use Rattle.model.proofs.Closing.{under_elim, later}
use Rattle.model.proofs.Reach.{acquired_runs, hello_same, Lowest, some_ones, shift_heard}

-- ---- Down and Up

-- only there is a mode agreed on
pub passive_acquired : (n : Neighbour) → well_formed n ≡ true → n.mode ≡ Passive → acquired n.phase ≡ true
unfolding intervals_formed
passive_acquired n h p = go (acquired n.phase) (pieces n h).intervals
  where
    go : (b : Bool) → cond b (agreed n) (eqb n.period1 0 && eqb n.period2 0 && is_unset n.mode) ≡ true → b ≡ true
    go true e = refl
    go false e = absurd (false≢true (sym (ap is_unset p) ∙ and_right (eqb n.period1 0 && eqb n.period2 0) (is_unset n.mode) e))

-- the cell that stands there
acquired_under : {A : Type 0} (P : A → Type 0) (p : Phase) (a b c d e : A) → acquired p ≡ true → (p ≡ Down → P c) → (p ≡ Up → P d) → P (under p a b c d e)
unfolding under
acquired_under P Idle a b c d e h k l = absurd (false≢true h)
acquired_under P Acquisition a b c d e h k l = absurd (false≢true h)
acquired_under P Down a b c d e h k l = k refl
acquired_under P Up a b c d e h k l = l refl
acquired_under P Cease a b c d e h k l = absurd (false≢true h)

abbrev Leaves : Neighbour → After → Type 0
Leaves n x = x.neighbour ≡ n

-- no row there changes the record, but a Request's and a Cease's
acquired_row : (g : Settings) (asn : ℕ) (n : Neighbour) (m : Message) (head : Head) → acquired n.phase ≡ true → is_restart n (Received m) ≡ false
    → (on_message g asn n m head).neighbour ≡ n
unfolding is_restart on_message on_confirm on_refuse on_cease_ack on_hello on_i_heard_you on_poll on_update answers_poll answers unanswered
acquired_row g asn n (M.Request a q s hello poll) head r e = absurd (true≢false e)
acquired_row g asn n (M.Confirm a q s hello poll) head r e = acquired_under (Leaves n) n.phase _ _ _ _ _ r (λ _. refl) (λ _. refl)
acquired_row g asn n (M.Refuse a q s) head r e = acquired_under (Leaves n) n.phase _ _ _ _ _ r (λ _. refl) (λ _. refl)
acquired_row g asn n (M.Cease a q s) head r e = absurd (true≢false e)
acquired_row g asn n (M.CeaseAck a q s) head r e = acquired_under (Leaves n) n.phase _ _ _ _ _ r (λ _. refl) (λ _. refl)
acquired_row g asn n (M.Hello a q s) head r e = acquired_under (Leaves n) n.phase _ _ _ _ _ r (λ _. refl) (λ _. refl)
acquired_row g asn n (M.IHeardYou a q s) head r e = acquired_under (Leaves n) n.phase _ _ _ _ _ r (λ _. refl) (λ _. refl)
acquired_row g asn n (M.Poll a q s net) head r e =
    acquired_under (Leaves n) n.phase _ _ _ _ _ r (λ _. refl) (λ _. cond_elim (Leaves n) (eqb net g.net) _ _ (λ _. refl) (λ _. refl))
acquired_row g asn n (M.Update a q s net) head r e = acquired_under (Leaves n) n.phase _ _ _ _ _ r (λ _. refl) (λ _. refl)
acquired_row g asn n (M.Error a q s reason x y z) head r e = refl

-- a Hello, by what it carries
pub hello_elim : (P : Message → Type 0) → ((a q s : ℕ) → P (M.Hello a q s)) → (m : Message) → same (kind_of m) K.Hello ≡ true → P m
hello_elim P h (M.Request a q s hello poll) e = absurd (false≢true e)
hello_elim P h (M.Confirm a q s hello poll) e = absurd (false≢true e)
hello_elim P h (M.Refuse a q s) e = absurd (false≢true e)
hello_elim P h (M.Cease a q s) e = absurd (false≢true e)
hello_elim P h (M.CeaseAck a q s) e = absurd (false≢true e)
hello_elim P h (M.Hello a q s) e = h a q s
hello_elim P h (M.IHeardYou a q s) e = absurd (false≢true e)
hello_elim P h (M.Poll a q s net) e = absurd (false≢true e)
hello_elim P h (M.Update a q s net) e = absurd (false≢true e)
hello_elim P h (M.Error a q s reason x y z) e = absurd (false≢true e)

-- ---- what is kept

-- `ticks` ticks ago the last Hello was carried out: 30 at most, and 29 unless one is due. `heard`: the open window holds
-- an indication. One that holds none began after that Hello, so it ends more than 30 ticks after it; nor has t3 run for
-- longer than those ticks.
pub record Hurried (n : Neighbour) (ticks : ℕ) (due heard : Bool) : Type 0 where
  pub reached : acquired n.phase ≡ true
  pub passive : n.mode ≡ Passive
  pub count : n.sincehello ≡ ticks
  pub few : ticks ≤ 29 + cond due 1 0
  pub flag : n.heard ≡ cond heard 1 0
  pub ahead : heard ≡ false → 31 ≤ ticks + n.t1
  pub far : 3600 ≤ n.t3 + ticks

-- what was Up is Up
abbrev StaysUp : Neighbour → Neighbour → Type 0
StaysUp n k = is_up n.phase ≡ true → is_up k.phase ≡ true

-- a one was shifted in, and it is Up
abbrev pub Lit : Neighbour → Type 0
Lit k = (k.register % 2 ≡ 1) × (is_up k.phase ≡ true)

-- from n to k by an event; `ends`: it ends a window
pub record Goes (n k : Neighbour) (ticks : ℕ) (due heard ends : Bool) : Type 0 where
  pub hurried : Hurried k ticks due heard
  pub up : StaysUp n k
  pub lit : ends ≡ true → Lit k

-- ---- messages

abbrev notes : Neighbour → Message → Bool
notes n m = acquired n.phase && indicates n.mode (kind_of m) (status_of m)

-- the record that a message's row finds
abbrev received : Neighbour → Message → Neighbour
received n m = recounted (noted (commanded n m) m) m

-- none of the three touches phase and mode
record Placed (n k : Neighbour) : Type 0 where
  phase : k.phase ≡ n.phase
  mode : k.mode ≡ n.mode

commanded_placed : (n : Neighbour) (m : Message) → Placed n (commanded n m)
unfolding commanded with_numbers
commanded_placed n m =
    cond_elim (Placed n) (not (is_idle n.phase) && is_command (kind_of m)) _ _ (λ _. record { phase = refl; mode = refl }) (λ _. record { phase = refl; mode = refl })

noted_placed : (n : Neighbour) (m : Message) → Placed n (noted n m)
unfolding noted heard_from with_reach with_timers
noted_placed n m = cond_elim (Placed n) (notes n m) _ _ (λ _. record { phase = refl; mode = refl }) (λ _. record { phase = refl; mode = refl })

recounted_placed : (n : Neighbour) (m : Message) → Placed n (recounted n m)
unfolding recounted
recounted_placed n m =
    cond_elim (Placed n) (acquired n.phase) _ _ (λ _. record { phase = refl; mode = refl }) (λ _. record { phase = refl; mode = refl })

received_placed : (n : Neighbour) (m : Message) → Placed n (received n m)
received_placed n m =
    let a = commanded_placed n m in
    let b = noted_placed (commanded n m) m in
    let c = recounted_placed (noted (commanded n m) m) m in
    record { phase = c.phase ∙ b.phase ∙ a.phase; mode = c.mode ∙ b.mode ∙ a.mode }

placed_notes : (n k : Neighbour) (m : Message) → Placed n k → notes k m ≡ notes n m
placed_notes n k m p = rw (p.phase, p.mode)

-- a Hello of status 1, whatever came before it
hello_notes : (n : Neighbour) (a q s : ℕ) → acquired n.phase ≡ true → n.mode ≡ Passive → s ≡ 1 → notes n (M.Hello a q s) ≡ true
unfolding indicates
hello_notes n a q s r p e = rw (r, p, e)

noted_heard : (n : Neighbour) (m : Message) → notes n m ≡ true → ((noted n m).heard ≡ 1) × ((noted n m).t3 ≡ 3600)
unfolding noted heard_from with_reach with_timers
noted_heard n m e = rw e (refl, refl)

hello_counted : (n : Neighbour) (a q s : ℕ) → acquired n.phase ≡ true → n.mode ≡ Passive → n.heard ≡ 1 → n.t3 ≡ 3600
    → Hurried (recounted n (M.Hello a q s)) 0 false true
unfolding recounted
hello_counted n a q s r p h t =
    cond_elim (λ (k : Neighbour). Hurried k 0 false true) (acquired n.phase) _ _
    (λ _. record { reached = r; passive = p; count = refl; few = omega arith; flag = h; ahead = λ f. absurd (true≢false f); far = omega (arith, t) })
    (λ f. absurd (false≢true (sym f ∙ r)))

received_hello : (n : Neighbour) (a q s : ℕ) → acquired n.phase ≡ true → n.mode ≡ Passive → s ≡ 1 → Hurried (received n (M.Hello a q s)) 0 false true
received_hello n a q s r p e =
    let m = M.Hello a q s in
    let c = commanded_placed n m in
    let d = noted_placed (commanded n m) m in
    let h = noted_heard (commanded n m) m (placed_notes n (commanded n m) m c ∙ hello_notes n a q s r p e) in
    hello_counted (noted (commanded n m) m) a q s (ap acquired (d.phase ∙ c.phase) ∙ r) (d.mode ∙ c.mode ∙ p) h.0 h.1

-- any other message
commanded_hurried : (n : Neighbour) (m : Message) (ticks : ℕ) (due heard : Bool) → Hurried n ticks due heard → Hurried (commanded n m) ticks due heard
unfolding commanded with_numbers
commanded_hurried n m ticks due heard h =
    cond_elim (λ (k : Neighbour). Hurried k ticks due heard) (not (is_idle n.phase) && is_command (kind_of m)) _ _
    (λ _. record { reached = h.reached; passive = h.passive; count = h.count; few = h.few; flag = h.flag; ahead = h.ahead; far = h.far }) (λ _. h)

noted_hurried : (n : Neighbour) (m : Message) (ticks : ℕ) (due heard : Bool) → Hurried n ticks due heard → Hurried (noted n m) ticks due (heard || notes n m)
unfolding noted heard_from with_reach with_timers
noted_hurried n m ticks due heard h = go (notes n m) heard h
  where
    go : (b c : Bool) → Hurried n ticks due c → Hurried (cond b (heard_from n) n) ticks due (c || b)
    go true true k =
        record { reached = k.reached; passive = k.passive; count = k.count; few = k.few; flag = refl; ahead = λ f. absurd (true≢false f); far = omega arith }
    go true false k =
        record { reached = k.reached; passive = k.passive; count = k.count; few = k.few; flag = refl; ahead = λ f. absurd (true≢false f); far = omega arith }
    go false true k = k
    go false false k = k

recounted_hurried : (n : Neighbour) (m : Message) (ticks : ℕ) (due heard : Bool) → same (kind_of m) K.Hello ≡ false → Hurried n ticks due heard
    → Hurried (recounted n m) ticks due heard
unfolding recounted
recounted_hurried n m ticks due heard e h =
    cond_elim (λ (k : Neighbour). Hurried k ticks due heard) (acquired n.phase) _ _
    (λ _.
    record {
      reached = h.reached;
      passive = h.passive;
      count = ap (λ (b : Bool). cond b 0 n.sincehello) e ∙ h.count;
      few = h.few;
      flag = h.flag;
      ahead = h.ahead;
      far = h.far;
    })
    (λ _. h)

received_hurried : (n : Neighbour) (m : Message) (ticks : ℕ) (due heard : Bool) → same (kind_of m) K.Hello ≡ false → Hurried n ticks due heard
    → Hurried (received n m) ticks due (heard || notes n m)
received_hurried n m ticks due heard e h =
    recounted_hurried (noted (commanded n m) m) m ticks due _ e
    (subst (λ (b : Bool). Hurried (noted (commanded n m) m) ticks due (heard || b)) (placed_notes n (commanded n m) m (commanded_placed n m))
    (noted_hurried (commanded n m) m ticks due heard (commanded_hurried n m ticks due heard h)))

module _ (g : Settings) (asn : ℕ) (n : Neighbour) (m : Message) (head : Head) (reached : acquired n.phase ≡ true)
    (plain : is_restart n (Received m) ≡ false) where
  -- the record after it
  step_received : (step_of g asn n (Received m) head).neighbour ≡ received n m
  unfolding step_of is_restart
  step_received = acquired_row g asn (received n m) m head (ap acquired (received_placed n m).phase ∙ reached) plain

  pub message_up : StaysUp n (step_of g asn n (Received m) head).neighbour
  message_up u = rw step_received (ap is_up (received_placed n m).phase ∙ u)

  pub message_hurried : (ticks : ℕ) (due heard : Bool) → same (kind_of m) K.Hello ≡ false → Hurried n ticks due heard
      → Hurried (step_of g asn n (Received m) head).neighbour ticks due (heard || is_indication n (Received m))
  unfolding is_indication
  message_hurried ticks due heard e h = rw step_received (received_hurried n m ticks due heard e h)

-- a Hello of status 1
hello_indicates : (n : Neighbour) (m : Message) → acquired n.phase ≡ true → n.mode ≡ Passive → same (kind_of m) K.Hello ≡ true → eqb (status_of m) 1 ≡ true
    → is_indication n (Received m) ≡ true
unfolding is_indication
hello_indicates n m r p h = hello_elim (λ k. eqb (status_of k) 1 ≡ true → notes n k ≡ true) (λ a q s e. hello_notes n a q s r p (eqb-true s 1 e)) m h

pub hello_hurried : (g : Settings) (asn : ℕ) (n : Neighbour) (m : Message) (head : Head) → acquired n.phase ≡ true → n.mode ≡ Passive
    → same (kind_of m) K.Hello ≡ true → eqb (status_of m) 1 ≡ true → Hurried (step_of g asn n (Received m) head).neighbour 0 false true
unfolding is_restart
hello_hurried g asn n m head r p h =
    hello_elim (λ k. eqb (status_of k) 1 ≡ true → Hurried (step_of g asn n (Received k) head).neighbour 0 false true)
    (λ a q s e. rw (step_received g asn n (M.Hello a q s) head r refl) (received_hello n a q s r p (eqb-true s 1 e))) m h

-- ---- a Hello of status 0 or 2

hello_missed : (n : Neighbour) (a q s : ℕ) → acquired n.phase ≡ true → n.mode ≡ Passive → eqb s 1 ≡ false → notes n (M.Hello a q s) ≡ false
unfolding indicates
hello_missed n a q s r p e = rw (r, p, e)

-- the same heard and t3
abbrev Untouched : Neighbour → Neighbour → Type 0
Untouched n k = (k.heard ≡ n.heard) × (k.t3 ≡ n.t3)

commanded_untouched : (n : Neighbour) (m : Message) → Untouched n (commanded n m)
unfolding commanded with_numbers
commanded_untouched n m = cond_elim (Untouched n) (not (is_idle n.phase) && is_command (kind_of m)) _ _ (λ _. (refl, refl)) (λ _. (refl, refl))

noted_untouched : (n : Neighbour) (m : Message) → notes n m ≡ false → Untouched n (noted n m)
unfolding noted
noted_untouched n m e = rw e (refl, refl)

recounted_untouched : (n : Neighbour) (m : Message) → Untouched n (recounted n m)
unfolding recounted
recounted_untouched n m = cond_elim (Untouched n) (acquired n.phase) _ _ (λ _. (refl, refl)) (λ _. (refl, refl))

received_untouched : (n : Neighbour) (m : Message) → notes n m ≡ false → Untouched n (received n m)
received_untouched n m e =
    let a = commanded_untouched n m in
    let b = noted_untouched (commanded n m) m (placed_notes n (commanded n m) m (commanded_placed n m) ∙ e) in
    let c = recounted_untouched (noted (commanded n m) m) m in
    (c.0 ∙ b.0 ∙ a.0, c.1 ∙ b.1 ∙ a.1)

pub hello_unheard : (g : Settings) (asn : ℕ) (n : Neighbour) (m : Message) (head : Head) → acquired n.phase ≡ true → n.mode ≡ Passive
    → same (kind_of m) K.Hello ≡ true → eqb (status_of m) 1 ≡ false
    → (is_indication n (Received m) ≡ false) × ((step_of g asn n (Received m) head).neighbour.heard ≡ n.heard) × ((step_of g asn n (Received m) head).neighbour.t3 ≡ n.t3)
unfolding is_restart is_indication
hello_unheard g asn n m head r p h =
    hello_elim
    (λ k. eqb (status_of k) 1 ≡ false → (notes n k ≡ false) × ((step_of g asn n (Received k) head).neighbour.heard ≡ n.heard) × ((step_of g asn n (Received k) head).neighbour.t3 ≡ n.t3))
    (λ a q s e.
    let no = hello_missed n a q s r p e in
    let is = step_received g asn n (M.Hello a q s) head r refl in
    let u = received_untouched n (M.Hello a q s) no in
    (no, ap (λ (k : Neighbour). k.heard) is ∙ u.0, ap (λ (k : Neighbour). k.t3) is ∙ u.1)) m h

-- ---- ticks

some : (k : ℕ) → (k ≡ 0 → ⊥) → 1 ≤ k
some zero n = absurd (n refl)
some (suc k) n = omega arith

-- a one was shifted in
one_shifted : (r : ℕ) → 1 ≤ ones_of ((r * 2 + 1) % 16)
one_shifted r = some (ones_of ((r * 2 + 1) % 16)) (some_ones 0 ((r * 2 + 1) % 16) (shift_heard r))

-- then Down goes Up, and Up stays
judged_heard : (n : Neighbour) → acquired n.phase ≡ true → n.mode ≡ Passive → n.heard ≡ 1 → (P : Neighbour → Type 0) → P (enter_up (shifted n))
    → (n.phase ≡ Up → P (shifted n)) → P (judged (shifted n))
unfolding judged shifted goes_up goes_down with_reach with_timers
judged_heard n r p h P a b =
    acquired_under P n.phase _ _ _ _ _ r
    (λ _. rw (p, h, le-leb 1 (ones_of ((n.register * 2 + 1) % 16)) (one_shifted n.register)) (rw (p, h) at a))
    (λ u. rw (p, h, ne_eqb (ones_of ((n.register * 2 + 1) % 16)) 0 (some_ones 0 _ (shift_heard n.register))) (rw (p, h) at (b u)))

-- a tick for which no Hello is due
module _ (g : Settings) (asn : ℕ) (n : Neighbour) (head : Head) (ticks : ℕ) (heard : Bool) (fine : Fine n) (h : Hurried n ticks false heard) where
  t3_far : 2 ≤ n.t3
  t3_far = omega (arith, h.few, h.far)

  -- it goes on to t1
  runs : (P : After → Type 0) → P (polls_on_entry g (listens g (later n))) → P (polls_in_up g (listens g (later n))) → P (step_of g asn n Tick head)
  unfolding step_of on_tick tick_outside aged tick_on with_timers
  runs P a b =
      cond_elim P (is_idle n.phase) _ _ (λ i. absurd (false≢true (sym (acquired_runs n.phase h.reached) ∙ i)))
      (λ _. cond_elim P (eqb (n.t3 - 1) 0) _ _ (λ z. absurd (omega (arith, eqb-true (n.t3 - 1) 0 z, t3_far)))
      (λ _. acquired_under P n.phase _ _ _ _ _ h.reached (λ _. a) (λ _. b)))

  evaluation_is : is_evaluation n Tick ≡ eqb (n.t1 - 1) 0
  unfolding is_evaluation
  evaluation_is = rw (h.reached, ne_eqb n.t3 1 (λ z. absurd (omega (arith, z, t3_far)))) (go (eqb (n.t1 - 1) 0) refl)
    where
      go : (b : Bool) → eqb (n.t1 - 1) 0 ≡ b → (eqb n.t1 1 && true) ≡ b
      go true e = rw (eq-eqb n.t1 1 (omega (arith, eqb-true (n.t1 - 1) 0 e, fine.t1_low)))
      go false e = rw (ne_eqb n.t1 1 (λ z. eqb-false (n.t1 - 1) 0 e (omega (arith, z))))

  -- the window that it ends holds an indication: one that holds none would have ended too early
  pub ends_heard : is_evaluation n Tick ≡ true → heard ≡ true
  ends_heard e = go heard h.ahead
    where
      go : (b : Bool) → (b ≡ false → 31 ≤ ticks + n.t1) → b ≡ true
      go true a = refl
      go false a = absurd (omega (arith, a refl, h.few, eqb-true (n.t1 - 1) 0 (sym evaluation_is ∙ e)))

  abbrev Next : Bool → Neighbour → Type 0
  Next ends k = Goes n k (suc ticks) true (cond ends false heard) ends

  -- what t2 does touches none of it
  polled_next : (ends : Bool) (k : Neighbour) (s t2 : ℕ) → Next ends k → Next ends (with_numbers (with_timers k k.t1 t2 k.t3) s k.r)
  unfolding with_numbers with_timers
  polled_next ends k s t2 w =
      let v = w.hurried in
      record {
        hurried = record { reached = v.reached; passive = v.passive; count = v.count; few = v.few; flag = v.flag; ahead = v.ahead; far = v.far };
        up = w.up;
        lit = w.lit;
      }

  t2_next : (ends : Bool) (x : After) → Next ends x.neighbour → Next ends (polls_in_up g x).neighbour
  unfolding polls_in_up takes_t2 polls says polled with_numbers with_timers
  t2_next ends x w =
      under_elim (λ (y : After). Next ends y.neighbour) x.neighbour.phase _ _ _ _ _ (λ _. w) (λ _. w) (λ _. w)
      (λ _.
      cond_elim (λ (y : After). Next ends y.neighbour) (eqb (x.neighbour.t2 - 1) 0) _ _
      (λ _. polled_next ends x.neighbour ((x.neighbour.s + 1) % 65536) x.neighbour.period2 w)
      (λ _. polled_next ends x.neighbour x.neighbour.s (x.neighbour.t2 - 1) w))
      (λ _. w)

  entry_next : (ends : Bool) (x : After) → Next ends x.neighbour → Next ends (polls_on_entry g x).neighbour
  unfolding polls_on_entry polls says polled
  entry_next ends x w =
      under_elim (λ (y : After). Next ends y.neighbour) x.neighbour.phase _ _ _ _ _ (λ _. w) (λ _. w) (λ _. w)
      (λ _. polled_next ends x.neighbour ((x.neighbour.s + 1) % 65536) x.neighbour.period2 w) (λ _. w)

  one_more_lem : one_more n.sincehello ≡ suc ticks
  unfolding one_more
  one_more_lem = rw (h.count, lt-ltb ticks 120 (omega (arith, h.few))) (omega arith)

  within_next : eqb (n.t1 - 1) 0 ≡ false → Next false (with_timers (later n) (n.t1 - 1) n.t2 (n.t3 - 1))
  unfolding aged with_timers
  within_next e =
      let k = eqb-false (n.t1 - 1) 0 e in
      record {
        hurried =
            record {
              reached = h.reached;
              passive = h.passive;
              count = one_more_lem;
              few = omega (arith, h.few);
              flag = h.flag;
              ahead = λ f. omega (arith, h.ahead f, k);
              far = omega (arith, h.far, t3_far);
            };
        up = λ u. u;
        lit = λ f. absurd (false≢true f);
      }

  -- shifted, in Up
  shifted_next : (k : Neighbour) → n.heard ≡ 1 → k.phase ≡ Up → k.mode ≡ n.mode → k.sincehello ≡ one_more n.sincehello
      → k.heard ≡ 0 → k.t1 ≡ n.period1 → k.t3 ≡ n.t3 - 1 → k.register ≡ (n.register * 2 + n.heard) % 16 → Next true k
  unfolding Lowest
  shifted_next k one up mode count flag t1 t3 register =
      record {
        hurried =
            record {
              reached = ap acquired up;
              passive = mode ∙ h.passive;
              count = count ∙ one_more_lem;
              few = omega (arith, h.few);
              flag = flag;
              ahead = λ _. omega (arith, fine.period1_low, t1);
              far = omega (arith, h.far, t3_far, t3);
            };
        up = λ _. ap is_up up;
        lit = λ _. (ap (λ (r : ℕ). r % 2) (register ∙ ap (λ (b : ℕ). (n.register * 2 + b) % 16) one) ∙ shift_heard n.register, ap is_up up);
      }

  ends_next : heard ≡ true → Next true (judged (shifted (later n)))
  unfolding aged shifted enter_up with_reach with_timers
  ends_next e =
      let one : n.heard ≡ 1 = h.flag ∙ ap (λ (b : Bool). cond b 1 0) e in
      judged_heard (later n) h.reached h.passive one (Next true)
      (shifted_next (enter_up (shifted (later n))) one refl refl refl refl refl refl refl)
      (λ u. shifted_next (shifted (later n)) one u refl refl refl refl refl refl)

  listens_next : (ends : Bool) → is_evaluation n Tick ≡ ends → Next ends (listens g (later n)).neighbour
  unfolding listens unanswered aged with_timers
  listens_next true e =
      cond_elim (λ (x : After). Next true x.neighbour) (eqb (n.t1 - 1) 0) _ _
      (λ _. rw (hello_same _ g _) (ends_next (ends_heard e))) (λ z. absurd (false≢true (sym z ∙ (sym evaluation_is ∙ e))))
  listens_next false e =
      cond_elim (λ (x : After). Next false x.neighbour) (eqb (n.t1 - 1) 0) _ _
      (λ z. absurd (false≢true (sym (sym evaluation_is ∙ e) ∙ z))) within_next

  pub tick_hurried : Next (is_evaluation n Tick) (step_of g asn n Tick head).neighbour
  tick_hurried =
      let b = is_evaluation n Tick in
      let w = listens_next b refl in
      runs (λ x. Next b x.neighbour) (entry_next b (listens g (later n)) w) (t2_next b (listens g (later n)) w)

-- ---- any event

-- a Hello carried out leaves none due for long
just_heard : (n : Neighbour) (heard due : Bool) → Hurried n 0 false heard → Hurried n 0 due heard
just_heard n heard due h =
    record { reached = h.reached; passive = h.passive; count = h.count; few = omega arith; flag = h.flag; ahead = h.ahead; far = h.far }

-- one that comes within 30 ticks leaves none due
pub eased : (n : Neighbour) (ticks : ℕ) (due heard comes : Bool) → Hurried n ticks due heard → (comes ≡ true → ticks ≤ 29) → Hurried n ticks (due && not comes) heard
eased n ticks due heard true h few =
    rw (and-false due)
    (record { reached = h.reached; passive = h.passive; count = h.count; few = omega (arith, few refl); flag = h.flag; ahead = h.ahead; far = h.far })
eased n ticks due heard false h few = rw (and-true due) h

-- a Hello of status 1
unfoldable pub is_up_hello : Neighbour → Event → Bool
is_up_hello n (Received x) = same (kind_of x) K.Hello && eqb (status_of x) 1
is_up_hello n Start = false
is_up_hello n Stop = false
is_up_hello n Tick = false

-- after an event: whether it is a tick, a Hello, whether one of status 1 came, a window ended, whether it is an
-- indication
abbrev pub Onward : Neighbour → ℕ → Bool → Bool → Neighbour → Bool → Bool → Bool → Bool → Bool → Type 0
Onward n ticks due heard k ticked hello comes ends indication =
    Goes n k (cond ticked (suc ticks) (cond hello 0 ticks)) (ticked || (due && not comes)) (cond ends false (heard || indication)) ends

module _ (g : Settings) (asn : ℕ) (n : Neighbour) (head : Head) (ticks : ℕ) (due heard : Bool) (fine : Fine n) (h : Hurried n ticks due heard) (comes : Bool) where
  message_onward : (m : Message) (hello up : Bool) → same (kind_of m) K.Hello ≡ hello → eqb (status_of m) 1 ≡ up → (hello && not up) ≡ false
      → is_restart n (Received m) ≡ false → (comes ≡ true → (hello && up) ≡ true)
      → Onward n ticks due heard (step_of g asn n (Received m) head).neighbour false hello comes false (is_indication n (Received m))
  message_onward m true true e f o r c =
      record {
        hurried =
            rw (hello_indicates n m h.reached h.passive e f, or-true heard)
            (just_heard _ true (due && not comes) (hello_hurried g asn n m head h.reached h.passive e f));
        up = message_up g asn n m head h.reached r;
        lit = λ q. absurd (false≢true q);
      }
  message_onward m true false e f o r c = absurd (true≢false o)
  message_onward m false up e f o r c =
      record {
        hurried = eased _ ticks due _ comes (message_hurried g asn n m head h.reached r ticks due heard e h) (λ q. absurd (false≢true (c q)));
        up = message_up g asn n m head h.reached r;
        lit = λ q. absurd (false≢true q);
      }

  tick_onward : due ≡ false → Onward n ticks due heard (step_of g asn n Tick head).neighbour true false comes (is_evaluation n Tick) false
  tick_onward e = rw (or-false heard) (tick_hurried g asn n head ticks heard fine (subst (λ (b : Bool). Hurried n ticks b heard) e h))

  pub event_onward : (event : Event) → is_restart n event ≡ false → is_other_hello n event ≡ false → (due && is_ticked n event) ≡ false → (comes ≡ true → is_up_hello n event ≡ true)
      → Onward n ticks due heard (step_of g asn n event head).neighbour (is_ticked n event) (is_hello n event) comes (is_evaluation n event) (is_indication n event)
      × (is_evaluation n event ≡ true → heard ≡ true)
  unfolding is_ticked is_hello is_up_hello is_other_hello is_evaluation is_indication is_restart
  event_onward (Received m) r o t c = (message_onward m (same (kind_of m) K.Hello) (eqb (status_of m) 1) refl refl o r c, λ e. absurd (false≢true e))
  event_onward Start r o t c = absurd (true≢false r)
  event_onward Stop r o t c = absurd (true≢false r)
  event_onward Tick r o t c =
      let no : due ≡ false = sym (and-true due) ∙ t in
      (tick_onward no, ends_heard g asn n head ticks heard fine (subst (λ (b : Bool). Hurried n ticks b heard) no h))
