-- Laws of the checks that come before anything is done: the first that fails answers. Assumes nothing.
use Prim.Native.Nat.{ℕ, ◌≤◌, ◌<◌}
use borrow.Author.Tests.{eq-eqb, ne_eqb, le-leb, lt-leb, lt-ltb, le-ltb}
use mathlib.Core.Path.{◌≡◌, refl, sym, ◌∙◌}
use mathlib.Core.Bool.{Bool, true, false}
use mathlib.Core.List.{List}
use lib.Dec.{leb, eqb, ltb}
use lib.ListN.{length}
use Rattle.checks.proofs.Laws.{check_passed, check_holds, check_fails}
use Rattle.checks.specs.Checks.{check}
use Rattle.neighbour_machine.specs.declared.Event.{Event}
use Rattle.neighbour_machine.specs.Intrinsics.{Intrinsic, as_event}
use Rattle.gateway_state.specs.declared.State.{State}
use Rattle.gateway_state.specs.Slots.{slot_at, slot_of}
use Rattle.gateway_state.specs.Formed.{state_formed}
use Rattle.gateway_rules.specs.Home.{good_home}
use Rattle.gateway_rules.specs.Seconds.{has_time}
use Rattle.gateway_rules.specs.Calls.{table_fits, buffer_fits, lent_checks, event_checks, message_checks}
use Rattle.gateway_rules.proofs.Checks.{Passed, found, lent_passed}
use Rattle.std.specs.Prelude.{Ok}
use Rattle.gateway_calls.specs.Steps.{EventSlot}

-- ---- 1, 2 and 3

module _ (st : State) (numbers octets : ℕ) where
  abbrev Lent : ℕ → Type 0
  Lent k = (table buffer : List ℕ) → length table ≡ numbers → length buffer ≡ octets → k ≡ lent_checks st (table_fits table) (buffer_fits buffer) 0

  pub lent_1 : state_formed st ≡ false → Lent 1
  unfolding lent_checks
  lent_1 f table buffer p q = sym (check_fails (state_formed st) 1 _ f)

  module _ (f : state_formed st ≡ true) where
    pub lent_2 : (numbers ≡ 3072 → ⊥) → Lent 2
    unfolding lent_checks
    lent_2 t table buffer p q =
        sym (check_holds (state_formed st) 1 _ f ∙ check_fails (eqb (length table) 3072) 2 _ (ne_eqb (length table) 3072 (λ e. t (sym p ∙ e))))

    module _ (t : numbers ≡ 3072) where
      held : (table : List ℕ) (rest : ℕ) → length table ≡ numbers → check (state_formed st) 1 (check (eqb (length table) 3072) 2 rest) ≡ rest
      held table rest p = check_holds (state_formed st) 1 _ f ∙ check_holds (eqb (length table) 3072) 2 rest (eq-eqb (length table) 3072 (p ∙ t))

      pub lent_3 : octets < 2048 → Lent 3
      unfolding lent_checks
      lent_3 b table buffer p q = sym (held table _ p ∙ check_fails (leb 2048 (length buffer)) 3 _ (lt-leb 2048 (length buffer) (rw q b)))

      pub lent_0 : 2048 ≤ octets → Lent 0
      unfolding lent_checks
      lent_0 b table buffer p q = sym (held table _ p ∙ check_holds (leb 2048 (length buffer)) 3 _ (le-leb 2048 (length buffer) (rw q b)))

-- what comes after them does not change what they answer
module _ (st : State) (table buffer : Bool) (rest : ℕ) where
  pub lent_fails : (k : ℕ) → (k ≡ 0 → ⊥) → k ≡ lent_checks st table buffer 0 → k ≡ lent_checks st table buffer rest
  unfolding lent_checks check
  lent_fails k z e = go (state_formed st) table buffer e
    where
      go : (a b c : Bool) → k ≡ check a 1 (check b 2 (check c 3 0)) → k ≡ check a 1 (check b 2 (check c 3 rest))
      go false b c e = e
      go true false c e = e
      go true true false e = e
      go true true true e = absurd (z e)

  pub lent_passes : lent_checks st table buffer 0 ≡ 0 → lent_checks st table buffer rest ≡ rest
  unfolding lent_checks
  lent_passes e =
      let one = check_passed (state_formed st) 1 _ refl e in
      let two = check_passed table 2 _ refl one.1 in
      let three = check_passed buffer 3 _ refl two.1 in
      check_holds (state_formed st) 1 _ one.0 ∙ check_holds table 2 _ two.0 ∙ check_holds buffer 3 _ three.0

-- ---- then 4, 5 and 22

module _ (st : State) (table buffer : List ℕ) (a : ℕ) where
  module _ (k : ℕ) (n : k ≡ 0 → ⊥) (e : k ≡ lent_checks st (table_fits table) (buffer_fits buffer) 0) where
    pub event_lent : (event : Intrinsic) → k ≡ event_checks event st table buffer a
    unfolding event_checks
    event_lent event = lent_fails st _ _ _ k n e

    pub message_lent : (home : List ℕ) → k ≡ message_checks st table buffer home a
    unfolding message_checks
    message_lent home = lent_fails st _ _ _ k n e

  module _ (z : 0 ≡ lent_checks st (table_fits table) (buffer_fits buffer) 0) where
    passes : (rest : ℕ) → lent_checks st (table_fits table) (buffer_fits buffer) rest ≡ rest
    passes rest = lent_passes st (table_fits table) (buffer_fits buffer) rest (sym z)

    pub event_5 : 8 ≤ slot_of st a → (event : Intrinsic) → 5 ≡ event_checks event st table buffer a
    unfolding event_checks
    event_5 h event = sym (passes _ ∙ check_fails (ltb (slot_of st a) 8) 5 _ (le-ltb (slot_of st a) 8 h))

    module _ (i : ℕ) (f : i ≡ slot_of st a) (n : i < 8) where
      -- the slot is there: its clock decides
      by_time : (event : Event) (b : Bool) → has_time event (slot_at st i).seconds ≡ b → (x : Intrinsic) → event ≡ as_event x
          → check b 22 0 ≡ event_checks x st table buffer a
      unfolding event_checks
      by_time event b h x y = sym (passes _ ∙ check_holds (ltb (slot_of st a) 8) 5 _ (lt-ltb (slot_of st a) 8 (rw (← f) n)) ∙ rw (← y, ← f, h))

      pub event_22 : (event : Event) → has_time event (slot_at st i).seconds ≡ false → (x : Intrinsic) → event ≡ as_event x → 22 ≡ event_checks x st table buffer a
      unfolding check
      event_22 event = by_time event false

      pub event_0 : (event : Event) → has_time event (slot_at st i).seconds ≡ true → (x : Intrinsic) → event ≡ as_event x → 0 ≡ event_checks x st table buffer a
      unfolding check
      event_0 event = by_time event true

      pub event_met : Passed st table buffer a
      event_met = found st table buffer a 0 (lent_passed st (table_fits table) (buffer_fits buffer) 0 (sym z)) (lt-ltb (slot_of st a) 8 (rw (← f) n))

    module _ (home : List ℕ) where
      pub message_4 : good_home st.settings home ≡ false → 4 ≡ message_checks st table buffer home a
      unfolding message_checks
      message_4 h = sym (passes _ ∙ check_fails (good_home st.settings home) 4 _ h)

      module _ (h : good_home st.settings home ≡ true) where
        pub message_5 : 8 ≤ slot_of st a → 5 ≡ message_checks st table buffer home a
        unfolding message_checks
        message_5 n = sym (passes _ ∙ check_holds (good_home st.settings home) 4 _ h ∙ check_fails (ltb (slot_of st a) 8) 5 0 (le-ltb (slot_of st a) 8 n))

        pub message_0 : slot_of st a < 8 → 0 ≡ message_checks st table buffer home a
        unfolding message_checks
        message_0 n = sym (passes _ ∙ check_holds (good_home st.settings home) 4 _ h ∙ check_holds (ltb (slot_of st a) 8) 5 0 (lt-ltb (slot_of st a) 8 n))

-- what an event finds once its checks passed
module _ (event : Event) (st : State) (table buffer : List ℕ) (a i : ℕ) (f : EventSlot event st table buffer a (Ok i)) where
  pub slot_met : Passed st table buffer a
  slot_met = event_met st table buffer a (sym f.0) i f.1 f.2

  pub slot_checks : (x : Intrinsic) → event ≡ as_event x → 0 ≡ event_checks x st table buffer a
  slot_checks = event_0 st table buffer a (sym f.0) i f.1 f.2 event f.3
