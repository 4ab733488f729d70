-- What each return of fresh, add and remove comes to, over plain states and numbers. Assumes nothing.
use Prim.Native.Nat.{ℕ, ◌≤◌, ◌<◌}
use mathlib.Core.Path.{◌≡◌, refl, ◌∙◌}
use mathlib.Core.Bool.{true, false, not, ◌&&◌}
use borrow.Author.Tests.{lt-ltb, le-ltb}
use Rattle.checks.proofs.Laws.{check_holds, check_fails}
use Rattle.neighbour.specs.Record.{is_idle}
use Rattle.neighbour.specs.declared.Settings.{Settings}
use Rattle.gateway_state.specs.declared.State.{State}
use Rattle.gateway_state.specs.Slots.{newcomer, free_slot, slot_at, with_slot, slot_of, present, lowest_free}
use Rattle.gateway_state.specs.Formed.{good_settings, good_peer, state_formed}
use Rattle.gateway_state.specs.Outcomes.{refused_of, silent_of}
use Rattle.gateway_state.proofs.OutcomeLaws.{silent_refused, silent_done}
use Rattle.gateway_slots.specs.Calls.{empty_state, zero_state, fresh_answer, fresh_of, add_answer, add_of, remove_answer, remove_of}

module _ (g : Settings) where
  pub fresh_16 : good_settings g ≡ false → refused_of zero_state 16 ≡ fresh_of g
  unfolding fresh_of fresh_answer
  fresh_16 e = silent_refused _ _ zero_state 16 (check_fails _ 16 0 e) refl

  pub fresh_done : good_settings g ≡ true
      → silent_of 0 (empty_state g) (empty_state g) ≡ fresh_of g
  unfolding fresh_of fresh_answer
  fresh_done e = silent_done _ _ zero_state (check_holds _ 16 0 e)

module _ (st : State) (address asn : ℕ) where
  pub add_1 : state_formed st ≡ false → refused_of st 1 ≡ add_of st address asn
  unfolding add_of add_answer
  add_1 f = silent_refused _ _ st 1 (check_fails _ 1 _ f) refl

  module _ (f : state_formed st ≡ true) where
    pub add_16 : good_peer st.settings address asn ≡ false → refused_of st 16 ≡ add_of st address asn
    unfolding add_of add_answer
    add_16 p = silent_refused _ _ st 16 (check_holds _ 1 _ f ∙ check_fails _ 16 _ (rw p)) refl

    module _ (p : good_peer st.settings address asn ≡ true) where
      pub add_present : slot_of st address < 8 → refused_of st 16 ≡ add_of st address asn
      unfolding add_of add_answer
      add_present h = silent_refused _ _ st 16 (check_holds _ 1 _ f ∙ check_fails _ 16 _ (rw (p, lt-ltb (slot_of st address) 8 h))) refl

      module _ (h : 8 ≤ slot_of st address) where
        good : (good_peer st.settings address asn && not (present st address)) ≡ true
        good = rw (p, le-ltb (slot_of st address) 8 h)

        pub add_17 : 8 ≤ lowest_free st → refused_of st 17 ≡ add_of st address asn
        unfolding add_of add_answer
        add_17 q =
            silent_refused _ _ st 17
            (check_holds _ 1 _ f ∙ check_holds _ 16 _ good ∙ check_fails _ 17 _ (le-ltb (lowest_free st) 8 q)) refl

        pub add_done : lowest_free st < 8
            → silent_of 0 (with_slot st (lowest_free st) (newcomer address asn)) (with_slot st (lowest_free st) (newcomer address asn))
            ≡ add_of st address asn
        unfolding add_of add_answer
        add_done q =
            silent_done _ _ st
            (check_holds _ 1 _ f ∙ check_holds _ 16 _ good ∙ check_holds _ 17 _ (lt-ltb (lowest_free st) 8 q))

module _ (st : State) (address : ℕ) where
  pub remove_1 : state_formed st ≡ false → refused_of st 1 ≡ remove_of st address
  unfolding remove_of remove_answer
  remove_1 f = silent_refused _ _ st 1 (check_fails _ 1 _ f) refl

  module _ (f : state_formed st ≡ true) where
    pub remove_5 : 8 ≤ slot_of st address → refused_of st 5 ≡ remove_of st address
    unfolding remove_of remove_answer
    remove_5 h = silent_refused _ _ st 5 (check_holds _ 1 _ f ∙ check_fails _ 5 _ (le-ltb (slot_of st address) 8 h)) refl

    module _ (h : slot_of st address < 8) where
      pub remove_18 : is_idle (slot_at st (slot_of st address)).neighbour.phase ≡ false → refused_of st 18 ≡ remove_of st address
      unfolding remove_of remove_answer
      remove_18 i =
          silent_refused _ _ st 18
          (check_holds _ 1 _ f ∙ check_holds _ 5 _ (lt-ltb (slot_of st address) 8 h) ∙ check_fails _ 18 _ i) refl

      pub remove_done : is_idle (slot_at st (slot_of st address)).neighbour.phase ≡ true
          → silent_of 0 (with_slot st (slot_of st address) free_slot) (with_slot st (slot_of st address) free_slot) ≡ remove_of st address
      unfolding remove_of remove_answer
      remove_done i =
          silent_done _ _ st
          (check_holds _ 1 _ f ∙ check_holds _ 5 _ (lt-ltb (slot_of st address) 8 h) ∙ check_holds _ 18 _ i)
