-- What the checks of a call tell once they are passed. Assumes nothing.
use Prim.Native.Nat.{ℕ, ◌≤◌, ◌<◌}
use borrow.Author.Tests.{eqb-true, leb-true, ltb-true}
use mathlib.Core.Path.{◌≡◌, refl}
use mathlib.Core.Bool.{Bool, true}
use mathlib.Core.List.{List}
use lib.ListN.{length}
use Rattle.checks.proofs.Laws.{check_passed}
use Rattle.neighbour_machine.specs.Intrinsics.{Intrinsic, as_event}
use Rattle.gateway_state.specs.declared.State.{State}
use Rattle.gateway_state.specs.Slots.{slot_at, slot_of, present}
use Rattle.gateway_state.specs.Formed.{state_formed}
use Rattle.gateway_rules.specs.Home.{good_home}
use Rattle.gateway_rules.specs.Seconds.{has_time}
use Rattle.gateway_rules.specs.Calls.{table_fits, buffer_fits, lent_checks, event_checks, message_checks}

-- 1, 2 and 3
pub record LentPassed (st : State) (table buffer : Bool) (rest : ℕ) : Type 0 where
  pub formed : state_formed st ≡ true
  pub numbers : table ≡ true
  pub octets : buffer ≡ true
  pub then : rest ≡ 0

pub lent_passed : (st : State) (table buffer : Bool) (rest : ℕ) → lent_checks st table buffer rest ≡ 0 → LentPassed st table buffer rest
unfolding lent_checks
lent_passed st table buffer rest e =
    let one = check_passed (state_formed st) 1 _ refl e in
    let two = check_passed table 2 _ refl one.1 in
    let three = check_passed buffer 3 _ refl two.1 in
    record { formed = one.0; numbers = two.0; octets = three.0; then = three.1 }

-- 1, 2, 3 and 5
pub record Passed (st : State) (table buffer : List ℕ) (a : ℕ) : Type 0 where
  pub formed : state_formed st ≡ true
  pub long : length table ≡ 3072
  pub room : 2048 ≤ length buffer
  pub found : slot_of st a < 8

module _ (st : State) (table buffer : List ℕ) (a : ℕ) where
  pub found : (rest : ℕ) → LentPassed st (table_fits table) (buffer_fits buffer) rest → present st a ≡ true → Passed st table buffer a
  found rest p f =
      record {
        formed = p.formed;
        long = eqb-true (length table) 3072 p.numbers;
        room = leb-true 2048 (length buffer) p.octets;
        found = ltb-true (slot_of st a) 8 f;
      }

  pub event_passed : (event : Intrinsic) → event_checks event st table buffer a ≡ 0 → Passed st table buffer a
  unfolding event_checks
  event_passed event e =
      let p = lent_passed st (table_fits table) (buffer_fits buffer) _ e in found _ p (check_passed (present st a) 5 _ refl p.then).0

  -- then 22
  pub event_timed : (event : Intrinsic) → event_checks event st table buffer a ≡ 0 → has_time (as_event event) (slot_at st (slot_of st a)).seconds ≡ true
  unfolding event_checks
  event_timed event e =
      let p = lent_passed st (table_fits table) (buffer_fits buffer) _ e in
      let five = check_passed (present st a) 5 _ refl p.then in
      (check_passed (has_time (as_event event) (slot_at st (slot_of st a)).seconds) 22 0 refl five.1).0

  pub message_passed : (home : List ℕ) → message_checks st table buffer home a ≡ 0 → Passed st table buffer a × (good_home st.settings home ≡ true)
  unfolding message_checks
  message_passed home e =
      let lent = lent_passed st (table_fits table) (buffer_fits buffer) _ e in
      let four = check_passed (good_home st.settings home) 4 _ refl lent.then in
      (found _ lent (check_passed (present st a) 5 0 refl four.1).0, four.0)
