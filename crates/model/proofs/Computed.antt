-- The example, computed. Assumes nothing.
use Prim.Native.Nat.{ℕ, zero, suc, ◌+◌, ◌*◌, ◌%◌}
use mathlib.Core.Path.{◌≡◌, refl, ◌∙◌, ap}
use mathlib.Core.Bool.{Bool, true, false, not, ◌&&◌}
use mathlib.Core.List.{List, [], ◌∷◌, ◌++◌, map}
use lib.Dec.{ltb, eqb}
use lib.ListN.{length}
use Rattle.neighbour.specs.declared.Phase.{Phase}
use Rattle.neighbour.specs.declared.Phase.TheVariants.{Idle, Up}
use Rattle.neighbour.specs.declared.Mode.TheVariants.{Passive}
use Rattle.neighbour.specs.declared.Neighbour.{Neighbour}
use Rattle.neighbour.specs.Record.{is_up, acquired, with_numbers, with_timers, with_reach, initialised}
use Rattle.neighbour.specs.Rules.{ones_of, goes_down}
use Rattle.checks.specs.Lists.{every}
use Rattle.gateway_state.specs.Formed.{state_formed}
use Rattle.codec_writing.specs.Octets.{message_octets}
use Rattle.message.specs.declared.Message.TheVariants.{Hello, Update}
use Rattle.neighbour_seconds.specs.declared.Seconds.{Seconds}
use Rattle.neighbour_seconds.specs.Seconds.{clock_full}
use Rattle.neighbour_seconds.specs.Seconds.{counted}
use Rattle.neighbour_seconds.specs.Cases.{seconds}
use Rattle.neighbour_machine.specs.declared.Event.TheVariants.{Tick}
use Rattle.neighbour_machine.specs.Step.{step_of}
use Rattle.checks.specs.Checks.{check, if_ok}
use Rattle.checks.specs.Lists.{first}
use Rattle.update_rows.specs.Storing.{zeros}
use Rattle.model.specs.Model.{Call, add, model, tick, receive, peer_with, new_peer, Slot, free, used, Model, slot_in, put, has_address, found_at, is_present, no_octets, rows_in_phase, moved, seconds_after, event_move, is_late, event_answer, turn_at, event_turn, step, model_from, empty}
use Rattle.model.specs.History.{is_up_slot, accepts}
use Rattle.model.specs.Ticks.{ticks, changes_hands, keeps_hands, ticks_finding, ticks_since}
use Rattle.model.specs.Theorem.{cell, state_of, rows_held}
use Rattle.model.specs.Windows.{record_in, brings, restarts_none, windows, latest}
use Rattle.model.specs.Corollaries.{reports}
use Rattle.model.specs.Quick.{hello_comes, is_other_hello, hello_every_tick}
use Rattle.model.specs.Example.{some_settings, quiet_settings, lent_buffer, class_a, tick_seconds, says_hello, reporting_calls, eight, poll_rounds, almost_up, acquired_calls, greeted, abandoned, hello_seconds, slow, through_all, briefly, anew, phases, long_added, late_first}
use Rattle.model.proofs.Unfolded.{opened}

-- ---- what is claimed of a model: single fields, so that others may be added to a record

-- 128 rows
unfoldable pub is_full : Slot → Bool
is_full slot = eqb (length (rows_held slot)) 128

-- every slot has them, the first two report 10.0.0.0, and the first is Up with AS 7, with room for another second
unfoldable pub all_report : Model → Bool
all_report m =
    every is_full m.slots
    && (reports 167772160 (rows_held (slot_in m 0))
    && (reports 167772160 (rows_held (slot_in m 1)) && (eqb (cell (slot_in m 0)).asn 7 && (not (clock_full (cell (slot_in m 0)).seconds) && is_up (record_in m 0).phase))))

-- at the next tick the first one's register is evaluated, and it goes Down
unfoldable pub falls_silent : Neighbour → Bool
falls_silent n = eqb n.t1 1 && goes_down n.mode (ones_of ((n.register * 2 + n.heard) % 16))

-- in one test, so that the run is computed once: S is 1; and with t3 of the first at 1 all is as well formed
unfoldable pub eight_facts : Model → Bool
eight_facts m =
    all_report m
    && (eqb (record_in m 0).s 1
    && (all_report (late_first m) && (state_formed (state_of (late_first m)) && eqb (record_in (late_first m) 0).t3 1)))

unfoldable pub silent_facts : Model → Bool
silent_facts m = all_report m && falls_silent (record_in m 0)

-- a passive neighbour in Up with T1 and T2 122 and these numbers; all else as in n
unfoldable pub at_rest : Neighbour → (s register heard t1 t2 t3 : ℕ) → Neighbour
at_rest n s register heard t1 t2 t3 =
    with_reach (with_timers (with_numbers (initialised n 122 122 Passive) s 0) t1 t2 t3) Up register heard

-- Up after 122 seconds in Down, for so many
abbrev pub up_for : ℕ → Seconds
up_for u = record { idle = 0; acquisition = 0; down = 122; up = u; cease = 0 }

-- a model with such a one in slot 0 alone, which reported 128 nets and is Up for so many seconds
unfoldable pub lone : Neighbour → Seconds → Model
lone n s =
    record {
      settings = some_settings;
      slots = used (peer_with (new_peer 1 7) n (class_a 0 128) s) ∷ free ∷ free ∷ free ∷ free ∷ free ∷ free ∷ free ∷ [];
    }

abbrev pub alone : Neighbour → ℕ → Model
alone n u = lone n (up_for u)

-- this model is one, with these numbers, whatever else the record holds
pub record Rests (m : Model) (u s register heard t1 t2 t3 : ℕ) : Type 0 where
  pub base : Neighbour
  pub is : m ≡ alone (at_rest base s register heard t1 t2 t3) u

-- the record after so many ticks, and whether it is Up after each
unfoldable pub ticked : ℕ → Neighbour → Neighbour
ticked zero n = n
ticked (suc k) n = ticked k (step_of some_settings 7 n Tick no_octets).neighbour

unfoldable pub stays_up : ℕ → Neighbour → Bool
stays_up zero n = true
stays_up (suc k) n = is_up (step_of some_settings 7 n Tick no_octets).neighbour.phase && stays_up k (step_of some_settings 7 n Tick no_octets).neighbour

-- at rest with a full register, once it says Hello
unfoldable pub greeting : Neighbour → ℕ → Neighbour
greeting n s = record_in (model_from (alone (at_rest n s 15 0 122 122 3478) 0) (says_hello 1 ∷ [])) 0

-- Up after so many ticks, at rest
pub record RestsAfter (k : ℕ) (n : Neighbour) (s register heard t1 t2 t3 : ℕ) : Type 0 where
  pub up : stays_up k n ≡ true
  pub is : ticked k n ≡ at_rest (ticked k n) s register heard t1 t2 t3

-- entered Up by its last call
unfoldable pub entered : List Call
entered = almost_up ++ (tick 1 lent_buffer ∷ [])

-- the first is in Down or Up with AS 7, and the next Hello or Poll comes too soon
unfoldable pub greeted_facts : Model → Bool
greeted_facts m =
    eqb (cell (slot_in m 0)).asn 7
    && (acquired (record_in m 0).phase && (ltb (record_in m 0).sincehello 30 && ltb (record_in m 0).sincepoll 120))

-- the first is Idle, at address 1 with AS 7
pub record IdleAgain (m : Model) : Type 0 where
  pub address : (cell (slot_in m 0)).address ≡ 1
  pub asn : (cell (slot_in m 0)).asn ≡ 7
  pub phase : (record_in m 0).phase ≡ Idle

-- the one whose clock is full
pub record Full (m : Model) : Type 0 where
  pub formed : state_formed (state_of m) ≡ true
  pub seconds : clock_full (cell (slot_in m 0)).seconds ≡ true
  pub address : (cell (slot_in m 0)).address ≡ 1

pub record Computed : Type 0 where
  pub all_up : eight_facts (model_from (empty some_settings) eight) ≡ true
  pub silent : silent_facts (model_from (empty some_settings) (eight ++ tick_seconds 1 609)) ≡ true
  -- polled three times, the register is full; from then on each poll moves S alone
  pub one_up : Rests (model_from (empty some_settings) (reporting_calls 1)) 0 1 1 1 122 122 3600
  pub full : (n : Neighbour) → Rests (model_from (alone (at_rest n 1 1 1 122 122 3600) 0) (poll_rounds 3)) 366 4 15 0 122 122 3478
  -- a tick moves the record and its seconds, whatever they are
  pub tick_moves :
      (n : Neighbour) (u : ℕ) → clock_full (up_for u) ≡ false → n.phase ≡ Up → is_up (step_of some_settings 7 n Tick no_octets).neighbour.phase ≡ true
      → (step (tick 1 lent_buffer) (alone n u)).model ≡ alone (step_of some_settings 7 n Tick no_octets).neighbour (u + 1)
  pub hello_moves : (n : Neighbour) (s u : ℕ) → model_from (alone (at_rest n s 15 0 122 122 3478) u) (says_hello 1 ∷ []) ≡ alone (greeting n s) u
  pub greets : (n : Neighbour) (s : ℕ) → (greeting n s).phase ≡ Up
  pub once : (n : Neighbour) (s : ℕ) → RestsAfter 122 (greeting n s) ((s + 1) % 65536) 15 0 122 122 3478
  pub due : (n : Neighbour) → RestsAfter 121 (greeting n 65535) 65535 15 1 1 1 3479
  pub wraps : (n : Neighbour) → RestsAfter 1 (at_rest n 65535 15 1 1 1 3479) 0 15 0 122 122 3478
  -- the quiet neighbour
  pub not_yet : is_up_slot (slot_in (model_from (empty some_settings) almost_up) 0) ≡ false
  pub just_up : is_up_slot (slot_in (model_from (empty some_settings) entered) 0) ≡ true
  pub passive : (record_in (model_from (empty some_settings) entered) 0).mode ≡ Passive
  pub unrestarted : restarts_none (model_from (empty some_settings) entered) 0 (slow 1 129) ≡ true
  pub ended : windows (model_from (empty some_settings) entered) 0 false (slow 1 129) ≡ true ∷ false ∷ false ∷ false ∷ true ∷ []
  pub last : latest (model_from (empty some_settings) entered) 0 [] (slow 1 129) ≡ class_a 11 1
  pub lost : is_up_slot (slot_in (model_from (empty some_settings) (entered ++ slow 2 2)) 0) ≡ false
  pub taken : accepts (model_from (empty some_settings) entered) 0 (receive 1 (message_octets (Update 7 1 129 2148073472) (class_a 10 1)) [] lent_buffer) ≡ true
  -- the quick one
  pub acquired_passive : (record_in (model_from (empty some_settings) acquired_calls) 0).mode ≡ Passive
  pub comes : hello_comes (model_from (empty some_settings) acquired_calls) 0 (says_hello 1) ≡ true
  pub zero : (step (says_hello 1) (model_from (empty some_settings) acquired_calls)).said.answer ≡ 0
  pub every_tick : hello_every_tick (model_from (empty some_settings) (acquired_calls ++ (says_hello 1 ∷ []))) 0 false (hello_seconds 1 64) ≡ true
  pub both_heard : windows (model_from (empty some_settings) (acquired_calls ++ (says_hello 1 ∷ []))) 0 true (hello_seconds 1 64) ≡ true ∷ true ∷ []
  pub other : brings is_other_hello (model_from (empty some_settings) acquired_calls) 0 (receive 1 (message_octets (Hello 7 0 2) []) [] lent_buffer) ≡ true
  pub greeted_so : greeted_facts (model_from (empty some_settings) greeted) ≡ true
  -- the one that was given up
  pub idle_again : IdleAgain (model_from (empty some_settings) abandoned)
  pub idle_quietly : IdleAgain (model_from (empty quiet_settings) abandoned)
  -- the one whose seconds are counted
  pub added : changes_hands (model some_settings []) 0 (add 1 7) ≡ true
  pub kept : keeps_hands some_settings 0 (add 1 7 ∷ []) through_all ≡ true
  pub counts : (cell (slot_in (model some_settings (add 1 7 ∷ through_all)) 0)).seconds ≡ seconds 5 5 32 7 4
  pub ticked_so : ticks (model some_settings (add 1 7 ∷ [])) 0 (tick 1 lent_buffer) ≡ true
  pub shortened : ticks (model some_settings (add 1 7 ∷ [])) 0 (tick 1 []) ≡ false
  pub brief : (cell (slot_in (model some_settings briefly) 0)).seconds ≡ seconds 2 2 0 0 0
  pub told : map (λ (p : Phase). ticks_finding some_settings 0 p briefly) phases ≡ 2 ∷ 2 ∷ 0 ∷ 0 ∷ 0 ∷ []
  pub all : ticks_since some_settings 0 briefly ≡ 4
  pub again : (cell (slot_in (model some_settings anew) 0)).seconds ≡ seconds 1 0 0 0 0
  pub told_again : map (λ (p : Phase). ticks_finding some_settings 0 p anew) phases ≡ 1 ∷ 0 ∷ 0 ∷ 0 ∷ 0 ∷ []
  pub all_again : ticks_since some_settings 0 anew ≡ 1
  pub brim : Full long_added

-- only the clock and the phase are looked at
tick_lone : (n : Neighbour) (s : Seconds) → clock_full s ≡ false → is_up (step_of some_settings 7 n Tick no_octets).neighbour.phase ≡ true
    → (step (tick 1 lent_buffer) (lone n s)).model ≡ lone (step_of some_settings 7 n Tick no_octets).neighbour (counted n.phase s)
unfolding lone step event_turn turn_at event_answer is_late is_present found_at slot_in first has_address check if_ok put event_move moved rows_in_phase seconds_after lent_buffer zeros
tick_lone n s e q = rw (e, q)

up_more : (p : Phase) (u : ℕ) → p ≡ Up → counted p (up_for u) ≡ up_for (u + 1)
unfolding counted
up_more p u e = rw e

pub computed : Computed
unfolding opened entered is_full all_report falls_silent eight_facts silent_facts at_rest lone ticked stays_up greeting greeted_facts
computed =
    record {
      all_up = refl;
      silent = refl;
      one_up = record { base = record_in (model_from (empty some_settings) (reporting_calls 1)) 0; is = refl };
      full = λ n. record { base = record_in (model_from (alone (at_rest n 1 1 1 122 122 3600) 0) (poll_rounds 3)) 0; is = refl };
      tick_moves = λ n u e p q. tick_lone n (up_for u) e q ∙ ap (lone (step_of some_settings 7 n Tick no_octets).neighbour) (up_more n.phase u p);
      hello_moves = λ n s u. refl;
      greets = λ n s. refl;
      once = λ n s. record { up = refl; is = refl };
      due = λ n. record { up = refl; is = refl };
      wraps = λ n. record { up = refl; is = refl };
      not_yet = refl;
      just_up = refl;
      passive = refl;
      unrestarted = refl;
      ended = refl;
      last = refl;
      lost = refl;
      taken = refl;
      acquired_passive = refl;
      comes = refl;
      zero = refl;
      every_tick = refl;
      both_heard = refl;
      other = refl;
      greeted_so = refl;
      idle_again = record { address = refl; asn = refl; phase = refl };
      idle_quietly = record { address = refl; asn = refl; phase = refl };
      added = refl;
      kept = refl;
      counts = refl;
      ticked_so = refl;
      shortened = refl;
      brief = refl;
      told = refl;
      all = refl;
      again = refl;
      told_again = refl;
      all_again = refl;
      brim = record { formed = refl; seconds = refl; address = refl };
    }
