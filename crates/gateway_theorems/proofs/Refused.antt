-- Refused calls change nothing. Assumes nothing.
use Prim.Native.Nat.{ℕ}
use mathlib.Core.Path.{◌≡◌, refl, sym, subst}
use mathlib.Core.Bool.{Bool, true, false, ◌||◌}
use mathlib.Core.List.{List}
use lib.Dec.{leb, eqb}
use native.Mathlib.Omega.{arith}
use borrow.Author.Tests.{leb-true, lt-leb, eqb-true, ne_eqb}
use Rattle.checks.specs.Checks.{check}
use Rattle.octets.specs.Buffer.{over}
use Rattle.nets.specs.Rows.{Row, rows_of}
use Rattle.neighbour.specs.declared.Settings.{Settings}
use Rattle.neighbour.specs.declared.Neighbour.{Neighbour}
use Rattle.neighbour_machine.specs.Intrinsics.{Intrinsic}
use Rattle.neighbour_machine.specs.declared.Reply.{Reply}
use Rattle.neighbour_machine.specs.declared.Reply.TheVariants.{Nothing}
use Rattle.gateway_state.specs.declared.State.{State}
use Rattle.gateway_state.specs.declared.Outcome.{Outcome}
use Rattle.gateway_state.specs.Slots.{slot_at, slot_of, present}
use Rattle.gateway_state.specs.Places.{row_counts}
use Rattle.gateway_state.proofs.SlotLaws.{same_slot_lem}
use Rattle.gateway_state.specs.Formed.{state_formed}
use Rattle.gateway_state.specs.Outcomes.{refused_of}
use Rattle.gateway_slots.proofs.Theorems.{add_claim, remove_claim}
use Rattle.gateway_rules.specs.Number.{named_reply}
use Rattle.gateway_rules.specs.Ruling.{Ruling, stepped, refuses, carried_out, receive_ruling}
use Rattle.gateway_rules.proofs.Rulings.{receive_holds}
use Rattle.gateway_rules.specs.Home.{good_home}
use Rattle.gateway_rules.specs.Carried.{first_octets, second_octets, reply_octets, table_after, count_after, slot_after, outcome_after, buffer_after}
use Rattle.gateway_rules.specs.Calls.{table_fits, buffer_fits, lent_checks, event_checks, message_checks, event_ruling, message_ruling, event_outcome, event_table, event_buffer, message_outcome, message_table, message_buffer}
use Rattle.gateway_theorems.specs.Claims.{neighbour_of, is_silent, Refused, Silent, RefusedChangesNothing}
use Rattle.gateway_theorems.proofs.Calls.{call_holds}
use Rattle.gateway_theorems.proofs.Listings.{listing_refused}
use Rattle.gateway_theorems.proofs.Alone.{reading_refused, writing_refused}

-- ---- the ruling

-- a ruling that refuses keeps the record, and its reply is the named one
pub Refusing : Settings → Neighbour → List ℕ → Ruling → Type 0
Refusing g n o x = (x.answer ≡ 0 → ⊥) → x ≡ refuses n x.answer (named_reply g n o x.answer)

pub receive_refusing : (room : ℕ) (g : Settings) (asn : ℕ) (n : Neighbour) (o : List ℕ) → Refusing g n o (receive_ruling room g asn n o)
unfolding Refusing refuses carried_out
receive_refusing room g asn n o = receive_holds room g asn n o (Refusing g n o) (λ k z e y. refl) (λ e y. absurd (y refl))

-- ---- what it leaves

module _ (st : State) (table buffer : List ℕ) (i answer : ℕ) (reply : Reply) (home : List Row) where
  pub refuses_leaves :
      Refused st table buffer reply home (outcome_after st i (slot_at st i) (refuses (slot_at st i).neighbour answer reply) home)
      (table_after table (row_counts st) i (refuses (slot_at st i).neighbour answer reply).change) (buffer_after buffer (refuses (slot_at st i).neighbour answer reply).reply home)
  unfolding outcome_after slot_after count_after table_after buffer_after refuses
  refuses_leaves = record { state = same_slot_lem st i; table = refl; buffer = refl; first = refl; second = refl }

-- ---- checks 1 to 5

five_checks : (Q : ℕ → Type 0) → Q 0 → Q 1 → Q 2 → Q 3 → Q 4 → Q 5 → (x y z u w : Bool) → Q (check x 1 (check y 2 (check z 3 (check u 4 (check w 5 0)))))
unfolding check
five_checks Q q0 q1 q2 q3 q4 q5 false y z u w = q1
five_checks Q q0 q1 q2 q3 q4 q5 true false z u w = q2
five_checks Q q0 q1 q2 q3 q4 q5 true true false u w = q3
five_checks Q q0 q1 q2 q3 q4 q5 true true true false w = q4
five_checks Q q0 q1 q2 q3 q4 q5 true true true true false = q5
five_checks Q q0 q1 q2 q3 q4 q5 true true true true true = q0

module _ (g : Settings) (n : Neighbour) (o : List ℕ) where
  early_silent : (st : State) (table buffer home : List ℕ) (a : ℕ) → named_reply g n o (message_checks st table buffer home a) ≡ Nothing
  unfolding message_checks lent_checks named_reply
  early_silent st table buffer home a =
      five_checks (λ k. named_reply g n o k ≡ Nothing) refl refl refl refl refl refl
      (state_formed st) (table_fits table) (buffer_fits buffer) (good_home st.settings home) (present st a)

  silent_named : (k : ℕ) → is_silent k ≡ true → named_reply g n o k ≡ Nothing
  unfolding named_reply
  silent_named k h = go (leb k 8) refl h
    where
      go : (b : Bool) → leb k 8 ≡ b → (b || eqb k 13) ≡ true → named_reply g n o k ≡ Nothing
      go true e q =
          let l = leb-true k 8 e in
          rw (ne_eqb k 9 (λ z. absurd (omega arith)), lt-leb 10 k (omega arith), ne_eqb k 14 (λ z. absurd (omega arith)), ne_eqb k 15 (λ z. absurd (omega arith)), ne_eqb k 21 (λ z. absurd (omega arith)))
      go false e q = rw (eqb-true k 13 q)

-- ---- the calls

nothing_silent : (st : State) (table buffer : List ℕ) (reply : Reply) (home : List Row) (r : Outcome) (t b : List ℕ) → reply ≡ Nothing
    → Refused st table buffer reply home r t b → Silent st table buffer r t b
unfolding refused_of reply_octets first_octets second_octets over
nothing_silent st table buffer reply home r t b e f =
    let x : r.first ≡ 0 = rw e at f.first in
    let y : r.second ≡ 0 = rw e at f.second in
    record {
      outcome = λ k. record { answer = r.answer; first = x k; second = y k; state = f.state k };
      table = f.table;
      buffer = rw e at f.buffer;
    }

refused_early : (st : State) (table buffer : List ℕ) (reply : Reply) (home : List Row) (k : ℕ) → reply ≡ Nothing
    → Refused st table buffer reply home (refused_of st k) table buffer
unfolding refused_of reply_octets first_octets second_octets over
refused_early st table buffer reply home k e = rw e (record { state = refl; table = refl; buffer = refl; first = refl; second = refl })

event_refused : (event : Intrinsic) (st : State) (table buffer : List ℕ) (a : ℕ) → ((event_outcome event st table buffer a).answer ≡ 0 → ⊥)
    → Silent st table buffer (event_outcome event st table buffer a) (event_table event st table buffer a) (event_buffer event st table buffer a)
unfolding event_outcome event_table event_buffer event_ruling stepped outcome_after refused_of
event_refused event st table buffer a =
    call_holds (λ r t b. (r.answer ≡ 0 → ⊥) → Silent st table buffer r t b) (event_checks event st table buffer a) _ _ _ _ _ _
    (λ _ z. absurd (z refl)) (λ _ _. record { outcome = refl; table = refl; buffer = refl })

message_ruling_refusing : (st : State) (a : ℕ) (o : List ℕ) → Refusing st.settings (neighbour_of st a) o (message_ruling st a o)
unfolding message_ruling
message_ruling_refusing st a o = receive_refusing _ st.settings (slot_at st (slot_of st a)).asn (neighbour_of st a) o

module _ (st : State) (table buffer : List ℕ) (home : List Row) (o : List ℕ) (i : ℕ) (v : Ruling) where
  ruling_refused : Refusing st.settings (slot_at st i).neighbour o v → ((outcome_after st i (slot_at st i) v home).answer ≡ 0 → ⊥)
      → Refused st table buffer (named_reply st.settings (slot_at st i).neighbour o (outcome_after st i (slot_at st i) v home).answer) home
      (outcome_after st i (slot_at st i) v home) (table_after table (row_counts st) i v.change) (buffer_after buffer v.reply home)
  unfolding Refusing outcome_after
  ruling_refused e z =
      let reply = named_reply st.settings (slot_at st i).neighbour o v.answer in
      subst (λ (w : Ruling). Refused st table buffer reply home (outcome_after st i (slot_at st i) w home) (table_after table (row_counts st) i w.change) (buffer_after buffer w.reply home))
      (sym (e z)) (refuses_leaves st table buffer i v.answer reply home)

message_refused : (st : State) (table buffer home : List ℕ) (a : ℕ) (o : List ℕ) → ((message_outcome st table buffer home a o).answer ≡ 0 → ⊥)
    → Refused st table buffer (named_reply st.settings (neighbour_of st a) o (message_outcome st table buffer home a o).answer) (rows_of home)
    (message_outcome st table buffer home a o) (message_table st table buffer home a o) (message_buffer st table buffer home a o)
unfolding message_outcome message_table message_buffer refused_of
message_refused st table buffer home a o =
    let named = named_reply st.settings (neighbour_of st a) o in
    call_holds (λ r t b. (r.answer ≡ 0 → ⊥) → Refused st table buffer (named r.answer) (rows_of home) r t b) (message_checks st table buffer home a) _ _ _ _ _ _
    (λ _. ruling_refused st table buffer (rows_of home) o (slot_of st a) (message_ruling st a o) (message_ruling_refusing st a o))
    (λ _ _. refused_early st table buffer _ (rows_of home) _ (early_silent st.settings (neighbour_of st a) o st table buffer home a))

pub refused_changes_nothing : RefusedChangesNothing
refused_changes_nothing =
    record {
      events = event_refused;
      messages = message_refused;
      silent_messages = λ st table buffer home a o z s.
          nothing_silent st table buffer _ (rows_of home) _ _ _ (silent_named st.settings (neighbour_of st a) o _ s) (message_refused st table buffer home a o z);
      add = λ st address asn e z. (add_claim st address asn e).0.refused z;
      remove = λ st address e z. (remove_claim st address e).0.refused z;
      listings = listing_refused;
      readings = reading_refused;
      writings = writing_refused;
    }
