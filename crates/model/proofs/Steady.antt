-- No call of a list is answered 1 or 2, and what is refused or lists changes nothing. Assumes nothing.
use Prim.Native.Nat.{ℕ}
use mathlib.Core.Path.{◌≡◌, refl, sym, ◌∙◌, ap}
use mathlib.Core.Bool.{Bool, true, false, not, ◌&&◌, ◌||◌, false≢true}
use mathlib.Core.List.{List, [], ◌∷◌}
use lib.Dec.{ltb, leb, eqb}
use lib.ListN.{length}
use lib.Seq.{set-get_or}
use borrow.Author.Tests.{eqb-true, eqb-false}
use Rattle.std.specs.Prelude.{Option, Some, None, Result, Ok}
use Rattle.checks.specs.declared.Refusal.{Refusal}
use Rattle.checks.specs.Checks.{check, if_ok}
use Rattle.checks.specs.Lists.{every}
use Rattle.neighbour.specs.Record.{is_up}
use Rattle.checks.proofs.Laws.{cond_elim, and_left, and_right, check_holds, if_ok_new, if_ok_old}
use Rattle.message.specs.Kinds.{status_allowed, length_allowed}
use Rattle.message.specs.declared.Kind.{Kind}
use Rattle.message.specs.declared.Message.{Message}
use Rattle.nets.specs.Rows.{Row, rows_of}
use Rattle.message_reading.specs.Reading.{size_allowed, version_is2, checksum_holds, header_answer, asn_at, status_at, kind_in, meaning_of, decode_as, decode_of}
use Rattle.message_reading.proofs.Laws.{header_checks}
use Rattle.update_walk.specs.Body.{UpdateRead, accepted, broken_at, too_many, update_of}
use Rattle.neighbour.specs.declared.Settings.{Settings}
use Rattle.neighbour.specs.declared.Neighbour.{Neighbour}
use Rattle.neighbour.specs.Rules.{in_sequence, too_quick}
use Rattle.neighbour_machine.specs.Intrinsics.{Intrinsic}
use Rattle.gateway_state.specs.Formed.{state_formed}
use Rattle.gateway_state.specs.Outcomes.{refused_of}
use Rattle.gateway_slots.specs.Calls.{fresh_of}
use Rattle.gateway_rules.specs.Home.{good_home}
use Rattle.gateway_rules.specs.Calls.{table_fits, lent_checks}
use Rattle.listing_lines.specs.Listing.{entries, listable, listing_checks, listing_outcome}
use Rattle.model.specs.Model.{Call, add, remove, happen, receive, listing, Slot, free, used, Model, slot_in, put, found_at, is_present, vacancy, Said, silent, spoken, addable, answer_to_add, is_idle_slot, answer_to_remove, add_turn, remove_turn, Move, no_move, moved, event_move, body_answer, is_update, kind_answer, answer_to, message_move, is_late, event_answer, message_answer, turn_at, event_turn, message_turn, listing_answer, listing_said, listing_turn, step, model, model_from, empty}
use Rattle.model.specs.Theorem.{Gateway, outcome_of, gateway_step, run, state_of, table_of, carries_octets, lists_nothing, Steady, NeverOneOrTwo}
use Rattle.model.proofs.Represent.{Good}
use Rattle.model.proofs.Listed.{Marked, marked_step}
use Rattle.model.proofs.Simulation.{spoken_answer, represent, Heeds, simulates}
use Rattle.model.proofs.History.{message_stays}
use Rattle.model.proofs.Theorem.{step_is, empty_marked, run_is, model_good}

-- ---- 0, or 3 and above

abbrev High : ℕ → Type 0
High k = (eqb k 0 || leb 3 k) ≡ true

not_one : (k : ℕ) → High k → k ≡ 1 → ⊥
not_one k h e = false≢true (rw e at h)

not_two : (k : ℕ) → High k → k ≡ 2 → ⊥
not_two k h e = false≢true (rw e at h)

check_high : (b : Bool) (k rest : ℕ) → High k → High rest → High (check b k rest)
unfolding check
check_high true k rest h r = r
check_high false k rest h r = h

when_high : (k : ℕ) (s : Said) → High k → High s.answer → High (if_ok k s (silent k)).answer
unfolding if_ok silent
when_high k s h r = cond_elim (λ (x : Said). High x.answer) (eqb k 0) s _ (λ _. r) (λ _. h)

header_high : (o : List ℕ) → High (header_answer o)
header_high o =
    rw (header_checks o)
    (check_high (size_allowed o) 6 _ refl (check_high (version_is2 o) 7 _ refl (check_high (checksum_holds o) 8 0 refl refl)))

body_high : (u : UpdateRead) → High (body_answer u)
unfolding body_answer
body_high (accepted rows) = refl
body_high (broken_at offset) = refl
body_high too_many = refl

meaning_high : (g : Settings) (n : Neighbour) (o : List ℕ) (m : Message) → High (kind_answer g n o (Ok m))
unfolding kind_answer
meaning_high g n o m =
    check_high (in_sequence n m) 13 _ refl
    (check_high (not (too_quick n m)) 21 _ refl (cond_elim High (is_update m && is_up n.phase) _ 0 (λ _. body_high (update_of 128 g.net o)) (λ _. refl)))

-- the kind stage's refusals are 10, 11 and 12
kind_high : (g : Settings) (n : Neighbour) (o : List ℕ) → High (kind_answer g n o (decode_of o))
unfolding kind_answer decode_of decode_as
kind_high g n o = go (kind_in o)
  where
    go : (k : Option Kind) → High (kind_answer g n o (decode_as k o))
    go None = refl
    go (Some kind) =
        cond_elim (λ (d : Result Message Refusal). High (kind_answer g n o d)) (status_allowed kind (status_at o)) _ _
        (λ _. cond_elim (λ (d : Result Message Refusal). High (kind_answer g n o d)) (length_allowed kind (length o)) _ _
        (λ _. meaning_high g n o (meaning_of kind o)) (λ _. refl)) (λ _. refl)

answer_high : (g : Settings) (asn : ℕ) (n : Neighbour) (o : List ℕ) → High (answer_to g asn n o)
unfolding answer_to if_ok
answer_high g asn n o =
    cond_elim High (eqb (header_answer o) 0) _ (header_answer o)
    (λ _. check_high (eqb (asn_at o) asn) 9 _ refl (kind_high g n o)) (λ _. header_high o)

event_answers : (g : Settings) (event : Intrinsic) (slot : Slot) → (event_move g event slot).answer ≡ 0
unfolding event_move no_move moved
event_answers g event free = refl
event_answers g event (used peer) = refl

message_high : (g : Settings) (o : List ℕ) (slot : Slot) → High (message_move g o slot).answer
unfolding message_move no_move moved if_ok
message_high g o free = refl
message_high g o (used peer) =
    cond_elim (λ (x : Move). High x.answer) (eqb (answer_to g peer.asn peer.neighbour o) 0) _ _ (λ _. refl) (λ _. answer_high g peer.asn peer.neighbour o)

module _ (m : Model) where
  turn_high : (k place : ℕ) (move : Move) (home : List Row) → High k → High move.answer → High (turn_at m k place move home).said.answer
  unfolding turn_at
  turn_high k place move home h r = when_high k (spoken move.answer move.reply home) h (rw spoken_answer r)

  event_high : (event : Intrinsic) (a : ℕ) (buffer : List ℕ) → High (event_turn event m a buffer).said.answer
  unfolding event_turn event_answer
  event_high event a buffer =
      turn_high _ (found_at m a) _ [] (check_high (leb 2048 (length buffer)) 3 _ refl (check_high (is_present m a) 5 _ refl (check_high (not (is_late event (slot_in m (found_at m a)))) 22 0 refl refl)))
      (rw (event_answers m.settings event (slot_in m (found_at m a))))

  -- 01: "1 and 2 never fail here", of the model's own answers
  said_high : (call : Call) → High (step call m).said.answer
  unfolding step add_turn remove_turn answer_to_add answer_to_remove message_turn message_answer listing_turn listing_answer listing_said silent
  said_high (add address asn) = check_high (addable m address asn) 16 _ refl (check_high (ltb (vacancy m) 8) 17 0 refl refl)
  said_high (remove address) = check_high (is_present m address) 5 _ refl (check_high (is_idle_slot (slot_in m (found_at m address))) 18 0 refl refl)
  said_high (happen event a buffer) = event_high event a buffer
  said_high (receive a o home buffer) =
      turn_high _ (found_at m a) _ (rows_of home)
      (check_high (leb 2048 (length buffer)) 3 _ refl (check_high (good_home m.settings home) 4 _ refl (check_high (is_present m a) 5 0 refl refl)))
      (message_high m.settings o (slot_in m (found_at m a)))
  said_high (listing buffer) =
      when_high _ _ (check_high (leb 65536 (length buffer)) 3 0 refl refl) refl

-- ---- refused

pub put_same : (m : Model) (i : ℕ) → put m i (slot_in m i) ≡ m
unfolding put slot_in
put_same m i = let e = set-get_or m.slots i free in λ k. record { settings = m.settings; slots = e k }

message_keeps : (g : Settings) (o : List ℕ) (slot : Slot) → ((message_move g o slot).answer ≡ 0 → ⊥) → (message_move g o slot).slot ≡ slot
unfolding message_move no_move moved
message_keeps g o free h = refl
message_keeps g o (used peer) h = go (eqb (answer_to g peer.asn peer.neighbour o) 0) refl
  where
    go : (b : Bool) → eqb (answer_to g peer.asn peer.neighbour o) 0 ≡ b → (message_move g o (used peer)).slot ≡ used peer
    go true e = absurd (h (ap (λ (x : Move). x.answer) (if_ok_new (answer_to g peer.asn peer.neighbour o) _ _ (eqb-true (answer_to g peer.asn peer.neighbour o) 0 e))))
    go false e = ap (λ (x : Move). x.slot) (message_stays g o peer e)

module _ (m : Model) where
  turn_keeps : (k place : ℕ) (move : Move) (home : List Row) → ((move.answer ≡ 0 → ⊥) → move.slot ≡ slot_in m place)
      → ((turn_at m k place move home).said.answer ≡ 0 → ⊥) → (turn_at m k place move home).model ≡ m
  unfolding turn_at
  turn_keeps k place move home s h = go (eqb k 0) refl
    where
      go : (b : Bool) → eqb k 0 ≡ b → if_ok k (put m place move.slot) m ≡ m
      go true e =
          let z = eqb-true k 0 e in
          let n : move.answer ≡ 0 → ⊥ = λ q. h (ap (λ (x : Said). x.answer) (if_ok_new k _ _ z) ∙ spoken_answer move.answer move.reply home ∙ q) in
          if_ok_new k _ _ z ∙ ap (put m place) (s n) ∙ put_same m place
      go false e = if_ok_old k _ _ (eqb-false k 0 e)

  event_keeps : (event : Intrinsic) (a : ℕ) (buffer : List ℕ) → ((event_turn event m a buffer).said.answer ≡ 0 → ⊥) → (event_turn event m a buffer).model ≡ m
  unfolding event_turn
  event_keeps event a buffer h =
      turn_keeps _ (found_at m a) (event_move m.settings event (slot_in m (found_at m a))) [] (λ n. absurd (n (event_answers m.settings event (slot_in m (found_at m a))))) h

  -- 01: "refused calls and listings change nothing"
  pub refused_keeps : (call : Call) → ((step call m).said.answer ≡ 0 → ⊥) → (step call m).model ≡ m
  unfolding step add_turn remove_turn message_turn listing_turn silent
  refused_keeps (add address asn) h = if_ok_old (answer_to_add m address asn) _ _ h
  refused_keeps (remove address) h = if_ok_old (answer_to_remove m address) _ _ h
  refused_keeps (happen event a buffer) h = event_keeps event a buffer h
  refused_keeps (receive a o home buffer) h =
      turn_keeps _ (found_at m a) (message_move m.settings o (slot_in m (found_at m a))) (rows_of home)
      (message_keeps m.settings o (slot_in m (found_at m a))) h
  refused_keeps (listing buffer) h = refl

  listing_same : (buffer : List ℕ) → (step (listing buffer) m).model ≡ m
  unfolding step listing_turn
  listing_same buffer = refl

-- ---- the gateway beside it

one_two : (b c : Bool) → check b 2 (check c 3 0) ≡ 1 → ⊥
unfolding check
one_two true true e = false≢true (ap (λ (k : ℕ). eqb k 1) e)
one_two true false e = false≢true (ap (λ (k : ℕ). eqb k 1) e)
one_two false c e = false≢true (ap (λ (k : ℕ). eqb k 1) e)

module _ (m : Model) (ok : Good m) where
  answer_of : (call : Call) → Heeds m ok call → (outcome_of call (represent m)).answer ≡ (step call m).said.answer
  answer_of call h = (simulates m ok call h).answer

  listing_says : (buffer : List ℕ) → (outcome_of (listing buffer) (represent m)).answer ≡ listing_checks (state_of m) (table_of m) buffer
  unfolding outcome_of represent listing_outcome if_ok refused_of
  listing_says buffer = go (eqb (listing_checks (state_of m) (table_of m) buffer) 0) refl
    where
      go : (b : Bool) → eqb (listing_checks (state_of m) (table_of m) buffer) 0 ≡ b → (listing_outcome (state_of m) (table_of m) buffer).answer ≡ listing_checks (state_of m) (table_of m) buffer
      go true e = rw e (sym (eqb-true (listing_checks (state_of m) (table_of m) buffer) 0 e))
      go false e = rw e

  listing_one : (buffer : List ℕ) → listing_checks (state_of m) (table_of m) buffer ≡ 1 → ⊥
  unfolding listing_checks lent_checks
  listing_one buffer e =
      one_two (table_fits (table_of m) && every listable (entries (state_of m) (table_of m))) (leb 65536 (length buffer))
      (sym (check_holds (state_formed (state_of m)) 1 _ ok.formed) ∙ e)

  plain_high : (call : Call) → lists_nothing call ≡ true → High (outcome_of call (represent m)).answer
  plain_high call e = rw (answer_of call (λ f. absurd (false≢true (sym f ∙ e)))) (said_high m call)

  marked_high : (call : Call) → Marked m → High (outcome_of call (represent m)).answer
  marked_high call k = rw (answer_of call (λ _. k)) (said_high m call)

  one_of : (call : Call) → (outcome_of call (represent m)).answer ≡ 1 → ⊥
  unfolding lists_nothing
  one_of (add address asn) e = not_one _ (plain_high (add address asn) refl) e
  one_of (remove address) e = not_one _ (plain_high (remove address) refl) e
  one_of (happen event a buffer) e = not_one _ (plain_high (happen event a buffer) refl) e
  one_of (receive a o home buffer) e = not_one _ (plain_high (receive a o home buffer) refl) e
  one_of (listing buffer) e = listing_one buffer (sym (listing_says buffer) ∙ e)

  listing_stays : (buffer : List ℕ) → gateway_step (listing buffer) (represent m) ≡ represent m
  listing_stays buffer = step_is m ok (listing buffer) ∙ ap represent (listing_same m buffer)

  stays_by : (call : Call) → lists_nothing call ≡ true → ((outcome_of call (represent m)).answer ≡ 0 → ⊥) → gateway_step call (represent m) ≡ represent m
  stays_by call e h =
      step_is m ok call ∙ ap represent (refused_keeps m call (λ q. h (answer_of call (λ f. absurd (false≢true (sym f ∙ e))) ∙ q)))

  refused_stays : (call : Call) → ((outcome_of call (represent m)).answer ≡ 0 → ⊥) → gateway_step call (represent m) ≡ represent m
  unfolding lists_nothing
  refused_stays (add address asn) h = stays_by (add address asn) refl h
  refused_stays (remove address) h = stays_by (remove address) refl h
  refused_stays (happen event a buffer) h = stays_by (happen event a buffer) refl h
  refused_stays (receive a o home buffer) h = stays_by (receive a o home buffer) refl h
  refused_stays (listing buffer) h = listing_stays buffer

marked_from : (m : Model) → Marked m → (calls : List Call) → every carries_octets calls ≡ true → Marked (model_from m calls)
unfolding model_from every
marked_from m k [] e = k
marked_from m k (call ∷ rest) e =
    marked_from (step call m).model (marked_step m k call (and_left (carries_octets call) (every carries_octets rest) e)) rest
    (and_right (carries_octets call) (every carries_octets rest) e)

module _ (g : Settings) (z : (fresh_of g).answer ≡ 0) (calls : List Call) where
  model_marked : every carries_octets calls ≡ true → Marked (model g calls)
  unfolding model
  model_marked e = marked_from (empty g) (empty_marked g z) calls e

  pub steady : Steady g calls
  steady =
      let ok = model_good g z calls in
      let m = model g calls in
      let is : run g calls ≡ represent m = run_is g z calls in
      let said : (call : Call) → (outcome_of call (run g calls)).answer ≡ (outcome_of call (represent m)).answer =
      λ call. ap (λ (b : Gateway). (outcome_of call b).answer) is in
      record {
        one = λ call e. one_of m ok call (sym (said call) ∙ e);
        two = λ call h e. not_two _ (marked_high m ok call (model_marked h)) (sym (said call) ∙ e);
        two_unlisted = λ call h e. not_two _ (plain_high m ok call h) (sym (said call) ∙ e);
        refused = λ call h. refused_keeps m call h;
        refused_gateway = λ call h. ap (gateway_step call) is ∙ refused_stays m ok call (λ q. h (said call ∙ q)) ∙ sym is;
        listings = λ buffer. listing_same m buffer;
        listings_gateway = λ buffer. ap (gateway_step (listing buffer)) is ∙ listing_stays m ok buffer ∙ sym is;
      }

pub never_one_or_two : NeverOneOrTwo
never_one_or_two g z calls = steady g z calls
