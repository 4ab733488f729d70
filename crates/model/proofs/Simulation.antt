-- One call: the gateway's definitions and the model leave and answer the same, from any good model. Assumes nothing.
use Prim.Native.Nat.{ℕ, ◌<◌}
use native.Mathlib.Omega.{arith}
use mathlib.Core.Path.{◌≡◌, refl, sym, ◌∙◌, ap}
use mathlib.Core.Bool.{Bool, true, false, cond, not, false≢true, true≢false}
use mathlib.Core.List.{List, [], ◌++◌, append-nil}
use lib.Dec.{ltb, eqb}
use lib.ListN.{length, length-set}
use borrow.Author.Tests.{eq-eqb, eqb-true, ltb-true}
use Rattle.checks.proofs.Laws.{check_passed, and_left, and_right, check_holds}
use Rattle.checks.specs.Checks.{check, if_ok}
use Rattle.checks.specs.Lists.{every}
use Rattle.octets.specs.Buffer.{over}
use Rattle.nets.specs.Rows.{Row, rows_of}
use Rattle.message_reading.specs.Reading.{decode_of}
use Rattle.neighbour.specs.declared.Phase.{Phase}
use Rattle.neighbour.specs.declared.Phase.TheVariants as Phases
use Rattle.neighbour.specs.declared.Settings.{Settings}
use Rattle.neighbour.specs.Record.{is_idle, is_up}
use Rattle.neighbour_seconds.specs.Seconds.{seconds_sum, clock_full}
use Rattle.neighbour_machine.specs.Intrinsics.{Intrinsic, Start, Stop, Tick, as_event}
use Rattle.gateway_state.specs.declared.Slot as Stored
use Rattle.neighbour_machine.specs.declared.Reply.{Reply}
use Rattle.neighbour_machine.specs.declared.Reply.TheVariants.{Nothing, One, Two}
use Rattle.neighbour_machine.specs.Step.{step_of}
use Rattle.gateway_state.specs.declared.State.{State}
use Rattle.gateway_state.specs.declared.Outcome.{Outcome}
use Rattle.gateway_state.specs.Slots.{newcomer, free_slot, slot_at, slot_of, present}
use Rattle.gateway_state.specs.Places.{row_counts, with_part, write_rows}
use Rattle.gateway_state.specs.Formed.{good_peer, state_formed}
use Rattle.gateway_state.specs.Claims.{SlotGood}
use Rattle.gateway_state.specs.Outcomes.{refused_of, silent_of}
use Rattle.gateway_state.proofs.ListLaws.{first_in, every_set}
use Rattle.gateway_slots.specs.Calls as Slots
use Rattle.gateway_slots.specs.Calls.{add_of, remove_of}
use Rattle.gateway_rules.specs.Home.{good_home}
use Rattle.gateway_rules.specs.Ruling.{Change, keep, clear, replace, Ruling, stepped, receive_ruling}
use Rattle.gateway_rules.specs.Seconds.{has_time, booked}
use Rattle.gateway_rules.specs.Carried as Carried
use Rattle.gateway_rules.specs.Carried.{first_octets, second_octets, reply_octets, outcome_after}
use Rattle.gateway_rules.specs.Calls.{table_fits, lent_checks, event_checks, message_checks, no_head, update_room, event_ruling, message_ruling, event_outcome, event_table, event_buffer, message_outcome, message_table, message_buffer}
use Rattle.gateway_theorems.proofs.Formed.{well_formed_kept}
use Rattle.listing_lines.specs.Lines.{listing_text}
use Rattle.listing_lines.specs.Listing.{listing_outcome, listing_buffer}
use Rattle.model.specs.Model.{is_free, no_move, moved, answer_to, after_message, rows_after, Call, add, remove, happen, receive, listing, Slot, free, used, Model, slot_in, put, has_address, found_at, is_present, vacancy, Said, silent, spoken, addable, answer_to_add, is_idle_slot, answer_to_remove, add_turn, remove_turn, Move, event_move, message_move, is_late, event_answer, message_answer, turn_at, event_turn, message_turn, listed, listing_answer, listing_said, listing_turn, step, Peer, new_peer, refused_move}
use Rattle.model.specs.Theorem.{Gateway, outcome_of, table_left, buffer_of, buffer_left, lists_nothing, cell, state_of, rows_held, part, table_of}
use Rattle.model.proofs.Represent.{sound, Good, used_at, slot_of_lem, lowest_of, at_of, state_ok, good_at, sound_at, state_with, table_length, table_with, table_same}
use Rattle.model.proofs.Listed.{Marked, entries_of, listing_answer_lem}
use Rattle.model.proofs.Moves.{no_rows, part_from, Agrees, event_agrees, message_agrees}

-- what a call left and answered is the model after its turn, and what the model said
pub record Shown (r : Outcome) (t b : List ℕ) (m : Model) (said : Said) (buffer : List ℕ) : Type 0 where
  pub state : r.state ≡ state_of m
  pub table : t ≡ table_of m
  pub answer : r.answer ≡ said.answer
  pub first : r.first ≡ length said.first
  pub second : r.second ≡ length said.second
  pub written : b ≡ over (said.first ++ said.second) buffer

-- both sides go by one answer
shown_call : (c c' : ℕ) (new old : Outcome) (t t₀ b b₀ : List ℕ) (m' m : Model) (s' s : Said) (buffer : List ℕ) → c' ≡ c
    → (c ≡ 0 → Shown new t b m' s' buffer) → Shown old t₀ b₀ m s buffer
    → Shown (if_ok c' new old) (if_ok c' t t₀) (if_ok c' b b₀) (if_ok c m' m) (if_ok c s' s) buffer
unfolding if_ok
shown_call c c' new old t t₀ b b₀ m' m s' s buffer q p r = go (eqb c 0) refl (ap (λ (k : ℕ). eqb k 0) q)
  where
    go : (k : Bool) → eqb c 0 ≡ k → eqb c' 0 ≡ eqb c 0
        → Shown (cond (eqb c' 0) new old) (cond (eqb c' 0) t t₀) (cond (eqb c' 0) b b₀) (cond (eqb c 0) m' m) (cond (eqb c 0) s' s) buffer
    go true e f = rw (f, e) (p (eqb-true c 0 e))
    go false e f = rw (f, e) r

pub spoken_answer : (k : ℕ) (reply : Reply) (home : List Row) → (spoken k reply home).answer ≡ k
unfolding spoken silent
spoken_answer k Nothing home = refl
spoken_answer k (One x) home = refl
spoken_answer k (Two x y) home = refl

spoken_first : (k : ℕ) (reply : Reply) (home : List Row) → (spoken k reply home).first ≡ first_octets reply home
unfolding spoken silent first_octets
spoken_first k Nothing home = refl
spoken_first k (One x) home = refl
spoken_first k (Two x y) home = refl

spoken_second : (k : ℕ) (reply : Reply) (home : List Row) → (spoken k reply home).second ≡ second_octets reply home
unfolding spoken silent second_octets
spoken_second k Nothing home = refl
spoken_second k (One x) home = refl
spoken_second k (Two x y) home = refl

-- a model as the gateway holds it
unfoldable pub represent : Model → Gateway
represent m = record { state = state_of m; table = table_of m }

-- the two parts of a good model that are its own
pub record Rest (m : Model) : Type 0 where
  pub eight : length m.slots ≡ 8
  pub each : every sound m.slots ≡ true

idle_not_up : (p : Phase) → is_idle p ≡ true → is_up p ≡ false
idle_not_up Phases.Idle e = refl
idle_not_up Phases.Acquisition e = refl
idle_not_up Phases.Down e = refl
idle_not_up Phases.Up e = absurd (false≢true e)
idle_not_up Phases.Cease e = refl

idle_used : (peer : Peer) → is_idle (cell (used peer)).neighbour.phase ≡ is_idle_slot (used peer)
unfolding cell is_idle_slot
idle_used peer = refl

event_sound : (g : Settings) (event : Intrinsic) (slot : Slot) → sound slot ≡ true → sound (event_move g event slot).slot ≡ true
unfolding sound event_move moved no_move
event_sound g event free e = refl
event_sound g event (used peer) e = e

message_sound : (g : Settings) (o : List ℕ) (slot : Slot) → sound slot ≡ true → sound (message_move g o slot).slot ≡ true
unfolding sound message_move moved no_move if_ok
message_sound g o free e = refl
message_sound g o (used peer) e = go (eqb (answer_to g peer.asn peer.neighbour o) 0)
  where
    go : (b : Bool)
        → sound (cond b (moved peer (after_message g peer.asn peer.neighbour o (decode_of o)) (rows_after g peer.neighbour o (decode_of o) peer.rows) peer.seconds)
        (refused_move g o peer (answer_to g peer.asn peer.neighbour o))).slot ≡ true
    go true = e
    go false = e

module _ (m : Model) (ok : Good m) where
  -- ---- a call that is refused, or never replies

  refused_shown : (k k' : ℕ) (buffer : List ℕ) → k' ≡ k → Shown (refused_of (state_of m) k') (table_of m) buffer m (silent k) buffer
  unfolding refused_of silent over
  refused_shown k k' buffer e = record { state = refl; table = refl; answer = e; first = refl; second = refl; written = refl }

  silent_shown : (k k' : ℕ) (new : State) (m' : Model) → k' ≡ k → (k ≡ 0 → new ≡ state_of m') → (k ≡ 0 → table_of m ≡ table_of m')
      → Shown (silent_of k' new (state_of m)) (table_of m) [] (if_ok k m' m) (silent k) []
  unfolding silent_of silent over if_ok
  silent_shown k k' new m' q s t = go (eqb k 0) refl (ap (λ (x : ℕ). eqb x 0) q)
    where
      go : (b : Bool) → eqb k 0 ≡ b → eqb k' 0 ≡ eqb k 0 → Shown (silent_of k' new (state_of m)) (table_of m) [] (cond (eqb k 0) m' m) (silent k) []
      go true e f = record { state = rw (f, e) (s (eqb-true k 0 e)); table = rw e (t (eqb-true k 0 e)); answer = q; first = refl; second = refl; written = refl }
      go false e f = record { state = rw (f, e); table = rw e; answer = q; first = refl; second = refl; written = refl }

  -- ---- a move of the slot at i

  table_after_lem : (i : ℕ) (new : Slot) (counts : List ℕ) (change : Change) → i < 8 → part new ≡ part_from change (part (slot_in m i))
      → Carried.table_after (table_of m) counts i change ≡ table_of (put m i new)
  unfolding Carried.table_after write_rows part_from
  table_after_lem i new counts keep h e = sym (table_same m ok i new e)
  table_after_lem i new counts clear h e = sym (table_with m ok i new h ∙ ap (with_part (table_of m) i) e)
  table_after_lem i new counts (replace rows) h e = sym (table_with m ok i new h ∙ ap (with_part (table_of m) i) e)

  moved_shown : (i : ℕ) (slot : Stored.Slot) (x : Ruling) (home : List Row) (move : Move) (buffer : List ℕ) → i < 8 → Agrees (slot_in m i) slot x move
      → Shown (outcome_after (state_of m) i slot x home) (Carried.table_after (table_of m) (row_counts (state_of m)) i x.change) (Carried.buffer_after buffer x.reply home)
      (put m i move.slot) (spoken move.answer move.reply home) buffer
  unfolding outcome_after Carried.buffer_after reply_octets
  moved_shown i slot x home move buffer h a =
      record {
        state = rw a.cell_is (sym (state_with m ok i move.slot));
        table = table_after_lem i move.slot (row_counts (state_of m)) x.change h a.part_is;
        answer = a.answer ∙ sym (spoken_answer move.answer move.reply home);
        first = rw (a.reply, spoken_first move.answer move.reply home);
        second = rw (a.reply, spoken_second move.answer move.reply home);
        written = rw (a.reply, spoken_first move.answer move.reply home, spoken_second move.answer move.reply home);
      }

  -- ---- look-up

  found_below : (a : ℕ) → is_present m a ≡ true → found_at m a < 8
  unfolding is_present
  found_below a e = ltb-true (found_at m a) 8 e

  pub found_used : (a : ℕ) → found_at m a < 8 → has_address a (slot_in m (found_at m a)) ≡ true
  unfolding found_at slot_in
  found_used a h = first_in (has_address a) m.slots free (omega (arith, ok.eight))

  present_of : (a : ℕ) → present (state_of m) a ≡ is_present m a
  unfolding is_present
  present_of a = rw (slot_of_lem m ok a)

  -- ---- Start, Stop, tick

  on_time : (event : Intrinsic) (slot : Slot) → has_time (as_event event) (cell slot).seconds ≡ not (is_late event slot)
  unfolding has_time is_late cell free_slot clock_full seconds_sum
  on_time Start free = refl
  on_time Stop free = refl
  on_time Tick free = refl
  on_time Start (used peer) = refl
  on_time Stop (used peer) = refl
  on_time Tick (used peer) = refl

  event_answer_lem : (event : Intrinsic) (a : ℕ) (buffer : List ℕ) → event_checks event (state_of m) (table_of m) buffer a ≡ event_answer event m a buffer
  unfolding event_checks lent_checks event_answer check
  event_answer_lem event a buffer =
      check_holds (state_formed (state_of m)) 1 _ ok.formed ∙ check_holds (table_fits (table_of m)) 2 _ (eq-eqb (length (table_of m)) 3072 (table_length m ok))
      ∙ rw (present_of a, slot_of_lem m ok a, at_of m ok (found_at m a), on_time event (slot_in m (found_at m a)))

  message_answer_lem : (a : ℕ) (home buffer : List ℕ) → message_checks (state_of m) (table_of m) buffer home a ≡ message_answer m a home buffer
  unfolding message_checks lent_checks message_answer state_of check
  message_answer_lem a home buffer =
      check_holds (state_formed (state_of m)) 1 _ ok.formed ∙ check_holds (table_fits (table_of m)) 2 _ (eq-eqb (length (table_of m)) 3072 (table_length m ok))
      ∙ rw (present_of a)

  pub event_below : (event : Intrinsic) (a : ℕ) (buffer : List ℕ) → event_answer event m a buffer ≡ 0 → found_at m a < 8
  unfolding event_answer
  event_below event a buffer z = found_below a (check_passed (is_present m a) 5 _ refl (check_passed _ 3 _ refl z).1).0

  pub message_below : (a : ℕ) (home buffer : List ℕ) → message_answer m a home buffer ≡ 0 → found_at m a < 8
  unfolding message_answer
  message_below a home buffer z =
      found_below a (check_passed (is_present m a) 5 0 refl (check_passed (good_home m.settings home) 4 _ refl (check_passed _ 3 _ refl z).1).1).0

  settings_of_lem : (state_of m).settings ≡ m.settings
  unfolding state_of
  settings_of_lem = refl

  event_move_lem : (event : Intrinsic) (slot : Slot) → SlotGood (cell slot) → (a : ℕ) → has_address a slot ≡ true
      → Agrees slot (booked (as_event event) (cell slot)) (stepped (cell slot).neighbour (step_of m.settings (cell slot).asn (cell slot).neighbour (as_event event) no_head)) (event_move m.settings event slot)
  unfolding cell
  event_move_lem event slot good a e =
      used_at
      (λ s. SlotGood (cell s) → Agrees s (booked (as_event event) (cell s)) (stepped (cell s).neighbour (step_of m.settings (cell s).asn (cell s).neighbour (as_event event) no_head)) (event_move m.settings event s))
      a (λ peer k. event_agrees peer k m.settings event) slot e good

  message_move_lem : (o : List ℕ) (slot : Slot) → SlotGood (cell slot) → (a : ℕ) → has_address a slot ≡ true
      → Agrees slot (cell slot) (receive_ruling 128 m.settings (cell slot).asn (cell slot).neighbour o) (message_move m.settings o slot)
  unfolding cell
  message_move_lem o slot good a e =
      used_at
      (λ s. SlotGood (cell s) → Agrees s (cell s) (receive_ruling 128 m.settings (cell s).asn (cell s).neighbour o) (message_move m.settings o s))
      a (λ peer k. message_agrees peer k m.settings o) slot e good

  event_ruling_lem : (event : Intrinsic) (a : ℕ) → found_at m a < 8
      → Agrees (slot_in m (found_at m a)) (booked (as_event event) (slot_at (state_of m) (found_at m a))) (event_ruling event (state_of m) a) (event_move m.settings event (slot_in m (found_at m a)))
  unfolding event_ruling
  event_ruling_lem event a h =
      rw (slot_of_lem m ok a, at_of m ok (found_at m a), settings_of_lem)
      (event_move_lem event (slot_in m (found_at m a)) (good_at m ok (found_at m a)) a (found_used a h))

  message_ruling_lem : (o : List ℕ) (a : ℕ) → found_at m a < 8
      → Agrees (slot_in m (found_at m a)) (slot_at (state_of m) (found_at m a)) (message_ruling (state_of m) a o) (message_move m.settings o (slot_in m (found_at m a)))
  unfolding message_ruling update_room
  message_ruling_lem o a h =
      rw (slot_of_lem m ok a, at_of m ok (found_at m a), settings_of_lem)
      (message_move_lem o (slot_in m (found_at m a)) (good_at m ok (found_at m a)) a (found_used a h))

  pub event_shown : (event : Intrinsic) (a : ℕ) (buffer : List ℕ)
      → Shown (event_outcome event (state_of m) (table_of m) buffer a) (event_table event (state_of m) (table_of m) buffer a) (event_buffer event (state_of m) (table_of m) buffer a)
      (event_turn event m a buffer).model (event_turn event m a buffer).said buffer
  unfolding event_outcome event_table event_buffer event_turn turn_at
  event_shown event a buffer =
      shown_call (event_answer event m a buffer) (event_checks event (state_of m) (table_of m) buffer a) _ _ _ _ _ _ _ _ _ _ buffer (event_answer_lem event a buffer)
      (λ z. rw (slot_of_lem m ok a)
      (moved_shown (found_at m a) _ (event_ruling event (state_of m) a) [] (event_move m.settings event (slot_in m (found_at m a))) buffer
      (event_below event a buffer z) (event_ruling_lem event a (event_below event a buffer z))))
      (refused_shown (event_answer event m a buffer) (event_checks event (state_of m) (table_of m) buffer a) buffer (event_answer_lem event a buffer))

  pub message_shown : (a : ℕ) (o home buffer : List ℕ)
      → Shown (message_outcome (state_of m) (table_of m) buffer home a o) (message_table (state_of m) (table_of m) buffer home a o) (message_buffer (state_of m) (table_of m) buffer home a o)
      (message_turn m a o home buffer).model (message_turn m a o home buffer).said buffer
  unfolding message_outcome message_table message_buffer message_turn turn_at
  message_shown a o home buffer =
      shown_call (message_answer m a home buffer) (message_checks (state_of m) (table_of m) buffer home a) _ _ _ _ _ _ _ _ _ _ buffer (message_answer_lem a home buffer)
      (λ z. rw (slot_of_lem m ok a)
      (moved_shown (found_at m a) _ (message_ruling (state_of m) a o) (rows_of home) (message_move m.settings o (slot_in m (found_at m a))) buffer
      (message_below a home buffer z) (message_ruling_lem o a (message_below a home buffer z))))
      (refused_shown (message_answer m a home buffer) (message_checks (state_of m) (table_of m) buffer home a) buffer (message_answer_lem a home buffer))

  -- ---- add and remove

  add_answer_lem : (address asn : ℕ) → Slots.add_answer (state_of m) address asn ≡ answer_to_add m address asn
  unfolding Slots.add_answer answer_to_add addable good_peer check
  add_answer_lem address asn =
      check_holds (state_formed (state_of m)) 1 _ ok.formed
      ∙ rw (present_of address, lowest_of m ok, settings_of_lem)

  pub add_free : (address asn : ℕ) → answer_to_add m address asn ≡ 0 → vacancy m < 8
  unfolding answer_to_add
  add_free address asn z = ltb-true (vacancy m) 8 (check_passed (ltb (vacancy m) 8) 17 0 refl (check_passed (addable m address asn) 16 _ refl z).1).0

  -- a slot without rows in place of another without rows
  same_part : (i : ℕ) (slot : Slot) → rows_held slot ≡ [] → rows_held (slot_in m i) ≡ [] → table_of m ≡ table_of (put m i slot)
  unfolding part
  same_part i slot e f = sym (table_same m ok i slot (rw (e, f)))

  -- the lowest free slot is free, and a neighbour in Idle has no rows
  free_none : (slot : Slot) → is_free slot ≡ true → rows_held slot ≡ []
  unfolding is_free rows_held
  free_none free e = refl
  free_none (used peer) e = absurd (false≢true e)

  pub found_free : vacancy m < 8 → is_free (slot_in m (vacancy m)) ≡ true
  unfolding vacancy slot_in
  found_free h = first_in is_free m.slots free (omega (arith, ok.eight))

  vacant_none : vacancy m < 8 → rows_held (slot_in m (vacancy m)) ≡ []
  vacant_none h = free_none (slot_in m (vacancy m)) (found_free h)

  idle_none : (slot : Slot) → SlotGood (cell slot) → is_idle_slot slot ≡ true → rows_held slot ≡ []
  unfolding is_idle_slot rows_held cell
  idle_none free good e = refl
  idle_none (used peer) good e = no_rows peer.rows (good.none (idle_not_up peer.neighbour.phase e))

  newcomer_cell : (address asn : ℕ) → cell (used (new_peer address asn)) ≡ newcomer address asn
  unfolding cell
  newcomer_cell address asn = refl

  free_cell : cell free ≡ free_slot
  unfolding cell
  free_cell = refl

  no_rows_new : (address asn : ℕ) → rows_held (used (new_peer address asn)) ≡ []
  unfolding rows_held
  no_rows_new address asn = refl

  no_rows_free : rows_held free ≡ []
  unfolding rows_held
  no_rows_free = refl

  pub add_shown : (address asn : ℕ) → Shown (add_of (state_of m) address asn) (table_of m) [] (add_turn m address asn).model (add_turn m address asn).said []
  unfolding add_of add_turn
  add_shown address asn =
      silent_shown (answer_to_add m address asn) (Slots.add_answer (state_of m) address asn) _ (put m (vacancy m) (used (new_peer address asn))) (add_answer_lem address asn)
      (λ z. rw (lowest_of m ok, ← (newcomer_cell address asn)) (sym (state_with m ok (vacancy m) (used (new_peer address asn)))))
      (λ z. same_part (vacancy m) (used (new_peer address asn)) (no_rows_new address asn) (vacant_none (add_free address asn z)))

  idle_same : (a : ℕ) → found_at m a < 8 → is_idle (slot_at (state_of m) (slot_of (state_of m) a)).neighbour.phase ≡ is_idle_slot (slot_in m (found_at m a))
  idle_same a h =
      rw (slot_of_lem m ok a, at_of m ok (found_at m a))
      (used_at (λ s. is_idle (cell s).neighbour.phase ≡ is_idle_slot s) a idle_used (slot_in m (found_at m a)) (found_used a h))

  remove_answer_lem : (address : ℕ) → Slots.remove_answer (state_of m) address ≡ answer_to_remove m address
  unfolding Slots.remove_answer answer_to_remove check
  remove_answer_lem address =
      check_holds (state_formed (state_of m)) 1 _ ok.formed
      ∙ rw (present_of address) (go (is_present m address) refl)
    where
      go : (b : Bool) → is_present m address ≡ b
          → check b 5 (check (is_idle (slot_at (state_of m) (slot_of (state_of m) address)).neighbour.phase) 18 0)
          ≡ check b 5 (check (is_idle_slot (slot_in m (found_at m address))) 18 0)
      go true e = rw (idle_same address (found_below address e))
      go false e = refl

  pub remove_below : (address : ℕ) → answer_to_remove m address ≡ 0 → found_at m address < 8
  unfolding answer_to_remove
  remove_below address z = found_below address (check_passed (is_present m address) 5 _ refl z).0

  remove_idle : (address : ℕ) → answer_to_remove m address ≡ 0 → is_idle_slot (slot_in m (found_at m address)) ≡ true
  unfolding answer_to_remove
  remove_idle address z = (check_passed (is_idle_slot (slot_in m (found_at m address))) 18 0 refl (check_passed (is_present m address) 5 _ refl z).1).0

  pub remove_shown : (address : ℕ) → Shown (remove_of (state_of m) address) (table_of m) [] (remove_turn m address).model (remove_turn m address).said []
  unfolding remove_of remove_turn
  remove_shown address =
      silent_shown (answer_to_remove m address) (Slots.remove_answer (state_of m) address) _ (put m (found_at m address) free) (remove_answer_lem address)
      (λ z. rw (slot_of_lem m ok address, ← free_cell) (sym (state_with m ok (found_at m address) free)))
      (λ z. same_part (found_at m address) free no_rows_free
      (idle_none (slot_in m (found_at m address)) (good_at m ok (found_at m address)) (remove_idle address z)))

  -- ---- the listing

  listing_by : (k : ℕ) (buffer : List ℕ)
      → Shown (if_ok k (record { answer = 0; first = length (listing_text (listed m)); second = 0; state = state_of m }) (refused_of (state_of m) k))
      (table_of m) (if_ok k (over (listing_text (listed m)) buffer) buffer) m (if_ok k (listing_said m) (silent k)) buffer
  unfolding if_ok listing_said
  listing_by k buffer = go (eqb k 0) refl
    where
      go : (b : Bool) → eqb k 0 ≡ b
          → Shown (cond (eqb k 0) (record { answer = 0; first = length (listing_text (listed m)); second = 0; state = state_of m }) (refused_of (state_of m) k))
          (table_of m) (cond (eqb k 0) (over (listing_text (listed m)) buffer) buffer) m (cond (eqb k 0) (listing_said m) (silent k)) buffer
      go true e =
          rw e (record { state = refl; table = refl; answer = refl; first = refl; second = refl; written = ap (λ (l : List ℕ). over l buffer) (sym (append-nil (listing_text (listed m)))) })
      go false e = rw e (refused_shown k k buffer refl)

  pub listing_shown : Marked m → (buffer : List ℕ)
      → Shown (listing_outcome (state_of m) (table_of m) buffer) (table_of m) (listing_buffer (state_of m) (table_of m) buffer)
      (listing_turn m buffer).model (listing_turn m buffer).said buffer
  unfolding listing_outcome listing_buffer listing_turn
  listing_shown k buffer = rw (listing_answer_lem m ok k buffer, entries_of m ok) (listing_by (listing_answer buffer) buffer)

  -- ---- any call

  abbrev pub Simulates : Call → Type 0
  Simulates call =
      Shown (outcome_of call (represent m)) (table_left call (represent m)) (buffer_left call (represent m)) (step call m).model (step call m).said (buffer_of call)

  -- a listing asks that the rows be marked, no other call does
  abbrev pub Heeds : Call → Type 0
  Heeds call = lists_nothing call ≡ false → Marked m

  pub simulates : (call : Call) → Heeds call → Simulates call
  unfolding outcome_of table_left buffer_left step buffer_of represent lists_nothing
  simulates (add address asn) h = add_shown address asn
  simulates (remove address) h = remove_shown address
  simulates (happen event a buffer) h = event_shown event a buffer
  simulates (receive a o home buffer) h = message_shown a o home buffer
  simulates (listing buffer) h = listing_shown (h refl) buffer

  -- the state and the table after a call, which ask nothing of the rows
  pub record Leaves (call : Call) : Type 0 where
    pub state : (outcome_of call (represent m)).state ≡ state_of (step call m).model
    pub table : table_left call (represent m) ≡ table_of (step call m).model

  simulated : (call : Call) → lists_nothing call ≡ true → Leaves call
  simulated call e = let s = simulates call (λ f. absurd (true≢false (sym e ∙ f))) in record { state = s.state; table = s.table }

  pub leaves : (call : Call) → Leaves call
  unfolding outcome_of table_left step represent listing_turn lists_nothing
  leaves (add address asn) = simulated (add address asn) refl
  leaves (remove address) = simulated (remove address) refl
  leaves (happen event a buffer) = simulated (happen event a buffer) refl
  leaves (receive a o home buffer) = simulated (receive a o home buffer) refl
  leaves (listing buffer) = record { state = well_formed_kept.listed (state_of m) (table_of m) buffer; table = refl }

  -- ---- the model after it is good

  put_rest : (i : ℕ) (slot : Slot) → sound slot ≡ true → Rest (put m i slot)
  unfolding put
  put_rest i slot s = record { eight = length-set m.slots i slot ∙ ok.eight; each = every_set sound m.slots i slot ok.each s }

  kept_rest : (k i : ℕ) (slot : Slot) → (k ≡ 0 → sound slot ≡ true) → Rest (if_ok k (put m i slot) m)
  unfolding if_ok
  kept_rest k i slot s = go (eqb k 0) refl
    where
      go : (b : Bool) → eqb k 0 ≡ b → Rest (cond (eqb k 0) (put m i slot) m)
      go true e = rw e (put_rest i slot (s (eqb-true k 0 e)))
      go false e = rw e (record { eight = ok.eight; each = ok.each })

  add_sound : (address asn : ℕ) → answer_to_add m address asn ≡ 0 → sound (used (new_peer address asn)) ≡ true
  unfolding answer_to_add addable sound
  add_sound address asn z =
      let p : addable m address asn ≡ true = (check_passed (addable m address asn) 16 _ refl z).0 in
      search (and_left, and_right)

  event_rest : (event : Intrinsic) (a : ℕ) (buffer : List ℕ) → Rest (event_turn event m a buffer).model
  unfolding event_turn turn_at
  event_rest event a buffer = kept_rest _ (found_at m a) _ (λ _. event_sound m.settings event (slot_in m (found_at m a)) (sound_at m ok (found_at m a)))

  message_rest : (a : ℕ) (o home buffer : List ℕ) → Rest (message_turn m a o home buffer).model
  unfolding message_turn turn_at
  message_rest a o home buffer = kept_rest _ (found_at m a) _ (λ _. message_sound m.settings o (slot_in m (found_at m a)) (sound_at m ok (found_at m a)))

  rest_step : (call : Call) → Rest (step call m).model
  unfolding step add_turn remove_turn listing_turn sound
  rest_step (add address asn) = kept_rest (answer_to_add m address asn) (vacancy m) (used (new_peer address asn)) (add_sound address asn)
  rest_step (remove address) = kept_rest (answer_to_remove m address) (found_at m address) free (λ _. refl)
  rest_step (happen event a buffer) = event_rest event a buffer
  rest_step (receive a o home buffer) = message_rest a o home buffer
  rest_step (listing buffer) = record { eight = ok.eight; each = ok.each }

  -- 01: "Every call keeps a state well formed."
  formed_step : (call : Call) → state_formed (outcome_of call (represent m)).state ≡ true
  unfolding outcome_of represent
  formed_step (add address asn) = (well_formed_kept.add (state_of m) address asn (state_ok m ok)).formed
  formed_step (remove address) = (well_formed_kept.remove (state_of m) address (state_ok m ok)).formed
  formed_step (happen event a buffer) = (well_formed_kept.events event (state_of m) (table_of m) buffer a (state_ok m ok)).formed
  formed_step (receive a o home buffer) = (well_formed_kept.messages (state_of m) (table_of m) buffer home a o (state_ok m ok)).formed
  formed_step (listing buffer) = (well_formed_kept.listings (state_of m) (table_of m) buffer (state_ok m ok)).formed

  pub good_step : (call : Call) → Good (step call m).model
  good_step call =
      record {
        eight = (rest_step call).eight;
        each = (rest_step call).each;
        formed = ap state_formed (sym (leaves call).state) ∙ formed_step call;
      }
