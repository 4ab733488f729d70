-- What a listing lists: the gateway's entries are the model's, and every row of a model fed octets is marked. Assumes nothing.
use Prim.Native.Nat.{ℕ, suc, ◌+◌, ◌<◌}
use native.Mathlib.Omega.{arith}
use mathlib.Core.Path.{◌≡◌, refl, ◌∙◌, ap, subst}
use mathlib.Core.Bool.{Bool, true, false, cond, ◌&&◌}
use mathlib.Core.List.{List, [], ◌∷◌, map}
use lib.Dec.{eqb}
use lib.ListN.{length, get_or}
use borrow.Author.Tests.{eq-eqb, not-true}
use Rattle.std.specs.Prelude.{Result, Ok, Err}
use Rattle.checks.specs.declared.Refusal.{Refusal}
use Rattle.checks.specs.Checks.{check, if_ok}
use Rattle.checks.specs.Lists.{every}
use Rattle.checks.proofs.Laws.{cond_elim, and_left, and_right, and_both, check_holds}
use Rattle.message.specs.declared.Message.{Message}
use Rattle.nets.specs.Rows.{Row}
use Rattle.message_reading.specs.Reading.{decode_of}
use Rattle.neighbour.specs.declared.Phase.{Phase}
use Rattle.neighbour.specs.declared.Settings.{Settings}
use Rattle.neighbour.specs.declared.Neighbour.{Neighbour}
use Rattle.neighbour.specs.Record.{is_up}
use Rattle.neighbour_machine.specs.Intrinsics.{Intrinsic, as_event}
use Rattle.neighbour_machine.specs.Step.{step_of}
use Rattle.gateway_state.specs.Slots.{free_slot}
use Rattle.gateway_state.specs.Places.{row_counts, read_rows}
use Rattle.gateway_state.specs.Formed.{state_formed}
use Rattle.gateway_state.proofs.ListLaws.{every_set, every_get_or}
use Rattle.gateway_rules.specs.Calls.{table_fits, lent_checks}
use Rattle.listing_lines.specs.Lines.{Entry, entry_for}
use Rattle.listing_lines.specs.Listing.{entry_of, entries_from, entries, marked_row, listable, listing_checks}
use Rattle.model.specs.Model.{Call, add, remove, happen, receive, listing, Peer, Slot, free, used, Model, slot_in, put, add_turn, remove_turn, no_octets, no_move, rows_in_phase, moved, event_move, is_update, answer_to, after_message, rows_after, message_move, turn_at, event_turn, message_turn, listed_from, listed, listing_answer, listing_turn, step, found_at, new_peer, refused_move}
use Rattle.model.specs.Theorem.{is_octet, carries_octets, cell, state_of, rows_held, table_of}
use Rattle.model.proofs.Represent.{sound, Good, table_length, read_of}
use Rattle.model.proofs.Marked.{update_marks}

-- ---- the entries

-- the rows of each of these slots, the first of which has index k, are read off the table
unfoldable ReadsBack : List ℕ → List ℕ → ℕ → List Slot → Type 0
ReadsBack table counts k l = (i : ℕ) → i < length l → read_rows table counts (k + i) ≡ rows_held (get_or l i free)

reads_next : (table counts : List ℕ) (k : ℕ) (slot : Slot) (l : List Slot) → ReadsBack table counts k (slot ∷ l) → ReadsBack table counts (suc k) l
unfolding ReadsBack
reads_next table counts k slot l h i q =
    let e : k + suc i ≡ suc k + i = omega arith in
    subst (λ (n : ℕ). read_rows table counts n ≡ rows_held (get_or l i free)) e (h (suc i) (omega (arith, q)))

reads_here : (table counts : List ℕ) (k : ℕ) (slot : Slot) (l : List Slot) → ReadsBack table counts k (slot ∷ l) → read_rows table counts k ≡ rows_held slot
unfolding ReadsBack
reads_here table counts k slot l h =
    let e : k + 0 ≡ k = omega arith in
    subst (λ (n : ℕ). read_rows table counts n ≡ rows_held slot) e (h 0 (omega arith))

entry_is : (table counts : List ℕ) (k : ℕ) (peer : Peer) → read_rows table counts k ≡ peer.rows
    → entry_of k (cell (used peer)) table counts ≡ entry_for k peer.address peer.asn peer.neighbour peer.rows peer.seconds
unfolding entry_of cell
entry_is table counts k peer e = ap (λ (rows : List Row). entry_for k peer.address peer.asn peer.neighbour rows peer.seconds) e

listed_from_lem : (table counts : List ℕ) (k : ℕ) (l : List Slot) → every sound l ≡ true → ReadsBack table counts k l
    → entries_from k (map cell l) table counts ≡ listed_from k l
unfolding entries_from listed_from every sound cell free_slot rows_held
listed_from_lem table counts k [] s h = refl
listed_from_lem table counts k (free ∷ l) s h = listed_from_lem table counts (suc k) l s (reads_next table counts k free l h)
listed_from_lem table counts k (used peer ∷ l) s h =
    let slot = used peer in
    rw (not-true (eqb peer.address 0) (and_left (sound slot) (every sound l) s), entry_is table counts k peer (reads_here table counts k slot l h))
    (ap (λ (r : List Entry). entry_for k peer.address peer.asn peer.neighbour peer.rows peer.seconds ∷ r)
    (listed_from_lem table counts (suc k) l (and_right (sound slot) (every sound l) s) (reads_next table counts k slot l h)))

-- ---- the rows

-- a slot whose rows a listing takes
unfoldable pub marked : Slot → Bool
marked slot = every marked_row (rows_held slot)

abbrev pub Marked : Model → Type 0
Marked m = every marked m.slots ≡ true

listed_marks : (k : ℕ) (l : List Slot) → every marked l ≡ true → every listable (listed_from k l) ≡ true
unfolding listed_from every marked listable rows_held
listed_marks k [] e = refl
listed_marks k (free ∷ l) e = listed_marks (suc k) l e
listed_marks k (used peer ∷ l) e =
    let slot = used peer in
    and_both (every marked_row peer.rows) (every listable (listed_from (suc k) l))
    (and_left (marked slot) (every marked l) e) (listed_marks (suc k) l (and_right (marked slot) (every marked l) e))

module _ (m : Model) (ok : Good m) where
  reads_back : ReadsBack (table_of m) (row_counts (state_of m)) 0 m.slots
  unfolding ReadsBack slot_in
  reads_back i q =
      let i8 : i < 8 = omega (arith, q, ok.eight) in
      let z : 0 + i ≡ i = omega arith in
      rw z (read_of m ok i i8)

  pub entries_of : entries (state_of m) (table_of m) ≡ listed m
  unfolding entries listed state_of
  entries_of = listed_from_lem (table_of m) (row_counts (state_of m)) 0 m.slots ok.each reads_back

  pub listing_answer_lem : Marked m → (buffer : List ℕ) → listing_checks (state_of m) (table_of m) buffer ≡ listing_answer buffer
  unfolding listing_checks lent_checks listing_answer listed check
  listing_answer_lem k buffer =
      check_holds (state_formed (state_of m)) 1 _ ok.formed
      ∙ check_holds (table_fits (table_of m) && every listable (entries (state_of m) (table_of m))) 2 _
      (and_both (table_fits (table_of m)) (every listable (entries (state_of m) (table_of m))) (eq-eqb (length (table_of m)) 3072 (table_length m ok))
      (rw entries_of (listed_marks 0 m.slots k)))

-- ---- octets keep every row marked

rows_marks : (phase : Phase) (rows : List Row) → every marked_row rows ≡ true → every marked_row (rows_in_phase phase rows) ≡ true
unfolding rows_in_phase every
rows_marks phase rows e = cond_elim (λ l. every marked_row l ≡ true) (is_up phase) rows [] (λ _. e) (λ _. refl)

event_marks : (g : Settings) (event : Intrinsic) (slot : Slot) → marked slot ≡ true → marked (event_move g event slot).slot ≡ true
unfolding marked rows_held event_move moved no_move every
event_marks g event free e = refl
event_marks g event (used peer) e = rows_marks (step_of g peer.asn peer.neighbour (as_event event) no_octets).neighbour.phase peer.rows e

after_marks : (g : Settings) (n : Neighbour) (o : List ℕ) (d : Result Message Refusal) (rows : List Row) → every is_octet o ≡ true → every marked_row rows ≡ true
    → every marked_row (rows_after g n o d rows) ≡ true
unfolding rows_after
after_marks g n o (Ok m) rows h e =
    cond_elim (λ l. every marked_row l ≡ true) (is_update m && is_up n.phase) _ rows (λ _. update_marks 128 g.net o h) (λ _. e)
after_marks g n o (Err refused) rows h e = e

message_marks : (g : Settings) (o : List ℕ) (slot : Slot) → every is_octet o ≡ true → marked slot ≡ true → marked (message_move g o slot).slot ≡ true
unfolding marked rows_held message_move moved no_move if_ok every
message_marks g o free h e = refl
message_marks g o (used peer) h e = go (eqb (answer_to g peer.asn peer.neighbour o) 0)
  where
    go : (b : Bool)
        → marked (cond b (moved peer (after_message g peer.asn peer.neighbour o (decode_of o)) (rows_after g peer.neighbour o (decode_of o) peer.rows) peer.seconds)
        (refused_move g o peer (answer_to g peer.asn peer.neighbour o))).slot ≡ true
    go true = rows_marks _ (rows_after g peer.neighbour o (decode_of o) peer.rows) (after_marks g peer.neighbour o (decode_of o) peer.rows h e)
    go false = e

module _ (m : Model) (k : Marked m) where
  marked_at : (i : ℕ) → marked (slot_in m i) ≡ true
  unfolding slot_in marked rows_held every
  marked_at i = every_get_or marked m.slots i free k refl

  put_marked : (a i : ℕ) (slot : Slot) → marked slot ≡ true → Marked (if_ok a (put m i slot) m)
  unfolding if_ok put
  put_marked a i slot s =
      cond_elim (λ (x : Model). Marked x) (eqb a 0) _ m (λ _. every_set marked m.slots i slot k s) (λ _. k)

  event_marked : (event : Intrinsic) (a : ℕ) (buffer : List ℕ) → Marked (event_turn event m a buffer).model
  unfolding event_turn turn_at
  event_marked event a buffer = put_marked _ (found_at m a) _ (event_marks m.settings event (slot_in m (found_at m a)) (marked_at (found_at m a)))

  pub marked_step : (call : Call) → carries_octets call ≡ true → Marked (step call m).model
  unfolding carries_octets step add_turn remove_turn message_turn listing_turn turn_at marked rows_held every
  marked_step (add address asn) h = put_marked _ _ (used (new_peer address asn)) refl
  marked_step (remove address) h = put_marked _ _ free refl
  marked_step (happen event a buffer) h = event_marked _ a buffer
  marked_step (receive a o home buffer) h = put_marked _ (found_at m a) _ (message_marks m.settings o (slot_in m (found_at m a)) h (marked_at (found_at m a)))
  marked_step (listing buffer) h = k
