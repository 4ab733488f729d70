-- A call about the neighbour in slot j: what the model makes of that slot. Assumes nothing.
use Prim.Native.Nat.{ℕ, ◌<◌}
use native.Mathlib.Omega.{arith}
use mathlib.Core.Path.{◌≡◌, refl, sym, ◌∙◌, ap}
use mathlib.Core.Bool.{Bool, true, false, ◌&&◌, ◌||◌}
use mathlib.Core.List.{List, []}
use lib.Dec.{leb, eqb}
use lib.ListN.{length}
use lib.Seq.{get_or-set_same}
use borrow.Author.Tests.{lt-ltb, eq-eqb, eqb-false, not-true}
use Rattle.std.specs.Prelude.{Ok}
use Rattle.checks.specs.Checks.{check, if_ok}
use Rattle.nets.specs.Rows.{Row, rows_of}
use Rattle.message.specs.declared.Message.{Message}
use Rattle.message.specs.declared.Message.TheVariants as M
use Rattle.message_reading.specs.Reading.{header_answer, asn_at, decode_of}
use Rattle.update_walk.specs.Body.{accepted, update_of, rows_read}
use Rattle.neighbour.specs.declared.Phase.TheVariants.{Up}
use Rattle.neighbour.specs.declared.Settings.{Settings}
use Rattle.neighbour.specs.Record.{is_idle, is_up, acquired}
use Rattle.neighbour.specs.Rules.{in_sequence, too_quick}
use Rattle.neighbour_machine.specs.Intrinsics.{Intrinsic, as_event}
use Rattle.neighbour_machine.specs.declared.Event.TheVariants.{Received}
use Rattle.neighbour_machine.specs.Step.{step_of}
use Rattle.neighbour_machine.proofs.Theorems.{update_stays_up}
use Rattle.gateway_state.specs.declared.Slot as Stored
use Rattle.gateway_state.specs.Slots.{free_slot}
use Rattle.gateway_state.proofs.Theorems.{slot_unique}
use Rattle.gateway_rules.specs.Home.{good_home}
use Rattle.model.specs.Model.{Slot, free, used, Model, slot_in, put, found_at, is_present, Move, no_octets, rows_in_phase, moved, event_move, body_answer, is_update, kind_answer, answer_to, first_twelve, after_message, rows_after, message_move, is_late, event_answer, message_answer, turn_at, event_turn, message_turn, Peer}
use Rattle.model.specs.Theorem.{cell, state_of, rows_held, peer_from}
use Rattle.model.proofs.Represent.{sound, Good, slot_of_lem, at_of, eight_of, sound_at}
use Rattle.model.proofs.Simulation.{spoken_answer}
use Rattle.model.proofs.Closing.{ceased, reacquired}

-- a slot with an address is a used one
pub used_slot : (slot : Slot) → ((cell slot).address ≡ 0 → ⊥) → slot ≡ used (peer_from (cell slot) (rows_held slot))
unfolding cell free_slot rows_held
used_slot free p = absurd (p refl)
used_slot (used peer) p = refl

module _ (m : Model) (ok : Good m) (j : ℕ) (j8 : j < 8) where
  put_here : (slot : Slot) → slot_in (put m j slot) j ≡ slot
  unfolding slot_in put
  put_here slot = get_or-set_same m.slots j slot free (omega (arith, ok.eight))

  module _ (peer : Peer) (here : slot_in m j ≡ used peer) where
    some_address : peer.address ≡ 0 → ⊥
    unfolding sound
    some_address e = eqb-false peer.address 0 (not-true (eqb peer.address 0) (sym (ap sound here) ∙ sound_at m ok j)) e

    pub place_here : found_at m peer.address ≡ j
    unfolding cell
    place_here =
        sym (slot_of_lem m ok peer.address)
        ∙ slot_unique (state_of m) peer.address j (eight_of m ok) ok.formed j8 (ap (λ (s : Stored.Slot). s.address) (at_of m ok j ∙ ap cell here)) some_address

    pub present_here : is_present m peer.address ≡ true
    unfolding is_present
    present_here = rw place_here (lt-ltb j 8 j8)

    -- once 3 to 5 passed, the slot after it is the move's
    turn_slot : (k : ℕ) (move : Slot → Move) (home : List Row) → k ≡ 0
        → slot_in (turn_at m k (found_at m peer.address) (move (slot_in m (found_at m peer.address))) home).model j ≡ (move (used peer)).slot
    unfolding turn_at if_ok
    turn_slot k move home z = rw (z, place_here, here) (put_here (move (used peer)).slot)

    turn_answer : (k : ℕ) (move : Slot → Move) (home : List Row) → k ≡ 0
        → (turn_at m k (found_at m peer.address) (move (slot_in m (found_at m peer.address))) home).said.answer ≡ (move (used peer)).answer
    unfolding turn_at if_ok
    turn_answer k move home z = rw (z, place_here, here) (spoken_answer (move (used peer)).answer (move (used peer)).reply home)

    pub event_slot : (event : Intrinsic) (buffer : List ℕ) → leb 2048 (length buffer) ≡ true → is_late event (used peer) ≡ false
        → slot_in (event_turn event m peer.address buffer).model j ≡ (event_move m.settings event (used peer)).slot
    unfolding event_turn event_answer check
    event_slot event buffer r l = turn_slot (event_answer event m peer.address buffer) (event_move m.settings event) [] (rw (r, present_here, place_here, here, l))

    module _ (o home buffer : List ℕ) (r : leb 2048 (length buffer) ≡ true) (h : good_home m.settings home ≡ true) where
      pub message_slot : slot_in (message_turn m peer.address o home buffer).model j ≡ (message_move m.settings o (used peer)).slot
      unfolding message_turn message_answer check
      message_slot = turn_slot (message_answer m peer.address home buffer) (message_move m.settings o) (rows_of home) (rw (r, h, present_here))

      pub message_says : (message_turn m peer.address o home buffer).said.answer ≡ (message_move m.settings o (used peer)).answer
      unfolding message_turn message_answer check
      message_says = turn_answer (message_answer m peer.address home buffer) (message_move m.settings o) (rows_of home) (rw (r, h, present_here))

-- ---- the move itself

-- a message that is neither Hello nor Poll comes never too soon
unhurried : (b : Bool) → (b && false) ≡ false
unhurried true = refl
unhurried false = refl

pub event_phase : (g : Settings) (event : Intrinsic) (peer : Peer)
    → (cell (event_move g event (used peer)).slot).neighbour ≡ (step_of g peer.asn peer.neighbour (as_event event) no_octets).neighbour
unfolding event_move moved cell
event_phase g event peer = refl

module _ (g : Settings) (peer : Peer) (o : List ℕ) (header : header_answer o ≡ 0) (from : asn_at o ≡ peer.asn) where
  -- a message that is neither out of sequence nor an Update is carried out
  plain_zero : (m : Message) → decode_of o ≡ Ok m → in_sequence peer.neighbour m ≡ true → too_quick peer.neighbour m ≡ false → is_update m ≡ false → answer_to g peer.asn peer.neighbour o ≡ 0
  unfolding answer_to if_ok check kind_answer
  plain_zero m d i t u = rw (header, eq-eqb (asn_at o) peer.asn from, d, i, t, u)

  plain_move : (m : Message) → decode_of o ≡ Ok m → in_sequence peer.neighbour m ≡ true → too_quick peer.neighbour m ≡ false → is_update m ≡ false
      → (cell (message_move g o (used peer)).slot).neighbour ≡ (step_of g peer.asn peer.neighbour (Received m) (first_twelve o)).neighbour
  unfolding message_move if_ok after_message moved cell
  plain_move m d i t u = rw (plain_zero m d i t u, d)

  sequenced_cease : (a q s : ℕ) → in_sequence peer.neighbour (M.Cease a q s) ≡ true
  unfolding in_sequence
  sequenced_cease a q s = go (is_idle peer.neighbour.phase)
    where
      go : (b : Bool) → ((b || true) || eqb q peer.neighbour.s) ≡ true
      go true = refl
      go false = refl

  sequenced_request : (a q s hello poll : ℕ) → in_sequence peer.neighbour (M.Request a q s hello poll) ≡ true
  unfolding in_sequence
  sequenced_request a q s hello poll = go (is_idle peer.neighbour.phase)
    where
      go : (b : Bool) → ((b || true) || eqb q peer.neighbour.s) ≡ true
      go true = refl
      go false = refl

  pub cease_move : (a q s : ℕ) → decode_of o ≡ Ok (M.Cease a q s)
      → is_up (cell (message_move g o (used peer)).slot).neighbour.phase ≡ false
  unfolding is_update too_quick
  cease_move a q s d =
      rw (plain_move (M.Cease a q s) d (sequenced_cease a q s) (unhurried (acquired peer.neighbour.phase)) refl) (ceased g peer.asn peer.neighbour (first_twelve o) a q s)

  pub request_move : (a q s hello poll : ℕ) → decode_of o ≡ Ok (M.Request a q s hello poll)
      → is_up (cell (message_move g o (used peer)).slot).neighbour.phase ≡ false
  unfolding is_update too_quick
  request_move a q s hello poll d =
      rw (plain_move (M.Request a q s hello poll) d (sequenced_request a q s hello poll) (unhurried (acquired peer.neighbour.phase)) refl) (reacquired g peer.asn peer.neighbour (first_twelve o) a q s hello poll)

  -- an Update in Up that carries S, its body good
  module _ (a q s net : ℕ) (d : decode_of o ≡ Ok (M.Update a q s net)) (up : peer.neighbour.phase ≡ Up) (number : q ≡ peer.neighbour.s) (new : List Row) (body : update_of 128 g.net o ≡ accepted new) where
    sequenced : in_sequence peer.neighbour (M.Update a q s net) ≡ true
    unfolding in_sequence
    sequenced = go (is_idle peer.neighbour.phase)
      where
        go : (b : Bool) → ((b || false) || eqb q peer.neighbour.s) ≡ true
        go true = refl
        go false = eq-eqb q peer.neighbour.s number

    is_up_lem : is_up peer.neighbour.phase ≡ true
    is_up_lem = ap is_up up

    update_zero : answer_to g peer.asn peer.neighbour o ≡ 0
    unfolding answer_to if_ok check kind_answer body_answer is_update too_quick
    update_zero = rw (header, eq-eqb (asn_at o) peer.asn from, d, sequenced, unhurried (acquired peer.neighbour.phase), is_up_lem, body)

    pub update_answer : (message_move g o (used peer)).answer ≡ 0
    unfolding message_move if_ok moved
    update_answer = rw update_zero

    pub update_rows : rows_held (message_move g o (used peer)).slot ≡ new
    unfolding message_move if_ok moved after_message rows_after is_update rows_held rows_in_phase rows_read
    update_rows =
        let stays : is_up (step_of g peer.asn peer.neighbour (Received (M.Update a q s net)) (first_twelve o)).neighbour.phase ≡ true =
        ap is_up (update_stays_up g peer.asn peer.neighbour a q s net (first_twelve o) up).0 in
        rw (update_zero, d, stays, is_up_lem, body)
