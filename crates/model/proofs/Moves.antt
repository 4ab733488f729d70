-- The gateway's ruling on one neighbour and the model's move of one slot. Assumes nothing.
use Prim.Native.Nat.{ℕ}
use native.Mathlib.Omega.{arith}
use mathlib.Core.Path.{◌≡◌, refl, sym, ◌∙◌, ap}
use mathlib.Core.Bool.{Bool, true, false, cond, not, ◌&&◌}
use mathlib.Core.List.{List, [], ◌∷◌}
use lib.Dec.{eqb}
use lib.ListN.{length}
use borrow.Author.Tests.{ne_eqb}
use Rattle.std.specs.Prelude.{Result, Ok, Err}
use Rattle.checks.specs.declared.Refusal.{Refusal}
use Rattle.neighbour.specs.Record.{is_up}
use Rattle.checks.specs.Checks.{check, if_ok}
use Rattle.nets.specs.Rows.{Row, flat}
use Rattle.message.specs.Kinds.{kind_of}
use Rattle.message.specs.declared.Kind.TheVariants as K
use Rattle.message.specs.declared.Message.{Message}
use Rattle.message_reading.specs.Reading.{header_answer, asn_at, decode_of}
use Rattle.update_walk.specs.Body.{UpdateRead, accepted, broken_at, too_many, update_of, rows_read}
use Rattle.update_walk.specs.Body as Body
use Rattle.update_rows.specs.Storing.{padded}
use Rattle.neighbour.specs.declared.Phase.{Phase}
use Rattle.neighbour.specs.declared.Settings.{Settings}
use Rattle.neighbour.specs.declared.Neighbour.{Neighbour}
use Rattle.neighbour.specs.Rules.{same}
use Rattle.neighbour_machine.specs.declared.Event.TheVariants.{Received}
use Rattle.neighbour_seconds.specs.declared.Seconds.{Seconds}
use Rattle.neighbour_machine.specs.Intrinsics.{Intrinsic, Start, Stop, Tick, as_event}
use Rattle.gateway_state.specs.declared.Slot as Stored
use Rattle.neighbour_machine.specs.declared.After.{After}
use Rattle.neighbour_machine.specs.Step.{step_of}
use Rattle.gateway_state.specs.Claims.{SlotGood}
use Rattle.gateway_rules.specs.Number.{body_number, message_number, error_head, error_to, refuse_to, named_reply}
use Rattle.gateway_rules.specs.Ruling.{Change, keep, clear, replace, Ruling, leaving, stepped, refuses, change_by, carried_out, receive_ruling}
use Rattle.gateway_rules.specs.Ruling as Ruled
use Rattle.gateway_rules.specs.Seconds.{second_more, booked}
use Rattle.gateway_rules.specs.Carried.{count_after, slot_after}
use Rattle.gateway_rules.specs.Calls.{no_head}
use Rattle.gateway_rules.proofs.Number.{meaning_number, kind_number, message_number_lem, NumberPassed, number_passed}
use Rattle.gateway_rules.proofs.Rulings.{receive_holds}
use Rattle.gateway_theorems.proofs.Calls.{after_up}
use Rattle.model.specs.Model.{Slot, used, Move, rows_in_phase, moved, no_octets, seconds_after, event_move, body_answer, is_update, kind_answer, answer_to, first_twelve, error_reply, refuse_reply, refusal_reply, after_message, rows_after, message_move, Peer, peer_with, refused_move}
use Rattle.model.specs.Theorem.{cell, rows_held, part}

pub no_rows : (rows : List Row) → length rows ≡ 0 → rows ≡ []
no_rows [] e = refl
no_rows (x ∷ xs) e = absurd (omega arith)

-- a slot's rows and its part of the table, by what becomes of them
unfoldable pub rows_from : Change → List Row → List Row
rows_from keep rows = rows
rows_from clear rows = []
rows_from (replace new) rows = new

unfoldable pub part_from : Change → List ℕ → List ℕ
part_from keep old = old
part_from clear old = padded 384 (flat [])
part_from (replace new) old = padded 384 (flat new)

-- what a used slot is shown as, once these are its seconds
abbrev pub cell_with : Peer → Seconds → Stored.Slot
cell_with p s = record { address = p.address; asn = p.asn; neighbour = p.neighbour; rows = length p.rows; seconds = s }

-- the ruling on what a slot is shown as, once a tick is booked there, and the move of the slot
pub record Agrees (old : Slot) (shown : Stored.Slot) (x : Ruling) (move : Move) : Type 0 where
  pub answer : x.answer ≡ move.answer
  pub reply : x.reply ≡ move.reply
  pub cell_is : slot_after shown x ≡ cell move.slot
  pub part_is : part move.slot ≡ part_from x.change (part old)

part_from_lem : (change : Change) (rows : List Row) → padded 384 (flat (rows_from change rows)) ≡ part_from change (padded 384 (flat rows))
unfolding rows_from part_from
part_from_lem keep rows = refl
part_from_lem clear rows = refl
part_from_lem (replace new) rows = refl

count_from : (change : Change) (rows : List Row) → count_after (length rows) change ≡ length (rows_from change rows)
unfolding rows_from count_after
count_from keep rows = refl
count_from clear rows = refl
count_from (replace new) rows = refl

agrees : (peer : Peer) (s : Seconds) (x : Ruling) (move : Move)
    → x.answer ≡ move.answer → x.reply ≡ move.reply
    → move.slot ≡ used (peer_with peer x.neighbour (rows_from x.change peer.rows) s)
    → Agrees (used peer) (cell_with peer s) x move
unfolding slot_after cell part rows_held
agrees peer s x move a r e =
    record {
      answer = a;
      reply = r;
      cell_is = rw (e, count_from x.change peer.rows);
      part_is = rw e (part_from_lem x.change peer.rows);
    }

-- ---- a step of the machine

rows_step : (before now : Phase) (rows : List Row) → (is_up before ≡ false → length rows ≡ 0) → rows_in_phase now rows ≡ rows_from (leaving before now) rows
unfolding rows_in_phase leaving rows_from
rows_step before now rows none = go (is_up before) refl (is_up now) refl
  where
    go : (b : Bool) → is_up before ≡ b → (c : Bool) → is_up now ≡ c → cond (is_up now) rows [] ≡ rows_from (cond (is_up before && not (is_up now)) clear keep) rows
    go true e true f = rw (e, f)
    go true e false f = rw (e, f)
    go false e true f = rw (e, f)
    go false e false f = rw (e, f) (sym (no_rows rows (none e)))

-- ---- the number and the reply of a message: the model's own rules beside the gateway's

body_same : (u : UpdateRead) → Body.update_number u ≡ body_answer u
unfolding Body.update_number body_answer
body_same (accepted rows) = refl
body_same (broken_at offset) = refl
body_same too_many = refl

kind_same : (g : Settings) (n : Neighbour) (o : List ℕ) (d : Result Message Refusal) → kind_number 128 g n o d ≡ kind_answer g n o d
unfolding kind_number meaning_number kind_answer is_update body_number
kind_same g n o (Ok m) = rw (body_same (update_of 128 g.net o))
kind_same g n o (Err refused) = refl

number_same : (g : Settings) (asn : ℕ) (n : Neighbour) (o : List ℕ) → message_number 128 g asn n o ≡ answer_to g asn n o
unfolding answer_to
number_same g asn n o =
    message_number_lem 128 g n o asn
    ∙ ap (λ (k : ℕ). if_ok (header_answer o) (check (eqb (asn_at o) asn) 9 k) (header_answer o)) (kind_same g n o (decode_of o))

reply_same : (g : Settings) (n : Neighbour) (o : List ℕ) (k : ℕ) → named_reply g n o k ≡ refusal_reply g n o k
unfolding named_reply refusal_reply refuse_to refuse_reply error_to error_reply error_head first_twelve
reply_same g n o k = refl

after_same : (g : Settings) (asn : ℕ) (n : Neighbour) (o : List ℕ) (d : Result Message Refusal) → Ruled.taken_step g asn n o d ≡ after_message g asn n o d
unfolding Ruled.taken_step after_message error_head first_twelve
after_same g asn n o (Ok m) = refl
after_same g asn n o (Err refused) = refl

module _ (peer : Peer) (good : SlotGood (cell (used peer))) where
  none_unless_up : is_up peer.neighbour.phase ≡ false → length peer.rows ≡ 0
  unfolding cell
  none_unless_up e = good.none e

  stepped_agrees : (after : After) (s : Seconds) → Agrees (used peer) (cell_with peer s) (stepped peer.neighbour after) (moved peer after peer.rows s)
  unfolding stepped moved
  stepped_agrees after s =
      agrees peer s (stepped peer.neighbour after) (moved peer after peer.rows s) refl refl
      (ap (λ (l : List Row). used (peer_with peer after.neighbour l s)) (rows_step peer.neighbour.phase after.neighbour.phase peer.rows none_unless_up))

  -- a tick is booked on both sides before it is carried out
  booked_cell : (event : Intrinsic) → booked (as_event event) (cell (used peer)) ≡ cell_with peer (seconds_after (as_event event) peer)
  unfolding cell booked second_more seconds_after
  booked_cell Start = refl
  booked_cell Stop = refl
  booked_cell Tick = refl

  pub event_agrees : (g : Settings) (event : Intrinsic)
      → Agrees (used peer) (booked (as_event event) (cell (used peer)))
      (stepped peer.neighbour (step_of g peer.asn peer.neighbour (as_event event) no_head)) (event_move g event (used peer))
  unfolding event_move no_head no_octets
  event_agrees g event = rw (booked_cell event) (stepped_agrees (step_of g peer.asn peer.neighbour (as_event event) no_octets) (seconds_after (as_event event) peer))

  -- ---- a message

  module _ (g : Settings) (o : List ℕ) where
    abbrev after : After
    after = after_message g peer.asn peer.neighbour o (decode_of o)

    abbrev Right : Ruling → Type 0
    Right x = Agrees (used peer) (cell_with peer peer.seconds) x (message_move g o (used peer))

    refused_right : (k : ℕ) → (k ≡ 0 → ⊥) → message_number 128 g peer.asn peer.neighbour o ≡ k
        → Right (refuses peer.neighbour k (named_reply g peer.neighbour o k))
    unfolding message_move if_ok refuses rows_from
    refused_right k z e =
        rw (← (number_same g peer.asn peer.neighbour o), e, ne_eqb k 0 z)
        (agrees peer peer.seconds (refuses peer.neighbour k (named_reply g peer.neighbour o k)) (refused_move g o peer k) refl (reply_same g peer.neighbour o k) refl)

    -- the rows of an accepted Update, which finds and leaves its neighbour Up, or what the step leaves of those there
    -- were
    carried_rows : NumberPassed 128 g peer.asn peer.neighbour o
        → rows_in_phase after.neighbour.phase (rows_after g peer.neighbour o (decode_of o) peer.rows) ≡ rows_from (change_by 128 g peer.neighbour o after) peer.rows
    unfolding change_by after_message rows_after is_update rows_in_phase rows_from error_head first_twelve
    carried_rows p =
        rw (p.read, p.brings) (go (same (kind_of p.message) K.Update && is_up peer.neighbour.phase) refl)
      where
        go : (b : Bool) → (same (kind_of p.message) K.Update && is_up peer.neighbour.phase) ≡ b
            → rows_in_phase (step_of g peer.asn peer.neighbour (Received p.message) (error_head o)).neighbour.phase (cond b (rows_read (update_of 128 g.net o)) peer.rows)
            ≡ rows_from (cond b (replace (rows_read (update_of 128 g.net o))) (leaving peer.neighbour.phase (step_of g peer.asn peer.neighbour (Received p.message) (error_head o)).neighbour.phase)) peer.rows
        go true e = rw (after_up g peer.asn peer.neighbour o p.message e)
        go false e = rows_step peer.neighbour.phase (step_of g peer.asn peer.neighbour (Received p.message) (error_head o)).neighbour.phase peer.rows none_unless_up

    carried_right : message_number 128 g peer.asn peer.neighbour o ≡ 0
        → Right (carried_out 128 g peer.neighbour o (Ruled.taken_step g peer.asn peer.neighbour o (decode_of o)))
    unfolding message_move if_ok moved carried_out
    carried_right e =
        rw (← (number_same g peer.asn peer.neighbour o), e, after_same g peer.asn peer.neighbour o (decode_of o))
        (agrees peer peer.seconds (carried_out 128 g peer.neighbour o after)
        (moved peer after (rows_after g peer.neighbour o (decode_of o) peer.rows) peer.seconds) refl refl
        (ap (λ (l : List Row). used (peer_with peer after.neighbour l peer.seconds)) (carried_rows (number_passed 128 g peer.asn peer.neighbour o e))))

    pub message_agrees : Right (receive_ruling 128 g peer.asn peer.neighbour o)
    message_agrees = receive_holds 128 g peer.asn peer.neighbour o Right refused_right carried_right
