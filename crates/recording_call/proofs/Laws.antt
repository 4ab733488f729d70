-- Laws of what is told of a call. Assumes nothing.
use Prim.Native.Nat.{ℕ, ◌+◌, ◌≤◌}
use native.Mathlib.Omega.{arith}
use mathlib.Core.Path.{◌≡◌, refl, sym, ap, ◌∙◌}
use mathlib.Core.Bool.{true, false}
use mathlib.Core.List.{List, []}
use lib.ListN.{length, take, drop, replicate, length-append, length-replicate}
use lib.Seq.{take-append_seam}
use Rattle.octets.specs.Buffer.{over}
use Rattle.update_rows.specs.Storing.{zeros}
use Rattle.text_values.specs.Hex.{is_hex, hex_octets}
use Rattle.text_values.proofs.Readings.{hex_half}
use Rattle.neighbour_machine.specs.Intrinsics.{Intrinsic}
use Rattle.gateway_state.specs.declared.State.{State}
use Rattle.gateway_state.specs.declared.Outcome.{Outcome}
use Rattle.gateway_state.specs.Outcomes.{silent_of}
use Rattle.gateway_slots.specs.Calls.{add_of, remove_of}
use Rattle.gateway_rules.specs.Calls.{event_outcome, event_table, event_buffer, message_outcome, message_table, message_buffer}
use Rattle.gateway_theorems.specs.Claims.{ReplyFits}
use Rattle.gateway_theorems.proofs.Replies.{replies_fit}
use Rattle.model.specs.Model as Model
use Rattle.model.specs.Model.{Call}
use Rattle.model.specs.Theorem.{Gateway, outcome_of, table_left, buffer_left}
use Rattle.recording_bad_line.specs.BadLine.{one_more}
use Rattle.recording_replies.specs.Replies.{tx_text, replies_text}
use Rattle.recording_replies.specs.Seen.{seen_in}
use Rattle.recording_trace.specs.declared.Deed.{Deed}
use Rattle.recording_trace.specs.declared.Deed.TheVariants as D
use Rattle.recording_trace.specs.declared.Telling.{Telling}
use Rattle.recording_trace.specs.Trace.{Happened, trace_text, is_passed_over}
use Rattle.recording_trace.specs.Steps.{happened_in}
use Rattle.recording_call.specs.declared.Called.{Called}
use Rattle.recording_call.specs.Told.{lent, addressed_to, deed_of, message_in, tell_text, passed_after, called_for, happened_by, call_text, called_of, on}
use Rattle.recording_call.specs.Steps.{called_with}

-- what is promised of what happened: what is left of it, and the output buffer after it
abbrev pub Telt : Telling → Happened → Called → List ℕ → List ℕ → Type 0
Telt t h r old new = (r ≡ called_for t h) × (new ≡ over (tell_text t h) old)

-- ---- the ways of telling

module _ (t : Telling) (deed : Deed) (a : ℕ) (received : List ℕ) (st : State) (o : Outcome) (reply old : List ℕ) where
  abbrev it : Happened
  it = happened_in deed a received st o reply

  pub passed_done : t.traced ≡ true → is_passed_over t it ≡ true → {passed : ℕ} {r : Called} → passed ≡ one_more t.passed → r ≡ called_with o 0 passed → Telt t it r old old
  unfolding called_for called_with tell_text passed_after happened_in over
  passed_done z e p s = (s ∙ rw (p, e, z), rw (e, z))

  pub traced_done : t.traced ≡ true → is_passed_over t it ≡ false → {new : List ℕ} {w : ℕ} {r : Called} → w ≡ length (trace_text t it) → new ≡ over (trace_text t it) old
      → r ≡ called_with o w 0 → Telt t it r old new
  unfolding called_for called_with tell_text passed_after happened_in
  traced_done z e p q s = (s ∙ rw (p, e, z), q ∙ rw (e, z))

  pub plain_done : t.traced ≡ false → {new : List ℕ} {w : ℕ} {r : Called} → w ≡ length (replies_text a (seen_in o reply)) → new ≡ over (replies_text a (seen_in o reply)) old
      → r ≡ called_with o w 0 → Telt t it r old new
  unfolding called_for called_with tell_text passed_after happened_in replies_text seen_in
  plain_done z p q s = (s ∙ rw (z, p), q ∙ rw z)

-- add and remove have no replies
pub silent_done : (t : Telling) (deed : Deed) (a : ℕ) (st : State) (o : Outcome) (old : List ℕ) → t.traced ≡ false → o.first ≡ 0 → o.second ≡ 0
    → {r : Called} → r ≡ called_with o 0 0 → Telt t (happened_in deed a [] st o []) r old old
unfolding called_for called_with tell_text passed_after happened_in tx_text over
silent_done t deed a st o old z e f s = (s ∙ rw (z, e, f), rw (z, e, f))

pub add_silent : (st : State) (a asn : ℕ) {o : Outcome} → o ≡ add_of st a asn → (o.first ≡ 0) × (o.second ≡ 0)
unfolding add_of silent_of
add_silent st a asn e = rw e (refl, refl)

pub remove_silent : (st : State) (a : ℕ) {o : Outcome} → o ≡ remove_of st a → (o.first ≡ 0) × (o.second ≡ 0)
unfolding remove_of silent_of
remove_silent st a e = rw e (refl, refl)

module _ (t : Telling) (st : State) (a : ℕ) (old : List ℕ) {new : List ℕ} {o : Outcome} {r : Called} where
  pub add_done : (asn : ℕ) → o ≡ add_of st a asn → Telt t (happened_in D.Add a [] st o []) r old new
      → ((table : List ℕ) → r ≡ called_of t (Model.add a asn) (on st table)) × ((table : List ℕ) → new ≡ over (call_text t (Model.add a asn) (on st table)) old)
  unfolding called_of call_text happened_by deed_of addressed_to message_in outcome_of buffer_left on
  add_done asn e h = (λ table. rw e at h.0, λ table. rw e at h.1)

  pub remove_done : o ≡ remove_of st a → Telt t (happened_in D.Remove a [] st o []) r old new
      → ((table : List ℕ) → r ≡ called_of t (Model.remove a) (on st table)) × ((table : List ℕ) → new ≡ over (call_text t (Model.remove a) (on st table)) old)
  unfolding called_of call_text happened_by deed_of addressed_to message_in outcome_of buffer_left on
  remove_done e h = (λ table. rw e at h.0, λ table. rw e at h.1)

-- ---- a call with replies

-- a call made: its outcome, the table and the reply buffer after it, and that the replies fit
pub record Made (call : Call) (b : Gateway) (o : Outcome) (table reply : List ℕ) : Type 0 where
  pub outcome : o ≡ outcome_of call b
  pub rows : table ≡ table_left call b
  pub buffer : reply ≡ buffer_left call b
  pub few : o.first + o.second ≤ 2048
  pub long : length reply ≡ 2048

module _ {call : Call} {b : Gateway} {o : Outcome} {table reply : List ℕ} (m : Made call b o table reply) where
  abbrev itself : Happened
  itself = happened_in (deed_of call) (addressed_to call) (message_in call) b.state o reply

  same : itself ≡ happened_by call b
  unfolding happened_by
  same = rw (m.outcome, m.buffer)

  pub made_done : (t : Telling) (old : List ℕ) {new : List ℕ} {r : Called} → Telt t itself r old new
      → (r ≡ called_of t call b) × ((table ≡ table_left call b) × (new ≡ over (call_text t call b) old))
  unfolding called_of call_text
  made_done t old h = (h.0 ∙ ap (called_for t) same, (m.rows, h.1 ∙ ap (λ (it : Happened). over (tell_text t it) old) same))

-- the lent buffer, as the code makes it
pub lent_is : lent ≡ replicate 2048 0
unfolding lent zeros
lent_is = refl

lent_length : length lent ≡ 2048
unfolding lent zeros
lent_length = length-replicate {A = ℕ} 2048 0

-- replies fit in the lent buffer
fitting : {call : Call} {b : Gateway} {o : Outcome} {table reply : List ℕ} → o ≡ outcome_of call b → table ≡ table_left call b → reply ≡ buffer_left call b
    → ReplyFits (outcome_of call b) lent (buffer_left call b) → Made call b o table reply
fitting p q r f =
    record { outcome = p; rows = q; buffer = r; few = rw p (omega (arith, f.few)); long = ap length r ∙ f.same ∙ lent_length }

-- Start, Stop or tick
pub event_made : (event : Intrinsic) (st : State) (table : List ℕ) (a : ℕ) {buffer : List ℕ} → lent ≡ buffer → {o : Outcome} {after reply : List ℕ}
    → o ≡ event_outcome event st table buffer a → after ≡ event_table event st table buffer a → reply ≡ event_buffer event st table buffer a
    → Made (Model.happen event a lent) (on st table) o after reply
unfolding outcome_of table_left buffer_left on
event_made event st table a z p q r = fitting (rw z p) (rw z q) (rw z r) (replies_fit.events event st table lent a)

module _ (st : State) (table : List ℕ) (a : ℕ) {buffer : List ℕ} (z : lent ≡ buffer) {o : Outcome} {after reply : List ℕ} where
  -- a message, which the code has as a part of its own octets
  pub receive_made : {message octets : List ℕ} → message ≡ octets → o ≡ message_outcome st table buffer [] a message
      → after ≡ message_table st table buffer [] a message → reply ≡ message_buffer st table buffer [] a message
      → Made (Model.receive a octets [] lent) (on st table) o after reply
  unfolding outcome_of table_left buffer_left on
  receive_made {message} {octets} e p q r =
      fitting (rw (z, ← e) p) (rw (z, ← e) q) (rw (z, ← e) r) (replies_fit.messages st table lent [] a octets)

-- what is told of a message that the code has as a part of its own octets
pub telt_as : (t : Telling) (deed : Deed) (a : ℕ) (st : State) (o : Outcome) (reply old : List ℕ) {new : List ℕ} {r : Called} {message octets : List ℕ}
    → message ≡ octets → Telt t (happened_in deed a message st o reply) r old new → Telt t (happened_in deed a octets st o reply) r old new
telt_as t deed a st o reply old e h = rw e at h

-- ---- the octets of a message, read from hex

pub message_room : (digits : List ℕ) → is_hex digits ≡ true → length digits ≤ 4098 → length (hex_octets digits) ≤ 2049
message_room digits g h = omega (arith, hex_half digits g)

module _ (digits buffer : List ℕ) {read : List ℕ} {size : ℕ} (p : size ≡ length (hex_octets digits)) (q : read ≡ over (hex_octets digits) buffer) where
  pub message_is : take size read ≡ hex_octets digits
  unfolding over
  message_is = rw (p, q) (take-append_seam (hex_octets digits) (drop (length (hex_octets digits)) buffer))

  pub message_within : size ≤ length read
  unfolding over
  message_within = rw q (simp length-append (omega (arith, p)))

  pub message_long : size ≡ length (take size read)
  message_long = p ∙ ap length (sym message_is)

  pub message_few : is_hex digits ≡ true → length digits ≤ 4098 → length (take size read) ≤ 2049
  message_few g h = omega (arith, message_room digits g h, ap length message_is)
