-- Laws of a text written part by part: of numbers behind their keys, of rows, of a whole line. Assumes nothing.
use Prim.Native.Nat.{ℕ, ◌+◌, ◌-◌, ◌≤◌}
use native.Mathlib.Nat.{add-sub_cancel_left}
use native.Mathlib.Omega.{arith}
use borrow.Author.Tests.{eq-eqb, ne_eqb}
use mathlib.Core.Bool.{Bool, false}
use mathlib.Core.Path.{◌≡◌, refl, ap, ◌∙◌}
use mathlib.Core.List.{List, [], ◌∷◌}
use lib.Dec.{eqb}
use lib.ListN.{length, take, drop, length-drop}
use lib.Seq.{length-take-le}
use Rattle.text.specs.Text.{text}
use Rattle.text.specs.declared.Writer.{Writer}
use Rattle.text.specs.Writer.{Puts}
use Rattle.text.proofs.Writing.{puts_nothing, puts_both}
use Rattle.checks.proofs.Laws.{cond_elim}
use Rattle.neighbour.specs.declared.Phase.{Phase}
use Rattle.neighbour.specs.declared.Phase.TheVariants as P
use Rattle.neighbour.specs.declared.Mode.{Mode}
use Rattle.neighbour.specs.declared.Mode.TheVariants as M
use Rattle.neighbour_seconds.specs.Seconds.{seconds_sum}
use Rattle.gateway_state.specs.declared.Slot.{Slot}
use Rattle.gateway_state.specs.declared.State.{State}
use Rattle.gateway_state.specs.declared.Outcome.{Outcome}
use Rattle.listing_lines.specs.Lines.{state_word, mode_word}
use Rattle.recording_trace.specs.declared.Telling.{Telling}
use Rattle.recording_trace.specs.declared.Deed.{Deed}
use Rattle.recording_trace.specs.declared.Deed.TheVariants.{Add, Remove, Start, Stop, Tick, Receive}
use Rattle.recording_message.specs.Message.{fields, message_text}
use Rattle.recording_trace.specs.Trace.{received_text, sent_text, slot_for, told_slot, slot_word, record_keys, record_numbers, record_text, front_text, messages_text, slots_text, trace_text, is_tick, is_unchanged, is_quiet_tick}
use Rattle.recording_trace.specs.Steps.{happened_in}

-- ---- a text of which a part is written

pub not_received : (d : Deed) (net : ℕ) (o : List ℕ) (w : Writer) → (d ≡ Receive → ⊥) → Puts (received_text d net o) w w
unfolding received_text
not_received Add net o w h = puts_nothing w
not_received Remove net o w h = puts_nothing w
not_received Start net o w h = puts_nothing w
not_received Stop net o w h = puts_nothing w
not_received Tick net o w h = puts_nothing w
not_received Receive net o w h = absurd (h refl)

module _ (net : ℕ) where
  pub not_sent : (o : List ℕ) → length o ≡ 0 → (w : Writer) → Puts (sent_text net o) w w
  unfolding sent_text
  not_sent [] e w = puts_nothing w
  not_sent (octet ∷ rest) e w = absurd (omega arith)

  pub is_sent : (o : List ℕ) → (length o ≡ 0 → ⊥) → sent_text net o ≡ message_text (text " sent=") net o
  unfolding sent_text
  is_sent [] n = absurd (n refl)
  is_sent (octet ∷ rest) n = refl

-- ---- the record

module _ (passed : ℕ) (found left : Slot) {told : Slot} {numbers : List ℕ} (e : told ≡ told_slot found left) (n : numbers ≡ record_numbers passed found left told) where
  pub record_done : {before after mode : List ℕ} {a b c d f g h i : Writer}
      → before ≡ slot_word found → after ≡ slot_word left → mode ≡ mode_word told.neighbour.mode
      → Puts (text " before=") a b → Puts before b c → Puts (text " after=") c d → Puts after d f
      → Puts (text " mode=") f g → Puts mode g h → Puts (fields record_keys numbers) h i → Puts (record_text passed found left) a i
  unfolding record_text
  record_done k l m p q r s t u v =
      rw (← e, ← n)
      (puts_both p (puts_both (rw k at q) (puts_both r (puts_both (rw l at s) (puts_both t (puts_both (rw m at u) v))))))

  pub numbers_long : length numbers ≡ 17
  unfolding record_numbers
  numbers_long = ap length n

-- ---- the line

module _ (t : Telling) (d : Deed) (a : ℕ) (received : List ℕ) (st : State) (o : Outcome) (reply : List ℕ)
    {found left told : Slot} {second : ℕ}
    (e : found ≡ slot_for st a) (f : left ≡ slot_for o.state a) (g : told ≡ told_slot found left) (s : second ≡ seconds_sum told.seconds) where
  pub line_written : {w x y z new : Writer}
      → Puts (front_text t.line d a second o.answer) w x → Puts (record_text t.passed found left) x y
      → Puts (messages_text d st.settings.net received (take o.first reply) (take (o.first + o.second - o.first) (drop o.first reply))) y z
      → Puts (text "\n") z new → Puts (trace_text t (happened_in d a received st o reply)) w new
  unfolding trace_text slots_text happened_in
  line_written p q r v =
      rw (← e, ← f, ← g, ← s)
      (puts_both p (puts_both q (puts_both (rw (add-sub_cancel_left o.first o.second) at r) v)))

-- the two messages of a reply
module _ (o : Outcome) (reply : List ℕ) (h : o.first + o.second ≤ length reply) where
  pub first_long : length (take o.first reply) ≡ o.first
  first_long = length-take-le o.first reply (omega arith)

  pub second_long : length (take (o.first + o.second - o.first) (drop o.first reply)) ≡ o.second
  second_long =
      rw (add-sub_cancel_left o.first o.second)
      (length-take-le o.second (drop o.first reply) (simp length-drop (omega arith)))

-- ---- quiet ticks

module _ (d : Deed) (a : ℕ) (received : List ℕ) (st : State) (o : Outcome) (reply : List ℕ) (h : o.first ≤ length reply) where
  pub passed_sent : (o.first ≡ 0 → ⊥) → false ≡ is_quiet_tick (happened_in d a received st o reply)
  unfolding is_quiet_tick happened_in
  passed_sent n = rw (length-take-le o.first reply h, ne_eqb o.first 0 n)

  pub passed_silent : o.first ≡ 0 → {found left : Slot} {r : Bool} → found ≡ slot_for st a → left ≡ slot_for o.state a → r ≡ is_unchanged found left
      → r ≡ is_quiet_tick (happened_in d a received st o reply)
  unfolding is_quiet_tick happened_in
  passed_silent z p q e = rw (length-take-le o.first reply h, eq-eqb o.first 0 z, ← p, ← q) e

-- ---- words

state_length : (phase : Phase) → length (state_word phase) ≤ 11
unfolding state_word text
state_length P.Idle = omega arith
state_length P.Acquisition = omega arith
state_length P.Down = omega arith
state_length P.Up = omega arith
state_length P.Cease = omega arith

pub slot_length : (slot : Slot) → length (slot_word slot) ≤ 11
unfolding slot_word text
slot_length slot = cond_elim (λ (l : List ℕ). length l ≤ 11) (eqb slot.address 0) (text "none") (state_word slot.neighbour.phase) (λ e. omega arith) (λ e. state_length slot.neighbour.phase)

pub mode_length : (mode : Mode) → length (mode_word mode) ≤ 7
unfolding mode_word text
mode_length M.Unset = omega arith
mode_length M.Active = omega arith
mode_length M.Passive = omega arith
