-- A line of the trace: what a call found and left of its neighbour, and every message that was received or sent.
-- docs/RECORDING.md has the format.
use Rattle.std.specs.Prelude.{ℕ, Bool, true, false, cond, not, ◌&&◌, List, [], ◌∷◌, ◌++◌, eqb, length}
use Rattle.text.specs.Text.{text}
use Rattle.neighbour.specs.Record.{phase_number}
use Rattle.neighbour_seconds.specs.Seconds.{seconds_sum}
use Rattle.gateway_state.specs.declared.Slot.{Slot}
use Rattle.gateway_state.specs.declared.State.{State}
use Rattle.gateway_state.specs.Slots.{slot_at, slot_of}
use Rattle.listing_lines.specs.Lines.{state_word, mode_word}
use Rattle.recording_message.specs.Message.{fields, address_field, message_text}
use Rattle.recording_trace.specs.declared.Deed.{Deed}
use Rattle.recording_trace.specs.declared.Deed.TheVariants as D
use Rattle.recording_trace.specs.declared.Telling.{Telling}

-- ---- a call

-- what is told of: event, address, the message received, the state before and after, the answer, the messages sent
pub record Happened : Type 0 where
  pub deed : Deed
  pub address : ℕ
  pub received : List ℕ
  pub before : State
  pub after : State
  pub answer : ℕ
  pub first : List ℕ
  pub second : List ℕ

-- a recording's own keys
unfoldable pub deed_word : Deed → List ℕ
deed_word D.Add = text "add"
deed_word D.Remove = text "remove"
deed_word D.Start = text "start"
deed_word D.Stop = text "stop"
deed_word D.Tick = text "tick"
deed_word D.Receive = text "rx"

-- the slot with this address; a free one where there is none
unfoldable pub slot_for : State → ℕ → Slot
slot_for st a = slot_at st (slot_of st a)

-- what the call leaves of it, or, where it leaves nothing, what it found
unfoldable pub told_slot : Slot → Slot → Slot
told_slot found left = cond (eqb left.address 0) found left

-- 01: "States: idle, acquisition, down, up, cease."
unfoldable pub slot_word : Slot → List ℕ
slot_word slot = cond (eqb slot.address 0) (text "none") (state_word slot.neighbour.phase)

abbrev pub record_keys : List ℕ
record_keys = text " quiet= rowsbefore= rowsafter= registerbefore= registerafter= peer= S= R= T1= T2= t1= t2= t3= heard= cause= sincehello= sincepoll="

unfoldable pub record_numbers : ℕ → Slot → Slot → Slot → List ℕ
record_numbers passed found left told =
    passed
    ∷ found.rows
    ∷ left.rows
    ∷ found.neighbour.register
    ∷ left.neighbour.register
    ∷ told.asn
    ∷ told.neighbour.s
    ∷ told.neighbour.r
    ∷ told.neighbour.period1
    ∷ told.neighbour.period2
    ∷ told.neighbour.t1
    ∷ told.neighbour.t2
    ∷ told.neighbour.t3
    ∷ told.neighbour.heard
    ∷ told.neighbour.cause
    ∷ told.neighbour.sincehello
    ∷ told.neighbour.sincepoll
    ∷ []

-- the line's number, the neighbour, the event, how many seconds the neighbour has been there, and the answer
unfoldable pub front_text : ℕ → Deed → ℕ → ℕ → ℕ → List ℕ
front_text line deed a second answer =
    fields (text "line=") (line ∷ [])
    ++ (address_field (text " neighbour=") a
    ++ (text " event=" ++ (deed_word deed ++ fields (text " second= answer=") (second ∷ answer ∷ []))))

unfoldable pub record_text : ℕ → Slot → Slot → List ℕ
record_text passed found left =
    text " before="
    ++ (slot_word found
    ++ (text " after="
    ++ (slot_word left
    ++ (text " mode=" ++ (mode_word (told_slot found left).neighbour.mode ++ fields record_keys (record_numbers passed found left (told_slot found left)))))))

-- a message that was received, where the call is one, if only of no octets
unfoldable pub received_text : Deed → ℕ → List ℕ → List ℕ
received_text D.Add net o = []
received_text D.Remove net o = []
received_text D.Start net o = []
received_text D.Stop net o = []
received_text D.Tick net o = []
received_text D.Receive net o = message_text (text " received=") net o

-- a message that was sent, where there is one
unfoldable pub sent_text : ℕ → List ℕ → List ℕ
sent_text net [] = []
sent_text net (octet ∷ rest) = message_text (text " sent=") net (octet ∷ rest)

unfoldable pub messages_text : Deed → ℕ → List ℕ → List ℕ → List ℕ → List ℕ
messages_text deed net received first second = received_text deed net received ++ (sent_text net first ++ sent_text net second)

-- the line of a call whose neighbour's slot was this and is that
unfoldable pub slots_text : Telling → Happened → Slot → Slot → List ℕ
slots_text t h found left =
    front_text t.line h.deed h.address (seconds_sum (told_slot found left).seconds) h.answer
    ++ (record_text t.passed found left
    ++ (messages_text h.deed h.before.settings.net h.received h.first h.second ++ text "\n"))

unfoldable pub trace_text : Telling → Happened → List ℕ
trace_text t h = slots_text t h (slot_for h.before h.address) (slot_for h.after h.address)

-- ---- quiet ticks

unfoldable pub is_tick : Deed → Bool
is_tick D.Add = false
is_tick D.Remove = false
is_tick D.Start = false
is_tick D.Stop = false
is_tick D.Tick = true
is_tick D.Receive = false

-- neither state nor register nor rows changed
unfoldable pub is_unchanged : Slot → Slot → Bool
is_unchanged found left =
    eqb (phase_number found.neighbour.phase) (phase_number left.neighbour.phase)
    && (eqb found.neighbour.register left.neighbour.register && eqb found.rows left.rows)

-- nothing was sent either
unfoldable pub is_quiet_tick : Happened → Bool
is_quiet_tick h = eqb (length h.first) 0 && is_unchanged (slot_for h.before h.address) (slot_for h.after h.address)

-- no line tells of a quiet tick that is not its line's last
unfoldable pub is_passed_over : Telling → Happened → Bool
is_passed_over t h = not t.last && (is_tick h.deed && is_quiet_tick h)
