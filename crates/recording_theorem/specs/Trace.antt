-- What holds of the trace of every recording, beside the equation with `output_of`: no call is left out of it but quiet
-- ticks, those are counted, and its seconds are the ticks carried out. The proofs are in proofs/Trace.antt.
use Rattle.std.specs.Prelude.{ℕ, suc, ◌+◌, ◌≤◌, ◌<◌, ◌≡◌, true, false, cond, List, [], ◌∷◌, map, length}
use Rattle.neighbour.specs.declared.Settings.{Settings}
use Rattle.neighbour_seconds.specs.Seconds.{seconds_sum}
use Rattle.gateway_state.specs.declared.Slot.{Slot}
use Rattle.gateway_state.specs.Slots.{slot_of}
use Rattle.gateway_slots.specs.Calls.{fresh_of}
use Rattle.model.specs.Model as M
use Rattle.model.specs.Theorem.{state_of}
use Rattle.model.specs.Ticks.{ticks_since}
use Rattle.recording_trace.specs.declared.Deed.TheVariants as D
use Rattle.recording_trace.specs.declared.Telling.{Telling}
use Rattle.recording_trace.specs.Trace.{Happened, slot_for, is_passed_over, trace_text}
use Rattle.recording_call.specs.Told.{tell_text}
use Rattle.recording_theorem.specs.Output.{RecordedLine, Told, bad_line, called, calls_told, told_from}
use Rattle.recording_theorem.specs.Theorem.{calls_in, said_in}

-- a call that has a line counts as one, and with it those that it says were passed over
unfoldable pub tally : List Told → ℕ
tally [] = 0
tally (bad_line number ∷ rest) = tally rest
tally (called t call h ∷ rest) = cond (is_passed_over t h) 0 (suc t.passed) + tally rest

-- what a tick that is passed over left as it was: it sent nothing, and the neighbour's state, register and row count stay
pub record QuietTick (h : Happened) (found left : Slot) : Type 0 where
  pub tick : h.deed ≡ D.Tick
  pub unsent : h.first ≡ []
  pub phase : found.neighbour.phase ≡ left.neighbour.phase
  pub register : found.neighbour.register ≡ left.neighbour.register
  pub rows : found.rows ≡ left.rows

pub record Traces : Type 0 where
  -- trace and playback are told of the same calls, and of the same answers and replies
  pub calls :
      (g : Settings) (lines : ℕ) (events : List RecordedLine)
      → calls_in (told_from true lines (M.empty g) events) ≡ calls_in (told_from false lines (M.empty g) events)
  pub said :
      (g : Settings) (lines : ℕ) (events : List RecordedLine)
      → said_in (told_from true lines (M.empty g) events) ≡ said_in (told_from false lines (M.empty g) events)
  -- of a line of calls each is told of or counted
  pub counted :
      (number passed : ℕ) (m : M.Model) (call : M.Call) (rest : List M.Call) → passed + suc (length rest) ≤ 18446744073709551615
      → tally (calls_told true number passed m (call ∷ rest)) ≡ passed + suc (length rest)
  -- none is passed over but a quiet tick behind which another comes
  pub quiet :
      (t : Telling) (h : Happened) → is_passed_over t h ≡ true
      → (t.last ≡ false) × QuietTick h (slot_for h.before h.address) (slot_for h.after h.address)
  -- any other call has its line
  pub shown : (t : Telling) (h : Happened) → t.traced ≡ true → is_passed_over t h ≡ false → tell_text t h ≡ trace_text t h
  -- a neighbour's second is the number of ticks carried out since it was added
  pub second :
      (g : Settings) → (fresh_of g).answer ≡ 0 → (calls : List M.Call) (a : ℕ) → slot_of (state_of (M.model g calls)) a < 8
      → seconds_sum (slot_for (state_of (M.model g calls)) a).seconds ≡ ticks_since g (slot_of (state_of (M.model g calls)) a) calls
