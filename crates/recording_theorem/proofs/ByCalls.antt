-- The same output, told from the calls' own definitions, and with the code's limited count of lines: what the player's
-- turns are compared with first.
-- That it is what the model says is proved in ByModel. Assumes nothing.
use Prim.Native.Nat.{ℕ}
use mathlib.Core.Bool.{Bool}
use mathlib.Core.List.{List, [], ◌∷◌, ◌++◌, map}
use Rattle.checks.specs.Lists.{join}
use Rattle.update_rows.specs.Storing.{zeros}
use Rattle.recording_lines.specs.Lines.{Event, bad, add, remove, start, stop, tick, rx}
use Rattle.recording_bad_line.specs.BadLine.{bad_text, one_more}
use Rattle.model.specs.Model as M
use Rattle.model.specs.Theorem.{Gateway, gateway_step, gateway_from, begun, run}
use Rattle.recording_trace.specs.declared.Telling.{Telling}
use Rattle.recording_trace.specs.Trace.{Happened}
use Rattle.recording_call.specs.Told.{tell_text, passed_after, happened_by}
use Rattle.recording_player.specs.Player.{listed_in}
use Rattle.recording_theorem.specs.Output.{RecordedLine, event_in, Opening, broken, opened, calls_of, good_calls, telling}

-- ---- what is told, in order

pub data Told : Type 0 where
  bad_line : ℕ → Told
  called : Telling → M.Call → Happened → Told

-- each call, and what happened by its own definitions
unfoldable pub calls_told : Bool → ℕ → ℕ → Gateway → List M.Call → List Told
calls_told traced number passed b [] = []
calls_told traced number passed b (call ∷ rest) =
    called (telling traced number passed rest) call (happened_by call b)
    ∷ calls_told traced number (passed_after (telling traced number passed rest) (happened_by call b)) (gateway_step call b) rest

-- "A bad event line is reported in its place as `bad=` and its line number, from 1"
unfoldable pub event_told : Bool → ℕ → Gateway → Event → List Told
event_told traced number b bad = bad_line number ∷ []
event_told traced number b (add a asn) = calls_told traced number 0 b (calls_of (add a asn))
event_told traced number b (remove a) = calls_told traced number 0 b (calls_of (remove a))
event_told traced number b (start a) = calls_told traced number 0 b (calls_of (start a))
event_told traced number b (stop a) = calls_told traced number 0 b (calls_of (stop a))
event_told traced number b (tick a count) = calls_told traced number 0 b (calls_of (tick a count))
event_told traced number b (rx a octets) = calls_told traced number 0 b (calls_of (rx a octets))

-- these lines, behind so many
unfoldable pub told_from : Bool → ℕ → Gateway → List RecordedLine → List Told
told_from traced lines b [] = []
told_from traced lines b (line ∷ rest) =
    event_told traced (one_more lines) b (event_in line) ++ told_from traced (one_more lines) (gateway_from b (calls_of (event_in line))) rest

unfoldable pub told_text : Told → List ℕ
told_text (bad_line number) = bad_text number
told_text (called t call h) = tell_text t h

unfoldable pub events_text : Bool → ℕ → Gateway → List RecordedLine → List ℕ
events_text traced lines b events = join (map told_text (told_from traced lines b events))

-- ---- the whole

-- "the listing at the end", in a buffer of the least size
unfoldable pub listed : Gateway → List ℕ
listed b = listed_in (zeros 65536) b

-- "and nothing is played or listed" where one of the first four lines is not good
unfoldable pub opening_text : Bool → Opening → List ℕ
opening_text traced (broken number) = bad_text number
opening_text traced (opened g lines events) = events_text traced lines (begun g) events ++ listed (run g (good_calls events))
