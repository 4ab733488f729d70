-- What playing a recording writes, told of the whole recording at once: its lines, the calls of its good lines, and
-- what the model says of each.
use Rattle.std.specs.Prelude.{ℕ, zero, suc, Bool, cond, List, [], ◌∷◌, ◌++◌, map, eqb, length}
use Rattle.checks.specs.Lists.{join}
use Rattle.neighbour.specs.declared.Settings.{Settings}
use Rattle.neighbour.specs.Record.{with_quiet}
use Rattle.gateway_slots.specs.Calls.{fresh_of}
use Rattle.listing_lines.specs.Lines.{listing_text}
use Rattle.std.specs.Prelude.{Option, Some, None}
use Rattle.text_values.specs.Numbers.{when_number}
use Rattle.recording_lines.specs.Lines.{Event, bad, add, remove, start, stop, tick, rx, event_of, own_as_of, own_of, capability_of, net_of, quiet_of}
use Rattle.recording_bad_line.specs.BadLine.{bad_text}
use Rattle.model.specs.Model as M
use Rattle.model.specs.Theorem.{state_of}
use Rattle.recording_trace.specs.declared.Telling.{Telling}
use Rattle.recording_trace.specs.Trace.{Happened}
use Rattle.recording_call.specs.Told.{lent, addressed_to, deed_of, message_in, tell_text, passed_after}

-- ---- lines

-- octets up to an octet 10, or what is left behind the last one
pub data RecordedLine : Type 0 where
  ended : List ℕ → RecordedLine
  unended : List ℕ → RecordedLine

-- the lines of these octets, behind those of a line that has begun
unfoldable pub lines_from : List ℕ → List ℕ → List RecordedLine
lines_from begun [] = cond (eqb (length begun) 0) [] (unended begun ∷ [])
lines_from begun (octet ∷ rest) = cond (eqb octet 10) (ended begun ∷ lines_from [] rest) (lines_from (begun ++ (octet ∷ [])) rest)

unfoldable pub lines_of : List ℕ → List RecordedLine
lines_of recording = lines_from [] recording

-- "an unended last line is bad"
unfoldable pub event_in : RecordedLine → Event
event_in (ended line) = event_of line
event_in (unended line) = bad

unfoldable pub value_in : (List ℕ → Option ℕ) → RecordedLine → Option ℕ
value_in read (ended line) = read line
value_in read (unended line) = None

-- ---- the settings: the first four lines, and a fifth

-- the settings, the number of lines that they take, and the events after them; or the first line that is bad or missing
pub data Opening : Type 0 where
  broken : ℕ → Opening
  opened : Settings → ℕ → List RecordedLine → Opening

-- 02, L6: "`quiet=1`, a line right after `net` ..; `quiet=0` may stand there too, any other `quiet` line is a bad event
-- line"
unfoldable pub from_quiet : Settings → List RecordedLine → Opening
from_quiet g [] = opened g 4 []
from_quiet g (line ∷ events) = when_number (value_in quiet_of line) (opened g 4 (line ∷ events)) (λ quiet. opened (with_quiet g quiet) 5 events)

-- "or fresh refuses them, the first such line (the fourth for fresh) alone is so reported", whatever the fifth is
unfoldable pub taken_by : Settings → List RecordedLine → Opening
taken_by g rest = cond (eqb (fresh_of g).answer 0) (from_quiet g rest) (broken 4)

unfoldable pub from_net : ℕ → ℕ → ℕ → List RecordedLine → Opening
from_net asn own capability [] = broken 4
from_net asn own capability (line ∷ rest) =
    when_number (value_in net_of line) (broken 4) (λ net. taken_by (record { asn = asn; own = own; capability = capability; net = net; quiet = 0 }) rest)

unfoldable pub from_capability : ℕ → ℕ → List RecordedLine → Opening
from_capability asn own [] = broken 3
from_capability asn own (line ∷ rest) = when_number (value_in capability_of line) (broken 3) (λ capability. from_net asn own capability rest)

unfoldable pub from_own : ℕ → List RecordedLine → Opening
from_own asn [] = broken 2
from_own asn (line ∷ rest) = when_number (value_in own_of line) (broken 2) (λ own. from_capability asn own rest)

-- "in a fixed order: ownas, own, cap, net, then events"
unfoldable pub opening_of : List RecordedLine → Opening
opening_of [] = broken 1
opening_of (line ∷ rest) = when_number (value_in own_as_of line) (broken 1) (λ asn. from_own asn rest)

-- ---- the calls of the good lines

unfoldable pub ticks : ℕ → ℕ → List M.Call
ticks a zero = []
ticks a (suc count) = M.tick a lent ∷ ticks a count

-- "with an empty home list"
unfoldable pub calls_of : Event → List M.Call
calls_of bad = []
calls_of (add a asn) = M.add a asn ∷ []
calls_of (remove a) = M.remove a ∷ []
calls_of (start a) = M.start a lent ∷ []
calls_of (stop a) = M.stop a lent ∷ []
calls_of (tick a count) = ticks a count
calls_of (rx a octets) = M.receive a octets [] lent ∷ []

unfoldable pub good_calls : List RecordedLine → List M.Call
good_calls [] = []
good_calls (line ∷ rest) = calls_of (event_in line) ++ good_calls rest

-- ---- what is told, in order

-- what happened, as the model says
unfoldable pub happened : M.Call → M.Model → Happened
happened call m =
    record {
      deed = deed_of call;
      address = addressed_to call;
      received = message_in call;
      before = state_of m;
      after = state_of (M.step call m).model;
      answer = (M.step call m).said.answer;
      first = (M.step call m).said.first;
      second = (M.step call m).said.second;
    }

-- a bad line, or a call: how it is told of, and what happened
pub data Told : Type 0 where
  bad_line : ℕ → Told
  called : Telling → M.Call → Happened → Told

-- of a line with this number, where so many ticks were passed over and these calls of it are left
unfoldable pub telling : Bool → ℕ → ℕ → List M.Call → Telling
telling traced number passed rest = record { traced = traced; line = number; passed = passed; last = eqb (length rest) 0 }

-- the calls of a line
unfoldable pub calls_told : Bool → ℕ → ℕ → M.Model → List M.Call → List Told
calls_told traced number passed m [] = []
calls_told traced number passed m (call ∷ rest) =
    called (telling traced number passed rest) call (happened call m)
    ∷ calls_told traced number (passed_after (telling traced number passed rest) (happened call m)) (M.step call m).model rest

-- "A bad event line is reported in its place as `bad=` and its line number, from 1"
unfoldable pub event_told : Bool → ℕ → M.Model → Event → List Told
event_told traced number m bad = bad_line number ∷ []
event_told traced number m (add a asn) = calls_told traced number 0 m (calls_of (add a asn))
event_told traced number m (remove a) = calls_told traced number 0 m (calls_of (remove a))
event_told traced number m (start a) = calls_told traced number 0 m (calls_of (start a))
event_told traced number m (stop a) = calls_told traced number 0 m (calls_of (stop a))
event_told traced number m (tick a count) = calls_told traced number 0 m (calls_of (tick a count))
event_told traced number m (rx a octets) = calls_told traced number 0 m (calls_of (rx a octets))

-- these lines, behind so many
unfoldable pub told_from : Bool → ℕ → M.Model → List RecordedLine → List Told
told_from traced lines m [] = []
told_from traced lines m (line ∷ rest) =
    event_told traced (suc lines) m (event_in line) ++ told_from traced (suc lines) (M.model_from m (calls_of (event_in line))) rest

-- as text: "each reply message as a `tx` line", or a line of the trace
unfoldable pub told_text : Told → List ℕ
told_text (bad_line number) = bad_text number
told_text (called t call h) = tell_text t h

unfoldable pub events_text : Bool → ℕ → M.Model → List RecordedLine → List ℕ
events_text traced lines m events = join (map told_text (told_from traced lines m events))

-- ---- the whole, from the model alone

-- "the listing at the end", and "nothing is played or listed" where one of the first four lines is not good
unfoldable pub opening_text : Bool → Opening → List ℕ
opening_text traced (broken number) = bad_text number
opening_text traced (opened g lines events) = events_text traced lines (M.empty g) events ++ listing_text (M.listed (M.model g (good_calls events)))

-- what is written, with a trace or without
unfoldable pub output_of : Bool → List ℕ → List ℕ
output_of traced recording = opening_text traced (opening_of (lines_of recording))
