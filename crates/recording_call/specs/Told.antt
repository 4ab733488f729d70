-- What is told of a call: its replies, as lines; or a line of the trace.
use Rattle.std.specs.Prelude.{ℕ, cond, ◌&&◌, List, [], ◌++◌, length}
use Rattle.update_rows.specs.Storing.{zeros}
use Rattle.neighbour_machine.specs.Intrinsics.{Intrinsic, Start, Stop, Tick}
use Rattle.gateway_state.specs.declared.State.{State}
use Rattle.recording_bad_line.specs.BadLine.{one_more}
use Rattle.recording_trace.specs.declared.Deed.{Deed}
use Rattle.recording_trace.specs.declared.Deed.TheVariants as D
use Rattle.recording_trace.specs.declared.Telling.{Telling}
use Rattle.recording_trace.specs.Trace.{Happened, trace_text, is_passed_over}
use Rattle.recording_trace.specs.Steps.{happened_in}
use Rattle.recording_call.specs.declared.Called.{Called}
use Rattle.model.specs.Model.{Call, add, remove, happen, receive, listing}
use Rattle.model.specs.Theorem.{Gateway, outcome_of, buffer_left}
unfoldable pub use Rattle.recording_replies.specs.Replies.{tx_text}

-- 01: "Reply buffer at least 2,048 octets": each call is lent one, all zero
unfoldable pub lent : List ℕ
lent = zeros 2048

-- ---- what a call is about; a recording asks for no listing

-- the address of the neighbour
unfoldable pub addressed_to : Call → ℕ
addressed_to (add a asn) = a
addressed_to (remove a) = a
addressed_to (happen event a buffer) = a
addressed_to (receive a o home buffer) = a
addressed_to (listing buffer) = 0

unfoldable pub intrinsic_deed : Intrinsic → Deed
intrinsic_deed Start = D.Start
intrinsic_deed Stop = D.Stop
intrinsic_deed Tick = D.Tick

unfoldable pub deed_of : Call → Deed
deed_of (add a asn) = D.Add
deed_of (remove a) = D.Remove
deed_of (happen event a buffer) = intrinsic_deed event
deed_of (receive a o home buffer) = D.Receive
deed_of (listing buffer) = D.Add

-- the message received
unfoldable pub message_in : Call → List ℕ
message_in (add a asn) = []
message_in (remove a) = []
message_in (happen event a buffer) = []
message_in (receive a o home buffer) = o
message_in (listing buffer) = []

-- ---- what is told of what happened

-- its replies, those of a refused message too, each as a `tx` line; or its line of the trace, and none for a quiet tick
unfoldable pub tell_text : Telling → Happened → List ℕ
tell_text t h =
    cond t.traced (cond (is_passed_over t h) [] (trace_text t h)) (tx_text h.address h.first ++ tx_text h.address h.second)

-- how many ticks are passed over since the last that was told of; no line has 18,446,744,073,709,551,615 of them
unfoldable pub passed_after : Telling → Happened → ℕ
passed_after t h = cond (t.traced && is_passed_over t h) (one_more t.passed) 0

-- the state that it leaves, its number, how many octets are shown, and how many ticks were passed over
unfoldable pub called_for : Telling → Happened → Called
called_for t h = record { state = h.after; answer = h.answer; written = length (tell_text t h); passed = passed_after t h }

-- ---- by the call's own definitions

unfoldable pub happened_by : Call → Gateway → Happened
happened_by call b = happened_in (deed_of call) (addressed_to call) (message_in call) b.state (outcome_of call b) (buffer_left call b)

unfoldable pub call_text : Telling → Call → Gateway → List ℕ
call_text t call b = tell_text t (happened_by call b)

unfoldable pub called_of : Telling → Call → Gateway → Called
called_of t call b = called_for t (happened_by call b)

-- the state and the lent table of a call
unfoldable pub on : State → List ℕ → Gateway
on st table = record { state = st; table = table }
