-- What happened to the neighbour in a slot, told from the calls: the events carried out for it, and its windows. A
-- window is the stretch between two consecutive evaluations of the register.
use Rattle.std.specs.Prelude.{ℕ, Bool, true, false, cond, not, ◌&&◌, ◌||◌, List, [], ◌∷◌, ◌++◌, ltb, eqb, length, take, Result, Ok, Err}
use Rattle.std.proofs.Math.Option.{Option, none, some}
use Rattle.checks.specs.declared.Refusal.{Refusal}
use Rattle.nets.specs.Rows.{Row}
use Rattle.message.specs.Kinds.{kind_of, status_of}
use Rattle.message.specs.declared.Kind.TheVariants as K
use Rattle.message.specs.declared.Message.{Message}
use Rattle.message_reading.specs.Reading.{decode_of}
use Rattle.neighbour.specs.declared.Neighbour.{Neighbour}
use Rattle.neighbour.specs.Record.{acquired}
use Rattle.neighbour.specs.Rules.{one_of, indicates}
use Rattle.neighbour_machine.specs.declared.Event.{Event}
use Rattle.neighbour_machine.specs.declared.Event.TheVariants.{Received, Start, Stop, Tick}
use Rattle.neighbour_machine.specs.Intrinsics.{as_event}
use Rattle.model.specs.Model.{Call, add, remove, happen, receive, listing, Model, slot_in, found_at, step}
use Rattle.model.specs.History.{accepts, rows_said}
use Rattle.model.specs.Theorem.{cell}

-- ---- one neighbour's events, by its record before them

-- 01: "An indication is noted when the state before was Down or Up"
unfoldable pub is_indication : Neighbour → Event → Bool
is_indication n (Received x) = acquired n.phase && indicates n.mode (kind_of x) (status_of x)
is_indication n Start = false
is_indication n Stop = false
is_indication n Tick = false

-- 01: "Take 1 from t1; at 0, .. Down and Up shift heard into the register", unless t3 came to 0: then "the tick ends"
unfoldable pub is_evaluation : Neighbour → Event → Bool
is_evaluation n (Received x) = false
is_evaluation n Start = false
is_evaluation n Stop = false
is_evaluation n Tick = acquired n.phase && (eqb n.t1 1 && not (eqb n.t3 1))

-- Request, Cease, Start and Stop
unfoldable pub is_restart : Neighbour → Event → Bool
is_restart n (Received x) = one_of (kind_of x) (K.Request ∷ K.Cease ∷ [])
is_restart n Start = true
is_restart n Stop = true
is_restart n Tick = false

-- ---- the events of a slot

-- the record in slot j
unfoldable pub record_in : Model → ℕ → Neighbour
record_in m j = (cell (slot_in m j)).neighbour

-- the event that octets say, if they say a message
unfoldable pub said_event : Result Message Refusal → Option Event
said_event (Ok x) = some (Received x)
said_event (Err refused) = none

-- this event, if the call is answered 0 and about the neighbour in slot j
unfoldable pub done_for : Model → ℕ → ℕ → Call → Option Event → Option Event
done_for m j a call event = cond (eqb (step call m).said.answer 0 && eqb (found_at m a) j) event none

-- the event that a call carries out for the neighbour in slot j
unfoldable pub event_for : Model → ℕ → Call → Option Event
event_for m j (add address asn) = none
event_for m j (remove address) = none
event_for m j (happen event a buffer) = done_for m j a (happen event a buffer) (some (as_event event))
event_for m j (receive a o home buffer) = done_for m j a (receive a o home buffer) (said_event (decode_of o))
event_for m j (listing buffer) = none

unfoldable pub holds_of : (Event → Bool) → Option Event → Bool
holds_of test none = false
holds_of test (some event) = test event

-- a call carries out such an event for slot j
unfoldable pub brings : (Neighbour → Event → Bool) → Model → ℕ → Call → Bool
brings test m j call = holds_of (test (record_in m j)) (event_for m j call)

-- ---- over a list

-- no Request, Cease, Start or Stop is carried out for slot j by these calls
unfoldable pub restarts_none : Model → ℕ → List Call → Bool
restarts_none m j [] = true
restarts_none m j (call ∷ rest) = not (brings is_restart m j call) && restarts_none (step call m).model j rest

-- the windows of slot j that these calls end, in their order: whether each holds an indication. Of the one that is
-- open, `heard` says it.
unfoldable pub windows : Model → ℕ → Bool → List Call → List Bool
windows m j heard [] = []
windows m j heard (call ∷ rest) =
    cond (brings is_evaluation m j call) (heard ∷ []) []
    ++ windows (step call m).model j (cond (brings is_evaluation m j call) false (heard || brings is_indication m j call)) rest

unfoldable pub any_of : List Bool → Bool
any_of [] = false
any_of (b ∷ rest) = b || any_of rest

-- a window and the three behind it, where there are three: at least one holds an indication
unfoldable pub first_four : Bool → List Bool → Bool
first_four window rest = ltb (length rest) 3 || (window || any_of (take 3 rest))

-- of any four consecutive windows at least one holds an indication
unfoldable pub one_in_four : List Bool → Bool
one_in_four [] = true
one_in_four (window ∷ rest) = first_four window rest && one_in_four rest

-- the rows of the last Update that slot j accepts by these calls; while it accepts none, those known
unfoldable pub latest : Model → ℕ → List Row → List Call → List Row
latest m j known [] = known
latest m j known (call ∷ rest) = latest (step call m).model j (cond (accepts m j call) (rows_said m.settings call) known) rest
