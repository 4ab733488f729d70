-- Which rows a slot must have, told from the history alone: who was Up after each prefix of the list, and which message was accepted there. It reads no rows of the model.
use Rattle.std.specs.Prelude.{ℕ, Bool, true, false, cond, not, ◌&&◌, List, [], ◌∷◌, ◌++◌, eqb, Result, Ok, Err}
use Rattle.checks.specs.declared.Refusal.{Refusal}
use Rattle.message.specs.declared.Message.{Message}
use Rattle.neighbour.specs.Record.{is_up}
use Rattle.nets.specs.Rows.{Row}
use Rattle.message_reading.specs.Reading.{decode_of}
use Rattle.update_walk.specs.Body.{update_of, rows_read}
use Rattle.neighbour.specs.declared.Settings.{Settings}
use Rattle.model.specs.Model.{Call, add, remove, happen, receive, listing, Slot, free, used, Model, slot_in, found_at, is_update, step, model}

unfoldable pub is_up_slot : Slot → Bool
is_up_slot free = false
is_up_slot (used p) = is_up p.neighbour.phase

unfoldable pub says_update : Result Message Refusal → Bool
says_update (Ok m) = is_update m
says_update (Err refused) = false

-- 01: "An Update that finds its slot Up and fails no check is accepted": in slot j
unfoldable pub accepts : Model → ℕ → Call → Bool
accepts m j (add address asn) = false
accepts m j (remove address) = false
accepts m j (happen event a buffer) = false
accepts m j (receive a o home buffer) =
    eqb (step (receive a o home buffer) m).said.answer 0 && (eqb (found_at m a) j && (is_up_slot (slot_in m j) && says_update (decode_of o)))
accepts m j (listing buffer) = false

-- the rows that the octets of a call say, on the common net
unfoldable pub rows_said : Settings → Call → List Row
rows_said g (add address asn) = []
rows_said g (remove address) = []
rows_said g (happen event a buffer) = []
rows_said g (receive a o home buffer) = rows_read (update_of 128 g.net o)
rows_said g (listing buffer) = []

-- slot j is Up after these calls
unfoldable pub up_after : Settings → ℕ → List Call → Bool
up_after g j calls = is_up_slot (slot_in (model g calls) j)

-- after one call more: none if not Up; the rows of an Update just accepted; none if Up was only now entered; else those known before
unfoldable pub told : Settings → ℕ → List Call → Call → List Row → List Row
told g j before call known =
    cond (up_after g j (before ++ (call ∷ [])))
    (cond (accepts (model g before) j call) (rows_said g call) (cond (up_after g j before) known []))
    []

-- through the calls that follow these
unfoldable pub last_from : Settings → ℕ → List Call → List Row → List Call → List Row
last_from g j before known [] = known
last_from g j before known (call ∷ rest) = last_from g j (before ++ (call ∷ [])) (told g j before call known) rest

-- the rows of the last Update that slot j accepted since it last entered Up, or none
unfoldable pub last_accepted : Settings → ℕ → List Call → List Row
last_accepted g j calls = last_from g j [] [] calls

-- ---- whom a call is about

-- a call about the neighbour with this address; a listing is about nobody
unfoldable pub is_about : ℕ → Call → Bool
is_about address (add a asn) = eqb a address
is_about address (remove a) = eqb a address
is_about address (happen event a buffer) = eqb a address
is_about address (receive a o home buffer) = eqb a address
is_about address (listing buffer) = false

-- a call about another neighbour than that one, or about nobody
unfoldable pub is_elsewhere : ℕ → Call → Bool
is_elsewhere address call = not (is_about address call)

-- a call that adds no neighbour takes no free slot
unfoldable pub takes_no_slot : Call → Bool
takes_no_slot (add address asn) = false
takes_no_slot (remove address) = true
takes_no_slot (happen event a buffer) = true
takes_no_slot (receive a o home buffer) = true
takes_no_slot (listing buffer) = true
