-- How many seconds each neighbour spent in each state, told from the history alone: which ticks were carried out, and in
-- which state each found it after the calls before it. It reads no seconds of the model.
use Rattle.std.specs.Prelude.{ℕ, ◌+◌, Bool, true, false, cond, not, ◌&&◌, List, [], ◌∷◌, ◌++◌, eqb}
use Rattle.neighbour.specs.declared.Phase.{Phase}
use Rattle.neighbour.specs.declared.Phase.TheVariants.{Idle}
use Rattle.neighbour.specs.declared.Settings.{Settings}
use Rattle.neighbour_seconds.specs.Claims.{is_phase}
use Rattle.neighbour_machine.specs.Intrinsics.{Start, Stop, Tick}
use Rattle.model.specs.Model.{Call, add, remove, happen, receive, listing, Slot, free, used, Model, slot_in, found_at, vacancy, step, model}

-- 02: "A tick carried out": for the neighbour in slot j
unfoldable pub ticks : Model → ℕ → Call → Bool
ticks m j (add address asn) = false
ticks m j (remove address) = false
ticks m j (happen Start a buffer) = false
ticks m j (happen Stop a buffer) = false
ticks m j (happen Tick a buffer) = eqb (step (happen Tick a buffer) m).said.answer 0 && eqb (found_at m a) j
ticks m j (receive a o home buffer) = false
ticks m j (listing buffer) = false

unfoldable pub phase_of : Slot → Phase
phase_of free = Idle
phase_of (used p) = p.neighbour.phase

-- "belongs to the state before it": a tick that finds the neighbour in slot j in this state
unfoldable pub finds : Phase → Model → ℕ → Call → Bool
finds phase m j call = ticks m j call && is_phase (phase_of (slot_in m j)) phase

-- a neighbour is added to slot j, or removed from it
unfoldable pub changes_hands : Model → ℕ → Call → Bool
changes_hands m j (add address asn) = eqb (step (add address asn) m).said.answer 0 && eqb (vacancy m) j
changes_hands m j (remove a) = eqb (step (remove a) m).said.answer 0 && eqb (found_at m a) j
changes_hands m j (happen event a buffer) = false
changes_hands m j (receive a o home buffer) = false
changes_hands m j (listing buffer) = false

-- slot j does not change hands in these calls, which follow those before
unfoldable pub keeps_hands : Settings → ℕ → List Call → List Call → Bool
keeps_hands g j before [] = true
keeps_hands g j before (call ∷ rest) = not (changes_hands (model g before) j call) && keeps_hands g j (before ++ (call ∷ [])) rest

-- how many of these calls, which follow those before, pass a test after the calls before each
unfoldable pub tally : (Model → ℕ → Call → Bool) → Settings → ℕ → List Call → List Call → ℕ
tally test g j before [] = 0
tally test g j before (call ∷ rest) = cond (test (model g before) j call) 1 0 + tally test g j (before ++ (call ∷ [])) rest

-- the same of those alone after which slot j changes hands no more: those "since the neighbour was added" that is there
unfoldable pub tally_since : (Model → ℕ → Call → Bool) → Settings → ℕ → List Call → List Call → ℕ
tally_since test g j before [] = 0
tally_since test g j before (call ∷ rest) =
    cond (test (model g before) j call && keeps_hands g j (before ++ (call ∷ [])) rest) 1 0 + tally_since test g j (before ++ (call ∷ [])) rest

-- 02: "the number of ticks carried out since the neighbour was added"; of a free slot there are none
unfoldable pub ticks_since : Settings → ℕ → List Call → ℕ
ticks_since g j calls = tally_since ticks g j [] calls

-- those that found it in this state
unfoldable pub ticks_finding : Settings → ℕ → Phase → List Call → ℕ
ticks_finding g j phase calls = tally_since (finds phase) g j [] calls
