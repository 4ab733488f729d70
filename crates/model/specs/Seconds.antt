-- What the steward asks of the seconds: every tick that is carried out is counted once, under the state that it found.
-- The proofs are in proofs/Seconds.antt.
use Rattle.std.specs.Prelude.{ℕ, ◌+◌, ◌<◌, ◌≡◌, true, false, List, [], ◌∷◌, ◌++◌, leb, length}
use Rattle.neighbour.specs.declared.Phase.{Phase}
use Rattle.neighbour.specs.declared.Phase.TheVariants.{Idle, Acquisition, Down, Up, Cease}
use Rattle.neighbour.specs.declared.Settings.{Settings}
use Rattle.neighbour_seconds.specs.Seconds.{seconds_in, no_seconds, clock_full, counted}
use Rattle.gateway_state.specs.Outcomes.{refused_of}
use Rattle.model.specs.Model.{Call, add, tick, start, stop, model}
use Rattle.model.specs.Ticks.{ticks, finds, changes_hands, keeps_hands, tally}
use Rattle.model.specs.Theorem.{Gateway, outcome_of, gateway_step, run, rows_at, Sensible}
use Rattle.model.specs.Corollaries.{Taken, slot_on, is_up_on, Used}

-- ---- one call, after any list of calls from fresh

-- what a call makes of the seconds in slot j
pub record OneCall (g : Settings) (calls : List Call) (call : Call) (j : ℕ) : Type 0 where
  -- a tick carried out is counted once, under the state that it found
  pub once :
      ticks (model g calls) j call ≡ true
      → (slot_on (run g (calls ++ (call ∷ []))) j).seconds
      ≡ counted (slot_on (run g calls) j).neighbour.phase (slot_on (run g calls) j).seconds
  -- 02: "Remove and add start from zero"
  pub anew : changes_hands (model g calls) j call ≡ true → (slot_on (run g (calls ++ (call ∷ []))) j).seconds ≡ no_seconds
  -- all else leaves them, whatever state the neighbour enters: "These counts survive Idle"
  pub rests :
      ticks (model g calls) j call ≡ false → changes_hands (model g calls) j call ≡ false
      → (slot_on (run g (calls ++ (call ∷ []))) j).seconds ≡ (slot_on (run g calls) j).seconds
  -- a tick that found the neighbour elsewhere than in Up found it without rows
  pub bare : is_up_on (run g calls) j ≡ false → rows_at (run g calls) j ≡ []

abbrev pub EveryTickOnce : Type 0
EveryTickOnce = (g : Settings) → Taken g → (calls : List Call) (call : Call) (j : ℕ) → j < 8 → OneCall g calls call j

-- ---- from the call that adds the neighbour on

-- while it is there: each count is the number of ticks carried out since the add that found it in this state, and those are all its ticks
pub record CountedSince (g : Settings) (before : List Call) (address asn : ℕ) (since : List Call) (j : ℕ) : Type 0 where
  pub found :
      (phase : Phase)
      → seconds_in phase (slot_on (run g (before ++ (add address asn ∷ since))) j).seconds ≡ tally (finds phase) g j (before ++ (add address asn ∷ [])) since
  pub all :
      tally (finds Idle) g j (before ++ (add address asn ∷ [])) since + tally (finds Acquisition) g j (before ++ (add address asn ∷ [])) since
      + tally (finds Down) g j (before ++ (add address asn ∷ [])) since + tally (finds Up) g j (before ++ (add address asn ∷ [])) since
      + tally (finds Cease) g j (before ++ (add address asn ∷ [])) since
      ≡ tally ticks g j (before ++ (add address asn ∷ [])) since

-- the add takes slot j, and the neighbour is not removed again
abbrev pub SinceAdded : Type 0
SinceAdded =
    (g : Settings) → Taken g → (before since : List Call) (address asn j : ℕ) → j < 8 → changes_hands (model g before) j (add address asn) ≡ true
    → keeps_hands g j (before ++ (add address asn ∷ [])) since ≡ true → CountedSince g before address asn since j

-- ---- 22, in any sensible state

-- 02: "22, a tick when the sum is 4,294,967,295, after 5", and no other event is
pub record ByTheClock (b : Gateway) (j : ℕ) (buffer : List ℕ) : Type 0 where
  pub late : clock_full (slot_on b j).seconds ≡ true → outcome_of (tick (slot_on b j).address buffer) b ≡ refused_of b.state 22
  pub unchanged : clock_full (slot_on b j).seconds ≡ true → gateway_step (tick (slot_on b j).address buffer) b ≡ b
  pub in_time : clock_full (slot_on b j).seconds ≡ false → (outcome_of (tick (slot_on b j).address buffer) b).answer ≡ 0
  pub started : (outcome_of (start (slot_on b j).address buffer) b).answer ≡ 0
  pub stopped : (outcome_of (stop (slot_on b j).address buffer) b).answer ≡ 0

abbrev pub TwentyTwo : Type 0
TwentyTwo = (b : Gateway) → Sensible b → (j : ℕ) → j < 8 → Used b j → (buffer : List ℕ) → leb 2048 (length buffer) ≡ true → ByTheClock b j buffer
