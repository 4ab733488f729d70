-- What a technician asks of a gateway, in a few lines each. All follow from the theorem about lists of calls; the proofs are in proofs/.
-- Where a claim speaks of any sensible state and table, it holds after every list of calls from fresh: those are sensible (`RunsAreSensible`).
use Rattle.std.specs.Prelude.{ℕ, ◌+◌, ◌*◌, ◌%◌, ◌<◌, ◌≡◌, Bool, true, false, not, ◌&&◌, ◌||◌, List, [], ◌∷◌, ◌++◌, map, leb, eqb, length, Ok}
use Rattle.neighbour.specs.Record.{is_up}
use Rattle.checks.specs.Lists.{every, join}
use Rattle.nets.specs.Rows.{Row, flat}
use Rattle.update_rows.specs.Storing.{zeros, padded}
use Rattle.message.specs.declared.Message.{Message}
use Rattle.neighbour_seconds.specs.Seconds.{clock_full}
use Rattle.message.specs.declared.Message.TheVariants as M
use Rattle.message_reading.specs.Reading.{header_answer, asn_at, decode_of}
use Rattle.update_walk.specs.Body.{accepted, update_of}
use Rattle.neighbour.specs.declared.Mode.TheVariants.{Passive}
use Rattle.neighbour.specs.declared.Settings.{Settings}
use Rattle.neighbour.specs.Rules.{ones_of, goes_down}
use Rattle.gateway_state.specs.declared.Slot.{Slot}
use Rattle.gateway_state.specs.Slots.{slot_at}
use Rattle.gateway_state.specs.Places.{slot_numbers, part_at}
use Rattle.gateway_slots.specs.Calls.{fresh_of}
use Rattle.gateway_rules.specs.Home.{good_home}
use Rattle.model.specs.Model.{Call, start, stop, tick, receive, model}
use Rattle.model.specs.History.{accepts, last_accepted, is_about}
use Rattle.model.specs.Windows.{is_indication, brings, restarts_none, windows, one_in_four, latest}
use Rattle.model.specs.Theorem.{Gateway, outcome_of, gateway_step, gateway_from, run, rows_at, Sensible}

-- ---- words

-- settings that fresh takes
abbrev pub Taken : Settings → Type 0
Taken g = (fresh_of g).answer ≡ 0

-- the record in slot j, and whether it is Up
abbrev pub slot_on : Gateway → ℕ → Slot
slot_on b j = slot_at b.state j

abbrev pub is_up_on : Gateway → ℕ → Bool
is_up_on b j = is_up (slot_on b j).neighbour.phase

-- slot j is used
abbrev pub Used : Gateway → ℕ → Type 0
Used b j = (slot_on b j).address ≡ 0 → ⊥

-- slot j is what it was: its record, its rows read off the table, and every number of its part
pub record Unmoved (before now : Gateway) (j : ℕ) : Type 0 where
  pub slot : slot_on now j ≡ slot_on before j
  pub rows : rows_at now j ≡ rows_at before j
  pub numbers : part_at now.table j ≡ part_at before.table j

-- slot j has no row: its count is 0, and every number of its part
pub record Bare (b : Gateway) (j : ℕ) : Type 0 where
  pub count : (slot_on b j).rows ≡ 0
  pub rows : rows_at b j ≡ []
  pub numbers : part_at b.table j ≡ zeros slot_numbers

-- octets that pass 3 to 12 and say this message, from the neighbour in slot j
pub record Says (b : Gateway) (j : ℕ) (o home buffer : List ℕ) (m : Message) : Type 0 where
  pub room : leb 2048 (length buffer) ≡ true
  pub good_home_lem : good_home b.state.settings home ≡ true
  pub header : header_answer o ≡ 0
  pub from : asn_at o ≡ (slot_on b j).asn
  pub meaning : decode_of o ≡ Ok m

-- ---- every run from fresh

-- leaves a sensible state and table, and goes on from there
pub record RunSensible (g : Settings) (calls : List Call) : Type 0 where
  pub sensible : Sensible (run g calls)
  pub onward : (more : List Call) → run g (calls ++ more) ≡ gateway_from (run g calls) more

abbrev pub RunsAreSensible : Type 0
RunsAreSensible = (g : Settings) → Taken g → (calls : List Call) → RunSensible g calls

-- ---- one neighbour is closed, another reported the same net

-- whatever is done about one neighbour, another one stays
abbrev pub OthersStayOn : Gateway → Type 0
OthersStayOn b =
    (more : List Call) (i j : ℕ) → i < 8 → j < 8 → (i ≡ j → ⊥) → Used b i → Used b j → every (is_about (slot_on b i).address) more ≡ true
    → Unmoved b (gateway_from b more) j

abbrev pub OthersStay : Type 0
OthersStay = (b : Gateway) → Sensible b → OthersStayOn b

-- in a run from fresh: any calls, then any further ones about the first
abbrev pub OthersStayInRuns : Type 0
OthersStayInRuns =
    (g : Settings) → Taken g → (calls more : List Call) (i j : ℕ) → i < 8 → j < 8 → (i ≡ j → ⊥) → Used (run g calls) i → Used (run g calls) j
    → every (is_about (slot_on (run g calls) i).address) more ≡ true → Unmoved (run g calls) (run g (calls ++ more)) j

-- one of these rows is for this net
unfoldable pub reports : ℕ → List Row → Bool
reports net [] = false
reports net (row ∷ rest) = eqb row.net net || reports net rest

-- two neighbours report one net
pub record BothReport (b : Gateway) (i j net : ℕ) : Type 0 where
  pub first : i < 8
  pub second : j < 8
  pub apart : i ≡ j → ⊥
  pub reported : reports net (rows_at b i) ≡ true
  pub also : reports net (rows_at b j) ≡ true

-- a call closed the first: it is not Up and its rows are gone; the second's all stand, that net's too
pub record Closed (b : Gateway) (call : Call) (i j net : ℕ) : Type 0 where
  pub left : is_up_on (gateway_step call b) i ≡ false
  pub gone : Bare (gateway_step call b) i
  pub stays : Unmoved b (gateway_step call b) j
  pub reported : reports net (rows_at (gateway_step call b) j) ≡ true

-- any call about the first that takes it out of Up
abbrev pub OneClosedOn : Gateway → Type 0
OneClosedOn b =
    (call : Call) (i j net : ℕ) → BothReport b i j net → is_about (slot_on b i).address call ≡ true → is_up_on (gateway_step call b) i ≡ false
    → Closed b call i j net

abbrev pub OneClosed : Type 0
OneClosed = (b : Gateway) → Sensible b → OneClosedOn b

-- the calls that do, by name
pub record WhateverCloses (b : Gateway) (i j net : ℕ) : Type 0 where
  pub by_stop : (buffer : List ℕ) → leb 2048 (length buffer) ≡ true → Closed b (stop (slot_on b i).address buffer) i j net
  pub by_start : (buffer : List ℕ) → leb 2048 (length buffer) ≡ true → Closed b (start (slot_on b i).address buffer) i j net
  pub by_cease :
      (o home buffer : List ℕ) (asn number status : ℕ) → Says b i o home buffer (M.Cease asn number status)
      → Closed b (receive (slot_on b i).address o home buffer) i j net
  -- acquired anew, or the Request is unacceptable
  pub by_request_lem :
      (o home buffer : List ℕ) (asn number status hello poll : ℕ) → Says b i o home buffer (M.Request asn number status hello poll)
      → Closed b (receive (slot_on b i).address o home buffer) i j net
  -- 01: "take 1 from t3; at 0 it is Stop". A run from fresh loses reachability long before. 22 is no tick carried out.
  pub by_time_out :
      (buffer : List ℕ) → leb 2048 (length buffer) ≡ true → clock_full (slot_on b i).seconds ≡ false → (slot_on b i).neighbour.t3 ≡ 1
      → Closed b (tick (slot_on b i).address buffer) i j net
  -- 01: "Up goes Down", reachability lost
  pub by_silence :
      (buffer : List ℕ) → leb 2048 (length buffer) ≡ true → clock_full (slot_on b i).seconds ≡ false → (slot_on b i).neighbour.t1 ≡ 1
      → goes_down (slot_on b i).neighbour.mode (ones_of (((slot_on b i).neighbour.register * 2 + (slot_on b i).neighbour.heard) % 16)) ≡ true
      → Closed b (tick (slot_on b i).address buffer) i j net

abbrev pub ClosedWhateverBy : Type 0
ClosedWhateverBy = (b : Gateway) → Sensible b → (i j net : ℕ) → BothReport b i j net → WhateverCloses b i j net

-- ---- no dead row

-- 01: "A slot not Up has no rows": after any list of calls
abbrev pub NoDeadRow : Type 0
NoDeadRow = (g : Settings) → Taken g → (calls : List Call) (j : ℕ) → j < 8 → is_up_on (run g calls) j ≡ false → Bare (run g calls) j

-- a neighbour that restarts, whatever state it was in: its Request or Cease, once carried out, leaves it no row
pub record RestartLeavesNone (b : Gateway) (j : ℕ) : Type 0 where
  pub request :
      (o home buffer : List ℕ) (asn number status hello poll : ℕ) → Says b j o home buffer (M.Request asn number status hello poll)
      → Bare (gateway_step (receive (slot_on b j).address o home buffer) b) j
  pub cease :
      (o home buffer : List ℕ) (asn number status : ℕ) → Says b j o home buffer (M.Cease asn number status)
      → Bare (gateway_step (receive (slot_on b j).address o home buffer) b) j
  -- half way through an acquisition: Start, and then the Request
  pub started :
      (lent o home buffer : List ℕ) (asn number status hello poll : ℕ) → Says b j o home buffer (M.Request asn number status hello poll)
      → Bare (gateway_from b (start (slot_on b j).address lent ∷ receive (slot_on b j).address o home buffer ∷ [])) j

abbrev pub RestartsBare : Type 0
RestartsBare = (b : Gateway) → Sensible b → (j : ℕ) → j < 8 → Used b j → RestartLeavesNone b j

-- the call after which a slot is Up again brings it no row
abbrev pub EntersUpBare : Type 0
EntersUpBare = (b : Gateway) → Sensible b → (call : Call) (j : ℕ) → j < 8 → is_up_on b j ≡ false → Bare (gateway_step call b) j

-- none of these calls, after those before, is an Update that slot j accepts
unfoldable pub accepts_none : Settings → ℕ → List Call → List Call → Bool
accepts_none g j before [] = true
accepts_none g j before (call ∷ rest) = not (accepts (model g before) j call) && accepts_none g j (before ++ (call ∷ [])) rest

-- and a slot without rows has none until an Update is accepted
abbrev pub BareUntilUpdate : Type 0
BareUntilUpdate =
    (g : Settings) → Taken g → (calls more : List Call) (j : ℕ) → j < 8 → rows_at (run g calls) j ≡ [] → accepts_none g j calls more ≡ true
    → Bare (run g (calls ++ more)) j

-- ---- an Update counts, whatever its number

-- octets that say an Update with this number and these rows
pub record SaysRows (b : Gateway) (j number : ℕ) (o home buffer : List ℕ) (rows : List Row) : Type 0 where
  pub asn : ℕ
  pub status : ℕ
  pub net : ℕ
  pub says : Says b j o home buffer (M.Update asn number status net)
  pub body : update_of 128 b.state.settings.net o ≡ accepted rows

-- the call is answered 0, and slot j has exactly these rows after it
pub record Stands (b : Gateway) (call : Call) (j : ℕ) (rows : List Row) : Type 0 where
  pub answer : (outcome_of call b).answer ≡ 0
  pub is : rows_at (gateway_step call b) j ≡ rows
  pub count : (slot_on (gateway_step call b) j).rows ≡ length rows
  pub numbers : part_at (gateway_step call b).table j ≡ padded slot_numbers (flat rows)

-- in Up, an Update that carries S replaces the rows
abbrev pub UpdateCounts : Type 0
UpdateCounts =
    (b : Gateway) → Sensible b → (j : ℕ) → j < 8 → is_up_on b j ≡ true
    → (o home buffer : List ℕ) (rows : List Row) → SaysRows b j (slot_on b j).neighbour.s o home buffer rows
    → Stands b (receive (slot_on b j).address o home buffer) j rows

-- 01: "S goes up by one, 65,535 to 0": the tick that polls after number 65,535 leaves S 0, and then an Update with number 0 counts as any other
pub record PastLastNumber (b : Gateway) (lent : List ℕ) (j : ℕ) : Type 0 where
  pub again : (slot_on (gateway_step (tick (slot_on b j).address lent) b) j).neighbour.s ≡ 0
  pub counts :
      (o home buffer : List ℕ) (rows : List Row) → SaysRows b j 0 o home buffer rows
      → Stands (gateway_step (tick (slot_on b j).address lent) b) (receive (slot_on b j).address o home buffer) j rows

abbrev pub AfterLastNumber : Type 0
AfterLastNumber =
    (b : Gateway) → Sensible b → (lent : List ℕ) (j : ℕ) → j < 8 → leb 2048 (length lent) ≡ true → clock_full (slot_on b j).seconds ≡ false
    → (slot_on b j).neighbour.s ≡ 65535 → (slot_on b j).neighbour.t2 ≡ 1 → is_up_on b j ≡ true
    → is_up_on (gateway_step (tick (slot_on b j).address lent) b) j ≡ true
    → PastLastNumber b lent j

-- ---- eight neighbours with 128 rows each

-- an Update of 128 rows stands whole, no number of the part being padding, and every other used slot stays
pub record StandsWhole (b : Gateway) (call : Call) (j : ℕ) (rows : List Row) : Type 0 where
  pub stands : Stands b call j rows
  pub numbers : part_at (gateway_step call b).table j ≡ flat rows
  pub others : (i : ℕ) → i < 8 → (i ≡ j → ⊥) → Used b i → Unmoved b (gateway_step call b) i

abbrev pub FullUpdateStands : Type 0
FullUpdateStands =
    (b : Gateway) → Sensible b → (j : ℕ) → j < 8 → is_up_on b j ≡ true
    → (o home buffer : List ℕ) (rows : List Row) → length rows ≡ 128 → SaysRows b j (slot_on b j).neighbour.s o home buffer rows
    → StandsWhole b (receive (slot_on b j).address o home buffer) j rows

-- all 1,024 rows stand: each slot's part is its rows and nothing else, and the table is the eight of them
pub record AllStand (g : Settings) (calls : List Call) : Type 0 where
  pub rows : (j : ℕ) → j < 8 → rows_at (run g calls) j ≡ last_accepted g j calls
  pub count : (j : ℕ) → j < 8 → (slot_on (run g calls) j).rows ≡ 128
  pub numbers : (j : ℕ) → j < 8 → part_at (run g calls).table j ≡ flat (last_accepted g j calls)
  pub table : (run g calls).table ≡ join (map (λ j. flat (last_accepted g j calls)) (0 ∷ 1 ∷ 2 ∷ 3 ∷ 4 ∷ 5 ∷ 6 ∷ 7 ∷ []))

abbrev pub EightFull : Type 0
EightFull =
    (g : Settings) → Taken g → (calls : List Call) → ((j : ℕ) → j < 8 → length (last_accepted g j calls) ≡ 128) → AllStand g calls

-- ---- a quiet passive neighbour

-- slot j entered Up by the last of these calls, in passive mode
pub record EnteredUp (g : Settings) (before : List Call) (call : Call) (j : ℕ) : Type 0 where
  pub not_before : is_up_on (run g before) j ≡ false
  pub since : is_up_on (run g (before ++ (call ∷ []))) j ≡ true
  pub passive : (slot_on (run g (before ++ (call ∷ []))) j).neighbour.mode ≡ Passive

-- slot j is Up after these calls and more, with the rows of the last Update that it accepted by the latter
pub record StillUp (g : Settings) (calls more : List Call) (j : ℕ) : Type 0 where
  pub up : is_up_on (run g (calls ++ more)) j ≡ true
  pub rows : rows_at (run g (calls ++ more)) j ≡ latest (model g calls) j [] more

-- if no Request, Cease, Start or Stop was carried out for it since, and of any four consecutive windows that ended
-- since at least one holds an indication: neither its register nor t3 takes it out of Up
abbrev pub QuietStaysUp : Type 0
QuietStaysUp =
    (g : Settings) → Taken g → (before : List Call) (call : Call) (more : List Call) (j : ℕ) → j < 8 → EnteredUp g before call j
    → restarts_none (model g (before ++ (call ∷ []))) j more ≡ true
    → one_in_four (windows (model g (before ++ (call ∷ []))) j false more) ≡ true
    → StillUp g (before ++ (call ∷ [])) more j

-- an indication: the window that is open holds one, and t3 starts anew
pub record Indicates (g : Settings) (calls : List Call) (call : Call) (j : ℕ) : Type 0 where
  pub indication : brings is_indication (model g calls) j call ≡ true
  pub heard : (slot_on (run g (calls ++ (call ∷ []))) j).neighbour.heard ≡ 1
  pub t3 : (slot_on (run g (calls ++ (call ∷ []))) j).neighbour.t3 ≡ 3600

-- 02, L3: an Update that a passive neighbour's slot accepts is one if its status is 1 or 129, and else is none
pub record UpdateStatus (g : Settings) (calls : List Call) (call : Call) (j status : ℕ) : Type 0 where
  pub up : (eqb status 1 || eqb status 129) ≡ true → Indicates g calls call j
  pub other : (eqb status 0 || eqb status 2 || eqb status 128 || eqb status 130) ≡ true → brings is_indication (model g calls) j call ≡ false

abbrev pub UpdateIndicates : Type 0
UpdateIndicates =
    (g : Settings) → Taken g → (calls : List Call) (j a : ℕ) (o home buffer : List ℕ) (asn number status net : ℕ) → j < 8
    → accepts (model g calls) j (receive a o home buffer) ≡ true → decode_of o ≡ Ok (M.Update asn number status net)
    → (slot_on (run g calls) j).neighbour.mode ≡ Passive
    → UpdateStatus g calls (receive a o home buffer) j status
