-- A neighbour that is too quick (02, L5): what a Hello or a Poll that comes too soon draws, and that a neighbour whose
-- Hello comes every second is none the worse for it while our mode is passive. The proofs are in proofs/.
use Rattle.std.specs.Prelude.{ℕ, suc, ◌%◌, ◌<◌, ◌≡◌, Bool, true, false, cond, not, ◌&&◌, ◌||◌, List, [], ◌∷◌, ◌++◌, ltb, eqb, Result, Ok, Err}
use Rattle.checks.specs.declared.Refusal.{Refusal}
use Rattle.octets.specs.Buffer.{over}
use Rattle.message.specs.Kinds.{kind_of, status_of}
use Rattle.message.specs.declared.Kind.TheVariants as K
use Rattle.message.specs.declared.Message.TheVariants as M
use Rattle.message.specs.declared.Message.{Message}
use Rattle.message_reading.specs.Reading.{header_answer, asn_at, decode_of}
use Rattle.codec_writing.specs.Octets.{message_octets}
use Rattle.neighbour.specs.declared.Mode.TheVariants.{Passive}
use Rattle.neighbour.specs.declared.Settings.{Settings}
use Rattle.neighbour.specs.declared.Neighbour.{Neighbour}
use Rattle.neighbour.specs.Record.{acquired}
use Rattle.neighbour.specs.Rules.{same}
use Rattle.neighbour_messages.specs.Sent.{error_message}
use Rattle.neighbour_machine.specs.declared.Event.{Event}
use Rattle.neighbour_machine.specs.declared.Event.TheVariants.{Received, Start, Stop, Tick}
use Rattle.model.specs.Model.{Call, add, remove, happen, receive, listing, Model, slot_in, found_at, first_twelve, message_answer, step, model}
use Rattle.model.specs.History.{is_up_slot}
use Rattle.model.specs.Theorem.{Gateway, outcome_of, buffer_of, gateway_step, seen_of, run, cell, Sensible}
use Rattle.model.specs.Windows.{is_indication, is_evaluation, is_restart, record_in, brings, windows}
use Rattle.model.specs.Corollaries.{Taken, slot_on, Says}

-- ---- one that comes too soon

-- the octets of Error 4 to the neighbour in slot j: R as it stood, and the first 12 octets of these
unfoldable pub error_four : Gateway → ℕ → List ℕ → List ℕ
error_four b j o = message_octets (error_message b.state.settings (slot_on b j).neighbour 4 (first_twelve o)) []

-- 02: "21, .. reply Error 4": its 24 octets over the lent buffer, and nothing else is left changed
pub record DrawsFour (b : Gateway) (j : ℕ) (o : List ℕ) (call : Call) : Type 0 where
  pub seen : seen_of call b ≡ record { answer = 21; first = 24; second = 0; buffer = over (error_four b j o) (buffer_of call) }
  pub unchanged : gateway_step call b ≡ b

-- 02: "a Hello less than 30 ticks, or a Poll less than 120 ticks, after the last one carried out"
pub record DrawnBy (b : Gateway) (j : ℕ) (o home buffer : List ℕ) : Type 0 where
  pub hello :
      (asn number status : ℕ) → Says b j o home buffer (M.Hello asn number status) → (slot_on b j).neighbour.sincehello < 30
      → DrawsFour b j o (receive (slot_on b j).address o home buffer)
  pub poll :
      (asn number status net : ℕ) → Says b j o home buffer (M.Poll asn number status net) → (slot_on b j).neighbour.sincepoll < 120
      → DrawsFour b j o (receive (slot_on b j).address o home buffer)

-- 02: "in Down and Up only"
abbrev pub TooQuickDrawsFour : Type 0
TooQuickDrawsFour =
    (b : Gateway) → Sensible b → (j : ℕ) → j < 8 → acquired (slot_on b j).neighbour.phase ≡ true → (o home buffer : List ℕ)
    → DrawnBy b j o home buffer

-- ---- Hellos, by the calls

-- a Hello of status 1, the one that passive mode hears
unfoldable pub says_hello_up : Result Message Refusal → Bool
says_hello_up (Ok x) = same (kind_of x) K.Hello && eqb (status_of x) 1
says_hello_up (Err refused) = false

-- such a Hello comes from the neighbour in slot j and passes 3 to 5, 6 to 8 and 9; 10 to 12 refuse no octets that say
-- one, and 13 is about responses
unfoldable pub hello_comes : Model → ℕ → Call → Bool
hello_comes m j (add address asn) = false
hello_comes m j (remove address) = false
hello_comes m j (happen event a buffer) = false
hello_comes m j (receive a o home buffer) =
    eqb (message_answer m a home buffer) 0 && eqb (found_at m a) j
    && eqb (header_answer o) 0 && eqb (asn_at o) (cell (slot_in m j)).asn && says_hello_up (decode_of o)
hello_comes m j (listing buffer) = false

-- a tick
unfoldable pub is_ticked : Neighbour → Event → Bool
is_ticked n (Received x) = false
is_ticked n Start = false
is_ticked n Stop = false
is_ticked n Tick = true

-- a Hello, whatever its status
unfoldable pub is_hello : Neighbour → Event → Bool
is_hello n (Received x) = same (kind_of x) K.Hello
is_hello n Start = false
is_hello n Stop = false
is_hello n Tick = false

-- a Hello of status 0 or 2
unfoldable pub is_other_hello : Neighbour → Event → Bool
is_other_hello n (Received x) = same (kind_of x) K.Hello && not (eqb (status_of x) 1)
is_other_hello n Start = false
is_other_hello n Stop = false
is_other_hello n Tick = false

-- ---- over a list

-- whether a tick was carried out for slot j since the last Hello of status 1 came
unfoldable pub due_after : Model → ℕ → Bool → Call → Bool
due_after m j due call = brings is_ticked m j call || (due && not (hello_comes m j call))

-- this call carries out no Request, Cease, Start or Stop for slot j, no Hello of another status, and no tick while a
-- Hello is due
unfoldable pub keeps_time : Model → ℕ → Bool → Call → Bool
keeps_time m j due call = not (brings is_restart m j call) && not (brings is_other_hello m j call) && not (due && brings is_ticked m j call)

-- a Hello of status 1 comes after every tick; between them any other calls may stand
unfoldable pub hello_every_tick : Model → ℕ → Bool → List Call → Bool
hello_every_tick m j due [] = true
hello_every_tick m j due (call ∷ rest) = keeps_time m j due call && hello_every_tick (step call m).model j (due_after m j due call) rest

-- the ticks carried out for slot j since the last Hello carried out
unfoldable pub ticks_after : Model → ℕ → ℕ → Call → ℕ
ticks_after m j ticks call = cond (brings is_ticked m j call) (suc ticks) (cond (brings is_hello m j call) 0 ticks)

-- every Hello of status 1 that comes is answered 21, but that after the thirtieth tick is carried out
unfoldable pub one_in_thirty : Model → ℕ → ℕ → List Call → Bool
one_in_thirty m j ticks [] = true
one_in_thirty m j ticks (call ∷ rest) =
    (not (hello_comes m j call) || eqb (step call m).said.answer (cond (ltb ticks 30) 21 0))
    && one_in_thirty (step call m).model j (ticks_after m j ticks call) rest

-- the lowest bit of slot j's register is 1, and slot j is Up
unfoldable pub is_lit : Model → ℕ → Bool
is_lit m j = eqb ((record_in m j).register % 2) 1 && is_up_slot (slot_in m j)

-- each evaluation of slot j's register shifts a one in, and leaves it Up
unfoldable pub shifts_ones : Model → ℕ → List Call → Bool
shifts_ones m j [] = true
shifts_ones m j (call ∷ rest) =
    (not (brings is_evaluation m j call) || is_lit (step call m).model j) && shifts_ones (step call m).model j rest

-- each call that finds slot j Up leaves it Up
unfoldable pub never_falls : Model → ℕ → List Call → Bool
never_falls m j [] = true
never_falls m j (call ∷ rest) =
    (not (is_up_slot (slot_in m j)) || is_up_slot (slot_in (step call m).model j)) && never_falls (step call m).model j rest

-- all windows of a list hold an indication
unfoldable pub all_of : List Bool → Bool
all_of [] = true
all_of (b ∷ rest) = b && all_of rest

-- ---- a Hello every second

-- a Hello of status 1 carried out in passive mode
pub record HelloCarriedOut (g : Settings) (before : List Call) (call : Call) (j : ℕ) : Type 0 where
  pub passive : (slot_on (run g before) j).neighbour.mode ≡ Passive
  pub comes : hello_comes (model g before) j call ≡ true
  pub answer : (outcome_of call (run g before)).answer ≡ 0

-- after these calls, through more: one in thirty is carried out, and the others draw what `TooQuickDrawsFour` says;
-- every window that ends holds an indication, so every evaluation shifts a one in; slot j is in Down or Up, and no call
-- takes it out of Up
pub record Unhurt (g : Settings) (calls more : List Call) (j : ℕ) : Type 0 where
  pub answers : one_in_thirty (model g calls) j 0 more ≡ true
  pub ones : all_of (windows (model g calls) j true more) ≡ true
  pub reached : acquired (slot_on (run g (calls ++ more)) j).neighbour.phase ≡ true
  pub shifts : shifts_ones (model g calls) j more ≡ true
  pub stays : never_falls (model g calls) j more ≡ true

abbrev pub HelloEverySecond : Type 0
HelloEverySecond =
    (g : Settings) → Taken g → (before : List Call) (call : Call) (more : List Call) (j : ℕ) → j < 8 → HelloCarriedOut g before call j
    → hello_every_tick (model g (before ++ (call ∷ []))) j false more ≡ true → Unhurt g (before ++ (call ∷ [])) more j

-- a Hello of status 0 or 2 carried out in passive mode is not heard, and t3 runs on
pub record Unheard (g : Settings) (calls : List Call) (call : Call) (j : ℕ) : Type 0 where
  pub no_indication : brings is_indication (model g calls) j call ≡ false
  pub heard : (slot_on (run g (calls ++ (call ∷ []))) j).neighbour.heard ≡ (slot_on (run g calls) j).neighbour.heard
  pub t3 : (slot_on (run g (calls ++ (call ∷ []))) j).neighbour.t3 ≡ (slot_on (run g calls) j).neighbour.t3

abbrev pub OtherStatusUnheard : Type 0
OtherStatusUnheard =
    (g : Settings) → Taken g → (calls : List Call) (call : Call) (j : ℕ) → j < 8 → (slot_on (run g calls) j).neighbour.mode ≡ Passive
    → brings is_other_hello (model g calls) j call ≡ true → Unheard g calls call j
