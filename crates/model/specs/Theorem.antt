-- The theorem about lists of calls: the gateway's definitions and the model, run over any list, leave and answer the same.
use Rattle.std.specs.Prelude.{ℕ, suc, ◌*◌, ◌-◌, ◌<◌, ◌≡◌, Bool, true, false, cond, List, [], ◌∷◌, ◌++◌, map, ltb, eqb, length, drop}
use Rattle.checks.specs.Lists.{every}
use Rattle.checks.specs.Lists.{join}
use Rattle.octets.specs.Buffer.{over}
use Rattle.nets.specs.Rows.{Row, flat}
use Rattle.update_rows.specs.Storing.{zeros, padded}
use Rattle.neighbour.specs.declared.Phase.{Phase}
use Rattle.neighbour.specs.declared.Settings.{Settings}
use Rattle.neighbour_seconds.specs.Seconds.{seconds_in, seconds_sum}
use Rattle.gateway_state.specs.declared.State.{State}
use Rattle.gateway_state.specs.declared.Slot as Stored
use Rattle.gateway_state.specs.declared.Outcome.{Outcome}
use Rattle.gateway_state.specs.Slots.{free_slot, slot_at}
use Rattle.gateway_state.specs.Places.{slot_numbers, row_counts, part_at, read_rows}
use Rattle.gateway_state.specs.Formed.{state_formed}
use Rattle.gateway_slots.specs.Calls.{fresh_of, add_of, remove_of}
use Rattle.gateway_rules.specs.Calls.{event_outcome, event_table, event_buffer, message_outcome, message_table, message_buffer}
use Rattle.listing_lines.specs.Listing.{marked_row, listing_outcome, listing_buffer}
use Rattle.model.specs.Model.{Call, add, remove, happen, receive, listing, Peer, Slot, free, used, Model, Said, model, model_from, empty, said_from, step}
use Rattle.model.specs.History.{last_accepted, is_elsewhere, takes_no_slot}
use Rattle.model.specs.Ticks.{ticks_finding, ticks_since}

-- ---- the gateway's own definitions, over a list

-- the state, and the lent table
pub record Gateway : Type 0 where
  pub state : State
  pub table : List ℕ

unfoldable pub outcome_of : Call → Gateway → Outcome
outcome_of (add address asn) b = add_of b.state address asn
outcome_of (remove address) b = remove_of b.state address
outcome_of (happen event a buffer) b = event_outcome event b.state b.table buffer a
outcome_of (receive a o home buffer) b = message_outcome b.state b.table buffer home a o
outcome_of (listing buffer) b = listing_outcome b.state b.table buffer

-- add and remove take no table, a listing only reads it
unfoldable pub table_left : Call → Gateway → List ℕ
table_left (add address asn) b = b.table
table_left (remove address) b = b.table
table_left (happen event a buffer) b = event_table event b.state b.table buffer a
table_left (receive a o home buffer) b = message_table b.state b.table buffer home a o
table_left (listing buffer) b = b.table

-- the buffer that a call lends; add and remove lend none
unfoldable pub buffer_of : Call → List ℕ
buffer_of (add address asn) = []
buffer_of (remove address) = []
buffer_of (happen event a buffer) = buffer
buffer_of (receive a o home buffer) = buffer
buffer_of (listing buffer) = buffer

unfoldable pub buffer_left : Call → Gateway → List ℕ
buffer_left (add address asn) b = []
buffer_left (remove address) b = []
buffer_left (happen event a buffer) b = event_buffer event b.state b.table buffer a
buffer_left (receive a o home buffer) b = message_buffer b.state b.table buffer home a o
buffer_left (listing buffer) b = listing_buffer b.state b.table buffer

unfoldable pub gateway_step : Call → Gateway → Gateway
gateway_step call b = record { state = (outcome_of call b).state; table = table_left call b }

unfoldable pub gateway_from : Gateway → List Call → Gateway
gateway_from b [] = b
gateway_from b (call ∷ rest) = gateway_from (gateway_step call b) rest

-- what the caller sees of one call: the number, both lengths, and its buffer after it
pub record Seen : Type 0 where
  pub answer : ℕ
  pub first : ℕ
  pub second : ℕ
  pub buffer : List ℕ

unfoldable pub seen_of : Call → Gateway → Seen
seen_of call b =
    record {
      answer = (outcome_of call b).answer;
      first = (outcome_of call b).first;
      second = (outcome_of call b).second;
      buffer = buffer_left call b;
    }

unfoldable pub seen_from : Gateway → List Call → List Seen
seen_from b [] = []
seen_from b (call ∷ rest) = seen_of call b ∷ seen_from (gateway_step call b) rest

-- 01: "exactly 3,072" numbers, zero at first
unfoldable pub empty_table : List ℕ
empty_table = zeros 3072

-- from what fresh returns and an empty table
unfoldable pub begun : Settings → Gateway
begun g = record { state = (fresh_of g).state; table = empty_table }

unfoldable pub run : Settings → List Call → Gateway
run g calls = gateway_from (begun g) calls

unfoldable pub seen_by : Settings → List Call → List Seen
seen_by g calls = seen_from (begun g) calls

-- ---- the model, as state and table

-- 01: "The count is their number"
unfoldable pub cell : Slot → Stored.Slot
cell free = free_slot
cell (used p) = record { address = p.address; asn = p.asn; neighbour = p.neighbour; rows = length p.rows; seconds = p.seconds }

unfoldable pub state_of : Model → State
state_of m = record { settings = m.settings; slots = map cell m.slots }

unfoldable pub rows_held : Slot → List Row
rows_held free = []
rows_held (used p) = p.rows

-- 01: "the table has them as under Numbers": "slot by slot, three a row .. Unused rows are zero"
unfoldable pub part : Slot → List ℕ
part slot = padded slot_numbers (flat (rows_held slot))

unfoldable pub table_of : Model → List ℕ
table_of m = join (map part m.slots)

-- what the model's answer shows to a caller who lends this buffer
unfoldable pub shown_in : List ℕ → Said → Seen
shown_in buffer said =
    record {
      answer = said.answer;
      first = length said.first;
      second = length said.second;
      buffer = over (said.first ++ said.second) buffer;
    }

unfoldable pub shown : List Call → List Said → List Seen
shown [] said = []
shown (call ∷ rest) [] = []
shown (call ∷ rest) (s ∷ said) = shown_in (buffer_of call) s ∷ shown rest said

-- ---- what is read off state and table

-- 01: "three a row": the rows of slot j, as many as its count says
unfoldable pub rows_at : Gateway → ℕ → List Row
rows_at b j = read_rows b.table (row_counts b.state) j

-- ---- what a listing asks of the calls before it

-- the numbers that an octet can be
abbrev pub is_octet : ℕ → Bool
is_octet n = ltb n 256

-- a message is of octets, as the code's type has it; no rule but a listing's check 2 leans on it
unfoldable pub carries_octets : Call → Bool
carries_octets (add address asn) = true
carries_octets (remove address) = true
carries_octets (happen event a buffer) = true
carries_octets (receive a o home buffer) = every is_octet o
carries_octets (listing buffer) = true

-- every call but the listing
unfoldable pub lists_nothing : Call → Bool
lists_nothing (add address asn) = true
lists_nothing (remove address) = true
lists_nothing (happen event a buffer) = true
lists_nothing (receive a o home buffer) = true
lists_nothing (listing buffer) = false

-- ---- the statement

-- after these calls, from what fresh returns: the gateway beside the model
pub record Agreement (g : Settings) (calls : List Call) : Type 0 where
  -- every field of the final state, and every number of the final table
  pub state : (run g calls).state ≡ state_of (model g calls)
  pub table : (run g calls).table ≡ table_of (model g calls)
  -- every answer, both lengths and every octet of every buffer, a listing's too
  pub seen : every carries_octets calls ≡ true → seen_by g calls ≡ shown calls (said_from (empty g) calls)
  -- where nothing is listed, a message may even be of any numbers
  pub seen_unlisted : every lists_nothing calls ≡ true → seen_by g calls ≡ shown calls (said_from (empty g) calls)
  -- the rows read off the final table by the final count are those of the last Update accepted since the slot last entered Up; behind them all is zero
  pub rows : (j : ℕ) → j < 8 → rows_at (run g calls) j ≡ last_accepted g j calls
  pub count : (j : ℕ) → j < 8 → (slot_at (run g calls).state j).rows ≡ length (last_accepted g j calls)
  pub numbers : (j : ℕ) → j < 8 → part_at (run g calls).table j ≡ padded slot_numbers (flat (last_accepted g j calls))
  -- 02: each count is that of the ticks carried out since the neighbour was added that found it in this state, "and their sum is the number of
  -- ticks carried out since the neighbour was added"
  pub seconds : (j : ℕ) → j < 8 → (phase : Phase) → seconds_in phase (slot_at (run g calls).state j).seconds ≡ ticks_finding g j phase calls
  pub clock : (j : ℕ) → j < 8 → seconds_sum (slot_at (run g calls).state j).seconds ≡ ticks_since g j calls
  -- however many calls about others follow, a used slot's record stays as it was, its part of the table, and the rows
  -- read
  pub others :
      (more : List Call) (j : ℕ) → j < 8
      → ((slot_at (run g calls).state j).address ≡ 0 → ⊥) → every (is_elsewhere (slot_at (run g calls).state j).address) more ≡ true
      → (slot_at (run g (calls ++ more)).state j ≡ slot_at (run g calls).state j)
      × (part_at (run g (calls ++ more)).table j ≡ part_at (run g calls).table j)
      × (rows_at (run g (calls ++ more)) j ≡ rows_at (run g calls) j)
  -- and a free slot stays free, its part zero and without a row, until a neighbour is added
  pub free_slots_lem :
      (more : List Call) (j : ℕ) → j < 8
      → (slot_at (run g calls).state j).address ≡ 0 → every takes_no_slot more ≡ true
      → (slot_at (run g (calls ++ more)).state j ≡ free_slot)
      × (part_at (run g (calls ++ more)).table j ≡ zeros slot_numbers)
      × (rows_at (run g (calls ++ more)) j ≡ [])

-- 01: "one claim about the whole list, not one for each call": all settings that fresh takes, and all lists
abbrev pub ListOfCalls : Type 0
ListOfCalls = (g : Settings) → (fresh_of g).answer ≡ 0 → (calls : List Call) → Agreement g calls

-- ---- what no call after them can be answered, and what leaves all as it was

pub record Steady (g : Settings) (calls : List Call) : Type 0 where
  -- 01: "1 and 2 never fail here"; 2 is the table's length, and in a listing the third numbers of the used rows
  pub one : (call : Call) → (outcome_of call (run g calls)).answer ≡ 1 → ⊥
  pub two : (call : Call) → every carries_octets calls ≡ true → (outcome_of call (run g calls)).answer ≡ 2 → ⊥
  pub two_unlisted : (call : Call) → lists_nothing call ≡ true → (outcome_of call (run g calls)).answer ≡ 2 → ⊥
  -- 01: "refused calls and listings change nothing", in the model and in state and table
  pub refused : (call : Call) → ((step call (model g calls)).said.answer ≡ 0 → ⊥) → (step call (model g calls)).model ≡ model g calls
  pub refused_gateway : (call : Call) → ((outcome_of call (run g calls)).answer ≡ 0 → ⊥) → gateway_step call (run g calls) ≡ run g calls
  pub listings : (buffer : List ℕ) → (step (listing buffer) (model g calls)).model ≡ model g calls
  pub listings_gateway : (buffer : List ℕ) → gateway_step (listing buffer) (run g calls) ≡ run g calls

abbrev pub NeverOneOrTwo : Type 0
NeverOneOrTwo = (g : Settings) → (fresh_of g).answer ≡ 0 → (calls : List Call) → Steady g calls

-- ---- from any state that passes check 1, with any rows it counts

-- 01: "Unused rows are zero": of slot j, behind the rows that its count says
unfoldable pub unused : Gateway → ℕ → List ℕ
unused b j = drop (3 * (slot_at b.state j).rows) (part_at b.table j)

pub record Sensible (b : Gateway) : Type 0 where
  pub formed : state_formed b.state ≡ true
  pub eight : length b.state.slots ≡ 8
  pub long : length b.table ≡ 3072
  pub zero_unused : (j : ℕ) → j < 8 → unused b j ≡ zeros (slot_numbers - 3 * (slot_at b.state j).rows)

-- 2 in a listing: no "used row's third number above 511"
abbrev pub Listable : Gateway → Type 0
Listable b = (j : ℕ) → j < 8 → every marked_row (rows_at b j) ≡ true

-- a stored record, with these rows
abbrev pub peer_from : Stored.Slot → List Row → Peer
peer_from slot rows = record { address = slot.address; asn = slot.asn; neighbour = slot.neighbour; rows = rows; seconds = slot.seconds }

-- one slot of the model, from its record and the rows read off the table
unfoldable pub slot_from : Stored.Slot → List Row → Slot
slot_from slot rows = cond (eqb slot.address 0) free (used (peer_from slot rows))

-- these are the slots from index i on
unfoldable pub slots_from : ℕ → List Stored.Slot → List ℕ → List ℕ → List Slot
slots_from i [] table counts = []
slots_from i (slot ∷ rest) table counts = slot_from slot (read_rows table counts i) ∷ slots_from (suc i) rest table counts

unfoldable pub model_of : Gateway → Model
model_of b = record { settings = b.state.settings; slots = slots_from 0 b.state.slots b.table (row_counts b.state) }

-- such a state and table are those of a model, and every list of calls goes on as in the model
pub record FromAnyState : Type 0 where
  pub is_state : (b : Gateway) → Sensible b → state_of (model_of b) ≡ b.state
  pub is_table : (b : Gateway) → Sensible b → table_of (model_of b) ≡ b.table
  pub state : (b : Gateway) → Sensible b → (calls : List Call) → (gateway_from b calls).state ≡ state_of (model_from (model_of b) calls)
  pub table : (b : Gateway) → Sensible b → (calls : List Call) → (gateway_from b calls).table ≡ table_of (model_from (model_of b) calls)
  pub seen :
      (b : Gateway) → Sensible b → Listable b → (calls : List Call) → every carries_octets calls ≡ true
      → seen_from b calls ≡ shown calls (said_from (model_of b) calls)
  pub seen_unlisted :
      (b : Gateway) → Sensible b → (calls : List Call) → every lists_nothing calls ≡ true → seen_from b calls ≡ shown calls (said_from (model_of b) calls)
