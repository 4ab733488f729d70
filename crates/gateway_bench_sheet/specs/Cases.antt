-- A case of the bench sheet: what is given and what must come out; and the test that computes the one and compares it with the other.
use Rattle.std.specs.Prelude.{ℕ, ◌≡◌, Bool, true, ◌&&◌, List, [], length, Ok, Err}
use Rattle.checks.specs.declared.Refusal.{Refusal}
use Rattle.nets.specs.Rows.{Row, flat}
use Rattle.message.specs.declared.Message.{Message}
use Rattle.update_rows.specs.Storing.{padded}
use Rattle.codec.specs.declared.Reading.{Reading}
use Rattle.codec.specs.Reading.{most_read_numbers, read_of}
use Rattle.codec_writing.specs.Octets.{message_octets}
use Rattle.codec.specs.Writing.{writable}
use Rattle.neighbour.specs.declared.Settings.{Settings}
use Rattle.neighbour.specs.declared.Neighbour.{Neighbour}
use Rattle.neighbour_machine.specs.declared.Event.{Event}
use Rattle.neighbour_machine.specs.Step.{step_of}
use Rattle.gateway_state.specs.declared.State.{State}
use Rattle.gateway_state.specs.declared.Outcome.{Outcome}
use Rattle.gateway_rules.specs.declared.Verdict.{Verdict}
use Rattle.gateway_rules.specs.Ruling.{stepped, receive_ruling, verdict_of}
use Rattle.gateway_rules.specs.Calls.{no_head, message_outcome, message_table, message_buffer}
use Rattle.gateway_bench_sheet.specs.Same.{same_numbers, same_reading, same_verdict, same_outcome}

-- what a message call must leave: answer, lengths and state, the octets at the buffer's front, the numbers at the table's
pub record MessageLeft : Type 0 where
  pub outcome : Outcome
  pub reply : List ℕ
  pub rows : List ℕ

pub data Case : Type 0 where
  -- octets read alone on a common net have this meaning and exactly these rows; both written give these octets
  reads : ℕ → List ℕ → Message → List Row → Case
  -- octets read alone on a common net are refused for this
  refused : ℕ → List ℕ → Refusal → Case
  -- octets from the neighbour with this AS and record, at a gateway with these settings and with room for 128 rows:
  -- answer, reply, record after it, and whether the rows stay, go or are so many others
  received : Settings → ℕ → Neighbour → List ℕ → Verdict → Case
  -- the same for an event that is already a meaning
  happens : Settings → ℕ → Neighbour → Event → Verdict → Case
  -- the whole message call: the state, the address that the octets come from, no home list, a table and a buffer of zeros
  called : State → ℕ → List ℕ → MessageLeft → Case

-- what reading alone must give: the meaning and exactly the rows, zeros after them
unfoldable pub good_reading : Message → List Row → Reading
good_reading m rows = record { meaning = Ok m; count = length rows; rows = padded most_read_numbers (flat rows) }

-- or a refusal, with no row
unfoldable pub bad_reading : Refusal → Reading
bad_reading told = record { meaning = Err told; count = 0; rows = padded most_read_numbers [] }

-- 01: "The lent table is exactly 3,072 32-bit numbers"; "Reply buffer at least 2,048 octets"; both hold zeros
unfoldable pub zero_table : List ℕ
zero_table = padded 3072 []

unfoldable pub zero_buffer : List ℕ
zero_buffer = padded 2048 []

-- a whole message call leaves exactly this, in state, buffer and table
unfoldable pub leaves : State → ℕ → List ℕ → MessageLeft → Bool
leaves st address octets left =
    same_outcome (message_outcome st zero_table zero_buffer [] address octets) left.outcome
    && same_numbers (message_buffer st zero_table zero_buffer [] address octets) (padded 2048 left.reply)
    && same_numbers (message_table st zero_table zero_buffer [] address octets) (padded 3072 left.rows)

-- the test of a case, by the project's own definitions
unfoldable pub passes : Case → Bool
passes (reads net octets m rows) =
    same_reading (read_of net octets) (good_reading m rows) && writable m (flat rows) && same_numbers (message_octets m rows) octets
passes (refused net octets told) = same_reading (read_of net octets) (bad_reading told)
passes (received g asn n octets v) = same_verdict (verdict_of (receive_ruling 128 g asn n octets)) v
passes (happens g asn n event v) = same_verdict (verdict_of (stepped n (step_of g asn n event no_head))) v
passes (called st address octets left) = leaves st address octets left

-- what a case says, as equations: what is computed is what must come out
abbrev pub Holds : Case → Type 0
Holds (reads net octets m rows) = (read_of net octets ≡ good_reading m rows) × (writable m (flat rows) ≡ true) × (message_octets m rows ≡ octets)
Holds (refused net octets told) = read_of net octets ≡ bad_reading told
Holds (received g asn n octets v) = verdict_of (receive_ruling 128 g asn n octets) ≡ v
Holds (happens g asn n event v) = verdict_of (stepped n (step_of g asn n event no_head)) ≡ v
Holds (called st address octets left) =
    (message_outcome st zero_table zero_buffer [] address octets ≡ left.outcome)
    × (message_buffer st zero_table zero_buffer [] address octets ≡ padded 2048 left.reply)
    × (message_table st zero_table zero_buffer [] address octets ≡ padded 3072 left.rows)

-- the test is no weaker than the equations
abbrev pub PassingHolds : Type 0
PassingHolds = (c : Case) → passes c ≡ true → Holds c
