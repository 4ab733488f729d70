-- A line of the sheet: a call, all that it is given, and what 01 demands of it.
use Rattle.std.specs.Prelude.{ℕ, cond, List, [], ◌++◌, eqb, take, drop, replicate}
use Prim.Native.String.{String}
use Rattle.message.specs.declared.Message.{Message}
use Rattle.checks.specs.Refusals.{answer_of}
use Rattle.codec.specs.Reading.{read_of}
use Rattle.codec.specs.Writing.{write_answer, write_length}
use Rattle.neighbour.specs.declared.Settings.{Settings}
use Rattle.neighbour_machine.specs.Intrinsics.{Intrinsic}
use Rattle.gateway_state.specs.declared.State.{State}
use Rattle.gateway_state.specs.declared.Outcome.{Outcome}
use Rattle.gateway_slots.specs.Calls.{fresh_of, add_of, remove_of}
use Rattle.gateway_rules.specs.Calls.{event_outcome, event_table, event_buffer, message_outcome, message_table, message_buffer}
use Rattle.listing_lines.specs.Listing.{listing_outcome}
use Rattle.gateway_check_sheet.specs.Given.{hex, common, theirs, in_idle}

-- A table is given by how many numbers it has, a buffer by how many octets. All of a table are 8 and all of a buffer 7,
-- so that what is kept shows; none has less than 774 or 32. A listing's table is given whole.
pub data Line : Type 0 where
  -- fresh: settings; the answer, and the state after it
  fresh : Settings → ℕ → State → Line
  -- add: state, address, AS; the answer, and the state after it
  add : State → ℕ → ℕ → ℕ → State → Line
  -- remove: state, address; the answer, and the state after it
  remove : State → ℕ → ℕ → State → Line
  -- Start, Stop or tick: state, table, buffer, address; the answer, the two lengths, the octets of the reply
  event : Intrinsic → State → ℕ → ℕ → ℕ → ℕ → ℕ → ℕ → List ℕ → Line
  -- message: state, table, buffer, home list, address, octets; the answer, the two lengths, the octets of the reply
  message : State → ℕ → ℕ → List ℕ → ℕ → List ℕ → ℕ → ℕ → ℕ → List ℕ → Line
  -- listing: state, table, buffer; the answer and the first length
  listing : State → List ℕ → ℕ → ℕ → ℕ → Line
  -- reading alone: common net, octets; the answer and the number of rows
  reading : ℕ → List ℕ → ℕ → ℕ → Line
  -- reading alone an Update that is good: common net, octets; the numbers of its rows
  rows : ℕ → List ℕ → List ℕ → Line
  -- writing: meaning, numbers of its rows, buffer; the answer and the length
  writing : Message → List ℕ → ℕ → ℕ → ℕ → Line
  -- octets read alone on the common net, and sent by the neighbour in Idle: one answer for both
  judged : List ℕ → ℕ → Line

-- octets from the neighbour, all else being right: table, buffer and an empty home list
unfoldable pub heard : State → String → ℕ → ℕ → ℕ → String → Line
heard st octets answer first second reply = message st 3072 2048 [] theirs (hex octets) answer first second (hex reply)

-- what is looked at after a call
pub data Result : Type 0 where
  -- answer, lengths and state
  leaves : Outcome → Result
  -- answer, lengths and the front of the buffer; where the call was refused, the state and two rows of slot 2 too
  sends : Outcome → List ℕ → List ℕ → Result
  -- an answer, and a number beside it
  pair : ℕ → ℕ → Result
  -- the numbers of rows
  holds : List ℕ → Result

-- 01: "Every refusal returns the state as given, keeps the table"; what a carried-out call leaves is not looked at here
unfoldable pub after_refusal : {A : Type 0} → ℕ → A → A → A
after_refusal answer given after = cond (eqb answer 0) given after

unfoldable pub refused_state : State → Outcome → Outcome
refused_state st o =
    record { answer = o.answer; first = o.first; second = o.second; state = after_refusal o.answer st o.state }

-- the first 32 numbers: of a buffer, since a refusal keeps "all octets beyond the named reply", and of an Update's rows
unfoldable pub front : List ℕ → List ℕ
front numbers = take 32 numbers

-- two rows of the neighbour's slot
unfoldable pub rows_of_two : List ℕ → List ℕ
rows_of_two table = take 6 (drop 768 table)

unfoldable pub seen : State → List ℕ → Outcome → List ℕ → List ℕ → Result
seen st table o newTable newBuffer =
    sends (refused_state st o) (front newBuffer) (rows_of_two (after_refusal o.answer table newTable))

-- what the definitions give
unfoldable pub computed : Line → Result
computed (fresh g answer after) = leaves (fresh_of g)
computed (add st address asn answer after) = leaves (add_of st address asn)
computed (remove st address answer after) = leaves (remove_of st address)
computed (event e st table buffer address answer first second reply) =
    let t : List ℕ = replicate table 8 in
    let b : List ℕ = replicate buffer 7 in
    seen st t (event_outcome e st t b address) (event_table e st t b address) (event_buffer e st t b address)
computed (message st table buffer home address octets answer first second reply) =
    let t : List ℕ = replicate table 8 in
    let b : List ℕ = replicate buffer 7 in
    seen st t (message_outcome st t b home address octets)
    (message_table st t b home address octets) (message_buffer st t b home address octets)
computed (listing st table buffer answer length) = leaves (listing_outcome st table (replicate buffer 7))
computed (reading net octets answer count) = pair (answer_of (read_of net octets).meaning) (read_of net octets).count
computed (rows net octets numbers) = holds (front (read_of net octets).rows)
computed (writing m numbers buffer answer length) =
    let b : List ℕ = replicate buffer 7 in
    pair (write_answer m numbers b) (write_length m numbers b)
computed (judged octets answer) =
    pair (answer_of (read_of common octets).meaning)
    (message_outcome in_idle (replicate 3072 8) (replicate 2048 7) [] theirs octets).answer

-- what the line says
unfoldable pub written : Line → Result
written (fresh g answer after) = leaves (record { answer = answer; first = 0; second = 0; state = after })
written (add st address asn answer after) = leaves (record { answer = answer; first = 0; second = 0; state = after })
written (remove st address answer after) = leaves (record { answer = answer; first = 0; second = 0; state = after })
written (event e st table buffer address answer first second reply) =
    sends (record { answer = answer; first = first; second = second; state = st })
    (front (reply ++ replicate 32 7)) (replicate 6 8)
written (message st table buffer home address octets answer first second reply) =
    sends (record { answer = answer; first = first; second = second; state = st })
    (front (reply ++ replicate 32 7)) (replicate 6 8)
written (listing st table buffer answer length) = leaves (record { answer = answer; first = length; second = 0; state = st })
written (reading net octets answer count) = pair answer count
written (rows net octets numbers) = holds (front (numbers ++ replicate 384 0))
written (writing m numbers buffer answer length) = pair answer length
written (judged octets answer) = pair answer answer
