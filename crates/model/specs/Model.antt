-- The model that every list of calls is measured by (01: ledger). It is "fed only the arguments of fresh and the calls, without state and table", and makes the checks itself.
use Rattle.std.specs.Prelude.{ℕ, suc, Bool, true, false, cond, not, ◌&&◌, List, [], ◌∷◌, ltb, leb, eqb, length, get_or, set, replicate, Result, Ok, Err}
use Rattle.checks.specs.Refusals.{number_of}
use Rattle.checks.specs.declared.Refusal.{Refusal}
use Rattle.checks.specs.Checks.{check, if_ok}
use Rattle.checks.specs.Lists.{first}
use Rattle.octets.specs.Numbers.{word32}
use Rattle.nets.specs.Rows.{Row, rows_of}
use Rattle.message.specs.Kinds.{kind_of, plain_status}
use Rattle.message.specs.declared.Kind.TheVariants as K
use Rattle.message.specs.declared.Message.{Message}
use Rattle.message_reading.specs.Reading.{header_answer, asn_at, status_at, sequence_at, decode_of}
use Rattle.update_walk.specs.Body.{UpdateRead, accepted, broken_at, too_many, update_of, rows_read}
use Rattle.codec_writing.specs.Octets.{message_octets}
use Rattle.neighbour.specs.declared.Phase.{Phase}
use Rattle.neighbour.specs.declared.Settings.{Settings}
use Rattle.neighbour.specs.declared.Neighbour.{Neighbour}
use Rattle.neighbour.specs.Record.{idle, is_idle, acquired, is_up}
use Rattle.neighbour.specs.Rules.{same, in_sequence, too_quick}
use Rattle.neighbour_seconds.specs.declared.Seconds.{Seconds}
use Rattle.neighbour_seconds.specs.Seconds.{no_seconds, clock_full, counted}
use Rattle.neighbour_messages.specs.declared.Head.{Head}
use Rattle.neighbour_messages.specs.Sent.{refuse_message, error_message}
use Rattle.neighbour_machine.specs.declared.Event.{Event}
use Rattle.neighbour_machine.specs.declared.Event.TheVariants.{Received}
use Rattle.neighbour_machine.specs.declared.Event.TheVariants as E
use Rattle.neighbour_machine.specs.Intrinsics.{Intrinsic, Start, Stop, Tick, as_event}
use Rattle.neighbour_machine.specs.declared.Reply.{Reply}
use Rattle.neighbour_machine.specs.declared.Reply.TheVariants.{Nothing, One, Two}
use Rattle.neighbour_machine.specs.declared.After.{After}
use Rattle.neighbour_machine.specs.Table.{unanswered}
use Rattle.neighbour_machine.specs.Step.{step_of}
use Rattle.gateway_rules.specs.Home.{good_home}
use Rattle.listing_lines.specs.Lines.{Entry, entry_for, listing_text}

-- ---- calls

-- a call with its arguments: any numbers and any octets at all. Fresh is the start of every list.
pub data Call : Type 0 where
  -- address and AS
  add : ℕ → ℕ → Call
  -- address
  remove : ℕ → Call
  -- Start, Stop or tick: which, address and reply buffer
  happen : Intrinsic → ℕ → List ℕ → Call
  -- message: address, octets, home list, reply buffer
  receive : ℕ → List ℕ → List ℕ → List ℕ → Call
  -- listing: the lent buffer
  listing : List ℕ → Call

abbrev pub start : ℕ → List ℕ → Call
start a buffer = happen Start a buffer

abbrev pub stop : ℕ → List ℕ → Call
stop a buffer = happen Stop a buffer

abbrev pub tick : ℕ → List ℕ → Call
tick a buffer = happen Tick a buffer

-- ---- slots

-- 01: "a used one has address, AS, One neighbour's state (Idle when new) and rows"; 02: "how many seconds it spent in each"
pub record Peer : Type 0 where
  pub address : ℕ
  pub asn : ℕ
  pub neighbour : Neighbour
  pub rows : List Row
  pub seconds : Seconds

-- 01: "Idle when new"; 02: "Remove and add start from zero"
abbrev pub new_peer : ℕ → ℕ → Peer
new_peer address asn = record { address = address; asn = asn; neighbour = idle; rows = []; seconds = no_seconds }

-- the same, with this record, these rows and these seconds now
abbrev pub peer_with : Peer → Neighbour → List Row → Seconds → Peer
peer_with p n rows s = record { address = p.address; asn = p.asn; neighbour = n; rows = rows; seconds = s }

-- 01: "8 slots, free at first"
pub data Slot : Type 0 where
  free : Slot
  used : Peer → Slot

-- 01: "It keeps fresh's settings"
pub record Model : Type 0 where
  pub settings : Settings
  pub slots : List Slot

unfoldable pub empty : Settings → Model
empty g = record { settings = g; slots = replicate 8 free }

unfoldable pub slot_in : Model → ℕ → Slot
slot_in m i = get_or m.slots i free

unfoldable pub put : Model → ℕ → Slot → Model
put m i slot = record { settings = m.settings; slots = set m.slots i slot }

unfoldable pub is_free : Slot → Bool
is_free free = true
is_free (used p) = false

unfoldable pub has_address : ℕ → Slot → Bool
has_address a free = false
has_address a (used p) = eqb p.address a

-- 01: "used slot has this address"
unfoldable pub found_at : Model → ℕ → ℕ
found_at m a = first (has_address a) m.slots

unfoldable pub is_present : Model → ℕ → Bool
is_present m a = ltb (found_at m a) 8

-- 01: "the lowest free slot"
unfoldable pub vacancy : Model → ℕ
vacancy m = first is_free m.slots

-- ---- what a call answers

-- its number, and the octets of its reply's two messages
pub record Said : Type 0 where
  pub answer : ℕ
  pub first : List ℕ
  pub second : List ℕ

-- no reply
unfoldable pub silent : ℕ → Said
silent answer = record { answer = answer; first = []; second = [] }

-- 01: "A reply is at most two messages, the second written straight after the first"; an Update is written with the home list
unfoldable pub spoken : ℕ → Reply → List Row → Said
spoken answer Nothing home = silent answer
spoken answer (One m) home = record { answer = answer; first = message_octets m home; second = [] }
spoken answer (Two m next) home = record { answer = answer; first = message_octets m home; second = message_octets next home }

-- an answer, and the model after it
pub record Turn : Type 0 where
  pub said : Said
  pub model : Model

-- ---- add and remove

-- 01: "Add refuses 16 for AS 0 or own AS, or an address that is 0, our own or present."
unfoldable pub addable : Model → ℕ → ℕ → Bool
addable m address asn =
    (not (eqb asn 0) && not (eqb asn m.settings.asn) && not (eqb address 0) && not (eqb address m.settings.own)) && not (is_present m address)

-- then 17 "no free slot"
unfoldable pub answer_to_add : Model → ℕ → ℕ → ℕ
answer_to_add m address asn = check (addable m address asn) 16 (check (ltb (vacancy m) 8) 17 0)

unfoldable pub is_idle_slot : Slot → Bool
is_idle_slot free = true
is_idle_slot (used p) = is_idle p.neighbour.phase

-- 5, then 18 "neighbour not Idle"
unfoldable pub answer_to_remove : Model → ℕ → ℕ
answer_to_remove m address = check (is_present m address) 5 (check (is_idle_slot (slot_in m (found_at m address))) 18 0)

-- 01: "It takes the lowest free slot, and a removed slot is free again."
unfoldable pub add_turn : Model → ℕ → ℕ → Turn
add_turn m address asn =
    record {
      said = silent (answer_to_add m address asn);
      model = if_ok (answer_to_add m address asn) (put m (vacancy m) (used (new_peer address asn))) m;
    }

unfoldable pub remove_turn : Model → ℕ → Turn
remove_turn m address =
    record { said = silent (answer_to_remove m address); model = if_ok (answer_to_remove m address) (put m (found_at m address) free) m }

-- ---- one neighbour's turn

-- what becomes of one slot: the answer, the reply, the slot after it
pub record Move : Type 0 where
  pub answer : ℕ
  pub reply : Reply
  pub slot : Slot

-- a slot that nobody has
unfoldable pub no_move : Move
no_move = record { answer = 0; reply = Nothing; slot = free }

-- 01: "A slot not Up has no rows."
unfoldable pub rows_in_phase : Phase → List Row → List Row
rows_in_phase phase rows = cond (is_up phase) rows []

-- the machine's step carried out in a slot, with these rows while it is Up, and with these seconds; 02: they "survive Idle"
unfoldable pub moved : Peer → After → List Row → Seconds → Move
moved p after rows s =
    record { answer = 0; reply = after.reply; slot = used (peer_with p after.neighbour (rows_in_phase after.neighbour.phase rows) s) }

-- Start, Stop and tick receive no octets
unfoldable pub no_octets : Head
no_octets = record { first = 0; second = 0; third = 0 }

-- 02: "A tick carried out belongs to the state before it"
unfoldable pub seconds_after : Event → Peer → Seconds
seconds_after (E.Received m) p = p.seconds
seconds_after E.Start p = p.seconds
seconds_after E.Stop p = p.seconds
seconds_after E.Tick p = counted p.neighbour.phase p.seconds

unfoldable pub event_move : Settings → Intrinsic → Slot → Move
event_move g event free = no_move
event_move g event (used p) = moved p (step_of g p.asn p.neighbour (as_event event) no_octets) p.rows (seconds_after (as_event event) p)

-- ---- a message: checks 6 to 15 and 21

-- 14 and 15
unfoldable pub body_answer : UpdateRead → ℕ
body_answer (accepted rows) = 0
body_answer (broken_at offset) = 14
body_answer too_many = 15

unfoldable pub is_update : Message → Bool
is_update m = same (kind_of m) K.Update

-- 10 to 12, then 13 "response out of sequence", then 02's 21 "after 13", then of an Update in Up its body
unfoldable pub kind_answer : Settings → Neighbour → List ℕ → Result Message Refusal → ℕ
kind_answer g n o (Ok m) =
    check (in_sequence n m) 13
    (check (not (too_quick n m)) 21 (cond (is_update m && is_up n.phase) (body_answer (update_of 128 g.net o)) 0))
kind_answer g n o (Err refused) = number_of refused

-- 6 to 8, then 9 "AS is not this neighbour's", then the rest
unfoldable pub answer_to : Settings → ℕ → Neighbour → List ℕ → ℕ
answer_to g asn n o = if_ok (header_answer o) (check (eqb (asn_at o) asn) 9 (kind_answer g n o (decode_of o))) (header_answer o)

-- 01: "the first 12 octets, zero-filled"
unfoldable pub first_twelve : List ℕ → Head
first_twelve o = record { first = word32 o 0; second = word32 o 4; third = word32 o 8 }

-- 01: "Error is sent only in Down and Up, never to a message of type 8."
unfoldable pub error_reply : Settings → Neighbour → List ℕ → ℕ → Reply
error_reply g n o reason =
    cond (acquired n.phase && not (eqb (get_or o 1 0) 8)) (One (error_message g n reason (first_twelve o))) Nothing

-- 01: "Refuse status 4, only in Idle and only to a Request of 14 octets with status 0 to 2"
unfoldable pub refuse_reply : Settings → Neighbour → List ℕ → Reply
refuse_reply g n o =
    cond (is_idle n.phase && eqb (get_or o 1 0) 3 && eqb (get_or o 2 0) 0 && plain_status (status_at o) && eqb (length o) 14)
    (One (refuse_message g (sequence_at o) 4)) Nothing

-- 01's column "Reply", by the number; 02: "21, .. reply Error 4"
unfoldable pub refusal_reply : Settings → Neighbour → List ℕ → ℕ → Reply
refusal_reply g n o answer =
    cond (eqb answer 9) (refuse_reply g n o)
    (cond (leb 10 answer && leb answer 12) (error_reply g n o 1)
    (cond (eqb answer 14) (error_reply g n o 2)
    (cond (eqb answer 15) (error_reply g n o 0)
    (cond (eqb answer 21) (error_reply g n o 4)
    Nothing))))

-- the machine's step for a message that passed; 10 to 12 have refused the others
unfoldable pub after_message : Settings → ℕ → Neighbour → List ℕ → Result Message Refusal → After
after_message g asn n o (Ok m) = step_of g asn n (Received m) (first_twelve o)
after_message g asn n o (Err refused) = unanswered n

-- 01: "An Update that finds its slot Up and fails no check is accepted: its rows replace the slot's."
unfoldable pub rows_after : Settings → Neighbour → List ℕ → Result Message Refusal → List Row → List Row
rows_after g n o (Ok m) rows = cond (is_update m && is_up n.phase) (rows_read (update_of 128 g.net o)) rows
rows_after g n o (Err refused) rows = rows

-- a refusal keeps the slot
abbrev pub refused_move : Settings → List ℕ → Peer → ℕ → Move
refused_move g o p answer = record { answer = answer; reply = refusal_reply g p.neighbour o answer; slot = used p }

unfoldable pub message_move : Settings → List ℕ → Slot → Move
message_move g o free = no_move
message_move g o (used p) =
    if_ok (answer_to g p.asn p.neighbour o)
    (moved p (after_message g p.asn p.neighbour o (decode_of o)) (rows_after g p.neighbour o (decode_of o) p.rows) p.seconds)
    (refused_move g o p (answer_to g p.asn p.neighbour o))

-- ---- the calls about one neighbour

-- 02: "22, a tick when the sum is 4,294,967,295"
unfoldable pub is_late : Intrinsic → Slot → Bool
is_late event free = false
is_late Start (used p) = false
is_late Stop (used p) = false
is_late Tick (used p) = clock_full p.seconds

-- 01: "Reply buffer at least 2,048 octets": 3, then 5; 02: 22 "after 5"
unfoldable pub event_answer : Intrinsic → Model → ℕ → List ℕ → ℕ
event_answer event m a buffer =
    check (leb 2048 (length buffer)) 3 (check (is_present m a) 5 (check (not (is_late event (slot_in m (found_at m a)))) 22 0))

-- 3, 4 "bad home list", 5
unfoldable pub message_answer : Model → ℕ → List ℕ → List ℕ → ℕ
message_answer m a home buffer = check (leb 2048 (length buffer)) 3 (check (good_home m.settings home) 4 (check (is_present m a) 5 0))

-- once these passed, the move of the neighbour at this place; else nothing
unfoldable pub turn_at : Model → ℕ → ℕ → Move → List Row → Turn
turn_at m answer place move home =
    record {
      said = if_ok answer (spoken move.answer move.reply home) (silent answer);
      model = if_ok answer (put m place move.slot) m;
    }

unfoldable pub event_turn : Intrinsic → Model → ℕ → List ℕ → Turn
event_turn event m a buffer =
    turn_at m (event_answer event m a buffer) (found_at m a) (event_move m.settings event (slot_in m (found_at m a))) []

unfoldable pub message_turn : Model → ℕ → List ℕ → List ℕ → List ℕ → Turn
message_turn m a o home buffer =
    turn_at m (message_answer m a home buffer) (found_at m a) (message_move m.settings o (slot_in m (found_at m a))) (rows_of home)

-- ---- the listing

-- 01: "used slots in order", each with its own index; these are the slots from index i on
unfoldable pub listed_from : ℕ → List Slot → List Entry
listed_from i [] = []
listed_from i (free ∷ rest) = listed_from (suc i) rest
listed_from i (used p ∷ rest) = entry_for i p.address p.asn p.neighbour p.rows p.seconds ∷ listed_from (suc i) rest

-- of all eight
unfoldable pub listed : Model → List Entry
listed m = listed_from 0 m.slots

-- 01: "listing buffer at least 65,536": 3 alone, for "1 and 2 never fail here"
unfoldable pub listing_answer : List ℕ → ℕ
listing_answer buffer = check (leb 65536 (length buffer)) 3 0

-- carried out, the text is the first of the two lengths
unfoldable pub listing_said : Model → Said
listing_said m = record { answer = 0; first = listing_text (listed m); second = [] }

-- 01: "refused calls and listings change nothing"
unfoldable pub listing_turn : Model → List ℕ → Turn
listing_turn m buffer = record { said = if_ok (listing_answer buffer) (listing_said m) (silent (listing_answer buffer)); model = m }

-- ---- lists of calls

unfoldable pub step : Call → Model → Turn
step (add address asn) m = add_turn m address asn
step (remove address) m = remove_turn m address
step (happen event a buffer) m = event_turn event m a buffer
step (receive a o home buffer) m = message_turn m a o home buffer
step (listing buffer) m = listing_turn m buffer

unfoldable pub model_from : Model → List Call → Model
model_from m [] = m
model_from m (call ∷ rest) = model_from (step call m).model rest

-- what each call of the list is answered
unfoldable pub said_from : Model → List Call → List Said
said_from m [] = []
said_from m (call ∷ rest) = (step call m).said ∷ said_from (step call m).model rest

-- 01: "fed only the arguments of fresh and the calls"
unfoldable pub model : Settings → List Call → Model
model g calls = model_from (empty g) calls
