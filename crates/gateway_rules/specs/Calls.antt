-- The calls about one neighbour: Start, Stop, tick and message. One definition each of the outcome, the table and the buffer.
use Rattle.std.specs.Prelude.{ℕ, Bool, cond, List, [], leb, eqb, length}
use Rattle.checks.specs.Checks.{check, if_ok}
use Rattle.nets.specs.Rows.{Row, rows_of}
use Rattle.neighbour_messages.specs.declared.Head.{Head}
use Rattle.neighbour_machine.specs.Intrinsics.{Intrinsic, as_event}
use Rattle.neighbour_machine.specs.Step.{step_of}
use Rattle.gateway_state.specs.declared.State.{State}
use Rattle.gateway_state.specs.declared.Outcome.{Outcome}
use Rattle.gateway_state.specs.Slots.{slot_at, slot_of, present}
use Rattle.gateway_state.specs.Places.{row_counts}
use Rattle.gateway_state.specs.Formed.{state_formed}
use Rattle.gateway_state.specs.Outcomes.{refused_of}
use Rattle.gateway_rules.specs.Home.{good_home}
use Rattle.gateway_rules.specs.Ruling.{Ruling, stepped, receive_ruling}
use Rattle.gateway_rules.specs.Seconds.{has_time, booked}
use Rattle.gateway_rules.specs.Carried.{outcome_after, table_after, buffer_after}

-- 01: "The lent table is exactly 3,072 32-bit numbers"; "Reply buffer at least 2,048 octets"
abbrev pub table_fits : List ℕ → Bool
table_fits table = eqb (length table) 3072

abbrev pub buffer_fits : List ℕ → Bool
buffer_fits buffer = leb 2048 (length buffer)

-- 1 "state not well formed", 2 the table, 3 the buffer: what every call that is lent both checks first, then the rest
unfoldable pub lent_checks : State → Bool → Bool → ℕ → ℕ
lent_checks st table buffer rest = check (state_formed st) 1 (check table 2 (check buffer 3 rest))

-- Start, Stop and tick make 1, 2, 3 and 5; 02: "22, a tick when the sum is 4,294,967,295, after 5"
unfoldable pub event_checks : Intrinsic → State → List ℕ → List ℕ → ℕ → ℕ
event_checks event st table buffer a =
    lent_checks st (table_fits table) (buffer_fits buffer)
    (check (present st a) 5 (check (has_time (as_event event) (slot_at st (slot_of st a)).seconds) 22 0))

-- a message makes 4 as well, and 6 to 15 once its neighbour is found
unfoldable pub message_checks : State → List ℕ → List ℕ → List ℕ → ℕ → ℕ
message_checks st table buffer home a =
    lent_checks st (table_fits table) (buffer_fits buffer) (check (good_home st.settings home) 4 (check (present st a) 5 0))

-- nothing was received with an event of the operator's or of the clock
unfoldable pub no_head : Head
no_head = record { first = 0; second = 0; third = 0 }

-- 15 "more than 128 rows": how many rows may be accepted from the neighbour in slot i, given the row counts of all
-- slots
unfoldable pub update_room : List ℕ → ℕ → ℕ
update_room counts i = 128

-- the ruling on the neighbour that has this address
unfoldable pub event_ruling : Intrinsic → State → ℕ → Ruling
event_ruling event st a =
    stepped (slot_at st (slot_of st a)).neighbour
    (step_of st.settings (slot_at st (slot_of st a)).asn (slot_at st (slot_of st a)).neighbour (as_event event) no_head)

unfoldable pub message_ruling : State → ℕ → List ℕ → Ruling
message_ruling st a o =
    receive_ruling (update_room (row_counts st) (slot_of st a)) st.settings (slot_at st (slot_of st a)).asn
    (slot_at st (slot_of st a)).neighbour o

-- Start, Stop, tick
unfoldable pub event_outcome : Intrinsic → State → List ℕ → List ℕ → ℕ → Outcome
event_outcome event st table buffer a =
    if_ok (event_checks event st table buffer a)
    (outcome_after st (slot_of st a) (booked (as_event event) (slot_at st (slot_of st a))) (event_ruling event st a) [])
    (refused_of st (event_checks event st table buffer a))

unfoldable pub event_table : Intrinsic → State → List ℕ → List ℕ → ℕ → List ℕ
event_table event st table buffer a =
    if_ok (event_checks event st table buffer a) (table_after table (row_counts st) (slot_of st a) (event_ruling event st a).change) table

unfoldable pub event_buffer : Intrinsic → State → List ℕ → List ℕ → ℕ → List ℕ
event_buffer event st table buffer a =
    if_ok (event_checks event st table buffer a) (buffer_after buffer (event_ruling event st a).reply []) buffer

-- message: the octets o from the neighbour at address a, with the home list as numbers
unfoldable pub message_outcome : State → List ℕ → List ℕ → List ℕ → ℕ → List ℕ → Outcome
message_outcome st table buffer home a o =
    if_ok (message_checks st table buffer home a)
    (outcome_after st (slot_of st a) (slot_at st (slot_of st a)) (message_ruling st a o) (rows_of home)) (refused_of st (message_checks st table buffer home a))

unfoldable pub message_table : State → List ℕ → List ℕ → List ℕ → ℕ → List ℕ → List ℕ
message_table st table buffer home a o =
    if_ok (message_checks st table buffer home a)
    (table_after table (row_counts st) (slot_of st a) (message_ruling st a o).change) table

unfoldable pub message_buffer : State → List ℕ → List ℕ → List ℕ → ℕ → List ℕ → List ℕ
message_buffer st table buffer home a o =
    if_ok (message_checks st table buffer home a) (buffer_after buffer (message_ruling st a o).reply (rows_of home)) buffer
