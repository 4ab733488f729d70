-- The machine sheet, computed. Assumes nothing.
use mathlib.Core.Path.{◌≡◌, refl}
use mathlib.Core.List.{List, map}
use Rattle.neighbour_machine.specs.Sheet.{Line, computed, written, acceptable_row, unacceptable_row, confirm_row, refuse_row, cease_row, cease_ack_row, hello_row, poll_row, update_row, start_row, stop_row, i_heard_you_received, strays, error_received, intervals, modes, indications, tick_idle, tick_t3, tick_retry, tick_listening, registers, tick_poll, tick_s, tick_counts, sheet, MachineSheet}
use Rattle.neighbour_machine.proofs.Unfolded.{opened}

-- what a part of the sheet says
abbrev Comes : List Line → Type 0
Comes part = map computed part ≡ map written part

-- part by part, so that a line that fails is looked for in its part

acceptable_row_ok : Comes acceptable_row
unfolding opened
acceptable_row_ok = refl

unacceptable_row_ok : Comes unacceptable_row
unfolding opened
unacceptable_row_ok = refl

confirm_row_ok : Comes confirm_row
unfolding opened
confirm_row_ok = refl

refuse_row_ok : Comes refuse_row
unfolding opened
refuse_row_ok = refl

cease_row_ok : Comes cease_row
unfolding opened
cease_row_ok = refl

cease_ack_row_ok : Comes cease_ack_row
unfolding opened
cease_ack_row_ok = refl

hello_row_ok : Comes hello_row
unfolding opened
hello_row_ok = refl

poll_row_ok : Comes poll_row
unfolding opened
poll_row_ok = refl

update_row_ok : Comes update_row
unfolding opened
update_row_ok = refl

start_row_ok : Comes start_row
unfolding opened
start_row_ok = refl

stop_row_ok : Comes stop_row
unfolding opened
stop_row_ok = refl

i_heard_you_received_ok : Comes i_heard_you_received
unfolding opened
i_heard_you_received_ok = refl

strays_ok : Comes strays
unfolding opened
strays_ok = refl

error_received_ok : Comes error_received
unfolding opened
error_received_ok = refl

intervals_ok : Comes intervals
unfolding opened
intervals_ok = refl

modes_ok : Comes modes
unfolding opened
modes_ok = refl

indications_ok : Comes indications
unfolding opened
indications_ok = refl

tick_idle_ok : Comes tick_idle
unfolding opened
tick_idle_ok = refl

tick_t3_ok : Comes tick_t3
unfolding opened
tick_t3_ok = refl

tick_retry_ok : Comes tick_retry
unfolding opened
tick_retry_ok = refl

tick_listening_ok : Comes tick_listening
unfolding opened
tick_listening_ok = refl

registers_ok : Comes registers
unfolding opened
registers_ok = refl

tick_poll_ok : Comes tick_poll
unfolding opened
tick_poll_ok = refl

tick_s_ok : Comes tick_s
unfolding opened
tick_s_ok = refl

tick_counts_ok : Comes tick_counts
unfolding opened
tick_counts_ok = refl

pub machine_sheet : MachineSheet
unfolding sheet
machine_sheet = rw (acceptable_row_ok, unacceptable_row_ok, confirm_row_ok, refuse_row_ok, cease_row_ok, cease_ack_row_ok, hello_row_ok, poll_row_ok, update_row_ok, start_row_ok, stop_row_ok, i_heard_you_received_ok, strays_ok, error_received_ok, intervals_ok, modes_ok, indications_ok, tick_idle_ok, tick_t3_ok, tick_retry_ok, tick_listening_ok, registers_ok, tick_poll_ok, tick_s_ok, tick_counts_ok)
