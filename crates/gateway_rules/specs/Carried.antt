-- What a call leaves once a ruling on one neighbour is carried out: the outcome, the table, the buffer.
use Rattle.std.specs.Prelude.{ℕ, List, [], ◌++◌, length}
use Rattle.octets.specs.Buffer.{over}
use Rattle.nets.specs.Rows.{Row}
use Rattle.codec_writing.specs.Octets.{message_octets}
use Rattle.neighbour_machine.specs.declared.Reply.{Reply}
use Rattle.neighbour_machine.specs.declared.Reply.TheVariants.{Nothing, One, Two}
use Rattle.gateway_state.specs.declared.Slot.{Slot}
use Rattle.gateway_state.specs.declared.State.{State}
use Rattle.gateway_state.specs.declared.Outcome.{Outcome}
use Rattle.gateway_state.specs.Slots.{with_slot}
use Rattle.gateway_state.specs.Places.{row_counts, write_rows}
use Rattle.gateway_rules.specs.Ruling.{Change, keep, clear, replace, Ruling}

-- 01: "A reply is at most two messages, the second written straight after the first; two lengths are reported." An Update carries the home list.
unfoldable pub first_octets : Reply → List Row → List ℕ
first_octets Nothing home = []
first_octets (One m) home = message_octets m home
first_octets (Two m next) home = message_octets m home

unfoldable pub second_octets : Reply → List Row → List ℕ
second_octets Nothing home = []
second_octets (One m) home = []
second_octets (Two m next) home = message_octets next home

unfoldable pub reply_octets : Reply → List Row → List ℕ
reply_octets reply home = first_octets reply home ++ second_octets reply home

-- 01: "replacing rows writes the slot's 128 rows, the rest zero"; leaving Up zeroes them
unfoldable pub table_after : List ℕ → List ℕ → ℕ → Change → List ℕ
table_after table counts i keep = table
table_after table counts i clear = write_rows table counts i []
table_after table counts i (replace rows) = write_rows table counts i rows

-- the row count goes with them
unfoldable pub count_after : ℕ → Change → ℕ
count_after count keep = count
count_after count clear = 0
count_after count (replace rows) = length rows

-- 02: the seconds "survive Idle": no ruling touches them
unfoldable pub slot_after : Slot → Ruling → Slot
slot_after slot x =
    record {
      address = slot.address;
      asn = slot.asn;
      neighbour = x.neighbour;
      rows = count_after slot.rows x.change;
      seconds = slot.seconds;
    }

-- of this slot, which is slot i's but for a second that was booked
unfoldable pub outcome_after : State → ℕ → Slot → Ruling → List Row → Outcome
outcome_after st i slot x home =
    record {
      answer = x.answer;
      first = length (first_octets x.reply home);
      second = length (second_octets x.reply home);
      state = with_slot st i (slot_after slot x);
    }

-- 01: "Every refusal returns the state as given .. and reports lengths 0 and 0 unless a reply is named"
unfoldable pub refused_with : State → ℕ → Reply → List Row → Outcome
refused_with st answer reply home =
    record { answer = answer; first = length (first_octets reply home); second = length (second_octets reply home); state = st }

unfoldable pub buffer_after : List ℕ → Reply → List Row → List ℕ
buffer_after buffer reply home = over (reply_octets reply home) buffer
