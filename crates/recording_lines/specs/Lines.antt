-- The lines of a recording. 02: "key=value lines in a fixed order: ownas, own, cap, net, then events"; `quiet` may stand
-- before these.
use Rattle.std.specs.Prelude.{ℕ, suc, cond, ◌&&◌, List, leb, ltb, eqb, length, take, drop, Option, None}
use Rattle.text.specs.Text.{text}
use Rattle.text_values.specs.Places.{index_of, starts_with}
use Rattle.text_values.specs.Numbers.{when_number, decimal_of, dotted_of}
use Rattle.text_values.specs.Hex.{is_hex, hex_octets}

-- what is read behind a key, if the line begins with it
unfoldable pub behind : {A : Type 0} → List ℕ → (List ℕ → A) → A → List ℕ → A
behind key read other line = cond (starts_with key line) (read (drop (length key) line)) other

-- ---- the first four lines

-- "AS to 65,535"
unfoldable pub own_as_of : List ℕ → Option ℕ
own_as_of line = behind (text "ownas=") (decimal_of 65535) None line

unfoldable pub own_of : List ℕ → Option ℕ
own_of line = behind (text "own=") dotted_of None line

-- "`cap` to 255"
unfoldable pub capability_of : List ℕ → Option ℕ
capability_of line = behind (text "cap=") (decimal_of 255) None line

unfoldable pub net_of : List ℕ → Option ℕ
net_of line = behind (text "net=") dotted_of None line

-- ---- the fifth, if it is one

-- "`quiet=1`, a line right after `net` ..; `quiet=0` may stand there too, any other `quiet` line is a bad event line"
unfoldable pub quiet_of : List ℕ → Option ℕ
quiet_of line = behind (text "quiet=") (decimal_of 1) None line

-- ---- the events

-- what a line says: nothing that a recording may hold, or one of six kinds of event
pub data Event : Type 0 where
  bad : Event
  add : ℕ → ℕ → Event
  remove : ℕ → Event
  start : ℕ → Event
  stop : ℕ → Event
  tick : ℕ → ℕ → Event
  rx : ℕ → List ℕ → Event

-- "(address)"
unfoldable pub alone : (ℕ → Event) → List ℕ → Event
alone event value = when_number (dotted_of value) bad event

-- "(address, slash, ..)"
unfoldable pub slashed : (ℕ → List ℕ → Event) → List ℕ → Event
slashed event value =
    cond (ltb (index_of 47 value) (length value))
    (when_number (dotted_of (take (index_of 47 value) value)) bad (λ a. event a (drop (suc (index_of 47 value)) value)))
    bad

-- "(address, slash, AS)"
unfoldable pub add_event : ℕ → List ℕ → Event
add_event a value = when_number (decimal_of 65535 value) bad (λ asn. add a asn)

-- "(address, slash, count 1 to 86,400)"
unfoldable pub tick_event : ℕ → List ℕ → Event
tick_event a value = when_number (decimal_of 86400 value) bad (λ count. cond (eqb count 0) bad (tick a count))

-- "(address, slash, hex octets)", "at most 2,049 octets": two digits each
unfoldable pub rx_event : ℕ → List ℕ → Event
rx_event a value = cond (leb (length value) 4098 && is_hex value) (rx a (hex_octets value)) bad

-- one line, without the octet 10 that ends it
unfoldable pub event_of : List ℕ → Event
event_of line =
    behind (text "add=") (slashed add_event)
    (behind (text "remove=") (alone remove)
    (behind (text "start=") (alone start)
    (behind (text "stop=") (alone stop)
    (behind (text "tick=") (slashed tick_event)
    (behind (text "rx=") (slashed rx_event) bad line) line) line) line) line) line
