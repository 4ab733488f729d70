-- One text for each event, and one event for each good line. The proofs are in proofs/.
use Rattle.std.specs.Prelude.{ℕ, ◌≤◌, ◌≡◌, Bool, true, false, ◌&&◌, List, [], ◌++◌, leb, ltb, length, Option, Some}
use Rattle.checks.specs.Lists.{every}
use Rattle.text.specs.Text.{text, decimal, dotted}
use Rattle.text_values.specs.Hex.{hex_text}
use Rattle.recording_lines.specs.Lines.{Event, bad, add, remove, start, stop, tick, rx, event_of, own_as_of, own_of, capability_of, net_of, quiet_of}

-- the line that says an event
unfoldable pub event_text : Event → List ℕ
event_text bad = []
event_text (add a asn) = text "add=" ++ (dotted a ++ (text "/" ++ decimal asn))
event_text (remove a) = text "remove=" ++ dotted a
event_text (start a) = text "start=" ++ dotted a
event_text (stop a) = text "stop=" ++ dotted a
event_text (tick a count) = text "tick=" ++ (dotted a ++ (text "/" ++ decimal count))
event_text (rx a octets) = text "rx=" ++ (dotted a ++ (text "/" ++ hex_text octets))

abbrev pub is_address : ℕ → Bool
is_address a = ltb a 4294967296

-- the events that a recording may hold
unfoldable pub in_range : Event → Bool
in_range bad = false
in_range (add a asn) = is_address a && leb asn 65535
in_range (remove a) = is_address a
in_range (start a) = is_address a
in_range (stop a) = is_address a
in_range (tick a count) = is_address a && (leb 1 count && leb count 86400)
in_range (rx a octets) = is_address a && (leb (length octets) 2049 && every (λ o. ltb o 256) octets)

unfoldable pub is_good : Event → Bool
is_good bad = false
is_good (add a asn) = true
is_good (remove a) = true
is_good (start a) = true
is_good (stop a) = true
is_good (tick a count) = true
is_good (rx a octets) = true

-- what is written reads back the same, and a line is good only as the text of the event that it says
pub record Events : Type 0 where
  pub back : (e : Event) → in_range e ≡ true → event_of (event_text e) ≡ e
  pub only : (line : List ℕ) → is_good (event_of line) ≡ true → line ≡ event_text (event_of line)
  pub range : (line : List ℕ) → is_good (event_of line) ≡ true → in_range (event_of line) ≡ true
  -- 4,117 octets: three of the key, fifteen of the address, a slash, and two of each of 2,049
  pub longest : (line : List ℕ) → is_good (event_of line) ≡ true → length line ≤ 4117

-- the same of the lines before the events
pub record Setting (read : List ℕ → Option ℕ) (key : List ℕ) (value : ℕ → List ℕ) (most : ℕ) : Type 0 where
  pub back : (n : ℕ) → n ≤ most → read (key ++ value n) ≡ Some n
  pub only : (n : ℕ) (line : List ℕ) → read line ≡ Some n → line ≡ key ++ value n
  pub range : (n : ℕ) (line : List ℕ) → read line ≡ Some n → n ≤ most
  pub longest : (n : ℕ) (line : List ℕ) → read line ≡ Some n → length line ≤ 4117

pub record SettingLines : Type 0 where
  pub own_as : Setting own_as_of (text "ownas=") decimal 65535
  pub own : Setting own_of (text "own=") dotted 4294967295
  pub capability : Setting capability_of (text "cap=") decimal 255
  pub net : Setting net_of (text "net=") dotted 4294967295
  pub quiet : Setting quiet_of (text "quiet=") decimal 1

-- such a line says no event: in any other place it is a bad one
abbrev pub QuietNoEvent : Type 0
QuietNoEvent = (n : ℕ) (line : List ℕ) → quiet_of line ≡ Some n → event_of line ≡ bad
