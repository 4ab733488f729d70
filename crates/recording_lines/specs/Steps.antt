-- What the parts of the reader promise.
use Rattle.std.specs.Prelude.{Bool, true, ◌&&◌, leb, length, Option, Some, None}
use Rattle.text_values.specs.Hex.{is_hex}
use Rattle.recording_lines.specs.declared.LineEvent.{LineEvent}
use Rattle.recording_lines.specs.declared.LineEvent.TheVariants as R

-- the message of an event is lent as hex of at most 2,049 octets
abbrev pub has_hex : LineEvent → Bool
has_hex (R.Add a asn) = true
has_hex (R.Remove a) = true
has_hex (R.Start a) = true
has_hex (R.Stop a) = true
has_hex (R.Tick a count) = true
has_hex (R.Receive a digits) = leb (length digits.now) 4098 && is_hex digits.now

abbrev pub is_lent : Option LineEvent → Bool
is_lent None = true
is_lent (Some event) = has_hex event
