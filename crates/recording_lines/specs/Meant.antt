-- What the reader's answer means: a message's octets are lent as hex.
use Rattle.std.specs.Prelude.{ℕ, List, Option, Some, None}
use denote.Ref.{Bor}
use Rattle.text_values.specs.Hex.{hex_octets}
use Rattle.recording_lines.specs.declared.LineEvent.{LineEvent}
use Rattle.recording_lines.specs.declared.LineEvent.TheVariants as R
use Rattle.recording_lines.specs.Lines.{Event, bad, add, remove, start, stop, tick, rx}

abbrev pub said : LineEvent → Event
said (R.Add a asn) = add a asn
said (R.Remove a) = remove a
said (R.Start a) = start a
said (R.Stop a) = stop a
said (R.Tick a count) = tick a count
said (R.Receive a digits) = rx a (hex_octets digits.now)

-- none where the line is bad
abbrev pub meant : Option LineEvent → Event
meant None = bad
meant (Some event) = said event

-- what is made of an address and what stands behind its slash
abbrev pub cut_into : Option (ℕ × Bor (List ℕ)) → (ℕ → List ℕ → Event) → Event
cut_into None event = bad
cut_into (Some parts) event = event parts.0 parts.1.now
