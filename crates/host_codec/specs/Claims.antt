-- What holds of reading and writing for a C host. The proofs are in proofs/Claims.antt.
use Rattle.std.specs.Prelude.{ℕ, ◌+◌, ◌*◌, ◌≤◌, ◌≡◌, ◌↔◌, true, List, ◌++◌, length, take, drop}
use Rattle.octets.specs.Numbers.{Octets}
use Rattle.octets.specs.Buffer.{over}
use Rattle.message.specs.declared.Message.{Message}
use Rattle.codec.specs.Reading.{read_of}
use Rattle.codec_theorem.specs.Widths.{InWidths}
use Rattle.codec_theorem.specs.Exchange.{Common, ComesBack}
use Rattle.host_result.specs.Packed.{packed}
use Rattle.host_meaning.specs.Meaning.{meaning_at, meaning_octets}
use Rattle.host_codec.specs.Codec.{meaning_size, read_size, reading_number, reading_buffer, reading_result, is_meaning, writing_number, writing_octets, writing_buffer}

-- a meaning's octets are read as that meaning; they are octets that writing takes for a meaning, and no others are
pub record MeaningBack : Type 0 where
  pub back : (m : Message) → InWidths m → meaning_at (meaning_octets m) ≡ m
  pub is : (m : Message) → InWidths m → is_meaning (meaning_octets m) ≡ true
  pub only : (octets : List ℕ) → is_meaning octets ≡ true → (meaning_octets (meaning_at octets) ≡ octets) × (length octets ≡ meaning_size)

-- how many octets a good reading reports, its two lengths together
abbrev pub read_length : ℕ → List ℕ → ℕ
read_length net message = meaning_size + (read_of net message).count * 12

-- 01: "none writes past the lengths it reports"
pub record Within : Type 0 where
  -- a refused call, lengths 0 and 0, leaves every octet as it was
  pub read_refused : (net : ℕ) (message buffer : List ℕ) → (reading_number net message buffer ≡ 0 → ⊥) → reading_buffer net message buffer ≡ buffer
  pub write_refused : (meaning rows buffer : List ℕ) → (writing_number meaning rows buffer ≡ 0 → ⊥) → writing_buffer meaning rows buffer ≡ buffer
  -- what lies behind those lengths is as it was
  pub read : (net : ℕ) (message buffer : List ℕ) → drop (read_length net message) (reading_buffer net message buffer) ≡ drop (read_length net message) buffer
  pub write : (meaning rows buffer : List ℕ) → drop (length (writing_octets meaning rows)) (writing_buffer meaning rows buffer) ≡ drop (length (writing_octets meaning rows)) buffer

-- what a call hands over, by the lengths that it reports: writing a message, reading a meaning and its rows
abbrev pub handed_message : List ℕ → List ℕ → List ℕ → List ℕ
handed_message meaning rows buffer = take (length (writing_octets meaning rows)) (writing_buffer meaning rows buffer)

abbrev pub handed_meaning : ℕ → List ℕ → List ℕ → List ℕ
handed_meaning net message buffer = take meaning_size (reading_buffer net message buffer)

abbrev pub handed_rows : ℕ → List ℕ → List ℕ → List ℕ
handed_rows net message buffer = take ((read_of net message).count * 12) (drop meaning_size (reading_buffer net message buffer))

-- 02: "Demand 1 holds through this layer": the calls undo each other, octets for octets, whatever buffers were lent
pub record CallsUndoEachOther : Type 0 where
  -- what `write` wrote, `read` gives back: the octets of the meaning, and of the rows
  pub written : (net : ℕ) (meaning rows buffer room : List ℕ) → Octets meaning → Octets rows → Common net (meaning_at meaning)
      → writing_number meaning rows buffer ≡ 0 → read_size ≤ length room
      → (reading_result net (handed_message meaning rows buffer) room ≡ packed 0 meaning_size (length rows))
      × (reading_buffer net (handed_message meaning rows buffer) room ≡ over (meaning ++ rows) room)
  -- what `read` gave, `write` takes
  pub taken : (net : ℕ) (message room buffer : List ℕ) → Octets message → reading_number net message room ≡ 0 → 2048 ≤ length buffer
      → writing_number (handed_meaning net message room) (handed_rows net message room) buffer ≡ 0
  -- and writes the octets that were read, exactly where they come back
  pub read : (net : ℕ) (message room buffer : List ℕ) → Octets message → reading_number net message room ≡ 0 → 2048 ≤ length buffer
      → (handed_message (handed_meaning net message room) (handed_rows net message room) buffer ≡ message)
      ↔ ComesBack net message (meaning_at (handed_meaning net message room))
