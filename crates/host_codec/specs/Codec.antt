-- Reading alone and writing for a C host. 02: "functions take numbers and octets only". A meaning is 24 octets, as in
-- host_meaning, and its rows 12 octets each.
use Rattle.std.specs.Prelude.{ℕ, ◌*◌, Bool, true, false, ◌&&◌, List, [], ◌∷◌, ◌++◌, eqb, leb, length, take, Result, Ok, Err}
use Rattle.checks.specs.Checks.{check, if_ok}
use Rattle.checks.specs.Refusals.{answer_of}
use Rattle.checks.specs.declared.Refusal.{Refusal}
use Rattle.octets.specs.Buffer.{over}
use Rattle.octets_words.specs.Words.{word_octets, row_numbers}
use Rattle.nets.specs.Rows.{rows_of}
use Rattle.message.specs.declared.Message.{Message}
use Rattle.codec_writing.specs.Octets.{message_octets}
use Rattle.codec.specs.Reading.{read_of}
use Rattle.codec.specs.Writing.{writable}
use Rattle.codec.specs.declared.Reading.{Reading}
use Rattle.host_result.specs.Packed.{packed, bare}
use Rattle.host_meaning.specs.Meaning.{meaning_at, meaning_octets}

-- ---- reading alone

-- the octets of a meaning
abbrev pub meaning_size : ℕ
meaning_size = 24

-- the buffer that reading alone is lent: a meaning, and 128 rows of 12 octets
abbrev pub read_size : ℕ
read_size = 1560

-- 01: 3 "buffer too short", before 6; then reading alone's own number
unfoldable pub reading_number : ℕ → List ℕ → List ℕ → ℕ
reading_number net message buffer = check (leb read_size (length buffer)) 3 (answer_of (read_of net message).meaning)

-- a meaning and the numbers of its rows behind it; of a refused message nothing
unfoldable pub found_octets : Result Message Refusal → List ℕ → List ℕ
found_octets (Ok m) numbers = meaning_octets m ++ word_octets numbers
found_octets (Err refused) numbers = []

-- what is written at the front of the buffer: just as many rows as the message has, three numbers a row
unfoldable pub reading_octets : Reading → List ℕ
reading_octets reading = found_octets reading.meaning (take (reading.count * 3) reading.rows)

-- 01: "none writes past the lengths it reports"; a refused call writes nothing
unfoldable pub reading_buffer : ℕ → List ℕ → List ℕ → List ℕ
reading_buffer net message buffer = if_ok (reading_number net message buffer) (over (reading_octets (read_of net message)) buffer) buffer

-- 02: "from the top: 0, second length, first length, answer": the first length is the meaning's, the second the rows'
unfoldable pub reading_result : ℕ → List ℕ → List ℕ → ℕ
reading_result net message buffer =
    if_ok (reading_number net message buffer) (packed 0 meaning_size ((read_of net message).count * 12)) (bare (reading_number net message buffer))

-- ---- writing

-- the same octets in the same order, and as many
unfoldable pub same_octets : List ℕ → List ℕ → Bool
same_octets [] [] = true
same_octets [] (y ∷ ys) = false
same_octets (x ∷ xs) [] = false
same_octets (x ∷ xs) (y ∷ ys) = eqb x y && same_octets xs ys

-- a meaning that reading can give: its octets are those of the meaning that they are read as, so they are 24, of one of
-- the ten kinds, and 0 where that kind has no field
unfoldable pub is_meaning : List ℕ → Bool
is_meaning octets = same_octets octets (meaning_octets (meaning_at octets))

-- 01: "writing makes 3, then 16"
unfoldable pub writing_number : List ℕ → List ℕ → List ℕ → ℕ
writing_number meaning rows buffer =
    check (leb 2048 (length buffer)) 3 (check (is_meaning meaning && writable (meaning_at meaning) (row_numbers rows)) 16 0)

-- the message that is written
unfoldable pub writing_octets : List ℕ → List ℕ → List ℕ
writing_octets meaning rows = message_octets (meaning_at meaning) (rows_of (row_numbers rows))

-- a refused call writes nothing
unfoldable pub writing_buffer : List ℕ → List ℕ → List ℕ → List ℕ
writing_buffer meaning rows buffer = if_ok (writing_number meaning rows buffer) (over (writing_octets meaning rows) buffer) buffer

-- the first length is the message's
unfoldable pub writing_result : List ℕ → List ℕ → List ℕ → ℕ
writing_result meaning rows buffer =
    if_ok (writing_number meaning rows buffer) (packed 0 (length (writing_octets meaning rows)) 0) (bare (writing_number meaning rows buffer))
