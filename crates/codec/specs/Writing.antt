-- Writing a message of any kind. 01: "writing makes 3, then 16".
use Rattle.std.specs.Result.{result_unwrap_or}
use Rattle.std.specs.Prelude.{ℕ, Bool, cond, ◌&&◌, List, [], leb, eqb, length, Result, Ok}
use Rattle.checks.specs.Checks.{if_ok}
use Rattle.checks.specs.Refusals.{answer_of, checked}
use Rattle.checks.specs.declared.Refusal.{Refusal}
use Rattle.checks.specs.declared.Refusal.TheVariants.{ShortBuffer, BadArgument}
use Rattle.nets.specs.Rows.{rows_of}
use Rattle.message.specs.Kinds.{type_of, kind_of, status_of, status_allowed}
use Rattle.message.specs.declared.Kind.TheVariants as K
use Rattle.message.specs.declared.Message.{Message}
use Rattle.codec_writing.specs.Octets.{message_octets}
use Rattle.codec_writing.specs.Room.{rows_fit}

-- rows stand beside an Update alone
abbrev pub has_rows : Message → Bool
has_rows m = eqb (type_of (kind_of m)) (type_of K.Update)

-- the rows that may stand beside a message, as numbers, three a row: those that an Update can be written with, and
-- none beside any other kind
unfoldable pub rows_allowed : Message → List ℕ → Bool
rows_allowed m numbers = cond (has_rows m) (rows_fit m numbers) (eqb (length numbers) 0)

-- 01: "The writer refuses 16 for a field the reader would refuse or never gives"
unfoldable pub writable : Message → List ℕ → Bool
writable m numbers = status_allowed (kind_of m) (status_of m) && rows_allowed m numbers

-- 01: 3 "buffer too short", then 16 "writer: bad meaning"; else how many octets are written
unfoldable pub write_of : Message → List ℕ → List ℕ → Result ℕ Refusal
write_of m numbers buffer =
    checked (leb 2048 (length buffer)) ShortBuffer (checked (writable m numbers) BadArgument (Ok (length (message_octets m (rows_of numbers)))))

-- 01's answer, and the length that is reported, 0 where it refuses
unfoldable pub write_answer : Message → List ℕ → List ℕ → ℕ
write_answer m numbers buffer = answer_of (write_of m numbers buffer)

unfoldable pub write_length : Message → List ℕ → List ℕ → ℕ
write_length m numbers buffer = result_unwrap_or (write_of m numbers buffer) 0

-- the octets that the call writes: none where it refuses
unfoldable pub write_octets : Message → List ℕ → List ℕ → List ℕ
write_octets m numbers buffer = if_ok (write_answer m numbers buffer) (message_octets m (rows_of numbers)) []
