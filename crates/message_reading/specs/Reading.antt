-- Reading a message in stages: its header, then its kind. An Update's blocks are read elsewhere.
use Rattle.std.specs.Prelude.{ℕ, Bool, true, false, Option, Some, None, Result, Ok, Err, ◌&&◌, List, length, get_or, leb, eqb}
use Rattle.checks.specs.Refusals.{answer_of, checked}
use Rattle.checks.specs.declared.Refusal.{Refusal}
use Rattle.checks.specs.declared.Refusal.TheVariants.{BadSize, OtherVersion, WrongChecksum, UnknownKind, BadStatus, BadLength}
use Rattle.octets.specs.Numbers.{word16, word32}
use Rattle.octets_checksum.specs.Checksum.{checksum_of}
use Rattle.message.specs.Kinds.{kind_at, status_allowed, length_allowed}
use Rattle.message.specs.declared.Kind.{Kind}
use Rattle.message.specs.declared.Kind.TheVariants.{Request, Confirm, Refuse, Cease, CeaseAck, Hello, IHeardYou, Poll, Update, Error}
use Rattle.message.specs.declared.Message.{Message}
use Rattle.message.specs.declared.Message.TheVariants as M

-- 01: 6 "message below 10 or above 2,048 octets"
abbrev pub size_allowed : List ℕ → Bool
size_allowed o = leb 10 (length o) && leb (length o) 2048

-- 7 "version not 2"
abbrev pub version_is2 : List ℕ → Bool
version_is2 o = eqb (get_or o 0 0) 2

-- 8 "checksum field wrong"
abbrev pub checksum_holds : List ℕ → Bool
checksum_holds o = eqb (word16 o 4) (checksum_of o)

-- the header stage of reading
unfoldable pub header_of : List ℕ → Result (Unit {0}) Refusal
header_of o = checked (size_allowed o) BadSize (checked (version_is2 o) OtherVersion (checked (checksum_holds o) WrongChecksum (Ok tt)))

-- its number
unfoldable pub header_answer : List ℕ → ℕ
header_answer o = answer_of (header_of o)

-- 01: "Header: version 2, type, code, status, checksum (2), AS (2), sequence (2)"
abbrev pub status_at : List ℕ → ℕ
status_at o = get_or o 3 0

abbrev pub asn_at : List ℕ → ℕ
asn_at o = word16 o 6

abbrev pub sequence_at : List ℕ → ℕ
sequence_at o = word16 o 8

-- the kind that its type and code name, if they name one
abbrev pub kind_in : List ℕ → Option Kind
kind_in o = kind_at (get_or o 1 0) (get_or o 2 0)

-- 10 "unknown type and code pair"
unfoldable pub is_known : Option Kind → Bool
is_known None = false
is_known (Some kind) = true

-- 11 "status not allowed"
unfoldable pub status_fits : Option Kind → List ℕ → Bool
status_fits None o = false
status_fits (Some kind) o = status_allowed kind (status_at o)

-- 12 "length wrong for the type"
unfoldable pub length_fits : Option Kind → List ℕ → Bool
length_fits None o = false
length_fits (Some kind) o = length_allowed kind (length o)

-- what each kind carries behind the header. 01: "14: hello interval, poll interval"; "16: two reserved octets, net", "ignored"; at 12 the net; "24: reason, 12 octets"
unfoldable pub meaning_of : Kind → List ℕ → Message
meaning_of Request o = M.Request (asn_at o) (sequence_at o) (status_at o) (word16 o 10) (word16 o 12)
meaning_of Confirm o = M.Confirm (asn_at o) (sequence_at o) (status_at o) (word16 o 10) (word16 o 12)
meaning_of Refuse o = M.Refuse (asn_at o) (sequence_at o) (status_at o)
meaning_of Cease o = M.Cease (asn_at o) (sequence_at o) (status_at o)
meaning_of CeaseAck o = M.CeaseAck (asn_at o) (sequence_at o) (status_at o)
meaning_of Hello o = M.Hello (asn_at o) (sequence_at o) (status_at o)
meaning_of IHeardYou o = M.IHeardYou (asn_at o) (sequence_at o) (status_at o)
meaning_of Poll o = M.Poll (asn_at o) (sequence_at o) (status_at o) (word32 o 12)
meaning_of Update o = M.Update (asn_at o) (sequence_at o) (status_at o) (word32 o 12)
meaning_of Error o = M.Error (asn_at o) (sequence_at o) (status_at o) (word16 o 10) (word32 o 12) (word32 o 16) (word32 o 20)

-- 01: 10 "unknown type and code pair", then 11 "status not allowed", then 12 "length wrong for the type"
unfoldable pub decode_as : Option Kind → List ℕ → Result Message Refusal
decode_as None o = Err UnknownKind
decode_as (Some kind) o =
    checked (status_allowed kind (status_at o)) BadStatus (checked (length_allowed kind (length o)) BadLength (Ok (meaning_of kind o)))

-- the kind stage of reading
unfoldable pub decode_of : List ℕ → Result Message Refusal
decode_of o = decode_as (kind_in o) o
