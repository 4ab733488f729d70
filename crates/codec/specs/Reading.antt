-- Reading alone. 01: "Reading alone, given the common net, makes 6 to 8, 10 to 12, 14 and 15 as if in Up, without reply (14 for any Update if that net is bad)".
use Rattle.std.specs.Result.{result_and}
use Rattle.std.specs.Prelude.{ℕ, ◌≡◌, List, length, Result, Ok, Err}
use Rattle.checks.specs.Refusals.{answer_of}
use Rattle.checks.specs.declared.Refusal.{Refusal}
use Rattle.checks.specs.declared.Refusal.TheVariants.{BrokenBlocks, TooManyRows}
use Rattle.nets.specs.Rows.{flat}
use Rattle.message.specs.declared.Message.{Message}
use Rattle.message.specs.declared.Message.TheVariants.{Request, Confirm, Refuse, Cease, CeaseAck, Hello, IHeardYou, Poll, Update, Error}
use Rattle.message_reading.specs.Reading.{header_of, decode_of}
use Rattle.update_walk.specs.Body.{UpdateRead, accepted, broken_at, too_many, update_of, update_number}
use Rattle.update_rows.specs.Storing.{zeros, padded}
use Rattle.codec.specs.declared.Reading.{Reading}

-- the rows that reading alone hands back at most: as many as a slot has, three numbers a row
abbrev pub most_read : ℕ
most_read = 128

abbrev pub most_read_numbers : ℕ
most_read_numbers = 384

-- a refusal hands back no row
unfoldable pub refusal : Refusal → Reading
refusal refused = record { meaning = Err refused; count = 0; rows = zeros most_read_numbers }

-- a message of a kind that has no rows
unfoldable pub rowless : Message → Reading
rowless m = record { meaning = Ok m; count = 0; rows = zeros most_read_numbers }

-- an Update: exactly its rows, then zeros
unfoldable pub update_reading : Message → UpdateRead → Reading
update_reading m (accepted rs) = record { meaning = Ok m; count = length rs; rows = padded most_read_numbers (flat rs) }
update_reading m (broken_at offset) = refusal BrokenBlocks
update_reading m too_many = refusal TooManyRows

-- what a message says, with its rows
unfoldable pub meaning_reading : ℕ → List ℕ → Message → Reading
meaning_reading net o (Request a q s hello poll) = rowless (Request a q s hello poll)
meaning_reading net o (Confirm a q s hello poll) = rowless (Confirm a q s hello poll)
meaning_reading net o (Refuse a q s) = rowless (Refuse a q s)
meaning_reading net o (Cease a q s) = rowless (Cease a q s)
meaning_reading net o (CeaseAck a q s) = rowless (CeaseAck a q s)
meaning_reading net o (Hello a q s) = rowless (Hello a q s)
meaning_reading net o (IHeardYou a q s) = rowless (IHeardYou a q s)
meaning_reading net o (Poll a q s n) = rowless (Poll a q s n)
meaning_reading net o (Update a q s n) = update_reading (Update a q s n) (update_of most_read net o)
meaning_reading net o (Error a q s reason x y z) = rowless (Error a q s reason x y z)

-- 6 to 8, then 10 to 12
unfoldable pub meaning_read : List ℕ → Result Message Refusal
meaning_read o = result_and (header_of o) (decode_of o)

-- then 14 and 15
unfoldable pub reading_after : ℕ → List ℕ → Result Message Refusal → Reading
reading_after net o (Ok m) = meaning_reading net o m
reading_after net o (Err refused) = refusal refused

unfoldable pub read_of : ℕ → List ℕ → Reading
read_of net o = reading_after net o (meaning_read o)

-- what reading an Update answers is the number of what the walk found, `walked_number`: 14, 15, and 0 where it is accepted
pub record UpdateNumber : Type 0 where
  pub update : (m : Message) (found : UpdateRead) → answer_of (update_reading m found).meaning ≡ update_number found
  pub read : (net : ℕ) (o : List ℕ) (a q s n : ℕ) → meaning_read o ≡ Ok (Update a q s n)
      → answer_of (read_of net o).meaning ≡ update_number (update_of most_read net o)
