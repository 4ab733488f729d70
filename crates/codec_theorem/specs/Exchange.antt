-- Reading alone and writing undo each other: a message of any kind, an Update with its rows. The proofs are in proofs/Exchange.antt.
use Rattle.std.specs.Prelude.{ℕ, ◌≤◌, ◌≡◌, ◌↔◌, true, List, leb, length, take, drop, get_or, Ok}
use Rattle.checks.specs.Lists.{every}
use Rattle.octets.specs.Numbers.{Octets}
use Rattle.octets.specs.Buffer.{over}
use Rattle.nets.specs.Rows.{Row, flat, rows_of}
use Rattle.message.specs.declared.Message.{Message}
use Rattle.message.specs.declared.Message.TheVariants.{Request, Confirm, Refuse, Cease, CeaseAck, Hello, IHeardYou, Poll, Update, Error}
use Rattle.update_rows.specs.Storing.{padded}
use Rattle.update_writing.specs.Blocks.{side_rows, gateway_runs, distance_runs, internal_blocks, external_blocks}
use Rattle.update_theorem.specs.Canonical.{canonical}
use Rattle.codec_writing.specs.Octets.{message_octets}
use Rattle.codec.specs.Writing.{writable, write_answer, write_length, write_octets}
use Rattle.codec.specs.Reading.{read_of, most_read_numbers}
use Rattle.codec.specs.declared.Reading.{Reading}
use Rattle.codec_theorem.specs.Widths.{InWidths}

-- a good reading: this message, the number of its rows, and the rows' numbers with zeros after them
unfoldable pub handed_back : Message → ℕ → List ℕ → Reading
handed_back m count numbers = record { meaning = Ok m; count = count; rows = padded most_read_numbers numbers }

-- 01: reading alone is "given the common net": an Update's own; beside any other kind it does not matter
abbrev pub Common : ℕ → Message → Type 0
Common net (Request a q s hello poll) = Unit {0}
Common net (Confirm a q s hello poll) = Unit {0}
Common net (Refuse a q s) = Unit {0}
Common net (Cease a q s) = Unit {0}
Common net (CeaseAck a q s) = Unit {0}
Common net (Hello a q s) = Unit {0}
Common net (IHeardYou a q s) = Unit {0}
Common net (Poll a q s n) = Unit {0}
Common net (Update a q s own) = net ≡ own
Common net (Error a q s reason x y z) = Unit {0}

-- 01: "Otherwise reading gives back exactly the rows": a meaning that the writer takes reads back the same, with its rows
pub record MeaningsReadBack : Type 0 where
  pub same : (net : ℕ) (m : Message) (numbers : List ℕ) → InWidths m → writable m numbers ≡ true → Common net m
      → read_of net (message_octets m (rows_of numbers)) ≡ handed_back m (length (rows_of numbers)) numbers

-- these octets are read as this message with these rows
abbrev pub Reads : ℕ → List ℕ → Message → List Row → Type 0
Reads net o m rs = read_of net o ≡ handed_back m (length rs) (flat rs)

-- 01: "Octets come back only where the Update was so grouped with no empty group or block, and where a Poll's reserved octets are 0."
abbrev pub ComesBack : ℕ → List ℕ → Message → Type 0
ComesBack net o (Request a q s hello poll) = Unit {0}
ComesBack net o (Confirm a q s hello poll) = Unit {0}
ComesBack net o (Refuse a q s) = Unit {0}
ComesBack net o (Cease a q s) = Unit {0}
ComesBack net o (CeaseAck a q s) = Unit {0}
ComesBack net o (Hello a q s) = Unit {0}
ComesBack net o (IHeardYou a q s) = Unit {0}
ComesBack net o (Poll a q s n) = (get_or o 10 0 ≡ 0) × (get_or o 11 0 ≡ 0)
ComesBack net o (Update a q s own) = canonical net (get_or o 10 0) (get_or o 11 0) (drop 16 o) ≡ true
ComesBack net o (Error a q s reason x y z) = Unit {0}

pub record OctetsComeBack : Type 0 where
  -- every good reading is one of a message with rows
  pub rows : (net : ℕ) (o : List ℕ) (m : Message) → (read_of net o).meaning ≡ Ok m → (rs : List Row) × Reads net o m rs
  -- 01: the writer refuses what the reader "would refuse or never gives": not what it gave
  pub writes : (net : ℕ) (o : List ℕ) (m : Message) (rs : List Row) → Octets o → Reads net o m rs
      → InWidths m × Common net m × (writable m (flat rs) ≡ true)
  -- writing it gives the octets back exactly there
  pub back : (net : ℕ) (o : List ℕ) (m : Message) (rs : List Row) → Octets o → Reads net o m rs
      → (message_octets m rs ≡ o) ↔ ComesBack net o m

-- the octets that a call of `write` hands over: of the buffer that it leaves, as many as it answers
abbrev pub handed_over : Message → List ℕ → List ℕ → List ℕ
handed_over m numbers buffer = take (write_length m numbers buffer) (over (write_octets m numbers buffer) buffer)

-- The round trip through the public calls, in the words of their promises, whatever buffer was lent
pub record CallsUndoEachOther : Type 0 where
  -- what `write` answered with 0 and left in the buffer, `read` gives back: the message, how many rows, and the rows
  pub written : (net : ℕ) (m : Message) (numbers buffer : List ℕ) → InWidths m → Common net m → write_answer m numbers buffer ≡ 0
      → read_of net (handed_over m numbers buffer) ≡ handed_back m (length (rows_of numbers)) numbers
  -- what `read` gave, `write` takes into any buffer of 2,048 octets
  pub taken : (net : ℕ) (o : List ℕ) (m : Message) (rs : List Row) (buffer : List ℕ) → Octets o → Reads net o m rs
      → 2048 ≤ length buffer → write_answer m (flat rs) buffer ≡ 0
  -- and leaves the octets that were read, exactly where they come back
  pub read : (net : ℕ) (o : List ℕ) (m : Message) (rs : List Row) (buffer : List ℕ) → Octets o → Reads net o m rs
      → 2048 ≤ length buffer → (handed_over m (flat rs) buffer ≡ o) ↔ ComesBack net o m

-- 01 refuses "more than 128 rows" and has no refusal for a length or a count: neither can be too large
pub record Bound : Type 0 where
  pub long : (m : Message) (numbers : List ℕ) → writable m numbers ≡ true → length (message_octets m (rows_of numbers)) ≤ 1168
  -- the counts of gateways, of distances in a block, of nets in a group; side 0 is internal, 1 external
  pub internal : (a q s net : ℕ) (numbers : List ℕ) → writable (Update a q s net) numbers ≡ true → internal_blocks (rows_of numbers) ≤ 128
  pub external : (a q s net : ℕ) (numbers : List ℕ) → writable (Update a q s net) numbers ≡ true → external_blocks (rows_of numbers) ≤ 128
  pub distances : (a q s net : ℕ) (numbers : List ℕ) → writable (Update a q s net) numbers ≡ true → (side : ℕ)
      → every (λ block. leb (length (distance_runs block)) 128) (gateway_runs (side_rows side (rows_of numbers))) ≡ true
  pub nets : (a q s net : ℕ) (numbers : List ℕ) → writable (Update a q s net) numbers ≡ true → (side : ℕ)
      → every (λ block. every (λ group. leb (length group) 128) (distance_runs block)) (gateway_runs (side_rows side (rows_of numbers))) ≡ true
