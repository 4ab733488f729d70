-- The answer numbers: what a call answers where it is refused, and 0 where it is not.
use Rattle.std.specs.Prelude.{ℕ, Bool, cond, Result, Ok, Err}
use Rattle.checks.specs.declared.Refusal.{Refusal}
use Rattle.checks.specs.declared.Refusal.TheVariants.{IllFormedState, WrongTable, ShortBuffer, BadHomeList, UnknownNeighbour, BadSize, OtherVersion, WrongChecksum, OtherAs, UnknownKind, BadStatus, BadLength, OutOfSequence, BrokenBlocks, TooManyRows, BadArgument, NoFreeSlot, NotIdle, BadLine, WrongBlock, TooQuick, ClockFull}

-- the number of each refusal
abbrev pub number_of : Refusal → ℕ
number_of IllFormedState = 1
number_of WrongTable = 2
number_of ShortBuffer = 3
number_of BadHomeList = 4
number_of UnknownNeighbour = 5
number_of BadSize = 6
number_of OtherVersion = 7
number_of WrongChecksum = 8
number_of OtherAs = 9
number_of UnknownKind = 10
number_of BadStatus = 11
number_of BadLength = 12
number_of OutOfSequence = 13
number_of BrokenBlocks = 14
number_of TooManyRows = 15
number_of BadArgument = 16
number_of NoFreeSlot = 17
number_of NotIdle = 18
number_of BadLine = 19
number_of WrongBlock = 20
number_of TooQuick = 21
number_of ClockFull = 22

-- the answer of a call: 0 where it is carried out, else its refusal's number
abbrev pub answer_of : {A : Type 0} → Result A Refusal → ℕ
answer_of (Ok _) = 0
answer_of (Err refusal) = number_of refusal

-- The order of checks where refusals are told: this refusal where the test fails, else what the rest says.
abbrev pub checked : {A : Type 0} → Bool → Refusal → Result A Refusal → Result A Refusal
checked ok refusal rest = cond ok rest (Err refusal)
