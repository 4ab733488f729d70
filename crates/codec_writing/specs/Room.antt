-- What the writer takes for granted of the rows and of the buffer.
use Rattle.std.specs.Prelude.{ℕ, Bool, true, ◌&&◌, List}
use Rattle.nets.specs.Classes.{good_net}
use Rattle.message.specs.declared.Message.{Message}
use Rattle.message.specs.declared.Message.TheVariants.{Request, Confirm, Refuse, Cease, CeaseAck, Hello, IHeardYou, Poll, Update, Error}
use Rattle.update_writing.specs.Writable.{writable_numbers}

-- the rows that an Update can be written with, as numbers, three a row, and its net must be good; beside any other
-- kind they are not looked at
unfoldable pub rows_fit : Message → List ℕ → Bool
rows_fit (Request a q s hello poll) numbers = true
rows_fit (Confirm a q s hello poll) numbers = true
rows_fit (Refuse a q s) numbers = true
rows_fit (Cease a q s) numbers = true
rows_fit (CeaseAck a q s) numbers = true
rows_fit (Hello a q s) numbers = true
rows_fit (IHeardYou a q s) numbers = true
rows_fit (Poll a q s net) numbers = true
rows_fit (Update a q s net) numbers = good_net net && writable_numbers net numbers
rows_fit (Error a q s reason x y z) numbers = true

-- the octets that a message takes, an Update at most: 128 rows of nine octets behind its head of sixteen
unfoldable pub room_for : Message → ℕ
room_for (Request a q s hello poll) = 14
room_for (Confirm a q s hello poll) = 14
room_for (Refuse a q s) = 10
room_for (Cease a q s) = 10
room_for (CeaseAck a q s) = 10
room_for (Hello a q s) = 10
room_for (IHeardYou a q s) = 10
room_for (Poll a q s net) = 16
room_for (Update a q s net) = 1168
room_for (Error a q s reason x y z) = 24
