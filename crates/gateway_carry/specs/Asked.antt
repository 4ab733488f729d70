-- What the inner functions of the calls take for granted, and the two lengths of a reply.
use Rattle.std.specs.Prelude.{ℕ, Bool, true, false, ◌&&◌, List, leb, eqb, length}
use Rattle.nets.specs.Rows.{Row}
use Rattle.message.specs.declared.Message.{Message}
use Rattle.update_walk.specs.Body.{Walk, whole, broken}
use Rattle.codec_writing.specs.Room.{rows_fit, room_for}
use Rattle.neighbour_machine.specs.declared.Reply.{Reply}
use Rattle.neighbour_machine.specs.declared.Reply.TheVariants.{Nothing, One, Two}
use Rattle.gateway_rules.specs.declared.Effect.{Effect}
use Rattle.gateway_rules.specs.declared.Effect.TheVariants.{Keep, Clear, Replace}
use Rattle.gateway_rules.specs.declared.Verdict.{Verdict}
use Rattle.gateway_rules.specs.Ruling.{Change, keep, clear, replace, Ruling}
use Rattle.gateway_rules.specs.Carried.{first_octets, second_octets}
use Rattle.gateway_carry.specs.declared.Lengths.{Lengths}

-- a message of fixed length: any but an Update
unfoldable pub brief : Message → Bool
brief m = leb (room_for m) 24

-- a reply that the buffer has room for: an Update is sent alone, with rows that it can carry
unfoldable pub sendable : Reply → List ℕ → Bool
sendable Nothing home = true
sendable (One m) home = rows_fit m home
sendable (Two m next) home = brief m && brief next

-- the two lengths that a call reports
unfoldable pub lengths_of : Reply → List Row → Lengths
lengths_of reply home = record { first = length (first_octets reply home); second = length (second_octets reply home) }

-- rows are replaced by those of blocks that are whole, as many as the effect says and no more than a slot has
unfoldable pub takes : Effect → Walk → Bool
takes Keep walk = true
takes Clear walk = true
takes (Replace count) (whole rows) = eqb count (length rows) && leb (length rows) 128
takes (Replace count) (broken offset) = false

-- the change that an effect stands for, these being the rows that it would store
unfoldable pub change_of : Effect → List Row → Change
change_of Keep rows = keep
change_of Clear rows = clear
change_of (Replace count) rows = replace rows

-- the ruling that a verdict stands for
unfoldable pub ruling_of : Verdict → List Row → Ruling
ruling_of v rows = record { answer = v.answer; reply = v.reply; neighbour = v.neighbour; change = change_of v.effect rows }
