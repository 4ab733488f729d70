-- The octets of a message of any kind. The rows stand beside the message: only an Update has them.
use Rattle.std.specs.Prelude.{List, [], ◌∷◌, ◌++◌, ℕ}
use Rattle.octets.specs.Numbers.{octets16, octets32}
use Rattle.octets_checksum.specs.Checksum.{sealed}
use Rattle.nets.specs.Rows.{Row}
use Rattle.message.specs.declared.Kind.TheVariants as K
use Rattle.message.specs.declared.Message.{Message}
use Rattle.message.specs.declared.Message.TheVariants.{Request, Confirm, Refuse, Cease, CeaseAck, Hello, IHeardYou, Poll, Update, Error}
use Rattle.message_writing.specs.Writing.{headed, head_of}
use Rattle.update_writing.specs.Blocks.{blocks_written, internal_blocks, external_blocks}

-- a message's octets before its checksum is filled in; 01: "Poll's reserved octets are ignored and written 0"; an
-- Update's blocks stand behind its head, which counts them
unfoldable pub plain_octets : Message → List Row → List ℕ
plain_octets (Request a q s hello poll) rows = headed K.Request a q s (octets16 hello (octets16 poll []))
plain_octets (Confirm a q s hello poll) rows = headed K.Confirm a q s (octets16 hello (octets16 poll []))
plain_octets (Refuse a q s) rows = headed K.Refuse a q s []
plain_octets (Cease a q s) rows = headed K.Cease a q s []
plain_octets (CeaseAck a q s) rows = headed K.CeaseAck a q s []
plain_octets (Hello a q s) rows = headed K.Hello a q s []
plain_octets (IHeardYou a q s) rows = headed K.IHeardYou a q s []
plain_octets (Poll a q s net) rows = headed K.Poll a q s (0 ∷ 0 ∷ octets32 net [])
plain_octets (Update a q s net) rows = head_of (internal_blocks rows) (external_blocks rows) a q s net ++ blocks_written net rows
plain_octets (Error a q s reason x y z) rows = headed K.Error a q s (octets16 reason (octets32 x (octets32 y (octets32 z []))))

-- a message's octets, the checksum over all of them
unfoldable pub message_octets : Message → List Row → List ℕ
message_octets m rows = sealed (plain_octets m rows)
