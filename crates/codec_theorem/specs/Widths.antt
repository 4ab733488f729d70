-- The widths of a meaning's numbers: the definitions have plain numbers where the code has `u8`, `u16` and `u32`.
use Rattle.std.specs.Prelude.{ℕ, ◌<◌}
use Rattle.message.specs.declared.Message.{Message}
use Rattle.message.specs.declared.Message.TheVariants.{Request, Confirm, Refuse, Cease, CeaseAck, Hello, IHeardYou, Poll, Update, Error}

-- the numbers that every kind carries are in their widths
pub record HeadFits (asn sequence status : ℕ) : Type 0 where
  pub asn16 : asn < 65536
  pub sequence16 : sequence < 65536
  pub status8 : status < 256

-- each number of a meaning is in its width
abbrev pub InWidths : Message → Type 0
InWidths (Request a q s hello poll) = HeadFits a q s × (hello < 65536) × (poll < 65536)
InWidths (Confirm a q s hello poll) = HeadFits a q s × (hello < 65536) × (poll < 65536)
InWidths (Refuse a q s) = HeadFits a q s
InWidths (Cease a q s) = HeadFits a q s
InWidths (CeaseAck a q s) = HeadFits a q s
InWidths (Hello a q s) = HeadFits a q s
InWidths (IHeardYou a q s) = HeadFits a q s
InWidths (Poll a q s net) = HeadFits a q s × (net < 4294967296)
InWidths (Update a q s net) = HeadFits a q s × (net < 4294967296)
InWidths (Error a q s reason x y z) = HeadFits a q s × (reason < 65536) × (x < 4294967296) × (y < 4294967296) × (z < 4294967296)
