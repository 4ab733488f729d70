use lib.ListN.{length-set}
use Rattle.octets_checksum.proofs.Laws.{sealed_none, sealed_half}
use Rattle.octets_checksum.specs.Checksum.{sealed}
use Rattle.octets_checksum.proofs.seal.Goals as goal

pub returns-then-message-lt5 : goal.returns-then-message-lt5
returns-then-message-lt5 c = sealed_none _ c.if-message-lt5.true

pub returns-then-message-lt6 : goal.returns-then-message-lt6
returns-then-message-lt6 c = rw c.to_be_bytes.ensures (sealed_half _ _ c.checksum.ensures (rw length-set at c.if-message-lt6.true))

pub returns : goal.returns
unfolding sealed
returns c = rw (c.to_be_bytes.ensures, c.checksum.ensures)
