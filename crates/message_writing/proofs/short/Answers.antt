-- `message_writing::short` meets its contract: the header with its checksum in the field. Assumes nothing.
use Rattle.octets_checksum.specs.Checksum.{sealed}
use Rattle.message_writing.proofs.short.Goals as goal

pub returns : goal.returns
unfolding sealed
returns c = rw (c.put16.ensures, c.header-octets.ensures, c.short_checksum-sum.ensures, c.code-code.ensures, c.type_number-number.ensures)
