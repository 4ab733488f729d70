use Rattle.driver_records.specs.Records.{record_head}
use Rattle.driver_records.proofs.read_head.Goals as goal

pub returns : goal.returns
unfolding record_head
returns c = rw (c.octet-3.ensures, c.word32_at-6.ensures, c.word32_at-5.ensures, c.word32_at-4.ensures, c.word32_at-3.ensures, c.word32_at-2.ensures, c.word32_at.ensures, c.word16_at.ensures, c.octet-2.ensures, c.octet.ensures)
