use Rattle.driver_records.specs.Records.{answer_octets}
use Rattle.driver_records.proofs.answer_octets.Goals as goal

pub returns : goal.returns
unfolding answer_octets
returns c = rw (c.put32-2.ensures, c.put32.ensures, c.put16-2.ensures, c.put16.ensures)
