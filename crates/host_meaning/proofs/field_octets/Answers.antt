use Rattle.host_meaning.specs.Meaning.{field_octets}
use Rattle.host_meaning.proofs.field_octets.Goals as goal

pub returns : goal.returns
unfolding field_octets
returns c = rw (
  c.put32-3.ensures,
  c.put32-2.ensures,
  c.put32.ensures,
  c.put16-4.ensures,
  c.put16-3.ensures,
  c.put16-2.ensures,
  c.put16.ensures,
)
