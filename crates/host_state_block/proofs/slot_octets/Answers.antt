use Rattle.host_state_block.specs.Layout.{octets_for}
use Rattle.host_state_block.specs.Block.{slot_numbers, slot_octets}
use Rattle.host_state_block.proofs.slot_octets.Goals as goal

pub returns : goal.returns
unfolding slot_octets slot_numbers octets_for
returns c = rw (
  c.put32-6.ensures,
  c.put32-5.ensures,
  c.put32-4.ensures,
  c.put32-3.ensures,
  c.put32-2.ensures,
  c.from-2.ensures,
  c.from.ensures,
  c.put16-9.ensures,
  c.put16-8.ensures,
  c.put16-7.ensures,
  c.put16-6.ensures,
  c.put16-5.ensures,
  c.put16-4.ensures,
  c.put16-3.ensures,
  c.put16-2.ensures,
  c.put16.ensures,
  c.put32.ensures,
)
