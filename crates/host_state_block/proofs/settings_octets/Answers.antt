use Rattle.host_state_block.specs.Layout.{octets_for}
use Rattle.host_state_block.specs.Block.{own_numbers, own_octets}
use Rattle.host_state_block.proofs.settings_octets.Goals as goal

pub returns : goal.returns
unfolding own_octets own_numbers octets_for
returns c = rw (c.put32-2.ensures, c.put32.ensures, c.put16.ensures)
