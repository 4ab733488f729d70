use native.Mathlib.Omega.{arith}
use mathlib.Core.Path.{sym}
use lib.Seq.{length-take-le}
use Rattle.host_state_block.specs.Block.{state_in}
use Rattle.host_state_block.proofs.settings_of.Goals as goal

pub slice_bounds-read_settings-end : goal.slice_bounds-read_settings-end
slice_bounds-read_settings-end c = sym (length-take-le 12 c.args.block.now (omega (arith, c.requires)))

pub read_settings-requires : goal.read_settings-requires
read_settings-requires c = length-take-le 12 c.args.block.now (omega (arith, c.requires))

pub returns : goal.returns
unfolding state_in
returns c = c.read_settings.ensures
