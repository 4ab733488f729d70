use native.Mathlib.Omega.{arith}
use mathlib.Core.Path.{ap, ◌∙◌}
use Prim.Native.Nat.{ℕ}
use lib.Seq.{sets}
use Rattle.host_state_block.specs.Block.{slot_octets}
use Rattle.host_state_block.proofs.put_slot.Goals as goal

pub put_slot_at-requires : goal.put_slot_at-requires
put_slot_at-requires c = omega (arith, c.requires.0, c.requires.1, c.slot_start.ensures)

pub returns : goal.returns
returns c = c.put_slot_at.ensures ∙ ap (λ (n : ℕ). sets c.args.block.now n (slot_octets c.args.slot)) c.slot_start.ensures
