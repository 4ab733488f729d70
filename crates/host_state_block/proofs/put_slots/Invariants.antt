use mathlib.Core.Path.{◌≡◌}
use lib.ListN.{length, drop}
use lib.Seq.{sets}
use Rattle.host_state_block.specs.Block.{slot_start, slots_octets}
use Rattle.host_state_block.proofs.put_slots.Given as goal

abbrev pub invariant-loop-i : goal.invariant-loop-i
invariant-loop-i l =
    (length l.out ≡ length l.initial.out) × (sets l.initial.out (slot_start 0) (slots_octets l.st.slots) ≡ sets l.out (slot_start l.i) (slots_octets (drop l.i l.st.slots)))
