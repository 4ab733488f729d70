-- Laws of carrying a verdict out. Assumes nothing.
use Prim.Native.Nat.{ℕ}
use mathlib.Core.Path.{◌≡◌}
use mathlib.Core.List.{List}
use Rattle.nets.specs.Rows.{Row}
use Rattle.gateway_state.specs.declared.Slot.{Slot}
use Rattle.gateway_state.specs.declared.State.{State}
use Rattle.gateway_state.specs.declared.Outcome.{Outcome}
use Rattle.gateway_state.specs.Slots.{with_slot}
use Rattle.neighbour_machine.specs.declared.Reply.{Reply}
use Rattle.gateway_rules.specs.Ruling.{Ruling}
use Rattle.gateway_rules.specs.Carried.{slot_after, outcome_after, refused_with}
use Rattle.gateway_carry.specs.declared.Lengths.{Lengths}
use Rattle.gateway_carry.specs.Asked.{lengths_of}

pub carried : (st : State) (i : ℕ) (v : Ruling) (home : List Row) (lengths : Lengths) (slot next : Slot) (after : State)
    → lengths ≡ lengths_of v.reply home → next ≡ slot_after slot v → after ≡ with_slot st i next
    → ◌≡◌ {A = Outcome} (record { answer = v.answer; first = lengths.first; second = lengths.second; state = after }) (outcome_after st i slot v home)
unfolding outcome_after lengths_of
carried st i v home lengths slot next after l n a = rw (l, a, n)

pub refused : (st : State) (answer : ℕ) (reply : Reply) (home : List Row) (lengths : Lengths) → lengths ≡ lengths_of reply home
    → ◌≡◌ {A = Outcome} (record { answer = answer; first = lengths.first; second = lengths.second; state = st }) (refused_with st answer reply home)
unfolding refused_with lengths_of
refused st answer reply home lengths l = rw l
