-- How slots put into the model stand beside each other, and where they are found. The proofs are in proofs/Laws.antt.
use Rattle.std.specs.Prelude.{ℕ, ◌≤◌, ◌<◌, ◌≡◌, true, false, length}
use Rattle.model.specs.Model.{Slot, Model, slot_in, put, has_address, found_at}

-- two slots put at different places: in either order
abbrev pub PutsCommute : Type 0
PutsCommute = (m : Model) (i j : ℕ) (one other : Slot) → (i ≡ j → ⊥) → put (put m i one) j other ≡ put (put m j other) i one

-- where an address is found once a slot was put at i
pub record PlaceUnderPut (m : Model) (i : ℕ) (slot : Slot) (a : ℕ) : Type 0 where
  -- as before, if this slot has the address just where the one before it had: so after every call about a neighbour
  pub kept : has_address a slot ≡ has_address a (slot_in m i) → found_at (put m i slot) a ≡ found_at m a
  -- as before, if it was found elsewhere and this slot has another address
  pub elsewhere : (found_at m a ≡ i → ⊥) → has_address a slot ≡ false → found_at (put m i slot) a ≡ found_at m a
  -- there, if this slot has it and none before it had
  pub here : i ≤ found_at m a → i < length m.slots → has_address a slot ≡ true → found_at (put m i slot) a ≡ i

abbrev pub PlacesUnderPut : Type 0
PlacesUnderPut = (m : Model) (i : ℕ) (slot : Slot) (a : ℕ) → PlaceUnderPut m i slot a
