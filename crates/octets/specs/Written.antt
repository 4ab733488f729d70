-- What a function that stores octets in a lent buffer promises.
use Rattle.std.specs.Prelude.{ℕ, ◌+◌, ◌≡◌, List, length}
use Rattle.std.proofs.lemmas.List.Edits.{sets}

-- octets stored from index at on, and the index after them
pub record Written (octets : List ℕ) (at : ℕ) (old new : List ℕ) (end : ℕ) : Type 0 where
  pub list : new ≡ sets old at octets
  pub after : end ≡ at + length octets
