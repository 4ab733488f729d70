-- What a writer promises.
use Rattle.std.specs.Prelude.{ℕ, ◌+◌, ◌≤◌, ◌≡◌, List, length}
use Rattle.std.proofs.lemmas.List.Edits.{sets}
use Rattle.text.specs.declared.Writer.{Writer}

-- so many octets fit behind what is written
abbrev pub Room : Writer → ℕ → Type 0
Room w count = w.end + count ≤ length w.out.now

-- these octets do
abbrev pub HasRoom : Writer → List ℕ → Type 0
HasRoom w octets = Room w (length octets)

-- these octets stand behind what was written, in the same buffer
pub record Puts (octets : List ℕ) (old new : Writer) : Type 0 where
  pub same_reference : new.out.ghost_name ≡ old.out.ghost_name
  pub list : new.out.now ≡ sets old.out.now old.end octets
  pub long : length new.out.now ≡ length old.out.now
  pub after : new.end ≡ old.end + length octets
