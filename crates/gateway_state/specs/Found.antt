-- What a look-up gives: the index below 8 that a definition names, or None where it names 8.
use Rattle.std.specs.Prelude.{ℕ, ◌≤◌, ◌<◌, ◌≡◌, Option, Some, None}

abbrev pub Finds : ℕ → Option ℕ → Type 0
Finds index None = 8 ≤ index
Finds index (Some i) = (i ≡ index) × (i < 8)
