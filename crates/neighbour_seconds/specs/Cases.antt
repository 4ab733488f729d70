-- Worked cases, in literals. The proofs are in proofs/Cases.antt.
use Rattle.std.specs.Prelude.{ℕ, true, false, ◌≡◌, List, [], ◌∷◌, map}
use Rattle.neighbour.specs.declared.Phase.{Phase}
use Rattle.neighbour.specs.declared.Phase.TheVariants.{Idle, Acquisition, Down, Up, Cease}
use Rattle.neighbour_seconds.specs.declared.Seconds.{Seconds}
use Rattle.neighbour_seconds.specs.Seconds.{no_seconds, are_none, seconds_formed, clock_full, counted}

-- in 01's order of the states
abbrev pub seconds : ℕ → ℕ → ℕ → ℕ → ℕ → Seconds
seconds a b c d e = record { idle = a; acquisition = b; down = c; up = d; cease = e }

-- one second below the limit, at it twice, and one above it twice, which in 32 bits would be 0
abbrev pub almost_full : List Seconds
almost_full =
    seconds 4294967290 1 1 1 1 ∷ seconds 4294967295 0 0 0 0 ∷ seconds 858993459 858993459 858993459 858993459 858993459
    ∷ seconds 0 4294967295 0 0 1 ∷ seconds 2147483648 0 0 2147483648 0 ∷ []

pub record SecondsCases : Type 0 where
  pub ticks :
      map (λ (p : Phase). counted p (seconds 10 20 30 40 50)) (Idle ∷ Acquisition ∷ Down ∷ Up ∷ Cease ∷ [])
      ≡ seconds 11 20 30 40 50 ∷ seconds 10 21 30 40 50 ∷ seconds 10 20 31 40 50 ∷ seconds 10 20 30 41 50 ∷ seconds 10 20 30 40 51 ∷ []
  pub formed : map seconds_formed almost_full ≡ true ∷ true ∷ true ∷ false ∷ false ∷ []
  pub full : map clock_full almost_full ≡ false ∷ true ∷ true ∷ false ∷ false ∷ []
  pub none : map are_none (seconds 0 0 0 0 0 ∷ seconds 1 0 0 0 0 ∷ seconds 0 0 0 0 1 ∷ no_seconds ∷ []) ≡ true ∷ false ∷ false ∷ true ∷ []
