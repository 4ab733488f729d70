-- What holds of the counts. The proofs are in proofs/Laws.antt.
use Rattle.std.specs.Prelude.{◌+◌, ◌≤◌, ◌<◌, ◌≡◌, Bool, true, false, cond, eqb}
use Rattle.neighbour.specs.declared.Phase.{Phase}
use Rattle.neighbour.specs.declared.Phase.TheVariants.{Idle, Acquisition, Down, Up, Cease}
use Rattle.neighbour.specs.Record.{phase_number}
use Rattle.neighbour_seconds.specs.declared.Seconds.{Seconds}
use Rattle.neighbour_seconds.specs.Seconds.{seconds_in, no_seconds, seconds_sum, most_seconds, are_none, seconds_formed, clock_full, counted}

-- one state, by its number
abbrev pub is_phase : Phase → Phase → Bool
is_phase p q = eqb (phase_number p) (phase_number q)

pub record SecondsLaws : Type 0 where
  -- a second is counted once: under its state, and under no other
  pub once : (p q : Phase) (s : Seconds) → seconds_in p (counted q s) ≡ seconds_in p s + cond (is_phase q p) 1 0
  pub more : (q : Phase) (s : Seconds) → seconds_sum (counted q s) ≡ seconds_sum s + 1
  -- the sum is that of the five, and two counts that agree in each state are the same
  pub five : (s : Seconds) → seconds_sum s ≡ seconds_in Idle s + seconds_in Acquisition s + seconds_in Down s + seconds_in Up s + seconds_in Cease s
  pub each : (s t : Seconds) → ((p : Phase) → seconds_in p s ≡ seconds_in p t) → s ≡ t
  pub below : (p : Phase) (s : Seconds) → seconds_in p s ≤ seconds_sum s
  pub from_zero : (p : Phase) → seconds_in p no_seconds ≡ 0
  -- where none is counted all are zero
  pub zero : (s : Seconds) → are_none s ≡ true → s ≡ no_seconds
  -- a clock that is not full has room for a second more, in 32 bits each
  pub room : (s : Seconds) → seconds_formed s ≡ true → clock_full s ≡ false → seconds_sum s < most_seconds
  pub formed : (q : Phase) (s : Seconds) → seconds_sum s < most_seconds → seconds_formed (counted q s) ≡ true
