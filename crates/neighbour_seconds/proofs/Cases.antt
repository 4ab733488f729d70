-- The worked cases, computed. Assumes nothing.
use mathlib.Core.Path.{refl}
use Rattle.neighbour_seconds.specs.Seconds.{seconds_sum, are_none, seconds_formed, clock_full, counted}
use Rattle.neighbour_seconds.specs.Cases.{SecondsCases}

pub seconds_cases : SecondsCases
unfolding seconds_sum are_none seconds_formed clock_full counted
seconds_cases = record { ticks = refl; formed = refl; full = refl; none = refl }
