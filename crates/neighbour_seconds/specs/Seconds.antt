-- The seconds that a neighbour spent in each state: 02's L7, as far as it needs no event and no slot.
use Rattle.std.specs.Prelude.{ℕ, ◌+◌, Bool, leb, eqb}
use Rattle.neighbour.specs.declared.Phase.{Phase}
use Rattle.neighbour.specs.declared.Phase.TheVariants.{Idle, Acquisition, Down, Up, Cease}
use Rattle.neighbour_seconds.specs.declared.Seconds.{Seconds}

-- 02: "how many seconds it spent in each of the five states"
unfoldable pub seconds_in : Phase → Seconds → ℕ
seconds_in Idle s = s.idle
seconds_in Acquisition s = s.acquisition
seconds_in Down s = s.down
seconds_in Up s = s.up
seconds_in Cease s = s.cease

-- 02: "Remove and add start from zero"
abbrev pub no_seconds : Seconds
no_seconds = record { idle = 0; acquisition = 0; down = 0; up = 0; cease = 0 }

-- 02: "their sum"
unfoldable pub seconds_sum : Seconds → ℕ
seconds_sum s = s.idle + s.acquisition + s.down + s.up + s.cease

-- 02: "a sum of at most 4,294,967,295"
abbrev pub most_seconds : ℕ
most_seconds = 4294967295

unfoldable pub seconds_formed : Seconds → Bool
seconds_formed s = leb (seconds_sum s) most_seconds

-- 01: "free slots are all zero": each count is 0 where their sum is
unfoldable pub are_none : Seconds → Bool
are_none s = eqb (seconds_sum s) 0

-- 02: "22, a tick when the sum is 4,294,967,295"
unfoldable pub clock_full : Seconds → Bool
clock_full s = eqb (seconds_sum s) most_seconds

-- 02: "A tick carried out belongs to the state before it": a second more in this one
unfoldable pub counted : Phase → Seconds → Seconds
counted Idle s = record { idle = s.idle + 1; acquisition = s.acquisition; down = s.down; up = s.up; cease = s.cease }
counted Acquisition s = record { idle = s.idle; acquisition = s.acquisition + 1; down = s.down; up = s.up; cease = s.cease }
counted Down s = record { idle = s.idle; acquisition = s.acquisition; down = s.down + 1; up = s.up; cease = s.cease }
counted Up s = record { idle = s.idle; acquisition = s.acquisition; down = s.down; up = s.up + 1; cease = s.cease }
counted Cease s = record { idle = s.idle; acquisition = s.acquisition; down = s.down; up = s.up; cease = s.cease + 1 }
