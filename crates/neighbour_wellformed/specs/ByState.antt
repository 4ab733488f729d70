-- What the sentences of Formed.antt come to in each state: the tests that the code makes, once the state is known.
use Rattle.std.specs.Prelude.{ℕ, Bool, ◌&&◌, leb, eqb}
use Rattle.neighbour.specs.declared.Neighbour.{Neighbour}
use Rattle.neighbour_wellformed.specs.Formed.{is_unset, within, agreed, counts_formed}

-- outside Idle
abbrev pub timers_formed : Neighbour → Bool
timers_formed n = within 1 122 n.t1 && within 1 3600 n.t3 && counts_formed n

-- in Down and Up, with the bounds of t2
abbrev pub reached_formed : ℕ → ℕ → Neighbour → Bool
reached_formed low high n =
    within low high n.t2 && timers_formed n && agreed n && leb n.register 15 && leb n.heard 1 && eqb n.cause 0

-- in Acquisition and Cease, but for the cause
abbrev pub waiting_formed : Neighbour → Bool
waiting_formed n =
    timers_formed n && eqb n.t2 0 && eqb n.period1 0 && eqb n.period2 0 && is_unset n.mode
    && eqb n.register 0 && eqb n.heard 0
