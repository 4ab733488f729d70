use Prim.Native.Nat.{ℕ, ◌-◌, ◌<◌}
use native.Mathlib.Omega.{arith}
use mathlib.Core.Path.{◌≡◌}
use mathlib.Core.Bool.{false}
use lib.Dec.{eqb}
use borrow.Author.Tests.{ne_eqb}
use Rattle.neighbour.specs.Record.{under, with_timers, aged}
use Rattle.neighbour_machine.specs.Table.{unanswered}
use Rattle.neighbour_machine.specs.Tick.{listens, takes_t2, polls_in_up, tick_on, tick_outside, on_tick}
use Rattle.neighbour_tick.proofs.count_down.Goals as goal

goes_on : (t : ℕ) → 1 < t → eqb (t - 1) 0 ≡ false
goes_on t h = ne_eqb (t - 1) 0 (λ e. omega arith)

pub returns-clause-result_value : goal.returns-clause-result_value
unfolding on_tick tick_outside tick_on polls_in_up listens takes_t2 under with_timers unanswered aged
returns-clause-result_value c =
    let n = c.args.n in
    λ g. simp (c.age-aged.ensures, c.requires.0, goes_on n.t1 c.requires.1, goes_on n.t2 c.requires.2, goes_on n.t3 c.requires.3)

pub returns-clause-phase_value : goal.returns-clause-phase_value
unfolding aged
returns-clause-phase_value c = simp (c.age-aged.ensures, c.requires.0)
