-- The laws of the counts. Assumes nothing.
use Prim.Native.Nat.{ℕ, ◌+◌, ◌≤◌, ◌<◌}
use native.Mathlib.Omega.{arith}
use mathlib.Core.Path.{◌≡◌, refl}
use mathlib.Core.Bool.{true, false, cond}
use borrow.Author.Tests.{eqb-true, eqb-false, leb-true, le-leb}
use Rattle.neighbour.specs.declared.Phase.{Phase}
use Rattle.neighbour.specs.declared.Phase.TheVariants.{Idle, Acquisition, Down, Up, Cease}
use Rattle.neighbour_seconds.specs.declared.Seconds.{Seconds}
use Rattle.neighbour_seconds.specs.Seconds.{seconds_in, no_seconds, seconds_sum, most_seconds, are_none, seconds_formed, clock_full, counted}
use Rattle.neighbour_seconds.specs.Claims.{is_phase, SecondsLaws}

once_counted : (p q : Phase) (s : Seconds) → seconds_in p (counted q s) ≡ seconds_in p s + cond (is_phase q p) 1 0
unfolding seconds_in counted
once_counted Idle Idle s = refl
once_counted Idle Acquisition s = omega arith
once_counted Idle Down s = omega arith
once_counted Idle Up s = omega arith
once_counted Idle Cease s = omega arith
once_counted Acquisition Idle s = omega arith
once_counted Acquisition Acquisition s = refl
once_counted Acquisition Down s = omega arith
once_counted Acquisition Up s = omega arith
once_counted Acquisition Cease s = omega arith
once_counted Down Idle s = omega arith
once_counted Down Acquisition s = omega arith
once_counted Down Down s = refl
once_counted Down Up s = omega arith
once_counted Down Cease s = omega arith
once_counted Up Idle s = omega arith
once_counted Up Acquisition s = omega arith
once_counted Up Down s = omega arith
once_counted Up Up s = refl
once_counted Up Cease s = omega arith
once_counted Cease Idle s = omega arith
once_counted Cease Acquisition s = omega arith
once_counted Cease Down s = omega arith
once_counted Cease Up s = omega arith
once_counted Cease Cease s = refl

one_more_lem : (q : Phase) (s : Seconds) → seconds_sum (counted q s) ≡ seconds_sum s + 1
unfolding seconds_sum counted
one_more_lem Idle s = omega arith
one_more_lem Acquisition s = omega arith
one_more_lem Down s = omega arith
one_more_lem Up s = omega arith
one_more_lem Cease s = omega arith

sum_of_five : (s : Seconds) → seconds_sum s ≡ seconds_in Idle s + seconds_in Acquisition s + seconds_in Down s + seconds_in Up s + seconds_in Cease s
unfolding seconds_sum seconds_in
sum_of_five s = refl

same_each : (s t : Seconds) → ((p : Phase) → seconds_in p s ≡ seconds_in p t) → s ≡ t
unfolding seconds_in
same_each s t h = λ k. record { idle = h Idle k; acquisition = h Acquisition k; down = h Down k; up = h Up k; cease = h Cease k }

below_sum : (p : Phase) (s : Seconds) → seconds_in p s ≤ seconds_sum s
unfolding seconds_in seconds_sum
below_sum Idle s = omega arith
below_sum Acquisition s = omega arith
below_sum Down s = omega arith
below_sum Up s = omega arith
below_sum Cease s = omega arith

zero_each : (p : Phase) → seconds_in p no_seconds ≡ 0
unfolding seconds_in
zero_each Idle = refl
zero_each Acquisition = refl
zero_each Down = refl
zero_each Up = refl
zero_each Cease = refl

none_zero : (s : Seconds) → are_none s ≡ true → s ≡ no_seconds
unfolding are_none seconds_sum
none_zero s e =
    let z = eqb-true (s.idle + s.acquisition + s.down + s.up + s.cease) 0 e in
    let a : s.idle ≡ 0 = omega (arith, z) in
    let b : s.acquisition ≡ 0 = omega (arith, z) in
    let c : s.down ≡ 0 = omega (arith, z) in
    let d : s.up ≡ 0 = omega (arith, z) in
    let f : s.cease ≡ 0 = omega (arith, z) in
    λ k. record { idle = a k; acquisition = b k; down = c k; up = d k; cease = f k }

has_room : (s : Seconds) → seconds_formed s ≡ true → clock_full s ≡ false → seconds_sum s < most_seconds
unfolding seconds_formed clock_full
has_room s f e = below (seconds_sum s) (leb-true _ _ f) (eqb-false _ _ e)
  where
    below : (n : ℕ) → n ≤ most_seconds → (n ≡ most_seconds → ⊥) → n < most_seconds
    below n h k = omega (arith, h, k)

still_formed : (q : Phase) (s : Seconds) → seconds_sum s < most_seconds → seconds_formed (counted q s) ≡ true
unfolding seconds_formed
still_formed q s h = let k : seconds_sum (counted q s) ≤ most_seconds = omega (arith, one_more_lem q s, h) in le-leb _ _ k

pub seconds_laws : SecondsLaws
seconds_laws =
    record {
      once = once_counted;
      more = one_more_lem;
      five = sum_of_five;
      each = same_each;
      below = below_sum;
      from_zero = zero_each;
      zero = none_zero;
      room = has_room;
      formed = still_formed;
    }
