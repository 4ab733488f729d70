-- What is known of a cell of the table, and of an offer, over plain records and numbers. Assumes nothing.
use Prim.Native.Nat.{ℕ, ◌≤◌}
use native.Mathlib.Omega.{arith}
use mathlib.Core.Path.{◌≡◌}
use mathlib.Core.Bool.{false}
use Rattle.std.proofs.lemmas.Bool.Decides.{nat_tests}
use Rattle.neighbour.specs.declared.Phase.{Phase}
use Rattle.neighbour.specs.declared.Phase.TheVariants.{Idle, Acquisition, Down, Up, Cease}
use Rattle.neighbour.specs.Record.{under}
use Rattle.neighbour.specs.Rules.{larger, unacceptable}

-- the cell under a phase that is known
module _ {A : Type 0} (p : Phase) (a b c d e : A) where
  pub at_idle : p ≡ Idle → under p a b c d e ≡ a
  unfolding under
  at_idle h = rw h

  pub at_acquisition : p ≡ Acquisition → under p a b c d e ≡ b
  unfolding under
  at_acquisition h = rw h

  pub at_down : p ≡ Down → under p a b c d e ≡ c
  unfolding under
  at_down h = rw h

  pub at_up : p ≡ Up → under p a b c d e ≡ d
  unfolding under
  at_up h = rw h

  pub at_cease : p ≡ Cease → under p a b c d e ≡ e
  unfolding under
  at_cease h = rw h

pub larger_fits : (a b most : ℕ) → a ≤ most → b ≤ most → larger a b ≤ most
larger_fits a b most p q = grind (arith, nat_tests)

-- an offer that is not unacceptable
module _ (capability status hello poll : ℕ) (e : unacceptable capability status hello poll ≡ false) where
  pub hello_fits : hello ≤ 120
  unfolding unacceptable
  hello_fits = grind (arith, nat_tests)

  pub poll_fits : poll ≤ 480
  unfolding unacceptable
  poll_fits = grind (arith, nat_tests)
