-- Laws of net classes, over the width. Assumes nothing.
use Prim.Native.Nat.{ℕ, ◌/◌, ◌≤◌, ◌<◌, ◌-◌}
use native.Mathlib.Nat.{one-le-pow}
use native.Mathlib.Omega.{arith}
use borrow.Author.Tests.{le-ltb}
use mathlib.Core.Path.{◌≡◌}
use mathlib.Core.Bool.{Bool, true, false, cond}
use lib.Dec.{eqb, ltb}
use Rattle.nets.specs.Classes.{net_width, first_octet, width_of, host_span, good_net, on_net}

pub span_positive : (width : ℕ) → 0 < host_span width
unfolding host_span
span_positive width = one-le-pow (4 - width) 256 (omega arith)

pub good_classless : (net : ℕ) → 3758096384 ≤ net → false ≡ good_net net
unfolding good_net net_width
good_classless net l = rw (le-ltb (net / 16777216) 128 (omega arith), le-ltb (net / 16777216) 192 (omega arith), le-ltb (net / 16777216) 224 (omega arith))

width_most : (a b c : Bool) → cond a 1 (cond b 2 (cond c 3 0)) ≤ 3
width_most true b c = omega arith
width_most false true c = omega arith
width_most false false true = omega arith
width_most false false false = omega arith

-- an address on a net whose width is known
module _ (net width address : ℕ) (w : width ≡ width_of net) where
  pub on_a : width ≡ 1 → eqb (address / 16777216) (net / 16777216) ≡ on_net net address
  unfolding on_net host_span
  on_a e = rw (← w, e)

  pub on_b : width ≡ 2 → eqb (address / 65536) (net / 65536) ≡ on_net net address
  unfolding on_net host_span
  on_b e = rw (← w, e)

  pub on_c : width ≡ 3 → eqb (address / 256) (net / 256) ≡ on_net net address
  unfolding on_net host_span
  on_c e = rw (← w, e)

  pub on_none : width ≡ 0 → false ≡ on_net net address
  unfolding on_net
  on_none e = rw (← w, e)

  pub width_fits : width ≤ 3
  unfolding net_width
  width_fits = rw w (width_most (ltb (first_octet net) 128) (ltb (first_octet net) 192) (ltb (first_octet net) 224))
