-- The four numbers of a result, taken apart. Assumes nothing.
use native.Mathlib.Omega.{arith}
use Rattle.host_result.specs.Packed.{packed, FourNumbers}

pub four_numbers : FourNumbers
unfolding packed
four_numbers answer first second a f s =
    record { lowest = omega arith; next = omega arith; third = omega arith; top = omega arith }
