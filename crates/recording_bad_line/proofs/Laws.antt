-- Laws of a report, and of a count. Assumes nothing.
use Prim.Native.Nat.{ℕ, suc, min, ◌+◌, ◌≤◌, ◌<◌}
use native.Mathlib.Omega.{arith}
use borrow.Author.Tests.{ltb-true, ltb-false}
use mathlib.Core.Bool.{Bool, true, false, cond}
use mathlib.Core.Path.{◌≡◌, refl}
use lib.Dec.{ltb}
use lib.ListN.{length, length-append}
use Rattle.text.specs.Text.{text, decimal, line}
use Rattle.text.proofs.Laws.{decimal_most}
use Rattle.recording_bad_line.specs.BadLine.{bad_text, one_more}

-- a number of 64 bits has at most 20 digits
pub long_length : (n : ℕ) → n < 18446744073709551616 → length (decimal n) ≤ 20
long_length n h = decimal_most 19 n (omega arith)

pub bad_length : (n : ℕ) → n < 18446744073709551616 → length (bad_text n) ≤ 25
unfolding bad_text line text
bad_length n h = simp length-append (omega (arith, long_length n h))

pub counted : (n : ℕ) → n < 18446744073709551616 → min (n + 1) 18446744073709551615 ≡ one_more n
unfolding one_more
counted n h = go (ltb n 18446744073709551615) refl
  where
    go : (b : Bool) → ltb n 18446744073709551615 ≡ b → min (n + 1) 18446744073709551615 ≡ cond b (suc n) n
    go true e = let k = ltb-true n 18446744073709551615 e in omega arith
    go false e = let k = ltb-false n 18446744073709551615 e in omega arith
