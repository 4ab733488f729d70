-- A number and its octets, each from the other. Assumes nothing.
use Prim.Native.Nat.{ℕ, ◌/◌, ◌%◌, ◌<◌}
use native.Mathlib.Nat.{div-div-eq-div-mul, div-add-mod', mod-eq_of_lt}
use native.Mathlib.Omega.{arith}
use mathlib.Core.Path.{◌≡◌, sym, ap, ◌∙◌}
use mathlib.Core.List.{[], ◌∷◌}
use Rattle.std.specs.Int.{w16, w32, from_be_bytes}
use Rattle.octets.specs.Numbers.{pair_of, quad_of}

-- ---- what std's `from_be_bytes` makes of two octets, and of four

pub pair_bytes : (a b : ℕ) → from_be_bytes w16 (a ∷ b ∷ []) ≡ pair_of a b
pair_bytes a b = omega arith

pub quad_bytes : (a b c d : ℕ) → from_be_bytes w32 (a ∷ b ∷ c ∷ d ∷ []) ≡ quad_of a b c d
quad_bytes a b c d = omega arith

-- ---- the number that its octets make

pub word_back : (n : ℕ) → n < 65536 → pair_of (n / 256 % 256) (n % 256) ≡ n
word_back n h = omega arith

pub quad_back : (n : ℕ) → n < 4294967296 → quad_of (n / 16777216 % 256) (n / 65536 % 256) (n / 256 % 256) (n % 256) ≡ n
quad_back n h =
    let two : n / 65536 ≡ n / 256 / 256 = sym (div-div-eq-div-mul n 256 256) in
    let three : n / 16777216 ≡ n / 256 / 256 / 256 = sym (ap (λ (k : ℕ). k / 256) (div-div-eq-div-mul n 256 256) ∙ div-div-eq-div-mul n 65536 256) in
    let small : n / 256 / 256 / 256 < 256 = rw (← three) (omega arith) in
    rw (two, three, mod-eq_of_lt small, div-add-mod' (n / 256 / 256) 256, div-add-mod' (n / 256) 256, div-add-mod' n 256)

-- ---- the octets of a number that octets make

pub high : (a b : ℕ) → a < 256 → b < 256 → pair_of a b / 256 % 256 ≡ a
high a b p q = omega arith

pub low : (a b : ℕ) → a < 256 → b < 256 → pair_of a b % 256 ≡ b
low a b p q = omega arith

module _ (a b c d : ℕ) (p : a < 256) (q : b < 256) (r : c < 256) (s : d < 256) where
  pub first_of : quad_of a b c d / 16777216 % 256 ≡ a
  first_of = omega arith

  pub second_of : quad_of a b c d / 65536 % 256 ≡ b
  second_of = omega arith

  pub third_of : quad_of a b c d / 256 % 256 ≡ c
  third_of = omega arith

  pub fourth_of : quad_of a b c d % 256 ≡ d
  fourth_of = omega arith
