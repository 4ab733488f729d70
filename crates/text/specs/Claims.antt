-- What holds of numbers written as text. The proofs are in proofs/Laws.antt.
use Rattle.std.specs.Prelude.{ℕ, suc, ◌+◌, ◌-◌, ◌*◌, ◌/◌, ◌%◌, ◌^◌, ◌≤◌, ◌<◌, ◌≡◌, List, [], ◌∷◌, ◌++◌, length}
use Rattle.text.specs.Text.{digit, digits, decimal, dotted}

-- the number that digits give, behind those read before
unfoldable pub number_from : ℕ → List ℕ → ℕ
number_from before [] = before
number_from before (octet ∷ rest) = number_from (before * 10 + (octet - 48)) rest

-- decimal is what it says: no more digits than the number has, none of them a leading zero, and the number is read back from them
pub record DecimalLaws : Type 0 where
  pub enough : (a b n : ℕ) → n < a → n < b → digits a n ≡ digits b n
  pub one : (n : ℕ) → n < 10 → decimal n ≡ digit n ∷ []
  pub more : (n : ℕ) → 10 ≤ n → decimal n ≡ decimal (n / 10) ++ (digit (n % 10) ∷ [])
  pub most : (k n : ℕ) → n < 10 ^ suc k → length (decimal n) ≤ suc k
  pub least : (k n : ℕ) → 10 ^ k ≤ n → suc k ≤ length (decimal n)
  pub back : (n : ℕ) → number_from 0 (decimal n) ≡ n

-- an octet has at most three digits, a 16-bit number at most five, a dotted quad at most fifteen octets
pub record Lengths : Type 0 where
  pub octet : (n : ℕ) → n < 256 → length (decimal n) ≤ 3
  pub word : (n : ℕ) → n < 65536 → length (decimal n) ≤ 5
  pub quad : (address : ℕ) → length (dotted address) ≤ 15
