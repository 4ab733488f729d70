-- 02, L2: "take the checksum four octets at a time with a wider sum and fold only at the end. Prove it equal at every
-- length up to 2,048, odd ones included, to 01's sum of 16-bit words".
use Rattle.std.specs.Prelude.{ℕ, ◌+◌, ◌-◌, ◌*◌, ◌%◌, ◌≤◌, ◌≡◌, cond, ltb, List, [], ◌∷◌, ◌++◌, length}
use Rattle.octets.specs.Numbers.{quad_of, Octets}
use Rattle.octets_checksum.specs.Checksum.{blanked, checksum_of, word_total, folded}

-- the plain sum of the 32-bit words of a list of octets, a last word of one, two or three octets filled up with zeros
unfoldable pub wide_total : List ℕ → ℕ
wide_total [] = 0
wide_total (a ∷ []) = quad_of a 0 0 0
wide_total (a ∷ b ∷ []) = quad_of a b 0 0
wide_total (a ∷ b ∷ c ∷ []) = quad_of a b c 0
wide_total (a ∷ b ∷ c ∷ d ∷ rest) = quad_of a b c d + wide_total rest

-- what a sum on the way is kept as, so that 64 bits have room for the next words: itself, and folded from 2^63 on
unfoldable pub kept_sum : ℕ → ℕ
kept_sum sum = cond (ltb sum 9223372036854775808) sum (folded sum)

-- The law that carries the change: the sum of the 32-bit words and that of the 16-bit words agree modulo 65,535 and
-- are 0 together. So they fold to the same, and the sum of the 32-bit words, folded once, gives 01's checksum of
-- every message.
pub record WideLaws : Type 0 where
  pub modulo : (octets : List ℕ) → wide_total octets % 65535 ≡ word_total octets % 65535
  pub zero_wide : (octets : List ℕ) → word_total octets ≡ 0 → wide_total octets ≡ 0
  pub zero_words : (octets : List ℕ) → wide_total octets ≡ 0 → word_total octets ≡ 0
  pub fold : (octets : List ℕ) → folded (wide_total octets) ≡ folded (word_total octets)
  pub checksum : (message : List ℕ) → Octets message → 65535 - folded (wide_total (blanked message)) ≡ checksum_of message

-- "At every length up to 2,048, odd ones included": no sum on the way is folded, and the last one's fold is 01's; of
-- a length that leaves 1, 2 or 3 by 4 the last octets are the upper ones of one more word.
pub record EveryLength : Type 0 where
  pub unfolded : (message : List ℕ) → Octets message → length message ≤ 2048
      → (sum : ℕ) → sum ≤ wide_total (blanked message) → kept_sum sum ≡ sum
  pub equal : (n : ℕ) → n ≤ 2048 → (message : List ℕ) → length message ≡ n → Octets message
      → checksum_of message ≡ 65535 - folded (wide_total (blanked message))
  pub none : (k : ℕ) → 4 * k ≤ 2048 → (message : List ℕ) → length message ≡ 4 * k → Octets message
      → checksum_of message ≡ 65535 - folded (wide_total (blanked message))
  pub one : (k : ℕ) → 2 ≤ k → 4 * k + 1 ≤ 2048 → (words : List ℕ) (a : ℕ) → length words ≡ 4 * k → Octets (words ++ (a ∷ []))
      → checksum_of (words ++ (a ∷ [])) ≡ 65535 - folded (wide_total (blanked words) + quad_of a 0 0 0)
  pub two : (k : ℕ) → 2 ≤ k → 4 * k + 2 ≤ 2048 → (words : List ℕ) (a b : ℕ) → length words ≡ 4 * k → Octets (words ++ (a ∷ b ∷ []))
      → checksum_of (words ++ (a ∷ b ∷ [])) ≡ 65535 - folded (wide_total (blanked words) + quad_of a b 0 0)
  pub three : (k : ℕ) → 2 ≤ k → 4 * k + 3 ≤ 2048 → (words : List ℕ) (a b c : ℕ) → length words ≡ 4 * k → Octets (words ++ (a ∷ b ∷ c ∷ []))
      → checksum_of (words ++ (a ∷ b ∷ c ∷ [])) ≡ 65535 - folded (wide_total (blanked words) + quad_of a b c 0)
