-- Laws of the octets of a net and of a host, stored one by one. Assumes nothing.
use Prim.Native.Nat.{ℕ, suc, ◌+◌, ◌/◌, ◌%◌}
use native.Mathlib.Numerals.{add-one}
use native.Mathlib.Omega.{arith}
use mathlib.Core.Path.{◌≡◌, refl}
use mathlib.Core.List.{List, [], ◌∷◌}
use lib.ListN.{set}
use Rattle.octets.specs.Numbers.{octets32}
use Rattle.octets.specs.Written.{Written}
use Rattle.nets.specs.Classes.{width_of}
use Rattle.update_writing.specs.Blocks.{address_octets, net_octets, host_octets}

-- the octets of a net or a host by the width that was computed
module _ (net width : ℕ) (e : width ≡ width_of net) where
  pub net_three : width ≡ 3 → net_octets net ≡ net / 16777216 % 256 ∷ net / 65536 % 256 ∷ net / 256 % 256 ∷ []
  unfolding net_octets address_octets
  net_three w = rw (← e, w)

  pub net_two : width ≡ 2 → net_octets net ≡ net / 16777216 % 256 ∷ net / 65536 % 256 ∷ []
  unfolding net_octets address_octets
  net_two w = rw (← e, w)

  pub net_one : width ≡ 1 → net_octets net ≡ net / 16777216 % 256 ∷ []
  unfolding net_octets address_octets
  net_one w = rw (← e, w)

  pub net_none : width ≡ 0 → net_octets net ≡ []
  unfolding net_octets address_octets
  net_none w = rw (← e, w)

  module _ (gateway : ℕ) where
    pub host_one : width ≡ 3 → host_octets net gateway ≡ gateway % 256 ∷ []
    unfolding host_octets address_octets
    host_one w = rw (← e, w)

    pub host_two : width ≡ 2 → host_octets net gateway ≡ gateway / 256 % 256 ∷ gateway % 256 ∷ []
    unfolding host_octets address_octets
    host_two w = rw (← e, w)

    pub host_three : width ≡ 1 → host_octets net gateway ≡ gateway / 65536 % 256 ∷ gateway / 256 % 256 ∷ gateway % 256 ∷ []
    unfolding host_octets address_octets
    host_three w = rw (← e, w)

    pub host_four : width ≡ 0 → host_octets net gateway ≡ octets32 gateway []
    unfolding host_octets address_octets
    host_four w = rw (← e, w)

-- a few octets stored one by one
pub stored_two : (a b at : ℕ) (old : List ℕ) → Written (a ∷ b ∷ []) at old (set (set old at a) (at + 1) b) (at + 2)
stored_two a b at old = record { list = rw (add-one at); after = refl }

pub stored_three : (a b c at : ℕ) (old : List ℕ) → Written (a ∷ b ∷ c ∷ []) at old (set (set (set old at a) (at + 1) b) (at + 2) c) (at + 3)
stored_three a b c at old = let e : at + 2 ≡ suc (suc at) = omega arith in record { list = rw (add-one at, e); after = refl }
