-- The order of checks, and what a call leaves.
use Rattle.std.specs.Prelude.{ℕ, Bool, cond, eqb}

-- 01: "Checks go in this order; the first that fails answers": this number where the test fails, else what the rest says
unfoldable pub check : Bool → ℕ → ℕ → ℕ
check ok number rest = cond ok rest number

-- what a call leaves: the new where it answers 0, "the call was carried out", else the old
unfoldable pub if_ok : {A : Type 0} → ℕ → A → A → A
if_ok answer new old = cond (eqb answer 0) new old
