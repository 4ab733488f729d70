-- The worked listings compute. Assumes nothing.
use Prim.Native.Nat.{ℕ, zero, suc, ◌/◌, ◌%◌, ◌^◌, ◌<◌}
use native.Mathlib.Omega.{arith}
use borrow.Author.Tests.{lt-ltb, ltb-true, ltb-false}
use mathlib.Core.Bool.{Bool, true, false}
use mathlib.Core.Path.{◌≡◌, refl, ap, ◌∙◌}
use mathlib.Core.List.{List, [], ◌∷◌, ◌++◌}
use lib.Dec.{ltb}
use lib.ListN.{length}
use Rattle.checks.specs.Lists.{join}
use Rattle.text.specs.Text.{text, digit, digits, decimal, line}
use Rattle.text.proofs.Laws.{decimal_one, decimal_more}
use Rattle.listing_lines.specs.Lines.{seconds_lines}
use Rattle.neighbour_seconds.specs.Cases.{seconds}
use Rattle.listing_lines.specs.Cases.{ListingCases}
use Rattle.listing_lines.proofs.Unfolded.{opened}

-- computed, `decimal` would go down from the number one by one: with as many digits as it has, it goes down digit by digit
decimal_short : (k n : ℕ) → n < 10 ^ suc k → decimal n ≡ digits (suc k) n
unfolding digits
decimal_short zero n h = rw (lt-ltb n 10 (omega arith)) (decimal_one n (omega arith))
decimal_short (suc k) n h = go (ltb n 10) refl (decimal_short k (n / 10))
  where
    go : (t : Bool) → ltb n 10 ≡ t → (n / 10 < 10 ^ suc k → decimal (n / 10) ≡ digits (suc k) (n / 10)) → decimal n ≡ digits (suc (suc k)) n
    go true e r = rw e (decimal_one n (ltb-true n 10 e))
    go false e r = rw e (decimal_more n (ltb-false n 10 e) ∙ ap (λ (l : List ℕ). l ++ (digit (n % 10) ∷ [])) (r (omega arith)))

large_is : join (seconds_lines (seconds 4294967290 0 3 0 2)) ≡ text "sidle=4294967290\nsacq=0\nsdown=3\nsup=0\nscease=2\n"
unfolding join seconds_lines line text digits digit
large_is = rw (decimal_short 9 4294967290 (omega arith), decimal_short 0 0 (omega arith), decimal_short 0 3 (omega arith), decimal_short 0 2 (omega arith))

longest_is :
    join (seconds_lines (seconds 1000000000 1000000001 1000000002 1000000003 294967289))
    ≡ text "sidle=1000000000\nsacq=1000000001\nsdown=1000000002\nsup=1000000003\nscease=294967289\n"
unfolding join seconds_lines line text digits digit
longest_is =
    rw (decimal_short 9 1000000000 (omega arith), decimal_short 9 1000000001 (omega arith), decimal_short 9 1000000002 (omega arith), decimal_short 9 1000000003 (omega arith), decimal_short 8 294967289 (omega arith))

length_is : length (join (seconds_lines (seconds 1000000000 1000000001 1000000002 1000000003 294967289))) ≡ 82
unfolding text
length_is = ap length longest_is

pub cases : ListingCases
unfolding opened
cases =
    record {
      formed_u = refl;
      text_u = refl;
      length_u = refl;
      formed_mixed = refl;
      long_mixed = refl;
      text_mixed = refl;
      large = large_is;
      longest = longest_is;
      length_longest = length_is;
      passed = λ buffer e. rw e;
      marked = refl;
      tabled = λ buffer. refl;
      roomy = λ buffer e. rw e;
      unformed = refl;
      outcome_u = λ buffer e. rw e;
      buffer_u = λ buffer e. rw e;
      outcome_refused = refl;
      buffer_refused = refl;
    }
