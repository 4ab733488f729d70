-- 4,118 octets of a line are enough to read it by: a longer one is bad, and so is its front. Assumes nothing.
use Prim.Native.Nat.{ℕ, ◌≤◌, ◌<◌}
use native.Mathlib.Omega.{arith}
use mathlib.Core.Path.{◌≡◌, refl, sym, ap, ◌∙◌}
use mathlib.Core.Bool.{Bool, true, false}
use mathlib.Core.List.{List}
use lib.Dec.{leb}
use lib.ListN.{length, take}
use lib.Seq.{take_all, length-take-le}
use borrow.Author.Tests.{leb-true, leb-false}
use Rattle.std.specs.Prelude.{Option, Some, None}
use Rattle.recording_lines.specs.Lines.{Event, bad, add, remove, start, stop, tick, rx, event_of}
use Rattle.recording_lines.specs.Claims.{is_good, Setting}
use Rattle.recording_lines.proofs.Events.{events}

-- what is none of any line above 4,117 octets
module _ {A : Type 0} (read : List ℕ → A) (none : A) (long : (line : List ℕ) → 4117 < length line → read line ≡ none) where
  pub read_short : (line : List ℕ) → read (take 4118 line) ≡ read line
  read_short line = go (leb (length line) 4118) refl
    where
      go : (b : Bool) → leb (length line) 4118 ≡ b → read (take 4118 line) ≡ read line
      go true e = ap read (take_all 4118 line (leb-true (length line) 4118 e))
      go false e =
          let k : 4118 ≤ length line = omega (arith, leb-false (length line) 4118 e) in
          long (take 4118 line) (omega (arith, length-take-le 4118 line k)) ∙ sym (long line (omega (arith, k)))

event_long : (line : List ℕ) → 4117 < length line → event_of line ≡ bad
unfolding is_good
event_long line k = go (event_of line) (events.longest line)
  where
    go : (e : Event) → (is_good e ≡ true → length line ≤ 4117) → e ≡ bad
    go bad h = refl
    go (add a asn) h = absurd (omega (arith, h refl))
    go (remove a) h = absurd (omega (arith, h refl))
    go (start a) h = absurd (omega (arith, h refl))
    go (stop a) h = absurd (omega (arith, h refl))
    go (tick a count) h = absurd (omega (arith, h refl))
    go (rx a octets) h = absurd (omega (arith, h refl))

pub event_short : (line : List ℕ) → event_of (take 4118 line) ≡ event_of line
event_short = read_short event_of bad event_long

module _ (read : List ℕ → Option ℕ) (key : List ℕ) (value : ℕ → List ℕ) (most : ℕ) (s : Setting read key value most) where
  number_long : (line : List ℕ) → 4117 < length line → read line ≡ None
  number_long line k = go (read line) (λ n. s.longest n line)
    where
      go : (r : Option ℕ) → ((n : ℕ) → r ≡ Some n → length line ≤ 4117) → r ≡ None
      go None h = refl
      go (Some n) h = absurd (omega (arith, h n refl))

  pub number_short : (line : List ℕ) → read (take 4118 line) ≡ read line
  number_short = read_short read None number_long
