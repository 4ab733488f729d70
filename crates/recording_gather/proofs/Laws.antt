-- The loop of `gather`: what is left of the piece, from the state reached, gives what the whole gives. Assumes nothing.
use Prim.Native.Nat.{ℕ, zero-le, ◌+◌, ◌≤◌, ◌<◌}
use native.Mathlib.Numerals.{add-one}
use native.Mathlib.Omega.{arith}
use mathlib.Core.Path.{◌≡◌, refl, sym, ap, ◌∙◌}
use mathlib.Core.Bool.{true, false}
use mathlib.Core.List.{List, ◌++◌, append-nil}
use lib.ListN.{length, take, drop, set, get_or, length-set, drop_of_length-le}
use lib.Seq.{drop-cons, sets, sets-eq, length-take-le}
use borrow.Author.Tests.{eq-eqb, ne_eqb}
use Rattle.recording_gather.specs.declared.Gathered.{Gathered}
use Rattle.recording_gather.specs.Gathering.{longer, gathered, line_after}

-- from the buffer `old` with `held` octets of the line: the buffer, the octets held and those used by now
pub record Gathering (old : List ℕ) (held : ℕ) (input line : List ℕ) (size used : ℕ) : Type 0 where
  pub some : used ≤ length input
  pub small : size < 65536
  pub long : length line ≡ length old
  pub answer : gathered 0 held input ≡ gathered used size (drop used input)
  pub buffer : line_after held old input ≡ line_after size line (drop used input)

-- what is answered, and what the buffer holds then
abbrev pub Answered : List ℕ → ℕ → List ℕ → Gathered → List ℕ → Type 0
Answered old held input r line = (r ≡ gathered 0 held input) × (line ≡ line_after held old input)

pub begins : (old : List ℕ) (held : ℕ) (input : List ℕ) → held < 65536 → Gathering old held input old held 0
begins old held input h = record { some = zero-le; small = h; long = refl; answer = refl; buffer = refl }

module _ {old : List ℕ} {held : ℕ} {input line : List ℕ} {size used : ℕ} (g : Gathering old held input line size used) where
  -- octet 10 ends the line
  pub ends : used < length input → get_or input used 0 ≡ 10 → Answered old held input record { used = used + 1; held = size; ended = true } line
  unfolding gathered line_after
  ends h e = (
    sym (g.answer ∙ rw (add-one, drop-cons input used 0 h, eq-eqb (get_or input used 0) 10 e)),
    sym (g.buffer ∙ rw (drop-cons input used 0 h, eq-eqb (get_or input used 0) 10 e)),
  )

  -- any other goes on the line
  pub goes_on : used < length input → (get_or input used 0 ≡ 10 → ⊥) → (more : ℕ) (new : List ℕ) → more < 65536 → more ≡ longer size
      → new ≡ set line size (get_or input used 0) → Gathering old held input new more (used + 1)
  unfolding gathered line_after
  goes_on h n more new small m l = record {
    some = omega arith;
    small = small;
    long = ap length l ∙ simp length-set g.long;
    answer = g.answer ∙ rw (add-one, drop-cons input used 0 h, ne_eqb (get_or input used 0) 10 n, m);
    buffer = g.buffer ∙ rw (add-one, drop-cons input used 0 h, ne_eqb (get_or input used 0) 10 n, m, l);
  }

  -- the piece is used up
  pub used_up_lem : length input ≤ used → Answered old held input record { used = length input; held = size; ended = false } line
  unfolding gathered line_after
  used_up_lem h =
      let e : length input ≡ used = omega arith in
      (sym (g.answer ∙ rw (e, drop_of_length-le input h)), sym (g.buffer ∙ rw (drop_of_length-le input h)))

-- ---- put together outside the lent buffer

-- the front of a buffer that has room for the longest line, copied over another of that size
module _ (line whole : List ℕ) (h : 4118 ≤ length line) (k : length whole ≡ 4118) where
  pub front_fits : 0 + length (take 4118 line) ≤ length whole
  front_fits = omega (arith, length-take-le 4118 line h)

  front_copied : sets whole 0 (take 4118 line) ≡ take 4118 line
  front_copied =
      let n : length (take 4118 line) ≡ 4118 = length-take-le 4118 line h in
      let e : length whole ≤ 0 + length (take 4118 line) = omega arith in
      sets-eq (take 4118 line) whole 0 front_fits ∙ ap (λ (r : List ℕ). take 4118 line ++ r) (drop_of_length-le whole e) ∙ append-nil (take 4118 line)

  pub joined : (held : ℕ) (input copied new : List ℕ) → copied ≡ sets whole 0 (take 4118 line) → new ≡ line_after held copied input
      → new ≡ line_after held (take 4118 line) input
  joined held input copied new e f = f ∙ ap (λ (l : List ℕ). line_after held l input) (e ∙ front_copied)
