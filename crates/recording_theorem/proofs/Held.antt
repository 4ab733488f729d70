-- The line that is coming in: the lent buffer holds its first 4,118 octets, however it is cut into pieces. Assumes
-- nothing.
use Prim.Native.Nat.{ℕ, suc, ◌+◌, ◌≤◌, ◌<◌, min, zero-le, suc-le-suc}
use native.Mathlib.Nat.{le_refl}
use native.Mathlib.Omega.{arith}
use mathlib.Core.Path.{◌≡◌, refl, sym, ap, ◌∙◌}
use mathlib.Core.Bool.{Bool, true, false, cond}
use mathlib.Core.List.{List, [], ◌∷◌, ◌++◌}
use lib.Dec.{ltb, eqb}
use lib.ListN.{length, take, drop, set, length-append, length-set}
use lib.Seq.{take_all, take-append-le, take-suc-set, take-set-le, take-take, length-take-le}
use borrow.Author.Tests.{ltb-true, ltb-false, le-leb}
use Rattle.checks.proofs.Laws.{cond_elim}
use Rattle.recording_gather.specs.declared.Gathered.{Gathered}
use Rattle.recording_gather.specs.Gathering.{longer, gathered, line_after, line_held}
use Rattle.recording_theorem.specs.Output.{RecordedLine, ended, lines_from}

-- ---- what is gathered, one octet after the other

later : Gathered → Gathered
later g = record { used = suc g.used; held = g.held; ended = g.ended }

used_later : (used count : ℕ) (piece : List ℕ) → gathered (suc used) count piece ≡ later (gathered used count piece)
unfolding gathered later
used_later used count [] = refl
used_later used count (octet ∷ rest) = go (eqb octet 10) (used_later (suc used) (longer count) rest)
  where
    go : (b : Bool) → gathered (suc (suc used)) (longer count) rest ≡ later (gathered (suc used) (longer count) rest)
        → cond b (record { used = suc (suc used); held = count; ended = true }) (gathered (suc (suc used)) (longer count) rest)
        ≡ later (cond b (record { used = suc used; held = count; ended = true }) (gathered (suc used) (longer count) rest))
    go true h = refl
    go false h = h

module _ (count octet : ℕ) (rest : List ℕ) where
  gathered_end : eqb octet 10 ≡ true → gathered 0 count (octet ∷ rest) ≡ record { used = 1; held = count; ended = true }
  unfolding gathered
  gathered_end e = rw e

  gathered_more : eqb octet 10 ≡ false → gathered 0 count (octet ∷ rest) ≡ later (gathered 0 (longer count) rest)
  unfolding gathered
  gathered_more e = rw e (used_later 0 (longer count) rest)

-- ---- the octets used

pub used_most : (count : ℕ) (piece : List ℕ) → (gathered 0 count piece).used ≤ length piece
unfolding gathered later
used_most count [] = zero-le
used_most count (octet ∷ rest) = go (eqb octet 10) refl (used_most (longer count) rest)
  where
    go : (b : Bool) → eqb octet 10 ≡ b → (gathered 0 (longer count) rest).used ≤ length rest → (gathered 0 count (octet ∷ rest)).used ≤ suc (length rest)
    go true e h = rw (gathered_end count octet rest e) (suc-le-suc zero-le)
    go false e h = rw (gathered_more count octet rest e) (suc-le-suc h)

pub used_some : (count octet : ℕ) (rest : List ℕ) → 1 ≤ (gathered 0 count (octet ∷ rest)).used
unfolding later
used_some count octet rest = go (eqb octet 10) refl
  where
    go : (b : Bool) → eqb octet 10 ≡ b → 1 ≤ (gathered 0 count (octet ∷ rest)).used
    go true e = rw (gathered_end count octet rest e) (le_refl 1)
    go false e = rw (gathered_more count octet rest e) (suc-le-suc zero-le)

-- ---- the line with all its octets, and the lines of the recording behind it

unfoldable pub line_in : List ℕ → List ℕ → List ℕ
line_in held [] = held
line_in held (octet ∷ rest) = cond (eqb octet 10) held (line_in (held ++ (octet ∷ [])) rest)

-- the lines of what was held, a piece and what is left: a line that the piece ends, or a longer one
unfoldable pub lines_after : List ℕ → ℕ → List ℕ → List ℕ → List RecordedLine
lines_after held count piece left =
    cond (gathered 0 count piece).ended (ended (line_in held piece) ∷ lines_from [] (drop (gathered 0 count piece).used piece ++ left))
    (lines_from (line_in held piece) (drop (gathered 0 count piece).used piece ++ left))

pub lines_after_lem : (held : List ℕ) (count : ℕ) (piece left : List ℕ) → lines_from held (piece ++ left) ≡ lines_after held count piece left
unfolding gathered lines_after lines_from line_in later
lines_after_lem held count [] left = refl
lines_after_lem held count (octet ∷ rest) left = go (eqb octet 10) refl (lines_after_lem (held ++ (octet ∷ [])) (longer count) rest left)
  where
    go : (b : Bool) → eqb octet 10 ≡ b → lines_from (held ++ (octet ∷ [])) (rest ++ left) ≡ lines_after (held ++ (octet ∷ [])) (longer count) rest left
        → lines_from held (octet ∷ (rest ++ left)) ≡ lines_after held count (octet ∷ rest) left
    go true e h = rw e
    go false e h = rw (gathered_more count octet rest e, e) h

-- ---- what the buffer holds

pub record Holds (held : List ℕ) (count : ℕ) (buffer : List ℕ) : Type 0 where
  pub room : 4118 ≤ length buffer
  pub counted : count ≡ min (length held) 4118
  pub front : take count buffer ≡ take 4118 held

pub holds_none : (buffer : List ℕ) → 4118 ≤ length buffer → Holds [] 0 buffer
holds_none buffer h = record { room = h; counted = refl; front = refl }

module _ (held : List ℕ) (octet count : ℕ) (buffer : List ℕ) (h : Holds held count buffer) where
  one_longer : length (held ++ (octet ∷ [])) ≡ length held + 1
  one_longer = length-append held (octet ∷ [])

  holds_room : 4118 ≤ length (set buffer count octet)
  holds_room = omega (arith, length-set buffer count octet, h.room)

  -- there is room for one more
  short_front : count < 4118 → take (suc count) (set buffer count octet) ≡ take 4118 (held ++ (octet ∷ []))
  short_front k =
      take-suc-set buffer count octet (omega (arith, h.room)) ∙ ap (λ (l : List ℕ). l ++ (octet ∷ [])) (h.front ∙ take_all 4118 held (omega (arith, h.counted)))
      ∙ sym (take_all 4118 (held ++ (octet ∷ [])) (omega (arith, one_longer, h.counted)))

  -- there is none, and what is behind does not matter
  long_front : 4118 ≤ count → take count (set buffer count octet) ≡ take 4118 (held ++ (octet ∷ []))
  long_front k =
      take-set-le count buffer count octet (le_refl count) ∙ h.front
      ∙ sym (take-append-le 4118 held (octet ∷ []) (omega (arith, h.counted)))

  holds_longer : Holds (held ++ (octet ∷ [])) (longer count) (set buffer count octet)
  unfolding longer
  holds_longer =
      cond_elim (λ (n : ℕ). Holds (held ++ (octet ∷ [])) n (set buffer count octet)) (ltb count 4118) (suc count) count
      (λ e. record {
        room = holds_room;
        counted = omega (arith, ltb-true count 4118 e, one_longer, h.counted);
        front = short_front (ltb-true count 4118 e);
      })
      (λ e. record {
        room = holds_room;
        counted = omega (arith, ltb-false count 4118 e, one_longer, h.counted);
        front = long_front (ltb-false count 4118 e);
      })

pub holds_piece : (held : List ℕ) (count : ℕ) (buffer piece : List ℕ) → Holds held count buffer
    → Holds (line_in held piece) (gathered 0 count piece).held (line_after count buffer piece)
unfolding gathered line_in line_after later
holds_piece held count buffer [] h = h
holds_piece held count buffer (octet ∷ rest) h =
    go (eqb octet 10) refl (holds_piece (held ++ (octet ∷ [])) (longer count) (set buffer count octet) rest (holds_longer held octet count buffer h))
  where
    go : (b : Bool) → eqb octet 10 ≡ b
        → Holds (line_in (held ++ (octet ∷ [])) rest) (gathered 0 (longer count) rest).held (line_after (longer count) (set buffer count octet) rest)
        → Holds (line_in held (octet ∷ rest)) (gathered 0 count (octet ∷ rest)).held (line_after count buffer (octet ∷ rest))
    go true e k = rw e h
    go false e k = rw (gathered_more count octet rest e, e) k

-- a line is read by what is held of it
pub holds_line : (held : List ℕ) (count : ℕ) (buffer : List ℕ) → Holds held count buffer → line_held count buffer ≡ take 4118 held
unfolding line_held
holds_line held count buffer h = rw (le-leb count (length buffer) (omega (arith, h.room, h.counted))) h.front

-- its front is enough
pub holds_front : (held : List ℕ) (count : ℕ) (buffer : List ℕ) → Holds held count buffer → Holds held count (take 4118 buffer)
holds_front held count buffer h =
    record {
      room = omega (arith, length-take-le 4118 buffer h.room);
      counted = h.counted;
      front = take-take count 4118 buffer (omega (arith, h.counted)) ∙ h.front;
    }
