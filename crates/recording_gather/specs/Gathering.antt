-- Gathering a line from pieces: what of a piece is used, how long the line is by then, and what the lent buffer holds.
use Rattle.std.specs.Prelude.{ℕ, suc, true, false, cond, List, [], ◌∷◌, leb, ltb, eqb, length, take, set}
use Rattle.recording_gather.specs.declared.Gathered.{Gathered}

-- one octet more; from 4,118 on, one more than the longest good line has, they are not counted
unfoldable pub longer : ℕ → ℕ
longer held = cond (ltb held 4118) (suc held) held

-- up to octet 10, which ends the line and is not of it, or to the end of the piece; so many octets were used before
unfoldable pub gathered : ℕ → ℕ → List ℕ → Gathered
gathered used held [] = record { used = used; held = held; ended = false }
gathered used held (octet ∷ rest) =
    cond (eqb octet 10) (record { used = suc used; held = held; ended = true }) (gathered (suc used) (longer held) rest)

-- each octet of the line stands behind those held before, where the buffer has room
unfoldable pub line_after : ℕ → List ℕ → List ℕ → List ℕ
line_after held line [] = line
line_after held line (octet ∷ rest) = cond (eqb octet 10) line (line_after (longer held) (set line held octet) rest)

-- the line that is held; none where the buffer was too short for it
unfoldable pub line_held : ℕ → List ℕ → List ℕ
line_held held line = cond (leb held (length line)) (take held line) []
