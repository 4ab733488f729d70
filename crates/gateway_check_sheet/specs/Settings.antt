-- 16 from fresh and add, and the slot that add takes.
use Rattle.std.specs.Prelude.{List, [], ◌∷◌}
use Rattle.gateway_check_sheet.specs.Given.{ip, common, ours, theirs, others, nobody, set, nine, nine_with, resting, reporting, slot, vacant, state, without_neighbours, nothing, in_idle, in_up}
use Rattle.gateway_check_sheet.specs.Line.{Line, fresh, add}

-- 01: "Fresh refuses 16 for own AS 0, capability above 2, a common net that isn't a left-justified class A, B or C net,
-- or an own address off that net; it then returns the all-zero state"; "Add refuses 16 for AS 0 or own AS, or an
-- address that is 0, our own or present."
unfoldable pub setting_lines : List Line
setting_lines =
    -- fresh: "own AS 0"
    fresh (set 0 ours 0 common) 16 nothing ∷
    fresh (set 1 ours 0 common) 0 (without_neighbours (set 1 ours 0 common)) ∷
    fresh (set 65535 ours 0 common) 0 (without_neighbours (set 65535 ours 0 common)) ∷
    -- fresh: "capability above 2"
    fresh (set 9 ours 1 common) 0 (without_neighbours (set 9 ours 1 common)) ∷
    fresh (set 9 ours 2 common) 0 (without_neighbours (set 9 ours 2 common)) ∷
    fresh (set 9 ours 3 common) 16 nothing ∷
    fresh (set 9 ours 255 common) 16 nothing ∷
    -- fresh: `quiet` "is 0 or 1 (anything else is 16 from fresh ..)"
    fresh (nine_with 0) 0 (without_neighbours (set 9 ours 0 common)) ∷
    fresh (nine_with 1) 0 (without_neighbours (nine_with 1)) ∷
    fresh (nine_with 2) 16 nothing ∷
    fresh (nine_with 255) 16 nothing ∷
    -- fresh: "a left-justified class A .. net"; 0.0.0.0 is one, and own address 0 is on it
    fresh (set 9 0 0 0) 0 (without_neighbours (set 9 0 0 0)) ∷
    fresh (set 9 (ip 0 255 255 255) 0 0) 0 (without_neighbours (set 9 (ip 0 255 255 255) 0 0)) ∷
    fresh (set 9 (ip 127 0 0 1) 0 (ip 127 0 0 0)) 0 (without_neighbours (set 9 (ip 127 0 0 1) 0 (ip 127 0 0 0))) ∷
    fresh (set 9 (ip 127 0 0 1) 0 (ip 127 0 0 1)) 16 nothing ∷
    fresh (set 9 (ip 127 1 0 1) 0 (ip 127 1 0 0)) 16 nothing ∷
    fresh (set 9 1 0 1) 16 nothing ∷
    -- fresh: "B"
    fresh (set 9 (ip 128 0 0 1) 0 (ip 128 0 0 0)) 0 (without_neighbours (set 9 (ip 128 0 0 1) 0 (ip 128 0 0 0))) ∷
    fresh (set 9 (ip 191 255 0 1) 0 (ip 191 255 0 0)) 0 (without_neighbours (set 9 (ip 191 255 0 1) 0 (ip 191 255 0 0))) ∷
    fresh (set 9 (ip 191 255 1 1) 0 (ip 191 255 1 0)) 16 nothing ∷
    fresh (set 9 (ip 191 255 0 1) 0 (ip 191 255 0 1)) 16 nothing ∷
    -- fresh: "C"
    fresh (set 9 (ip 192 0 0 1) 0 (ip 192 0 0 0)) 0 (without_neighbours (set 9 (ip 192 0 0 1) 0 (ip 192 0 0 0))) ∷
    fresh (set 9 (ip 223 255 255 1) 0 (ip 223 255 255 0)) 0 (without_neighbours (set 9 (ip 223 255 255 1) 0 (ip 223 255 255 0))) ∷
    fresh (set 9 (ip 223 255 255 1) 0 (ip 223 255 255 1)) 16 nothing ∷
    -- fresh: others are bad
    fresh (set 9 (ip 224 0 0 1) 0 (ip 224 0 0 0)) 16 nothing ∷
    fresh (set 9 (ip 240 0 0 1) 0 (ip 240 0 0 0)) 16 nothing ∷
    fresh (set 9 (ip 255 255 255 255) 0 (ip 255 255 255 255)) 16 nothing ∷
    -- fresh: "an own address off that net"; its first and its last address are on it
    fresh (set 9 (ip 128 9 0 0) 0 common) 0 (without_neighbours (set 9 (ip 128 9 0 0) 0 common)) ∷
    fresh (set 9 (ip 128 9 255 255) 0 common) 0 (without_neighbours (set 9 (ip 128 9 255 255) 0 common)) ∷
    fresh (set 9 (ip 128 8 255 255) 0 common) 16 nothing ∷
    fresh (set 9 (ip 128 10 0 0) 0 common) 16 nothing ∷
    fresh (set 9 0 0 common) 16 nothing ∷
    fresh (set 9 (ip 10 255 255 255) 0 (ip 10 0 0 0)) 0 (without_neighbours (set 9 (ip 10 255 255 255) 0 (ip 10 0 0 0))) ∷
    fresh (set 9 (ip 11 0 0 0) 0 (ip 10 0 0 0)) 16 nothing ∷
    fresh (set 9 (ip 192 5 6 255) 0 (ip 192 5 6 0)) 0 (without_neighbours (set 9 (ip 192 5 6 255) 0 (ip 192 5 6 0))) ∷
    fresh (set 9 (ip 192 5 7 0) 0 (ip 192 5 6 0)) 16 nothing ∷
    -- add: "AS 0 or own AS"; two neighbours may have one
    add in_idle nobody 0 16 in_idle ∷
    add in_idle nobody 9 16 in_idle ∷
    add in_idle nobody 1 0 (state nine (slot others 12 resting 0) (slot nobody 1 resting 0) (slot theirs 7 resting 0) vacant vacant vacant vacant vacant) ∷
    add in_idle nobody 8 0 (state nine (slot others 12 resting 0) (slot nobody 8 resting 0) (slot theirs 7 resting 0) vacant vacant vacant vacant vacant) ∷
    add in_idle nobody 10 0 (state nine (slot others 12 resting 0) (slot nobody 10 resting 0) (slot theirs 7 resting 0) vacant vacant vacant vacant vacant) ∷
    add in_idle nobody 7 0 (state nine (slot others 12 resting 0) (slot nobody 7 resting 0) (slot theirs 7 resting 0) vacant vacant vacant vacant vacant) ∷
    add in_idle nobody 65535 0 (state nine (slot others 12 resting 0) (slot nobody 65535 resting 0) (slot theirs 7 resting 0) vacant vacant vacant vacant vacant) ∷
    -- add: "an address that is 0, our own or present"
    add in_idle 0 8 16 in_idle ∷
    add in_idle ours 8 16 in_idle ∷
    add in_idle theirs 8 16 in_idle ∷
    add in_idle others 8 16 in_idle ∷
    add in_idle (ip 128 9 0 2) 8 0 (state nine (slot others 12 resting 0) (slot (ip 128 9 0 2) 8 resting 0) (slot theirs 7 resting 0) vacant vacant vacant vacant vacant) ∷
    -- add: an address off the net, or of no class, is good
    add in_idle 1 8 0 (state nine (slot others 12 resting 0) (slot 1 8 resting 0) (slot theirs 7 resting 0) vacant vacant vacant vacant vacant) ∷
    add in_idle (ip 10 0 0 1) 8 0 (state nine (slot others 12 resting 0) (slot (ip 10 0 0 1) 8 resting 0) (slot theirs 7 resting 0) vacant vacant vacant vacant vacant) ∷
    add in_idle (ip 224 0 0 1) 8 0 (state nine (slot others 12 resting 0) (slot (ip 224 0 0 1) 8 resting 0) (slot theirs 7 resting 0) vacant vacant vacant vacant vacant) ∷
    add in_idle (ip 255 255 255 255) 8 0 (state nine (slot others 12 resting 0) (slot (ip 255 255 255 255) 8 resting 0) (slot theirs 7 resting 0) vacant vacant vacant vacant vacant) ∷
    -- add: "It takes the lowest free slot": 0 of eight, 0 before a used one, 1 and not 3
    add (without_neighbours nine) theirs 7 0 (state nine (slot theirs 7 resting 0) vacant vacant vacant vacant vacant vacant vacant) ∷
    add (state nine vacant (slot theirs 7 resting 0) vacant vacant vacant vacant vacant vacant) nobody 8 0
    (state nine (slot nobody 8 resting 0) (slot theirs 7 resting 0) vacant vacant vacant vacant vacant vacant) ∷
    add in_up nobody 8 0
    (state nine (slot others 12 resting 0) (slot nobody 8 resting 0) (slot theirs 7 reporting 2) vacant vacant vacant vacant vacant) ∷
    []
