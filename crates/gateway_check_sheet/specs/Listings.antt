-- The listing's 1, 2 and 3. 01: "in a listing, also a used row's third number above 511"; "listing [buffer] at least
-- 65,536".
use Rattle.std.specs.Prelude.{ℕ, List, [], ◌∷◌, ◌++◌, replicate}
use Rattle.gateway_state.specs.declared.State.{State}
use Rattle.gateway_check_sheet.specs.Given.{ip, theirs, reporting, in_slot_two, in_idle, unsound}
use Rattle.gateway_check_sheet.specs.Line.{Line, listing}

-- the neighbour in slot 2 is in Up, with three rows
unfoldable pub listed_state : State
listed_state = in_slot_two reporting 3

-- these are the rows' third numbers; every number of a row that is not used is the last given
unfoldable pub table : ℕ → ℕ → ℕ → ℕ → List ℕ
table a b c unused =
    replicate 768 unused
    ++ (ip 10 0 0 0 ∷ theirs ∷ a ∷ ip 10 0 0 0 ∷ theirs ∷ b ∷ ip 10 0 0 0 ∷ theirs ∷ c ∷ []) ++ replicate 2295 unused

unfoldable pub listings : List Line
listings =
    -- listing 0, with any number in an unused row: behind the used ones, of a neighbour without rows, of a free slot
    listing listed_state (table 0 0 0 9999) 65536 0 326 ∷
    -- listing 1: "state not well formed"
    listing unsound (replicate 3072 0) 65536 1 0 ∷
    -- listing 2: "table not 3,072 numbers"
    listing in_idle (replicate 3071 0) 65536 2 0 ∷
    listing in_idle (replicate 3073 0) 65536 2 0 ∷
    listing in_idle [] 65536 2 0 ∷
    -- listing 2: "a used row's third number above 511", of any row
    listing listed_state (table 511 256 255 0) 65536 0 330 ∷
    listing listed_state (table 512 0 0 0) 65536 2 0 ∷
    listing listed_state (table 0 512 0 0) 65536 2 0 ∷
    listing listed_state (table 0 0 512 0) 65536 2 0 ∷
    listing listed_state (table 0 0 4294967295 0) 65536 2 0 ∷
    -- listing 3: "listing buffer too short"
    listing in_idle (replicate 3072 0) 65535 3 0 ∷
    listing in_idle (replicate 3072 0) 2048 3 0 ∷
    listing in_idle (replicate 3072 0) 0 3 0 ∷
    -- listing 1/2
    listing unsound (replicate 3071 0) 65536 1 0 ∷
    -- listing 2/3
    listing in_idle (replicate 3071 0) 65535 2 0 ∷
    listing listed_state (table 512 0 0 0) 65535 2 0 ∷
    -- listing: all at once
    listing unsound (replicate 3071 0) 0 1 0 ∷
    []
