-- Check 1 of a block that has one other octet than a well-formed one. 02: "states from 0 as listed, mode none, active,
-- passive 0 to 2"; "ranges still give 1".
use Rattle.std.specs.Prelude.{ℕ, Bool, true, false, List, [], ◌∷◌}
use Rattle.host_state_block.specs.Formed.{block_fits, block_in_range, block_formed}
use Rattle.host_sheet.specs.Given.{sound, changed}

-- the index and the octet there; whether every state and mode is in range, and whether the block is well formed
pub data Octet : Type 0 where
  octet : ℕ → ℕ → Bool → Bool → Octet

pub record Judged : Type 0 where
  pub fits : Bool
  pub ranged : Bool
  pub formed : Bool

unfoldable pub computed : Octet → Judged
computed (octet index value ranged formed) =
    let lent : List ℕ = changed index value sound in
    record { fits = block_fits lent; ranged = block_in_range lent; formed = block_formed lent }

unfoldable pub written : Octet → Judged
written (octet index value ranged formed) = record { fits = true; ranged = ranged; formed = formed }

unfoldable pub ranges : List Octet
ranges =
    -- nothing else: own AS is 9
    octet 1 9 true true ∷
    -- state 5 of each slot, the free one too
    octet 34 5 false false ∷
    octet 83 5 false false ∷
    octet 132 5 false false ∷
    octet 181 5 false false ∷
    octet 230 5 false false ∷
    octet 279 5 false false ∷
    octet 328 5 false false ∷
    octet 377 5 false false ∷
    -- mode 3 of each slot
    octet 35 3 false false ∷
    octet 84 3 false false ∷
    octet 133 3 false false ∷
    octet 182 3 false false ∷
    octet 231 3 false false ∷
    octet 280 3 false false ∷
    octet 329 3 false false ∷
    octet 378 3 false false ∷
    -- 255
    octet 34 255 false false ∷
    octet 132 255 false false ∷
    octet 133 255 false false ∷
    octet 378 255 false false ∷
    -- state 4 and mode 2 are let through: Cease with a cause, Up and passive; then those that other fields forbid
    octet 230 4 true true ∷
    octet 133 2 true true ∷
    octet 132 4 true false ∷
    octet 34 4 true false ∷
    octet 35 2 true false ∷
    octet 279 4 true false ∷
    octet 280 2 true false ∷
    -- "register at most 15 and heard at most 1", here of slot 3, which is Down
    octet 183 15 true true ∷
    octet 183 16 true false ∷
    octet 184 0 true true ∷
    octet 184 2 true false ∷
    -- "cause 5 or 6 in Cease"
    octet 234 5 true true ∷
    octet 234 7 true false ∷
    -- "row count at most 128", its lower octet: slot 6 has 128
    octet 327 127 true true ∷
    octet 327 129 true false ∷
    -- its higher octet
    octet 326 1 true false ∷
    -- "t1, t2, t3 at most 122, 482, 3,600; t1 and t3 at least 1 outside Idle": slot 3's
    octet 174 122 true true ∷
    octet 174 123 true false ∷
    octet 174 0 true false ∷
    octet 178 17 true false ∷
    -- "T1 is 32 to 122, T2 is 122 to 482": slot 3's
    octet 170 32 true true ∷
    octet 170 31 true false ∷
    octet 172 227 true false ∷
    -- 02, L5: "both to be at most 120": slot 3's Hello and Poll, then in Acquisition, Up and Cease
    octet 186 0 true true ∷
    octet 186 120 true true ∷
    octet 186 121 true false ∷
    octet 187 0 true true ∷
    octet 187 120 true true ∷
    octet 187 121 true false ∷
    octet 88 120 true true ∷
    octet 88 121 true false ∷
    octet 89 121 true false ∷
    octet 137 121 true false ∷
    octet 138 121 true false ∷
    octet 235 120 true true ∷
    octet 235 121 true false ∷
    octet 236 255 true false ∷
    -- "and 0 in Idle": slot 0's, and the free slot's
    octet 39 1 true false ∷
    octet 40 1 true false ∷
    octet 284 1 true false ∷
    octet 285 120 true false ∷
    -- 02, L7: "a sum of at most 4,294,967,295": slot 7 has that in Idle; one second more in each other state
    octet 387 254 true true ∷
    octet 391 1 true false ∷
    octet 395 1 true false ∷
    octet 399 1 true false ∷
    octet 403 1 true false ∷
    -- slot 6 has it in five counts, slot 4 one less in two
    octet 338 0x32 true true ∷
    octet 338 0x34 true false ∷
    octet 240 2 true true ∷
    octet 240 3 true false ∷
    octet 256 0xFE true true ∷
    octet 256 0xFF true false ∷
    -- slot 2's, by the highest octet of each count
    octet 139 0x5B true true ∷
    octet 139 0x5C true false ∷
    octet 143 0x6B true true ∷
    octet 143 0x6C true false ∷
    octet 147 0x7B true true ∷
    octet 147 0x7C true false ∷
    octet 151 0x8B true true ∷
    octet 151 0x8C true false ∷
    octet 155 0x5F true true ∷
    octet 155 0x60 true false ∷
    -- "survive Idle, and well formed now allows it": slot 0's; "free slots are all zero": slot 5's
    octet 41 255 true true ∷
    octet 60 255 true true ∷
    octet 289 1 true false ∷
    octet 293 1 true false ∷
    octet 297 1 true false ∷
    octet 301 1 true false ∷
    octet 305 1 true false ∷
    octet 286 128 true false ∷
    -- any S and R
    octet 165 255 true true ∷
    octet 168 255 true true ∷
    -- AS 0, our own AS, address 0, our own address, a present one: slot 2's
    octet 115 0 true false ∷
    octet 115 9 true false ∷
    octet 113 1 true false ∷
    octet 113 10 true false ∷
    octet 113 6 true true ∷
    -- capability above 2; common net; own address off it
    octet 6 2 true true ∷
    octet 6 3 true false ∷
    octet 10 1 true false ∷
    octet 2 10 true false ∷
    -- 02, L6: `quiet` "is 0 or 1 (anything else is .. not well formed in a state)"
    octet 11 0 true true ∷
    octet 11 1 true true ∷
    octet 11 2 true false ∷
    octet 11 255 true false ∷
    []
