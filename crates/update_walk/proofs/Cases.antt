-- Worked cases of reading an Update on 128.9.0.0, each computed; and the rows of two of them. Assumes nothing.
use Prim.Native.Nat.{ℕ}
use mathlib.Core.Path.{◌≡◌, refl}
use mathlib.Core.List.{List, [], ◌∷◌, map}
use Rattle.std.specs.Prelude.{Ok, Err}
use Rattle.checks.specs.Lists.{join}
use Rattle.nets.specs.Classes.{net_width, host_span, good_net}
use Rattle.update_walk.specs.Body.{extended, got, stop, many, left_justified, row_of_width, net_row, group_at, host_width, gateway_of, block_at, sides_at, groups_hold, blocks_hold, sides_hold, read_as, group_rows, both_sides, nothing_left, body_of, further, net_at, walked_blocks, accepted, broken_at, too_many, read_within, update_of, walked_of, walked_number}
use Rattle.update_walk.specs.Walked.{taken, group_end, group_nets}
use Rattle.update_walk.specs.declared.BodyError.TheVariants.{Broken, TooMany}

pub messages : List (List ℕ)
messages =
    -- U: 2 rows
    (2 ∷ 1 ∷ 0 ∷ 1 ∷ 179 ∷ 215 ∷ 0 ∷ 7 ∷ 0 ∷ 1 ∷ 1 ∷ 0 ∷ 128 ∷ 9 ∷ 0 ∷ 0 ∷ 0 ∷ 5 ∷ 1 ∷ 0 ∷ 2 ∷ 10 ∷ 192 ∷ 5 ∷ 6 ∷ []) ∷
    -- V: U without its last octet: broken at 24
    (2 ∷ 1 ∷ 0 ∷ 1 ∷ 179 ∷ 215 ∷ 0 ∷ 7 ∷ 0 ∷ 1 ∷ 1 ∷ 0 ∷ 128 ∷ 9 ∷ 0 ∷ 0 ∷ 0 ∷ 5 ∷ 1 ∷ 0 ∷ 2 ∷ 10 ∷ 192 ∷ 5 ∷ []) ∷
    -- a class D octet before a cut: broken at 22
    (2 ∷ 1 ∷ 0 ∷ 1 ∷ 179 ∷ 215 ∷ 0 ∷ 7 ∷ 0 ∷ 1 ∷ 1 ∷ 0 ∷ 128 ∷ 9 ∷ 0 ∷ 0 ∷ 0 ∷ 5 ∷ 1 ∷ 0 ∷ 3 ∷ 10 ∷ 224 ∷ 11 ∷ []) ∷
    -- one octet left over: broken at 25
    (2 ∷ 1 ∷ 0 ∷ 1 ∷ 179 ∷ 215 ∷ 0 ∷ 7 ∷ 0 ∷ 1 ∷ 1 ∷ 0 ∷ 128 ∷ 9 ∷ 0 ∷ 0 ∷ 0 ∷ 5 ∷ 1 ∷ 0 ∷ 2 ∷ 10 ∷ 192 ∷ 5 ∷ 6 ∷ 7 ∷ []) ∷
    -- no blocks: 0 rows
    (2 ∷ 1 ∷ 0 ∷ 1 ∷ 179 ∷ 215 ∷ 0 ∷ 7 ∷ 0 ∷ 1 ∷ 0 ∷ 0 ∷ 128 ∷ 9 ∷ 0 ∷ 0 ∷ []) ∷
    -- no blocks, one octet left over: broken at 16
    (2 ∷ 1 ∷ 0 ∷ 1 ∷ 179 ∷ 215 ∷ 0 ∷ 7 ∷ 0 ∷ 1 ∷ 0 ∷ 0 ∷ 128 ∷ 9 ∷ 0 ∷ 0 ∷ 0 ∷ []) ∷
    -- an empty block and an empty group: 0 rows
    (2 ∷ 1 ∷ 0 ∷ 1 ∷ 179 ∷ 215 ∷ 0 ∷ 7 ∷ 0 ∷ 1 ∷ 1 ∷ 1 ∷ 128 ∷ 9 ∷ 0 ∷ 0 ∷ 0 ∷ 5 ∷ 0 ∷ 0 ∷ 6 ∷ 1 ∷ 0 ∷ 0 ∷ []) ∷
    -- a block that is missing: broken at 16
    (2 ∷ 1 ∷ 0 ∷ 1 ∷ 179 ∷ 215 ∷ 0 ∷ 7 ∷ 0 ∷ 1 ∷ 0 ∷ 1 ∷ 128 ∷ 9 ∷ 0 ∷ 0 ∷ []) ∷
    -- a host that is cut: broken at 17
    (2 ∷ 1 ∷ 0 ∷ 1 ∷ 179 ∷ 215 ∷ 0 ∷ 7 ∷ 0 ∷ 1 ∷ 1 ∷ 0 ∷ 128 ∷ 9 ∷ 0 ∷ 0 ∷ 0 ∷ []) ∷
    -- a count of nets that is cut: broken at 20
    (2 ∷ 1 ∷ 0 ∷ 1 ∷ 179 ∷ 215 ∷ 0 ∷ 7 ∷ 0 ∷ 1 ∷ 1 ∷ 0 ∷ 128 ∷ 9 ∷ 0 ∷ 0 ∷ 0 ∷ 5 ∷ 1 ∷ 0 ∷ []) ∷
    -- another net: broken at 12
    (2 ∷ 1 ∷ 0 ∷ 1 ∷ 179 ∷ 215 ∷ 0 ∷ 7 ∷ 0 ∷ 1 ∷ 1 ∷ 0 ∷ 128 ∷ 9 ∷ 0 ∷ 1 ∷ 0 ∷ 5 ∷ 1 ∷ 0 ∷ 2 ∷ 10 ∷ 192 ∷ 5 ∷ 6 ∷ []) ∷
    -- a message of 15 octets: broken at 15
    (2 ∷ 1 ∷ 0 ∷ 1 ∷ 179 ∷ 215 ∷ 0 ∷ 7 ∷ 0 ∷ 1 ∷ 0 ∷ 0 ∷ 128 ∷ 9 ∷ 0 ∷ []) ∷
    []

pub cases : map (λ (m : List ℕ). walked_of (update_of 128 2148073472 m)) messages
    ≡ (Ok 2 ∷ Err (Broken 24) ∷ Err (Broken 22) ∷ Err (Broken 25) ∷ Ok 0 ∷ Err (Broken 16) ∷ Ok 0 ∷ Err (Broken 16) ∷ Err (Broken 17) ∷ Err (Broken 20) ∷ Err (Broken 12) ∷ Err (Broken 15) ∷ [])
unfolding update_of read_within walked_blocks net_at further body_of nothing_left both_sides sides_at sides_hold read_as block_at blocks_hold gateway_of host_width group_at groups_hold join net_row row_of_width left_justified many extended net_width host_span good_net messages
cases = refl

-- 01's numbers
pub case_numbers : map walked_number (Ok 2 ∷ Err (Broken 24) ∷ Err TooMany ∷ []) ≡ (0 ∷ 14 ∷ 15 ∷ [])
case_numbers = refl

-- U's two rows, internal; one row more than there is room for; a bad common net
pub case_U : update_of 128 2148073472 (2 ∷ 1 ∷ 0 ∷ 1 ∷ 179 ∷ 215 ∷ 0 ∷ 7 ∷ 0 ∷ 1 ∷ 1 ∷ 0 ∷ 128 ∷ 9 ∷ 0 ∷ 0 ∷ 0 ∷ 5 ∷ 1 ∷ 0 ∷ 2 ∷ 10 ∷ 192 ∷ 5 ∷ 6 ∷ [])
    ≡ accepted (record { net = 167772160; gateway = 2148073477; third = 0 } ∷ record { net = 3221554688; gateway = 2148073477; third = 0 } ∷ [])
unfolding update_of read_within walked_blocks net_at further body_of nothing_left both_sides sides_at sides_hold read_as block_at blocks_hold gateway_of host_width group_at groups_hold join net_row row_of_width left_justified many extended net_width host_span good_net
case_U = refl

pub case_room : update_of 1 2148073472 (2 ∷ 1 ∷ 0 ∷ 1 ∷ 179 ∷ 215 ∷ 0 ∷ 7 ∷ 0 ∷ 1 ∷ 1 ∷ 0 ∷ 128 ∷ 9 ∷ 0 ∷ 0 ∷ 0 ∷ 5 ∷ 1 ∷ 0 ∷ 2 ∷ 10 ∷ 192 ∷ 5 ∷ 6 ∷ []) ≡ too_many
unfolding update_of read_within walked_blocks net_at further body_of nothing_left both_sides sides_at sides_hold read_as block_at blocks_hold gateway_of host_width group_at groups_hold join net_row row_of_width left_justified many extended net_width host_span good_net
case_room = refl

pub case_net : update_of 128 3758096384 (2 ∷ 1 ∷ 0 ∷ 1 ∷ 179 ∷ 215 ∷ 0 ∷ 7 ∷ 0 ∷ 1 ∷ 0 ∷ 0 ∷ 224 ∷ 0 ∷ 0 ∷ 0 ∷ []) ≡ broken_at 12
unfolding update_of read_within walked_blocks net_at further body_of nothing_left both_sides sides_at sides_hold read_as block_at blocks_hold gateway_of host_width group_at groups_hold join net_row row_of_width left_justified many extended net_width host_span good_net
case_net = refl

-- an internal row, then an external one at distance 3, on the class A net 0.0.0.0
pub case_sides : update_of 128 0 (2 ∷ 1 ∷ 0 ∷ 1 ∷ 179 ∷ 215 ∷ 0 ∷ 7 ∷ 0 ∷ 1 ∷ 1 ∷ 1 ∷ 0 ∷ 0 ∷ 0 ∷ 0 ∷ 0 ∷ 0 ∷ 1 ∷ 1 ∷ 0 ∷ 1 ∷ 0 ∷ 0 ∷ 0 ∷ 2 ∷ 1 ∷ 3 ∷ 1 ∷ 191 ∷ 255 ∷ [])
    ≡ accepted (record { net = 0; gateway = 1; third = 0 } ∷ record { net = 3221159936; gateway = 2; third = 259 } ∷ [])
unfolding update_of read_within walked_blocks net_at further body_of nothing_left both_sides sides_at sides_hold read_as block_at blocks_hold gateway_of host_width group_at groups_hold join net_row row_of_width left_justified many extended net_width host_span good_net
case_sides = refl

-- one distance group: two nets; no nets, with an octet after it; a first octet of no class; a count that is missing
pub groups : List (List ℕ)
groups = (0 ∷ 2 ∷ 10 ∷ 192 ∷ 5 ∷ 6 ∷ []) ∷ (5 ∷ 0 ∷ 7 ∷ []) ∷ (5 ∷ 1 ∷ 224 ∷ []) ∷ (5 ∷ []) ∷ []

-- an empty group and a bad one have the same nets, none, and differ in how far they were read
pub case_groups : map (group_rows 0 0) groups
    ≡ (got (record { net = 167772160; gateway = 0; third = 0 } ∷ record { net = 3221554688; gateway = 0; third = 0 } ∷ []) [] ∷ got [] (7 ∷ []) ∷ stop 1 ∷ stop 0 ∷ [])
unfolding groups group_rows group_at read_as groups_hold join net_row row_of_width left_justified many extended net_width host_span
case_groups = refl

pub case_nets : map group_nets groups ≡ ((10 ∷ 192 ∷ 5 ∷ 6 ∷ []) ∷ [] ∷ [] ∷ [] ∷ [])
unfolding groups group_nets group_end taken group_rows group_at read_as groups_hold join net_row row_of_width left_justified many extended net_width host_span
case_nets = refl

-- the structured reading: one external block on 128.9.0.0, with its gateway and one group at distance 3
pub case_blocks : sides_at 2148073472 0 1 (0 ∷ 5 ∷ 1 ∷ 3 ∷ 1 ∷ 10 ∷ [])
    ≡ got (record {
      inside = [];
      outside =
          record {
            gateway = 2148073477;
            groups = record { third = 259; rows = record { net = 167772160; gateway = 2148073477; third = 259 } ∷ [] } ∷ [];
          } ∷ [];
    }) []
unfolding sides_at many block_at gateway_of host_width group_at net_row row_of_width left_justified extended net_width host_span
case_blocks = refl
