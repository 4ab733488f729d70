-- Worked examples, by computation. Assumes nothing.
use Prim.Native.Nat.{ℕ}
use mathlib.Core.Bool.{true, false}
use mathlib.Core.Path.{◌≡◌, refl}
use mathlib.Core.List.{List, [], ◌∷◌}
use Rattle.checks.specs.Lists.{every, join}
use Rattle.nets.specs.Classes.{net_width, host_span, good_net, on_net}
use Rattle.nets.specs.Rows.{Row}
use Rattle.update_walk.specs.Body.{extended, many, left_justified, row_of_width, net_row, group_at, host_width, gateway_of, block_at, sides_at, groups_hold, blocks_hold, sides_hold, read_as, both_sides, whole, nothing_left, body_of}
use Rattle.update_writing.specs.Blocks.{side_rows, joined, runs, each, address_octets, net_octets, host_octets, nets_octets, group_octets, groups_octets, block_octets, side_octets, blocks_written, internal_blocks, external_blocks}
use Rattle.update_writing.specs.Writable.{ordered, writable_row, writable_rows}
use Rattle.update_theorem.specs.Canonical.{some, adjacent_differ, full_block, full_side, full_sides, canonical}

-- 128.9.0.0, and its gateways 128.9.0.5 and 128.9.0.6
net : ℕ
net = 2148073472

-- bench sheet, case U: nets 10.0.0.0 and 192.5.6.0 of 128.9.0.5 at distance 0
case_u : List Row
case_u = record { net = 167772160; gateway = 2148073477; third = 0 } ∷ record { net = 3221554688; gateway = 2148073477; third = 0 } ∷ []

u_written : blocks_written net case_u ≡ 0 ∷ 5 ∷ 1 ∷ 0 ∷ 2 ∷ 10 ∷ 192 ∷ 5 ∷ 6 ∷ []
unfolding net case_u blocks_written side_rows joined runs each address_octets net_octets host_octets nets_octets group_octets groups_octets block_octets side_octets net_width
u_written = refl

u_writable : writable_rows net case_u ≡ true
unfolding net case_u writable_rows every ordered writable_row good_net on_net host_span net_width
u_writable = refl

-- gateways X, Y, X, the last at two distances, then X outside: three blocks inside and one outside
mixed : List Row
mixed =
    record { net = 167772160; gateway = 2148073477; third = 1 }
    ∷ record { net = 184549376; gateway = 2148073478; third = 1 }
    ∷ record { net = 201326592; gateway = 2148073477; third = 1 }
    ∷ record { net = 218103808; gateway = 2148073477; third = 2 }
    ∷ record { net = 234881024; gateway = 2148073477; third = 258 }
    ∷ []

mixed_written : blocks_written net mixed ≡ 0 ∷ 5 ∷ 1 ∷ 1 ∷ 1 ∷ 10 ∷ 0 ∷ 6 ∷ 1 ∷ 1 ∷ 1 ∷ 11 ∷ 0 ∷ 5 ∷ 2 ∷ 1 ∷ 1 ∷ 12 ∷ 2 ∷ 1 ∷ 13 ∷ 0 ∷ 5 ∷ 1 ∷ 2 ∷ 1 ∷ 14 ∷ []
unfolding net mixed blocks_written side_rows joined runs each address_octets net_octets host_octets nets_octets group_octets groups_octets block_octets side_octets net_width
mixed_written = refl

mixed_counts : (internal_blocks mixed ≡ 3) × (external_blocks mixed ≡ 1)
unfolding mixed internal_blocks external_blocks side_rows joined runs
mixed_counts = (refl, refl)

-- two blocks of one gateway are read, and are not how they would be written; nor is an empty block, or an empty group
twice : List ℕ
twice = 0 ∷ 5 ∷ 1 ∷ 0 ∷ 1 ∷ 10 ∷ 0 ∷ 5 ∷ 1 ∷ 0 ∷ 1 ∷ 11 ∷ []

twice_read : body_of net 2 0 twice ≡ whole (record { net = 167772160; gateway = 2148073477; third = 0 } ∷ record { net = 184549376; gateway = 2148073477; third = 0 } ∷ [])
unfolding net twice body_of nothing_left both_sides sides_at sides_hold read_as many block_at blocks_hold group_at groups_hold join net_row row_of_width left_justified host_width gateway_of extended net_width host_span
twice_read = refl

twice_not : canonical net 2 0 twice ≡ false
unfolding net twice canonical full_sides full_side full_block every some adjacent_differ many sides_at block_at group_at net_row row_of_width left_justified host_width gateway_of extended net_width host_span
twice_not = refl

empty_not : (canonical net 1 0 (0 ∷ 5 ∷ 0 ∷ []) ≡ false) × (canonical net 1 0 (0 ∷ 5 ∷ 1 ∷ 7 ∷ 0 ∷ []) ≡ false) × (canonical net 0 0 [] ≡ true)
unfolding net canonical full_sides full_side full_block every some adjacent_differ many sides_at block_at group_at net_row row_of_width left_justified host_width gateway_of extended net_width host_span
empty_not = (refl, refl, refl)
