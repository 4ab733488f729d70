use Prim.Native.Nat.{ℕ, ◌<◌}
use mathlib.Core.Path.{◌≡◌}
use lib.ListN.{get_or}
use Rattle.std.proofs.Common.{rules}
use Rattle.gateway_state.specs.Slots.{slot_at, address_of}
use Rattle.host_state_block.specs.Block.{state_in}
use Rattle.host_state_block.proofs.Read.{addresses_are}
use Rattle.host_state_block.proofs.addresses_of.Goals as goal

pub returns : goal.returns
returns c =
    let each : (i : ℕ) → i < 8 → get_or c.from_fn.result i 0 ≡ address_of (slot_at (state_in c.args.block.now) i) = λ i h. let m = (c.from_fn.ensures.items.at i 0 h).2.met in search (rules, m) in
    addresses_are c.args.block.now c.from_fn.result c.from_fn.ensures.items.long each
