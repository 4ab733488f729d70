use Prim.Native.Nat.{ℕ, ◌<◌}
use mathlib.Core.Path.{◌≡◌}
use lib.ListN.{get_or}
use Rattle.std.proofs.Common.{rules}
use Rattle.gateway_state.specs.Slots.{free_slot, slot_at}
use Rattle.host_state_block.specs.Block.{state_in}
use Rattle.host_state_block.proofs.Read.{slots_are}
use Rattle.host_state_block.proofs.read_state.Goals as goal

pub returns : goal.returns
returns c =
    let st = state_in c.args.block.now in
    let each : (i : ℕ) → i < 8 → get_or c.from_fn.result i free_slot ≡ slot_at (state_in c.args.block.now) i = λ i h. let m = (c.from_fn.ensures.items.at i free_slot h).2.met in search (rules, m) in
    λ k. record { settings = c.settings_of.ensures k; slots = slots_are c.args.block.now c.from_fn.result c.from_fn.ensures.items.long each k }
