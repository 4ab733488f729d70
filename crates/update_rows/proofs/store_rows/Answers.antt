-- `update_rows::store_rows` meets its contract: both sides stored one after the other, then zeros. Assumes nothing.
use Rattle.checks.proofs.Laws.{part_from_lem}
use Rattle.update_rows.proofs.Laws.{store_whole, first_room, second_room, second_end, store_done}
use Prim.Native.Nat.{zero-le}
use native.Mathlib.Omega.{arith}
use Rattle.update_rows.proofs.store_rows.Goals as goal

pub invariant_of-internal : goal.invariant_of-internal
invariant_of-internal g c = record { side_bound = zero-le; net_good = (store_whole c.args.net c.args.message.now (g.U.TableUnit.numbers c.args.part.now) c.requires).good }

pub slice_bounds-put_each-count : goal.slice_bounds-put_each-count
slice_bounds-put_each-count g c = (store_whole c.args.net c.args.message.now (g.U.TableUnit.numbers c.args.part.now) c.requires).long

pub slice_bounds-put_each-start : goal.slice_bounds-put_each-start
slice_bounds-put_each-start g c = (store_whole c.args.net c.args.message.now (g.U.TableUnit.numbers c.args.part.now) c.requires).long

pub bounds-message-10 : goal.bounds-message-10
bounds-message-10 g c = let w = store_whole c.args.net c.args.message.now (g.U.TableUnit.numbers c.args.part.now) c.requires in omega (arith, w.long)

pub put_each-inside-requires : goal.put_each-inside-requires
put_each-inside-requires g c = first_room c.args.net c.args.message.now (g.U.TableUnit.numbers c.args.part.now) c.requires _ (part_from_lem 16 c.args.message.now)

pub bounds-message-11 : goal.bounds-message-11
bounds-message-11 g c = let w = store_whole c.args.net c.args.message.now (g.U.TableUnit.numbers c.args.part.now) c.requires in omega (arith, w.long)

pub put_each-outside-requires : goal.put_each-outside-requires
put_each-outside-requires g c = second_room c.args.net c.args.message.now (g.U.TableUnit.numbers c.args.part.now) c.requires _ (part_from_lem 16 c.args.message.now) _ _ c.put_each-inside.ensures

pub clear_from-requires : goal.clear_from-requires
clear_from-requires g c = second_end c.args.net c.args.message.now (g.U.TableUnit.numbers c.args.part.now) c.requires _ (part_from_lem 16 c.args.message.now) _ _ c.put_each-inside.ensures _ _ c.put_each-outside.ensures

pub returns : goal.returns
returns g c = store_done c.args.net c.args.message.now (g.U.TableUnit.numbers c.args.part.now) c.requires _ (part_from_lem 16 c.args.message.now) _ _ c.put_each-inside.ensures _ _ c.put_each-outside.ensures _ c.clear_from.ensures
