-- `put` of a distance group meets its contract: what its nets leave. Assumes nothing.
use Rattle.update_rows.proofs.Laws.{group_two, group_room, group_stored}
use native.Mathlib.Omega.{arith}
use Rattle.update_rows.proofs.GroupElement.put.Goals as goal

pub bounds-t-0 : goal.bounds-t-0
bounds-t-0 g c = let two = group_two c.args.self.now.side c.args.self.now.gateway c.args.t.now _ _ c.requires in omega (arith, two)

pub slice_bounds-put_nets-count : goal.slice_bounds-put_nets-count
slice_bounds-put_nets-count g c = group_two c.args.self.now.side c.args.self.now.gateway c.args.t.now _ _ c.requires

pub slice_bounds-put_nets-start : goal.slice_bounds-put_nets-start
slice_bounds-put_nets-start g c = group_two c.args.self.now.side c.args.self.now.gateway c.args.t.now _ _ c.requires

pub bounds-t-1 : goal.bounds-t-1
bounds-t-1 g c = group_two c.args.self.now.side c.args.self.now.gateway c.args.t.now _ _ c.requires

pub put_nets-requires : goal.put_nets-requires
put_nets-requires g c = rw c.from.ensures (group_room c.args.self.now.side c.args.self.now.gateway c.args.t.now _ _ c.requires)

pub returns : goal.returns
returns g c = group_stored c.args.self.now.side c.args.self.now.gateway c.args.t.now _ _ c.requires _ _ (rw c.from.ensures at c.put_nets.ensures)
