-- `put` of a gateway block meets its contract: what its groups leave. Assumes nothing.
use Rattle.update_rows.proofs.Laws.{block_host, block_fits_lem, block_some, block_room, block_stored}
use native.Mathlib.Omega.{arith}
use Rattle.update_rows.proofs.BlockElement.put.Goals as goal

pub host_part-requires : goal.host_part-requires
host_part-requires g c = let b = c.args.self.now in block_host b.side b.net c.args.t.now _ _ c.requires c.host_width-host.result c.host_width-host.ensures b.net_good

pub overflow_add-group : goal.overflow_add-group
overflow_add-group g c = let b = c.args.self.now in let fits = block_fits_lem b.side b.net c.args.t.now _ _ c.requires c.host_width-host.result c.host_width-host.ensures c.host_part.result b.net_good c.host_part.ensures.bound c.fits-self.1.0.1 in omega (arith, fits)

pub overflow_add-host : goal.overflow_add-host
overflow_add-host g c = let b = c.args.self.now in let some = block_some b.side b.net c.args.t.now _ _ c.requires c.host_width-host.result c.host_width-host.ensures in omega (arith, some)

pub slice_bounds-put_each-count : goal.slice_bounds-put_each-count
slice_bounds-put_each-count g c = let b = c.args.self.now in let some = block_some b.side b.net c.args.t.now _ _ c.requires c.host_width-host.result c.host_width-host.ensures in omega (arith, some)

pub slice_bounds-put_each-start : goal.slice_bounds-put_each-start
slice_bounds-put_each-start g c = let b = c.args.self.now in let some = block_some b.side b.net c.args.t.now _ _ c.requires c.host_width-host.result c.host_width-host.ensures in omega (arith, some)

pub bounds-t-host : goal.bounds-t-host
bounds-t-host g c = let b = c.args.self.now in block_some b.side b.net c.args.t.now _ _ c.requires c.host_width-host.result c.host_width-host.ensures

pub put_each-requires : goal.put_each-requires
put_each-requires g c = let b = c.args.self.now in block_room b.side b.net c.args.t.now _ _ c.requires c.host_width-host.result c.host_width-host.ensures c.host_part.result c.host_part.ensures.number

pub returns : goal.returns
returns g c = let b = c.args.self.now in block_stored b.side b.net c.args.t.now _ _ c.requires c.host_width-host.result c.host_width-host.ensures c.host_part.result c.host_part.ensures.number _ _ c.put_each.ensures
