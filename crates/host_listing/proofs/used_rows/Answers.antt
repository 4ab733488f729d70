-- `host_listing::used_rows` meets its contract. Assumes nothing.
use Rattle.host_listing.proofs.Laws.{used_is}
use Rattle.gateway_state.specs.Places.{place}
use mathlib.Core.List.{[]}
use native.Mathlib.Omega.{arith}
use Rattle.host_listing.proofs.used_rows.Goals as goal

pub overflow_mul-start : goal.overflow_mul-start
unfolding place
overflow_mul-start c = omega (arith, c.place-start.ensures [], c.requires.0)

pub overflow_add-end : goal.overflow_add-end
unfolding place
overflow_add-end c = omega (arith, c.place-start.ensures [], c.requires.0, c.requires.1)

pub slice_bounds-result-end : goal.slice_bounds-result-end
unfolding place
slice_bounds-result-end c = omega (arith, c.place-start.ensures [], c.requires.0, c.requires.1, c.requires.2)

pub returns : goal.returns
returns c = λ counts. used_is c.args.table.now counts c.args.i c.args.rows c.place-start.result (c.place-start.ensures counts)
