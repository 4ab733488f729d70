-- `update_walk::group_nets` meets its contract: what its nets come to, and the part that they are. Assumes nothing.
use Rattle.std.proofs.lemmas.Result.{err_from_is_err_and}
use Rattle.update_walk.proofs.Turns.{group_short, group_skips, nets_bound, nets_is}
use mathlib.Core.Path.{refl}
use Rattle.update_walk.proofs.group_nets.Goals as goal

pub returns-then-t-lt2-clause-past : goal.returns-then-t-lt2-clause-past
returns-then-t-lt2-clause-past c = group_short _ c.if-t-lt2.true _ refl

pub returns-in_err-past-clause-past : goal.returns-in_err-past-clause-past
returns-in_err-past-clause-past c =
    let p = err_from_is_err_and c.from_residual.result c.from_residual.ensures.1 in
    rw (p.1, p.2) (group_skips _ c.if-t-lt2.false _ c.in_err-past.ensures)

pub slice_bounds-result-count : goal.slice_bounds-result-count
slice_bounds-result-count c = nets_bound _ c.if-t-lt2.false c.in_ok-past.past c.in_ok-past.ensures

pub returns-clause-nets : goal.returns-clause-nets
returns-clause-nets c = nets_is _ c.if-t-lt2.false c.in_ok-past.past c.in_ok-past.ensures

pub returns-clause-past : goal.returns-clause-past
returns-clause-past c = group_skips _ c.if-t-lt2.false _ c.in_ok-past.ensures
