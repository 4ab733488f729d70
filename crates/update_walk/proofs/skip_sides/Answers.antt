-- `update_walk::skip_sides` meets its contract: what the two sides come to, one after the other. Assumes nothing.
use Rattle.std.proofs.lemmas.Result.{err_from_is_err_and}
use Rattle.update_walk.proofs.Turns.{sides_stop, sides_stop_2, sides_sum, sides_past}
use mathlib.Core.Path.{refl}
use native.Mathlib.Omega.{arith}
use Rattle.update_walk.proofs.skip_sides.Goals as goal

pub returns-in_err-inside : goal.returns-in_err-inside
returns-in_err-inside c =
    let p = err_from_is_err_and c.from_residual.result c.from_residual.ensures.1 in
    rw (p.1, p.2) (sides_stop _ _ _ _ _ (c.in_err-inside.ensures 0))

pub returns-in_err-outside : goal.returns-in_err-outside
returns-in_err-outside c =
    let p = err_from_is_err_and c.from_residual-in_err-outside.result c.from_residual-in_err-outside.ensures.1 in
    rw (p.1, p.2) (sides_stop_2 _ _ _ _ _ (c.in_ok-inside.ensures 0) _ (c.in_err-outside.ensures 256))

pub overflow_add-result : goal.overflow_add-result
overflow_add-result c = omega (arith, sides_sum c.args.net c.args.internal c.args.external c.args.body.now c.in_ok-inside.inside (c.in_ok-inside.ensures 0) c.in_ok-outside.outside (c.in_ok-outside.ensures 256))

pub returns : goal.returns
returns c = sides_past _ _ _ _ _ (c.in_ok-inside.ensures 0) _ (c.in_ok-outside.ensures 256) _ refl refl
