-- `update_walk::skip_each` meets its contract: what is left to skip comes to the same as the whole. Assumes nothing.
use Rattle.std.proofs.lemmas.Result.{err_from_is_err_and}
use Rattle.update_walk.proofs.Turns.{turn_past, turn_stop, turns_done}
use mathlib.Core.Path.{refl}
use native.Mathlib.Omega.{arith}
use Rattle.update_walk.proofs.skip_each.Goals as goal

pub returns-in_err-past : goal.returns-in_err-past
returns-in_err-past g c =
    let p = err_from_is_err_and c.from_residual.result c.from_residual.ensures.1 in
    λ f h. rw (p.1, p.2) (turn_stop (c.loop-element.invariant.1 f h) _ (omega arith) (h _ _ c.in_err-past.ensures))

pub loop-element-preserved : goal.loop-element-preserved
loop-element-preserved g c = (
  omega (arith, c.loop-element.invariant.0, c.requires.within _ _ c.in_ok-past.ensures),
  λ f h. turn_past (c.loop-element.invariant.1 f h) _ _ (h _ _ c.in_ok-past.ensures) (omega arith),
)

pub returns : goal.returns
returns g c = λ f h. turns_done (c.loop-element.invariant.1 f h) _ (omega arith) refl refl
