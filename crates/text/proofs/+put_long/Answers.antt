-- Each digit in its place. Assumes nothing.
use native.Mathlib.Omega.{arith}
use Rattle.text.proofs.Laws.{one_digit, last_digit, one_long, more_long}
use Rattle.text.proofs.+put_long.Goals as goal

pub bounds-out-at : goal.bounds-out-at
bounds-out-at t c = omega (arith, one_long c.args.n c.args.at c.args.out.now c.if-n-lt10.true)

pub returns-then-n-lt10 : goal.returns-then-n-lt10
returns-then-n-lt10 t c = one_digit _ _ _ c.if-n-lt10.true

pub put_long-end-requires : goal.put_long-end-requires
put_long-end-requires t c = (omega arith, omega (arith, more_long c.args.n c.args.at c.args.out.now c.if-n-lt10.false))

pub bounds-out-end : goal.bounds-out-end
bounds-out-end t c = omega (arith, more_long c.args.n c.args.at c.args.out.now c.if-n-lt10.false, c.put_long-end.ensures.after, c.put_long-end.auto.out)

pub overflow_add-result-2 : goal.overflow_add-result-2
overflow_add-result-2 t c = omega (arith, more_long c.args.n c.args.at c.args.out.now c.if-n-lt10.false, c.put_long-end.ensures.after, c.put_long-end.auto.out)

pub returns : goal.returns
returns t c = last_digit _ _ _ c.if-n-lt10.false c.put_long-end.ensures
