-- `text::put_digits` meets its contract: one, two or three digits. Assumes nothing.
use native.Mathlib.Omega.{arith}
use lib.ListN.{length-set}
use Rattle.text.proofs.Laws.{one_digit, one_long, two_digits, two_long, three_digits, three_long}
use Rattle.text.proofs.put_digits.Goals as goal

pub bounds-out-at : goal.bounds-out-at
bounds-out-at c = omega (arith, one_long c.args.n c.args.at c.args.out.now c.if-n-lt10.true, c.requires.1)

pub returns-then-n-lt10 : goal.returns-then-n-lt10
returns-then-n-lt10 c = one_digit _ _ _ c.if-n-lt10.true

pub bounds-out-at-then-n-lt100 : goal.bounds-out-at-then-n-lt100
bounds-out-at-then-n-lt100 c = omega (arith, two_long c.args.n c.if-n-lt10.false c.if-n-lt100.true, c.requires.1)

pub bounds-out-at-then-n-lt100-2 : goal.bounds-out-at-then-n-lt100-2
bounds-out-at-then-n-lt100-2 c = simp length-set (omega (arith, two_long c.args.n c.if-n-lt10.false c.if-n-lt100.true, c.requires.1))

pub returns-then-n-lt100 : goal.returns-then-n-lt100
returns-then-n-lt100 c = two_digits _ _ _ c.if-n-lt10.false c.if-n-lt100.true

pub bounds-out-at-2 : goal.bounds-out-at-2
bounds-out-at-2 c = omega (arith, three_long c.args.n c.if-n-lt100.false c.requires.0, c.requires.1)

pub bounds-out-at-3 : goal.bounds-out-at-3
bounds-out-at-3 c = simp length-set (omega (arith, three_long c.args.n c.if-n-lt100.false c.requires.0, c.requires.1))

pub bounds-out-at-4 : goal.bounds-out-at-4
bounds-out-at-4 c = simp length-set (omega (arith, three_long c.args.n c.if-n-lt100.false c.requires.0, c.requires.1))

pub returns : goal.returns
returns c = three_digits _ _ _ c.if-n-lt100.false c.requires.0
