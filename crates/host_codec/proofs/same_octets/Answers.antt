-- `host_codec::same_octets` meets its contract. The loop keeps: what is left of both decides. Assumes nothing.
use native.Mathlib.Omega.{arith}
use mathlib.Core.Path.{refl, sym, ◌∙◌}
use Rattle.host_codec.proofs.Same.{same_apart, same_not, same_next, same_end}
use Rattle.host_codec.proofs.same_octets.Goals as goal

pub returns-then-octets-others : goal.returns-then-octets-others
returns-then-octets-others c = sym (same_apart _ _ c.if-octets-others.true)

pub loop-i-init : goal.loop-i-init
loop-i-init c = (omega arith, refl)

pub bounds-others-i : goal.bounds-others-i
bounds-others-i c = omega (arith, c.loop-i-test.true, c.if-octets-others.false)

pub returns-then-octets-i : goal.returns-then-octets-i
returns-then-octets-i c =
    let l = c.loop-i in
    let a = c.args in
    sym (l.invariant.1 ∙ same_not a.octets.now a.others.now l.i c.loop-i-test.true (omega (arith, c.loop-i-test.true, c.if-octets-others.false)) c.if-octets-i.true)

pub loop-i-preserved : goal.loop-i-preserved
loop-i-preserved c =
    let l = c.loop-i in
    let a = c.args in
    (omega (arith, c.loop-i-test.true), l.invariant.1 ∙ same_next a.octets.now a.others.now l.i c.loop-i-test.true (omega (arith, c.loop-i-test.true, c.if-octets-others.false)) c.if-octets-i.false)

pub returns : goal.returns
returns c =
    let l = c.loop-i in
    let a = c.args in
    sym (l.invariant.1 ∙ same_end a.octets.now a.others.now l.i c.loop-i-test.false (omega (arith, c.loop-i-test.false, c.if-octets-others.false)))
