-- `update_walk::skip_nets` meets its contract: what is left to skip comes to the same as the whole. Assumes nothing.
use Rattle.std.proofs.Common.{rules}
use Rattle.checks.proofs.Laws.{part_from_lem}
use Rattle.update_walk.proofs.Laws.{class_a_lem, class_b, class_c, classless}
use Rattle.update_walk.proofs.Turns.{pass_beyond, pass_end, pass_none, pass_net, pass_done}
use Prim.Native.Nat.{◌+◌, ◌-◌, ◌≤◌, ◌<◌}
use lib.ListN.{get_or, length}
use mathlib.Core.Path.{◌≡◌, refl}
use native.Mathlib.Omega.{arith}
use Rattle.update_walk.proofs.skip_nets.Goals.{then-first-lt128, else-first-lt128+then-first-lt192+else-t-i, else-first-lt128+else-first-lt192+then-first-lt224}
use Rattle.update_walk.proofs.skip_nets.Goals as goal

pub returns-in_default : goal.returns-in_default
returns-in_default c =
    let end : length c.args.t.now ≤ c.loop-net.i = search rules in
    λ gateway third. pass_end gateway third (c.loop-net.invariant gateway third) (omega arith) end _ refl

pub returns-then-t-i : goal.returns-then-t-i
returns-then-t-i c =
    let here : c.loop-net.i < length c.args.t.now = search rules in
    let is : c.in-Some.field-0.now ≡ get_or c.args.t.now c.loop-net.i 0 = search rules in
    let w = class_b (get_or c.args.t.now c.loop-net.i 0) (omega (arith, is, c.if-first-lt128.false)) (omega (arith, is, c.if-first-lt192.true)) in
    λ gateway third. pass_beyond gateway third (pass_net gateway third (c.loop-net.invariant gateway third) (omega arith) here 2 w (omega arith) (c.args.count - (c.loop-net._net + 1)) (omega arith)) (omega (arith, c.if-t-i.true)) _ refl

pub returns-else-first-lt224 : goal.returns-else-first-lt224
returns-else-first-lt224 c =
    let here : c.loop-net.i < length c.args.t.now = search rules in
    let is : c.in-Some.field-0.now ≡ get_or c.args.t.now c.loop-net.i 0 = search rules in
    λ gateway third. pass_none gateway third (c.loop-net.invariant gateway third) (omega arith) here (classless (get_or c.args.t.now c.loop-net.i 0) (omega (arith, is, c.if-first-lt224.false))) _ refl

pub loop-net-preserved : goal.loop-net-preserved
loop-net-preserved c =
    let here : c.loop-net.i < length c.args.t.now = search rules in
    let is : c.in-Some.field-0.now ≡ get_or c.args.t.now c.loop-net.i 0 = search rules in
    λ gateway third.
    let turn = pass_net gateway third (c.loop-net.invariant gateway third) (omega arith) here in
    elim c.if-first-lt128.branch [
      | then-first-lt128 w ↦ rw w.i-is (turn 1 (class_a_lem (get_or c.args.t.now c.loop-net.i 0) (omega (arith, is, w.if-first-lt128.true))) (omega arith) _ (omega arith))
      | else-first-lt128+then-first-lt192+else-t-i w ↦ rw w.i-is (turn 2 (class_b (get_or c.args.t.now c.loop-net.i 0) (omega (arith, is, w.if-first-lt128.false)) (omega (arith, is, w.if-first-lt192.true))) (omega arith) _ (omega arith))
      | else-first-lt128+else-first-lt192+then-first-lt224 w ↦ rw w.i-is (turn 3 (class_c (get_or c.args.t.now c.loop-net.i 0) (omega (arith, is, w.if-first-lt192.false)) (omega (arith, is, w.if-first-lt224.true))) (omega arith) _ (omega arith))
    ]

pub returns : goal.returns
returns c = λ gateway third. pass_done gateway third (c.loop-net.invariant gateway third) (omega arith) c.if-t-i-2.false _ (omega arith) (part_from_lem c.loop-net.i c.args.t.now)
