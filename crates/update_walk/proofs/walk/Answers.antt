-- `update_walk::walk` meets its contract: the definition's tests, then what the walk of the blocks came to. Assumes nothing.
use Rattle.std.proofs.Common.{rules}
use Rattle.update_walk.proofs.Turns.{walk_short, walk_classless, walk_other, stop_bound, walk_stops, rest_bound, walk_left, walk_rows, walk_many}
use mathlib.Core.Path.{sym, ◌∙◌}
use Rattle.update_walk.proofs.walk.Goals.{then-not-good_net-via-then-not-good_net, then-not-good_net-via-else-not-good_net+then-value-net}
use Rattle.update_walk.proofs.walk.Goals as goal

pub returns-then-end-lt16 : goal.returns-then-end-lt16
returns-then-end-lt16 c = walk_short _ _ _ c.if-end-lt16.true

pub returns-then-not-good_net : goal.returns-then-not-good_net
returns-then-not-good_net c =
    elim c.then-not-good_net.branch [
      | then-not-good_net-via-then-not-good_net w ↦ walk_classless c.args.room c.args.net c.args.message.now c.if-end-lt16.false (sym (w.if-not-good_net.true) ∙ c.good_net.ensures)
      | then-not-good_net-via-else-not-good_net+then-value-net w ↦ walk_other c.args.room c.args.net c.args.message.now c.if-end-lt16.false (sym (w.if-not-good_net.false) ∙ c.good_net.ensures) _ w.value.ensures.number w.if-value-net.true
    ]

pub overflow_sub-result : goal.overflow_sub-result
overflow_sub-result c = stop_bound c.args.room c.args.net c.args.message.now c.if-end-lt16.false (sym (c.if-not-good_net.false) ∙ c.good_net.ensures) _ c.value.ensures.number c.if-value-net.false c.in-Err.stop c.in-Err.ensures

pub overflow_sub-result-in-Ok : goal.overflow_sub-result-in-Ok
overflow_sub-result-in-Ok c = rest_bound c.args.room c.args.net c.args.message.now c.if-end-lt16.false (sym (c.if-not-good_net.false) ∙ c.good_net.ensures) _ c.value.ensures.number c.if-value-net.false c.in-Ok.past c.in-Ok.ensures

pub returns-in-Err : goal.returns-in-Err
returns-in-Err c = walk_stops _ _ _ c.if-end-lt16.false (sym (c.if-not-good_net.false) ∙ c.good_net.ensures) _ c.value.ensures.number c.if-value-net.false c.in-Err.stop c.in-Err.ensures

pub returns-in-Ok : goal.returns-in-Ok
returns-in-Ok c = walk_left _ _ _ c.if-end-lt16.false (sym (c.if-not-good_net.false) ∙ c.good_net.ensures) _ c.value.ensures.number c.if-value-net.false c.in-Ok.past c.in-Ok.ensures (λ z. let e = c.if-not-is_empty.ensures in search rules)

pub returns-in-Ok-2 : goal.returns-in-Ok-2
returns-in-Ok-2 c = walk_rows _ _ _ c.if-end-lt16.false (sym (c.if-not-good_net.false) ∙ c.good_net.ensures) _ c.value.ensures.number c.if-value-net.false c.in-Ok.past c.in-Ok.ensures (let z = c.if-not-is_empty.ensures in search rules) c.if-past-room.true

pub returns-in-Ok-3 : goal.returns-in-Ok-3
returns-in-Ok-3 c = walk_many _ _ _ c.if-end-lt16.false (sym (c.if-not-good_net.false) ∙ c.good_net.ensures) _ c.value.ensures.number c.if-value-net.false c.in-Ok.past c.in-Ok.ensures (let z = c.if-not-is_empty.ensures in search rules) c.if-past-room.false
