-- `recording_player::begin_state` meets its contract. Assumes nothing.
use Rattle.std.proofs.Common.{refl, ap, ◌∙◌}
use Rattle.recording_player.specs.declared.Player.{Player}
use Rattle.recording_player.specs.Player.{next_line, settled, having, roomy, silent_step, told_of}
use Rattle.recording_player.proofs.Laws.{for_each, taken_as, silent_using, reported_as, reported_silent, fresh_refused, fresh_had}
use Rattle.recording_player.proofs.begin_state.Goals as goal

pub returns-then-o-ne0 : goal.returns-then-o-ne0
returns-then-o-ne0 c = let both = for_each (λ table. taken_as c.args.out.now (reported_as (roomy c.args.out.now) c.args.p table c.args.used (fresh_refused c.args.p table c.args.settings _ c.fresh-o.ensures c.if-o-ne0.true)) (c.give_up.ensures.value table, c.give_up.ensures.out_after table)) in record { value = both.0; out_after = both.1 }

pub returns : goal.returns
unfolding settled having
returns c =
    let q = having (settled (next_line c.args.p) c.args.settings) c.fresh-o.result.state in
    let both = for_each
    (λ table.
    silent_using _ q table c.args.used _ _ c.args.out.now
    (reported_as (roomy c.args.out.now) c.args.p table c.args.used (fresh_had c.args.p table c.args.settings _ c.fresh-o.ensures c.if-o-ne0.false) ∙ reported_silent (roomy c.args.out.now) c.args.p q table c.args.used)
    (c.silent.ensures table ∙ ap (λ (x : Player). told_of (silent_step (having (settled x c.args.settings) c.fresh-o.result.state) table 0)) c.next_line.ensures) refl) in
    record { value = both.0; out_after = both.1 }
