-- `recording_player::take_setting` meets its contract. Assumes nothing.
use Rattle.std.proofs.Common.{refl, sym, ap, ◌∙◌}
use Rattle.recording_player.specs.declared.Player.{Player}
use Rattle.recording_player.specs.Player.{next_line, settled, roomy, silent_step, told_of}
use Rattle.recording_player.proofs.Laws.{for_each, taken_as, silent_using, reported_as, reported_silent, head_bad, head_more, head_fresh}
use Rattle.recording_player.proofs.take_setting.Goals as goal

pub returns-in_default : goal.returns-in_default
returns-in_default c =
    let both = for_each (λ table. taken_as c.args.out.now (reported_as (roomy c.args.out.now) c.args.p table c.args.used (head_bad c.args.p table c.args.line.now (sym c.read_setting.ensures ∙ c.in_default.is)))
    (rw c.from.ensures at (c.give_up.ensures.value table), rw c.from.ensures at (c.give_up.ensures.out_after table))) in
    record { value = both.0; out_after = both.1 }

pub returns-then-p-lt3 : goal.returns-then-p-lt3
unfolding settled
returns-then-p-lt3 c =
    let g = c.in-Some.settings in
    let q = settled (next_line c.args.p) g in
    let both = for_each
    (λ table.
    silent_using _ q table c.args.used _ _ c.args.out.now
    (reported_as (roomy c.args.out.now) c.args.p table c.args.used (head_more c.args.p table c.args.line.now g (sym c.read_setting.ensures ∙ c.in-Some.is) c.if-p-lt3.true) ∙ reported_silent (roomy c.args.out.now) c.args.p q table c.args.used)
    (c.silent.ensures table ∙ ap (λ (x : Player). told_of (silent_step (settled x g) table 0)) c.next_line.ensures) refl) in
    record { value = both.0; out_after = both.1 }

pub returns : goal.returns
returns c =
    let both = for_each (λ table. taken_as c.args.out.now (reported_as (roomy c.args.out.now) c.args.p table c.args.used (head_fresh c.args.p table c.args.line.now c.in-Some.settings (sym c.read_setting.ensures ∙ c.in-Some.is) c.if-p-lt3.false))
    (c.begin_state.ensures.value table, c.begin_state.ensures.out_after table)) in
    record { value = both.0; out_after = both.1 }
