-- `recording_player::take_line` meets its contract. Assumes nothing.
use Rattle.std.proofs.Common.{refl, sym, ap, ◌∙◌}
use Rattle.recording_lines.specs.Meant.{said, meant}
use Rattle.recording_lines.specs.Steps.{is_lent}
use Rattle.checks.specs.Refusals.{answer_of}
use Rattle.recording_player.specs.Player.{roomy, event_step}
use Rattle.recording_player.proofs.Laws.{refused_as, line_setting, line_bad, line_refused, line_made, using_made}
use Rattle.recording_player.proofs.take_line.Goals as goal

pub returns-then-is_setting : goal.returns-then-is_setting
returns-then-is_setting c = let both = line_setting c.args.p c.args.table.now c.args.line.now c.args.out.now c.args.used _ (sym c.is_setting.ensures ∙ c.if-is_setting.true) _ (c.take_setting.ensures.value c.args.table.now) (c.take_setting.ensures.out_after c.args.table.now) in record { value = both.0; table_after = both.1.0; out_after = both.1.1 }

pub returns-in_default : goal.returns-in_default
returns-in_default c =
    let both = line_bad c.args.p c.args.table.now c.args.line.now c.args.out.now c.args.used _ (ap meant (sym c.in_default.is) ∙ c.event.ensures.meaning) (sym c.is_setting.ensures ∙ c.if-is_setting.false)
    _ (c.skip_line.ensures.value c.args.table.now) (c.skip_line.ensures.out_after c.args.table.now) in
    record { value = both.0; table_after = both.1.0; out_after = both.1.1 }

pub returns-in-Err : goal.returns-in-Err
unfolding roomy
returns-in-Err c =
    let no = refused_as c.check_event.ensures c.in-Err.is c.from.ensures in
    let both = line_refused c.args.p c.args.table.now c.args.line.now c.args.out.now c.args.used _ c.in-Some.event (ap meant (sym c.in-Some.is) ∙ c.event.ensures.meaning) (sym c.is_setting.ensures ∙ c.if-is_setting.false)
    _ no.0 no.1 (c.silent.ensures c.args.table.now) in
    record { value = both.0; table_after = both.1.0; out_after = both.1.1 }

pub play_event-requires : goal.play_event-requires
unfolding roomy
play_event-requires c = (ap is_lent (sym c.in-Some.is) ∙ c.event.ensures.lent, sym c.check_event.ensures ∙ ap answer_of c.in_default-check_event.is)

pub returns : goal.returns
unfolding roomy
returns c =
    let both = line_made c.args.p c.args.table.now c.args.line.now c.args.out.now c.args.used _ c.in-Some.event (ap meant (sym c.in-Some.is) ∙ c.event.ensures.meaning) (sym c.is_setting.ensures ∙ c.if-is_setting.false)
    (sym c.check_event.ensures ∙ ap answer_of c.in_default-check_event.is) _ _
    (using_made (event_step c.args.p c.args.table.now (said c.in-Some.event)) c.args.used _ _ _ c.args.out.now _ (c.play_event.ensures.value, (c.play_event.ensures.table_after, c.play_event.ensures.out_after)) refl) in
    record { value = both.0; table_after = both.1.0; out_after = both.1.1 }
