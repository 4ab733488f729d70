-- `recording_lines::event` meets its contract, key by key. Assumes nothing.
use Rattle.std.proofs.Common.{sym, ◌∙◌}
use Rattle.text.specs.Text.{text}
use Rattle.recording_lines.specs.Lines.{bad, remove, start, stop, alone, slashed, add_event, tick_event, rx_event, event_of}
use Rattle.recording_lines.proofs.Reader.{with_key, without_key, alone_bad, alone_read, not_add, not_remove, not_start, not_stop, not_tick, from_remove, from_start, from_stop, from_tick, from_rx}
use Rattle.recording_lines.proofs.event.Goals as goal

pub returns-in-Some-clause-meaning : goal.returns-in-Some-clause-meaning
unfolding event_of text
returns-in-Some-clause-meaning c =
    let there = c.in-Some.ensures.cases in
    c.add_event.ensures.meaning ∙ with_key (text "add=") (slashed add_event) (from_remove c.args.line.now) c.args.line.now there.0 there.1

pub returns-in_err-read_dotted-clause-meaning : goal.returns-in_err-read_dotted-clause-meaning
unfolding event_of text
returns-in_err-read_dotted-clause-meaning c =
    let there = c.in-Some-strip_prefix.ensures.cases in
    rw c.from_residual.ensures (alone_bad remove _ (sym c.read_dotted.ensures ∙ c.in_err-read_dotted.was) ∙ with_key (text "remove=") (alone remove) (from_start c.args.line.now) c.args.line.now there.0 there.1
    ∙ sym (not_add c.args.line.now c.in_default.ensures.cases))

pub returns-in-Some-strip_prefix-clause-meaning : goal.returns-in-Some-strip_prefix-clause-meaning
unfolding event_of text
returns-in-Some-strip_prefix-clause-meaning c =
    let there = c.in-Some-strip_prefix.ensures.cases in
    alone_read remove _ _ (sym c.read_dotted.ensures ∙ c.in_ok-read_dotted.was) ∙ with_key (text "remove=") (alone remove) (from_start c.args.line.now) c.args.line.now there.0 there.1
    ∙ sym (not_add c.args.line.now c.in_default.ensures.cases)

pub returns-in_err-read_dotted-2-clause-meaning : goal.returns-in_err-read_dotted-2-clause-meaning
unfolding event_of text
returns-in_err-read_dotted-2-clause-meaning c =
    let there = c.in-Some-strip_prefix-2.ensures.cases in
    rw c.from_residual-in_err-read_dotted-2.ensures (alone_bad start _ (sym c.read_dotted-in-Some-strip_prefix-2.ensures ∙ c.in_err-read_dotted-2.was) ∙ with_key (text "start=") (alone start) (from_stop c.args.line.now) c.args.line.now there.0 there.1
    ∙ sym (not_remove c.args.line.now c.in_default.ensures.cases c.in_default-strip_prefix.ensures.cases))

pub returns-in-Some-strip_prefix-2-clause-meaning : goal.returns-in-Some-strip_prefix-2-clause-meaning
unfolding event_of text
returns-in-Some-strip_prefix-2-clause-meaning c =
    let there = c.in-Some-strip_prefix-2.ensures.cases in
    alone_read start _ _ (sym c.read_dotted-in-Some-strip_prefix-2.ensures ∙ c.in_ok-read_dotted-2.was) ∙ with_key (text "start=") (alone start) (from_stop c.args.line.now) c.args.line.now there.0 there.1
    ∙ sym (not_remove c.args.line.now c.in_default.ensures.cases c.in_default-strip_prefix.ensures.cases)

pub returns-in_err-read_dotted-3-clause-meaning : goal.returns-in_err-read_dotted-3-clause-meaning
unfolding event_of text
returns-in_err-read_dotted-3-clause-meaning c =
    let there = c.in-Some-strip_prefix-3.ensures.cases in
    rw c.from_residual-in_err-read_dotted-3.ensures (alone_bad stop _ (sym c.read_dotted-in-Some-strip_prefix-3.ensures ∙ c.in_err-read_dotted-3.was) ∙ with_key (text "stop=") (alone stop) (from_tick c.args.line.now) c.args.line.now there.0 there.1
    ∙ sym (not_start c.args.line.now c.in_default.ensures.cases c.in_default-strip_prefix.ensures.cases c.in_default-strip_prefix-2.ensures.cases))

pub returns-in-Some-strip_prefix-3-clause-meaning : goal.returns-in-Some-strip_prefix-3-clause-meaning
unfolding event_of text
returns-in-Some-strip_prefix-3-clause-meaning c =
    let there = c.in-Some-strip_prefix-3.ensures.cases in
    alone_read stop _ _ (sym c.read_dotted-in-Some-strip_prefix-3.ensures ∙ c.in_ok-read_dotted-3.was) ∙ with_key (text "stop=") (alone stop) (from_tick c.args.line.now) c.args.line.now there.0 there.1
    ∙ sym (not_start c.args.line.now c.in_default.ensures.cases c.in_default-strip_prefix.ensures.cases c.in_default-strip_prefix-2.ensures.cases)

pub returns-in-Some-strip_prefix-4-clause-meaning : goal.returns-in-Some-strip_prefix-4-clause-meaning
unfolding event_of text
returns-in-Some-strip_prefix-4-clause-meaning c =
    let there = c.in-Some-strip_prefix-4.ensures.cases in
    c.tick_event.ensures.meaning ∙ with_key (text "tick=") (slashed tick_event) (from_rx c.args.line.now) c.args.line.now there.0 there.1
    ∙ sym (not_stop c.args.line.now c.in_default.ensures.cases c.in_default-strip_prefix.ensures.cases c.in_default-strip_prefix-2.ensures.cases c.in_default-strip_prefix-3.ensures.cases)

pub returns-in-Some-strip_prefix-5-clause-meaning : goal.returns-in-Some-strip_prefix-5-clause-meaning
unfolding event_of text
returns-in-Some-strip_prefix-5-clause-meaning c =
    let there = c.in-Some-strip_prefix-5.ensures.cases in
    c.rx_event.ensures.meaning ∙ with_key (text "rx=") (slashed rx_event) bad c.args.line.now there.0 there.1
    ∙ sym (not_tick c.args.line.now c.in_default.ensures.cases c.in_default-strip_prefix.ensures.cases c.in_default-strip_prefix-2.ensures.cases c.in_default-strip_prefix-3.ensures.cases c.in_default-strip_prefix-4.ensures.cases)

pub returns-clause-meaning : goal.returns-clause-meaning
unfolding event_of text
returns-clause-meaning c =
    sym (not_tick c.args.line.now c.in_default.ensures.cases c.in_default-strip_prefix.ensures.cases c.in_default-strip_prefix-2.ensures.cases c.in_default-strip_prefix-3.ensures.cases c.in_default-strip_prefix-4.ensures.cases ∙ without_key (text "rx=") (slashed rx_event) bad c.args.line.now c.in_default-strip_prefix-5.ensures.cases)
