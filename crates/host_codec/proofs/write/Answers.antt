use mathlib.Core.Path.{sym, ap, ◌∙◌}
use Rattle.octets.specs.Buffer.{over}
use Rattle.message.specs.declared.Message.{Message}
use Rattle.codec.specs.Writing.{write_of, write_octets}
use Rattle.host_codec.proofs.WriteLaws.{is_told, write_3, write_16, write_done, write_refused}
use Rattle.octets_words.specs.Words.{row_numbers}
use Rattle.host_codec.proofs.write.Goals as goal

pub returns-then-buffer-lt2048 : goal.returns-then-buffer-lt2048
returns-then-buffer-lt2048 c = let both = write_3 _ _ _ _ c.if-buffer-lt2048.true c.alone.ensures in record { value = both.0; buffer_after = both.1 }

pub returns-then-not-same_octets : goal.returns-then-not-same_octets
returns-then-not-same_octets c = let both = write_16 _ _ _ _ c.if-buffer-lt2048.false (is_told _ _ _ _ c.same_octets.ensures c.meaning_octets.ensures c.read_meaning-m.ensures ∙ c.if-not-same_octets.true) c.alone-then-not-same_octets.ensures in record { value = both.0; buffer_after = both.1 }

pub returns-in-Ok : goal.returns-in-Ok
returns-in-Ok c =
    let a = c.args in
    let m = c.read_meaning-m.ensures in
    let both = write_done a.meaning.now a.rows.now a.buffer.now _
    (is_told _ _ _ _ c.same_octets.ensures c.meaning_octets.ensures m ∙ c.if-not-same_octets.false)
    (c.write_rows.ensures.buffer_after ∙ ap (λ (t : Message). over (write_octets t (row_numbers a.rows.now) a.buffer.now) a.buffer.now) m) _ _
    (sym (c.write_rows.ensures.value ∙ ap (λ (t : Message). write_of t (row_numbers a.rows.now) a.buffer.now) m) ∙ c.in-Ok.is) c.pack.ensures in
    record { value = both.0; buffer_after = both.1 }

pub returns-in-Err : goal.returns-in-Err
returns-in-Err c =
    let a = c.args in
    let m = c.read_meaning-m.ensures in
    let both = write_refused a.meaning.now a.rows.now a.buffer.now _
    (is_told _ _ _ _ c.same_octets.ensures c.meaning_octets.ensures m ∙ c.if-not-same_octets.false)
    (c.write_rows.ensures.buffer_after ∙ ap (λ (t : Message). over (write_octets t (row_numbers a.rows.now) a.buffer.now) a.buffer.now) m) _ _
    (sym (c.write_rows.ensures.value ∙ ap (λ (t : Message). write_of t (row_numbers a.rows.now) a.buffer.now) m) ∙ c.in-Err.is)
    (rw c.from.ensures at c.alone-in-Err.ensures) in
    record { value = both.0; buffer_after = both.1 }
