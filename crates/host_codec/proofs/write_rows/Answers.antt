use mathlib.Core.List.{[], ◌∷◌}
use Rattle.host_codec.proofs.WriteLaws.{one_refused, long_refused, rows_broken, rows_whole, refused_alike}
use Rattle.host_codec.specs.Codec.{}
use Rattle.octets_words.specs.Words.{row_numbers}
use Rattle.host_codec.proofs.write_rows.Goals as goal

pub returns-then-rows-ne0 : goal.returns-then-rows-ne0
returns-then-rows-ne0 c = rw (rows_broken c.args.rows.now c.if-rows-ne0.true) (record { value = c.write.ensures.value; buffer_after = c.write.ensures.buffer_after })

pub returns-then-rows-gt1536 : goal.returns-then-rows-gt1536
returns-then-rows-gt1536 c = let both = refused_alike c.args.m c.args.buffer.now (0 ∷ []) (row_numbers c.args.rows.now) (one_refused c.args.m) (long_refused c.args.m c.args.rows.now c.if-rows-ne0.false c.if-rows-gt1536.true) _ _ c.write-then-rows-gt1536.ensures.value c.write-then-rows-gt1536.ensures.buffer_after in record { value = both.0; buffer_after = both.1 }

pub returns : goal.returns
returns c = rw (rows_whole c.args.rows.now c.if-rows-ne0.false) (record { value = c.write_words.ensures.value; buffer_after = c.write_words.ensures.buffer_after })
