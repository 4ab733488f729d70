use mathlib.Core.Path.{◌∙◌}
use Rattle.std.proofs.Common.{map}
use native.Mathlib.Omega.{arith}
use Rattle.std.proofs.lemmas.List.{length-map}
use Rattle.update_writing.proofs.Claims.{rows_most}
use Rattle.codec_writing.proofs.Laws.{end_fits, update_end, update_written}
use Rattle.codec_writing.proofs.write_update.Goals as goal

pub write_blocks-blocks-requires-clause-rows_in_bounds : goal.write_blocks-blocks-requires-clause-rows_in_bounds
write_blocks-blocks-requires-clause-rows_in_bounds g c = omega (arith, rows_most _ _ c.requires.net_value.1, length-map c.args.rows.now g.R.LentRow.as_row)

pub seal_front-requires : goal.seal_front-requires
seal_front-requires g c =
    end_fits c.args.buffer.now _ _ (map g.R.LentRow.as_row c.args.rows.now) c.args.asn c.args.sequence c.args.status c.args.net _ _ _
    c.requires.net_value.0 c.requires.net_value.1 c.requires.in_bounds c.write_blocks-blocks.ensures.out_after c.write_blocks-blocks.ensures.end_value c.write_blocks-blocks.ensures.internal_value c.write_blocks-blocks.ensures.external_value c.store_head.ensures

pub returns-clause-value : goal.returns-clause-value
returns-clause-value g c = c.seal_front.ensures.value
    ∙ update_end c.args.buffer.now _ _ (map g.R.LentRow.as_row c.args.rows.now) c.args.asn c.args.sequence c.args.status c.args.net _ _ _
    c.requires.net_value.0 c.requires.net_value.1 c.requires.in_bounds c.write_blocks-blocks.ensures.out_after c.write_blocks-blocks.ensures.end_value c.write_blocks-blocks.ensures.internal_value c.write_blocks-blocks.ensures.external_value c.store_head.ensures

pub returns-clause-buffer_after : goal.returns-clause-buffer_after
returns-clause-buffer_after g c = c.seal_front.ensures.buffer_after
    ∙ update_written c.args.buffer.now _ _ (map g.R.LentRow.as_row c.args.rows.now) c.args.asn c.args.sequence c.args.status c.args.net _ _ _
    c.requires.net_value.0 c.requires.net_value.1 c.requires.in_bounds c.write_blocks-blocks.ensures.out_after c.write_blocks-blocks.ensures.end_value c.write_blocks-blocks.ensures.internal_value c.write_blocks-blocks.ensures.external_value c.store_head.ensures
