-- `host_listing::listing` meets its contract: a refusal, or the text written. Assumes nothing.
use Rattle.checks.proofs.Refusals.{number_not_0}
use Rattle.host_listing.proofs.Calls.{refused, text_room, text_word, carried_out_lem}
use mathlib.Core.Path.{refl, ap, ◌∙◌}
use Rattle.host_result.specs.Packed.{bare}
use Rattle.host_listing.proofs.listing.Goals as goal

pub returns-in-Err : goal.returns-in-Err
returns-in-Err c = let both = refused c.args.block.now c.args.table.now c.args.text.now _ (c.in-Err.ensures c.args.text.now refl) (number_not_0 c.in-Err.refusal) _ (c.alone.ensures ∙ ap bare c.from.ensures) in record { value = both.0; text_after = both.1 }

pub put_listing-length-requires : goal.put_listing-length-requires
put_listing-length-requires c = let both = text_room c.args.block.now c.args.table.now c.args.text.now 0 (c.in_default.ensures c.args.text.now refl) refl (λ j. (c.type_inv.block j).fits) in record { lent = both.0; room = both.1 }

pub overflow_cast-length : goal.overflow_cast-length
overflow_cast-length c = record { fits = text_word c.args.block.now c.args.table.now c.args.text.now 0 (c.in_default.ensures c.args.text.now refl) refl (λ j. (c.type_inv.block j).fits) _ c.put_listing-length.ensures.value }

pub returns : goal.returns
returns c = let both = carried_out_lem c.args.block.now c.args.table.now c.args.text.now 0 (c.in_default.ensures c.args.text.now refl) refl (λ j. (c.type_inv.block j).fits) _ _ _ (c.put_listing-length.ensures.value, c.put_listing-length.ensures.out_after) c.pack.ensures in record { value = both.0; text_after = both.1 }
