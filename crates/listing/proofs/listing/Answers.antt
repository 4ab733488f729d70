-- `listing::listing` meets its contract: a refusal, or the text written. Assumes nothing.
use Rattle.listing.proofs.Calls.{refused, text_room, text_word, carried_out_lem}
use Rattle.listing.proofs.Words.{typed_of}
use mathlib.Core.Path.{refl}
use Rattle.gateway_state.proofs.OutcomeLaws.{number_used}
use Rattle.gateway_state.specs.contracts.Slot as SlotType
use Rattle.listing.proofs.listing.Goals as goal

pub returns-in-Err : goal.returns-in-Err
returns-in-Err c = let both = refused c.args.st c.args.table.now c.args.buffer.now _ (c.in-Err.ensures c.args.buffer.now refl) (number_used _) _ (rw c.from.ensures at c.refused.ensures) in record { value = both.0; buffer_after = both.1 }

pub put_listing-length-requires : goal.put_listing-length-requires
put_listing-length-requires c = let both = text_room c.args.st c.args.table.now c.args.buffer.now 0 (c.in_default.ensures c.args.buffer.now refl) refl (typed_of c.args.st SlotType.the_row.own_val (λ x vs g. g.1.1.1.0.1) _ c.well_formed.0.1.1.1.0.1.0.1 c.well_formed.0.1.1.1.0.1.1) in record { st_value = both.0; room = both.1 }

pub overflow_cast-result : goal.overflow_cast-result
overflow_cast-result c = record { fits = text_word c.args.st c.args.table.now c.args.buffer.now 0 (c.in_default.ensures c.args.buffer.now refl) refl (typed_of c.args.st SlotType.the_row.own_val (λ x vs g. g.1.1.1.0.1) _ c.well_formed.0.1.1.1.0.1.0.1 c.well_formed.0.1.1.1.0.1.1) _ c.put_listing-length.ensures.value }

pub returns : goal.returns
returns c = let both = carried_out_lem c.args.st c.args.table.now c.args.buffer.now 0 (c.in_default.ensures c.args.buffer.now refl) refl (typed_of c.args.st SlotType.the_row.own_val (λ x vs g. g.1.1.1.0.1) _ c.well_formed.0.1.1.1.0.1.0.1 c.well_formed.0.1.1.1.0.1.1) _ _ (c.put_listing-length.ensures.value, c.put_listing-length.ensures.out_after) in record { value = both.0; buffer_after = both.1 }
