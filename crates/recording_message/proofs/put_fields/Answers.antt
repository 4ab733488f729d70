-- `recording_message::put_fields` meets its contract. The loop keeps what is written and room for the rest. Assumes nothing.
use native.Mathlib.Omega.{arith}
use mathlib.Core.Path.{sym}
use Rattle.checks.proofs.Laws.{part_from_lem}
use Rattle.recording_message.proofs.Laws.{fields_done, size_fits, key_long, value_room, fields_more}
use Rattle.recording_message.proofs.put_fields.Goals as goal

pub slice_bounds-put-end : goal.slice_bounds-put-end
slice_bounds-put-end c = sym (key_long c.loop-value.invariant c.requires c.loop-value-test.true _ c.key_size-size.ensures)

pub put-requires-in-loop-value : goal.put-requires-in-loop-value
put-requires-in-loop-value c = value_room c.loop-value.invariant c.requires c.loop-value-test.true _ c.key_size-size.ensures c.put.ensures (omega (arith, c.type_inv.values c.loop-value.value-index))

pub slice_bounds-rest-count : goal.slice_bounds-rest-count
slice_bounds-rest-count c = size_fits c.loop-value.invariant c.requires c.loop-value-test.true _ c.key_size-size.ensures

pub slice_bounds-rest-start : goal.slice_bounds-rest-start
slice_bounds-rest-start c = omega (arith, size_fits c.loop-value.invariant c.requires c.loop-value-test.true _ c.key_size-size.ensures)

pub loop-value-preserved : goal.loop-value-preserved
loop-value-preserved c = rw (part_from_lem c.key_size-size.result c.loop-value.rest.now) (fields_more c.loop-value.invariant c.requires c.loop-value-test.true _ c.key_size-size.ensures c.put.ensures (omega (arith, c.type_inv.values c.loop-value.value-index)) c.put-in-loop-value.ensures)

pub returns : goal.returns
returns c = let both = fields_done c.loop-value.invariant (omega (arith, c.loop-value-test.false)) in record { written = both.0; upper_bound = both.1 }
