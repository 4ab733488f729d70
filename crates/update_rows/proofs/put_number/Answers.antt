-- `update_rows::put_number` meets its contract: four octets. Assumes nothing.
use Rattle.octets_words.proofs.Words.{words_length}
use Rattle.update_rows.proofs.Laws.{words_number}
use native.Mathlib.Omega.{arith}
use mathlib.Core.Path.{◌∙◌}
use Rattle.update_rows.proofs.put_number.Goals as goal

pub overflow_mul-at : goal.overflow_mul-at
overflow_mul-at c = omega (arith, c.requires, words_length c.args.part.now, c.well_formed.0)

pub overflow_add-at : goal.overflow_add-at
overflow_add-at c = omega (arith, c.requires, words_length c.args.part.now, c.well_formed.0)

pub slice_bounds-copy_from_slice-end : goal.slice_bounds-copy_from_slice-end
slice_bounds-copy_from_slice-end c = omega (arith, c.requires, words_length c.args.part.now)

pub returns : goal.returns
returns c = words_number c.args.part.now c.copy_from_slice.new.self c.args.at c.args.number c.swap_bytes.result _ (omega arith) (c.copy_from_slice.ensures.after ∙ c.to_le_bytes.ensures) (omega (arith, c.ranges.number)) c.swap_bytes.ensures c.requires
