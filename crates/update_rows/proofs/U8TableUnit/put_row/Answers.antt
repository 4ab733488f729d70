-- `put_row` of a table of octets meets its contract: three numbers. Assumes nothing.
use Rattle.octets_words.specs.Words.{words_of}
use Rattle.octets_words.proofs.Words.{words_length}
use Rattle.update_rows.proofs.Laws.{row_set, set_kept}
use native.Mathlib.Omega.{arith}
use Rattle.update_rows.proofs.U8TableUnit.put_row.Goals as goal

pub overflow_add-at : goal.overflow_add-at
overflow_add-at c = omega (arith, c.requires, words_length c.args.part.now, c.well_formed.0)

pub put_number-requires-2 : goal.put_number-requires-2
put_number-requires-2 c = omega (arith, c.requires, set_kept (words_of c.args.part.now) (words_of c.put_number.new.part) _ _ c.put_number.ensures)

pub overflow_add-at-2 : goal.overflow_add-at-2
overflow_add-at-2 c = omega (arith, c.requires, words_length c.args.part.now, c.well_formed.0)

pub put_number-requires-3 : goal.put_number-requires-3
put_number-requires-3 c = omega (arith, c.requires, set_kept (words_of c.args.part.now) (words_of c.put_number.new.part) _ _ c.put_number.ensures, set_kept (words_of c.put_number.new.part) (words_of c.put_number-2.new.part) _ _ c.put_number-2.ensures)

pub returns : goal.returns
returns c =
    let a = c.args in
    row_set (words_of a.part.now) (words_of c.put_number.new.part) (words_of c.put_number-2.new.part) (words_of c.put_number-3.new.part) a.at _ _ _ c.put_number.ensures c.put_number-2.ensures c.put_number-3.ensures
