-- `clear_from` of a table of octets meets its contract: zeros to the end. Assumes nothing.
use Rattle.std.proofs.Common.{rules}
use Rattle.octets_words.proofs.Words.{words_length}
use Rattle.update_rows.proofs.Laws.{filled, words_cleared}
use Prim.Native.Nat.{◌*◌}
use native.Mathlib.Omega.{arith}
use Rattle.update_rows.proofs.U8TableUnit.clear_from.Goals as goal

pub overflow_mul-at : goal.overflow_mul-at
overflow_mul-at c = omega (arith, c.requires, words_length c.args.part.now, c.well_formed.0)

pub slice_bounds-fill-count : goal.slice_bounds-fill-count
slice_bounds-fill-count c = omega (arith, c.requires, words_length c.args.part.now)

pub slice_bounds-fill-start : goal.slice_bounds-fill-start
slice_bounds-fill-start c = omega (arith, c.requires, words_length c.args.part.now)

pub returns : goal.returns
returns c = words_cleared c.args.part.now c.fill.new.self c.args.at c.requires (filled c.args.part.now c.fill.new.self (c.args.at * 4) (c.fill.ensures.after (λ y h. search rules)))
