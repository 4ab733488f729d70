-- `host_listing::put_used` meets its contract: the numbers read, then the head and the rows. Assumes nothing.
use Rattle.host_listing.proofs.Laws.{front_long, front_fits, numbers_read, read_long, head_room, rows_room, entry_done}
use Rattle.octets_words.proofs.Words.{words_length}
use mathlib.Core.Path.{ap, ◌∙◌}
use lib.ListN.{length}
use native.Mathlib.Omega.{arith}
use Rattle.host_listing.proofs.put_used.Goals as goal

pub slice_bounds-read_words-end-2 : goal.slice_bounds-read_words-end-2
slice_bounds-read_words-end-2 c = front_long c.args.numbers.now c.args.octets.now c.requires.i_bound.1

pub read_words-requires : goal.read_words-requires
read_words-requires c = front_fits c.args.numbers.now c.args.octets.now c.requires.i_bound.1

pub slice_bounds-rows-end-2 : goal.slice_bounds-rows-end-2
slice_bounds-rows-end-2 c = read_long c.args.numbers.now c.args.octets.now c.requires.i_bound.1 c.read_words.ensures

pub put_head-requires : goal.put_head-requires
put_head-requires c = let q = numbers_read c.args.numbers.now c.args.octets.now c.requires.i_bound.1 c.read_words.ensures in record { i_bound = (c.requires.i_bound.0, omega (arith, ap length q ∙ words_length c.args.octets.now, c.requires.i_bound.1, c.requires.i_bound.2)); rows_in_bounds = head_room c.args.i c.args.slot c.args.octets.now _ q c.args.out.now c.requires.room }

pub put_rows-requires : goal.put_rows-requires
put_rows-requires c = rows_room c.args.i c.args.slot c.args.octets.now _ (numbers_read c.args.numbers.now c.args.octets.now c.requires.i_bound.1 c.read_words.ensures) c.args.out.now c.requires.room c.put_head.ensures

pub returns : goal.returns
returns c = entry_done c.args.i c.args.slot c.args.octets.now _ (numbers_read c.args.numbers.now c.args.octets.now c.requires.i_bound.1 c.read_words.ensures) c.args.out.now c.requires.room c.put_head.ensures c.put_rows.ensures
