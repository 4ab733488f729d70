-- `text::put_before_dot` meets its contract. Assumes nothing.
use Rattle.text.proofs.Laws.{number_room, dot_room, dot_done}
use Rattle.text.proofs.put_before_dot.Goals as goal

pub put_decimal-end-requires : goal.put_decimal-end-requires
put_decimal-end-requires c = number_room c.args.n c.args.at c.args.out.now c.requires

pub put-requires : goal.put-requires
put-requires c = dot_room c.args.n c.args.at c.args.out.now c.requires c.put_decimal-end.ensures

pub returns : goal.returns
returns c = dot_done c.args.n c.args.at c.args.out.now c.requires c.put_decimal-end.ensures c.put.ensures
