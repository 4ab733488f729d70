-- `text::put_dotted` meets its contract, number by number. Assumes nothing.
use Rattle.text.proofs.Laws.{first_room, second_room, third_room, fourth_room, quad_done}
use Rattle.text.proofs.put_dotted.Goals as goal

pub put_before_dot-first-requires : goal.put_before_dot-first-requires
put_before_dot-first-requires c = first_room c.args.address c.args.at c.args.out.now c.requires

pub put_before_dot-second-requires : goal.put_before_dot-second-requires
put_before_dot-second-requires c = second_room c.args.address c.args.at c.args.out.now c.requires c.put_before_dot-first.ensures

pub put_before_dot-third-requires : goal.put_before_dot-third-requires
put_before_dot-third-requires c = third_room c.args.address c.args.at c.args.out.now c.requires c.put_before_dot-first.ensures c.put_before_dot-second.ensures

pub put_decimal-requires : goal.put_decimal-requires
put_decimal-requires c = fourth_room c.args.address c.args.at c.args.out.now c.requires c.put_before_dot-first.ensures c.put_before_dot-second.ensures c.put_before_dot-third.ensures

pub returns : goal.returns
returns c = quad_done c.args.address c.args.at c.args.out.now c.requires c.put_before_dot-first.ensures c.put_before_dot-second.ensures c.put_before_dot-third.ensures c.put_decimal.ensures
