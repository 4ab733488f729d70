-- `text_values::put_hex` meets its contract. The loop keeps what is left to write. Assumes nothing.
use native.Mathlib.Omega.{arith}
use Rattle.text.proofs.Writing.{none_left}
use Rattle.text_values.proofs.Laws.{digits_room, digits_turn, text_end}
use Rattle.text_values.proofs.put_hex.Goals as goal

pub put-requires : goal.put-requires
put-requires c =
    let l = c.loop-octet in
    digits_room c.args.octets.now l.octet-index (omega arith) l.invariant c.digit_of.ensures c.digit_of-in-loop-octet.ensures

pub loop-octet-preserved : goal.loop-octet-preserved
loop-octet-preserved c =
    let l = c.loop-octet in
    digits_turn c.args.octets.now l.octet-index (omega arith) l.invariant c.digit_of.ensures c.digit_of-in-loop-octet.ensures c.put.ensures

pub returns : goal.returns
returns c = none_left c.loop-octet.invariant (text_end c.args.octets.now c.loop-octet.octet-index (omega arith))
