use Rattle.std.proofs.Common.{sym, ◌∙◌, arith}
use Rattle.octets_words.proofs.Loops.{write_turn, write_done, write_over}
use Rattle.octets_words.proofs.write_words.Goals as goal

pub loop-i-preserved : goal.loop-i-preserved
loop-i-preserved c = c.loop-i.invariant ∙ write_turn c.loop-i.out _ c.args.numbers.now c.loop-i.i (omega arith) c.put32.ensures

pub returns : goal.returns
returns c = sym (c.loop-i.invariant ∙ write_done c.loop-i.out c.args.numbers.now c.loop-i.i (omega arith)) ∙ write_over c.args.out.now c.args.numbers.now c.requires
