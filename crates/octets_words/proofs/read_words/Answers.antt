use Rattle.std.proofs.Common.{ap, ◌∙◌, arith, take}
use Rattle.octets_words.specs.Words.{words_of}
use Rattle.octets_words.proofs.Loops.{read_all}
use Rattle.octets_words.proofs.read_words.Goals as goal

pub returns : goal.returns
returns c =
    read_all c.loop-i.numbers c.args.octets.now (omega arith) (λ k below. c.loop-i.invariant k (omega arith))
    ∙ ap (λ n. take n (words_of c.args.octets.now)) c.loop-i.auto.numbers
