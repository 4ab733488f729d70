use Rattle.std.proofs.Common.{◌≡◌, ◌*◌, drop}
use Rattle.std.proofs.lemmas.List.Edits.{sets}
use Rattle.octets_words.specs.Words.{word_octets}
use Rattle.octets_words.proofs.write_words.Given as goal

-- what is left to write gives what all of it gave at first
abbrev pub invariant-loop-i : goal.invariant-loop-i
invariant-loop-i l = sets l.initial.out 0 (word_octets l.numbers) ≡ sets l.out (l.i * 4) (word_octets (drop l.i l.numbers))
