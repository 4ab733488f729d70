use Rattle.std.proofs.Common.{◌≡◌, ◌*◌, ◌<◌, ℕ, slice_index}
use Rattle.octets.specs.Numbers.{word32}
use Rattle.octets_words.proofs.read_words.Given as goal

-- the numbers read so far are those of their octets
abbrev pub invariant-loop-i : goal.invariant-loop-i
invariant-loop-i l = (k : ℕ) → k < l.i → slice_index l.numbers k ≡ word32 l.octets (k * 4)
