use Rattle.std.proofs.Common.{◌≡◌, ◌≤◌, ◌+◌, ◌*◌, drop}
use Rattle.octets_checksum.specs.Wide.{wide_total}
use Rattle.octets_checksum.proofs.block_sum.Given as goal

-- the words so far and those that are left make the whole sum
abbrev pub invariant-loop-word : goal.invariant-loop-word
invariant-loop-word l = (l.sum + wide_total (drop (l.word-index * 4) l.octets) ≡ wide_total l.octets) × (l.sum ≤ 4294967295 * l.word-index)
