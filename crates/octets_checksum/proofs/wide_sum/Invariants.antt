use Rattle.std.proofs.Common.{◌≡◌, ◌+◌, ◌*◌, ◌<◌, drop}
use Rattle.octets_checksum.specs.Checksum.{folded}
use Rattle.octets_checksum.specs.Wide.{wide_total}
use Rattle.octets_checksum.proofs.wide_sum.Given as goal

-- the sum folds with the turns that are left as start does with all octets, and has room for what is behind them
abbrev pub invariant-loop-turn : goal.invariant-loop-turn
invariant-loop-turn l =
    (folded (l.sum + wide_total (drop (l.turn-index * 32) l.octets)) ≡ folded (l.start + wide_total l.octets)) × (l.sum < 9223372075509481472)
