use borrow.Author.Tests.{lt-ltb, le-ltb}
use Rattle.octets_checksum.specs.Wide.{kept_sum}
use Rattle.octets_checksum.proofs.with_room.Goals as goal

pub returns-then-sum-lt9223372036854775808 : goal.returns-then-sum-lt9223372036854775808
unfolding kept_sum
returns-then-sum-lt9223372036854775808 c = simp (lt-ltb _ _ c.if-sum-lt9223372036854775808.true)

pub returns : goal.returns
unfolding kept_sum
returns c = simp (le-ltb _ _ c.if-sum-lt9223372036854775808.false) c.fold.ensures
