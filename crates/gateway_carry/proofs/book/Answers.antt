use borrow.Author.Tests.{not-true}
use Rattle.neighbour_seconds.proofs.Laws.{seconds_laws}
use Rattle.gateway_rules.specs.Seconds.{has_time}
use Rattle.gateway_carry.proofs.book.Goals as goal

pub second_more-requires : goal.second_more-requires
unfolding has_time
second_more-requires c = let e = c.in-Tick.is in seconds_laws.room c.args.slot.seconds c.requires.0 (not-true _ (rw e at c.requires.1))
