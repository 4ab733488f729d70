-- `recording_gather::gather` meets its contract. The loop keeps: what is left of the piece, from the state reached, gives what the whole gives. Assumes nothing.
use Rattle.std.proofs.Common.{arith}
use Rattle.recording_gather.proofs.Laws.{begins, ends, goes_on, used_up_lem}
use Rattle.recording_gather.proofs.gather.Goals as goal

pub loop-i-init : goal.loop-i-init
loop-i-init c = begins _ _ _ (omega arith)

pub returns-then-octet-eq10 : goal.returns-then-octet-eq10
returns-then-octet-eq10 c = let both = ends c.loop-i.invariant c.loop-i-test.true c.if-octet-eq10.true in record { value = both.0; line_after = both.1 }

pub loop-i-preserved : goal.loop-i-preserved
loop-i-preserved c =
    goes_on c.loop-i.invariant c.loop-i-test.true c.if-octet-eq10.false c.count_one-size.result c.keep.new.line
    (omega arith) c.count_one-size.ensures (rw c.from.ensures at c.keep.ensures)

pub returns : goal.returns
returns c = let both = used_up_lem c.loop-i.invariant c.loop-i-test.false in record { value = both.0; line_after = both.1 }
