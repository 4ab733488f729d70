use Rattle.nets.proofs.Laws.{span_positive}
use Rattle.nets.proofs.is_same_part.Goals as goal

pub nonzero_div-result : goal.nonzero_div-result
nonzero_div-result c = rw c.host_span-span.ensures (span_positive _)

pub nonzero_div-result-2 : goal.nonzero_div-result-2
nonzero_div-result-2 c = rw c.host_span-span.ensures (span_positive _)
