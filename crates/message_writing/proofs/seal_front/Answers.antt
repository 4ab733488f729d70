use Prim.Native.Nat.{ℕ}
use mathlib.Core.Path.{sym, ap}
use mathlib.Core.List.{List, ◌++◌}
use lib.ListN.{drop}
use lib.Seq.{length-take-le}
use Rattle.message_writing.proofs.seal_front.Goals as goal

pub slice_bounds-seal-end-2 : goal.slice_bounds-seal-end-2
slice_bounds-seal-end-2 c = sym (length-take-le c.args.end c.args.buffer.now c.requires)

pub returns-clause-buffer_after : goal.returns-clause-buffer_after
returns-clause-buffer_after c = ap (λ (l : List ℕ). l ++ drop c.args.end c.args.buffer.now) c.seal.ensures
