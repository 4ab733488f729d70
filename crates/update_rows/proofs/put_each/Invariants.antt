-- `update_rows::put_each` meets its contract: what is left to store leaves the same as the whole. Assumes nothing.
use Rattle.update_rows.proofs.Laws.{Doing, final}
use Rattle.update_walk.specs.Body.{many}
use lib.ListN.{length}
use Prim.Native.Nat.{◌-◌}
use Rattle.update_rows.proofs.put_each.Given as goal

abbrev pub invariant-loop-element : goal.invariant-loop-element
invariant-loop-element g l =
    Doing (final (many (g.E.Element.reading l.element) l.count l.t) l.at (g.U.TableUnit.numbers l.initial.part)) (length (g.U.TableUnit.numbers l.initial.part)) (g.E.Element.reading l.element) (l.count - l._element) l.put.rest.now l.put.at (g.U.TableUnit.numbers l.part)
