use mathlib.Core.Path.{refl, ◌∙◌, sym}
use native.Mathlib.Omega.{arith}
use Rattle.codec.proofs.ReadLaws.{rows_accepted, accepted_room, update_read, update_refused, refused_numbered, accepted_numbered}
use Rattle.codec.proofs.read_update.Goals as goal

pub returns-in-Err-clause-value : goal.returns-in-Err-clause-value
returns-in-Err-clause-value c = c.refuse.ensures ∙ rw c.from.ensures (update_refused _ _ _ _ (sym c.walk.ensures ∙ c.in-Err.is))

pub returns-in-Err-clause-number : goal.returns-in-Err-clause-number
returns-in-Err-clause-number c =
    refused_numbered c.args.m c.args.net c.args.message.now c.refuse.result
    (c.refuse.ensures ∙ rw c.from.ensures (update_refused _ _ _ _ (sym c.walk.ensures ∙ c.in-Err.is)))

pub store_rows-requires : goal.store_rows-requires
store_rows-requires c = accepted_room (rows_accepted _ _ _ (sym c.walk.ensures ∙ c.in-Ok.is)) _ refl

pub overflow_cast-result : goal.overflow_cast-result
overflow_cast-result c = omega (arith, (rows_accepted _ _ _ (sym c.walk.ensures ∙ c.in-Ok.is)).few)

pub returns-clause-value : goal.returns-clause-value
returns-clause-value c = update_read _ _ _ _ _ (rows_accepted _ _ _ (sym c.walk.ensures ∙ c.in-Ok.is)) c.store_rows.ensures

pub returns-clause-number : goal.returns-clause-number
returns-clause-number c = accepted_numbered (rows_accepted _ _ _ (sym c.walk.ensures ∙ c.in-Ok.is))
