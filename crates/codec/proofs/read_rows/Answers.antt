use Rattle.update_rows.specs.Storing.{zeros}
use Rattle.codec.proofs.ReadLaws.{rowless_read}
use Rattle.codec.specs.Reading.{rowless, meaning_reading}
use Rattle.codec.proofs.read_rows.Goals as goal

pub returns-in-Update : goal.returns-in-Update
unfolding meaning_reading
returns-in-Update c = rw c.in-Update.is (rw c.in-Update.is at c.read_update.ensures.value)

pub returns-in_default : goal.returns-in_default
unfolding rowless zeros
returns-in_default c = rowless_read _ _ _ c.in_default.not-Update
