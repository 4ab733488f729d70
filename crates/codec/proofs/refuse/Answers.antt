use mathlib.Core.Path.{refl}
use Rattle.update_rows.specs.Storing.{zeros}
use Rattle.codec.specs.Reading.{refusal}
use Rattle.codec.proofs.refuse.Goals as goal

pub returns : goal.returns
unfolding refusal zeros
returns c = refl
