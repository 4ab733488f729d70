-- `recording_call::told` meets its contract. Assumes nothing.
use mathlib.Core.Path.{refl}
use Rattle.recording_call.specs.Steps.{called_with}
use Rattle.recording_call.proofs.told.Goals as goal

pub returns : goal.returns
unfolding called_with
returns c = refl
