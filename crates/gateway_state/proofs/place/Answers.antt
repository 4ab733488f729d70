use mathlib.Core.Path.{refl}
use Rattle.gateway_state.specs.Places.{place}
use Rattle.gateway_state.proofs.place.Goals as goal

pub returns : goal.returns
unfolding place
returns c counts = refl
