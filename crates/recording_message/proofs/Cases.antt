-- The worked fields and messages compute. Assumes nothing.
use mathlib.Core.Path.{refl}
use Rattle.recording_message.specs.Cases.{MessageCases}
use Rattle.recording_message.proofs.Unfolded.{opened}

pub cases : MessageCases
unfolding opened
cases =
    record {
      size = refl;
      last_size = refl;
      two = refl;
      kinds = refl;
      request = refl;
      confirm = refl;
      poll = refl;
      quoted = refl;
      good = refl;
      wrong = refl;
      outside = refl;
    }
