-- The worked lines compute. Assumes nothing.
use mathlib.Core.Path.{refl}
use Rattle.recording_trace.specs.Cases.{TraceCases}
use Rattle.recording_trace.proofs.Unfolded.{opened}

pub cases : TraceCases
unfolding opened
cases =
    record {
      deeds = refl;
      both = λ net. refl;
      empty = λ net. refl;
      none = λ net. refl;
      changed = refl;
      removed = refl;
      whole = refl;
      nobody = refl;
      quiet = refl;
      sent = refl;
      state = refl;
      register = refl;
      rows = refl;
      unknown = refl;
      passed = refl;
      last = refl;
      loud = refl;
      another = refl;
    }
