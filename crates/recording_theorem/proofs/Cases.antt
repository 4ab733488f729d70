-- The worked recordings compute. Assumes nothing.
use mathlib.Core.Path.{refl}
use Rattle.recording_theorem.specs.Cases as Cases
use Rattle.recording_theorem.proofs.Unfolded.{opened}

pub cases : Cases.PlayedCases
unfolding opened
cases =
    record {
      empty = refl;
      blank = refl;
      second = refl;
      third = refl;
      missing = refl;
      unended = refl;
      refused = refl;
      eventless = refl;
      some_bad = refl;
      started = refl;
      two_replies = refl;
      refused_reply = refl;
      seconds = refl;
      seconds_anew = refl;
      stray = refl;
      stray_zero = refl;
      stray_one = refl;
      quiet_two = refl;
      quiet_zeros = refl;
      quiet_sixth = refl;
      quiet_later = refl;
      quiet_twice = refl;
      quiet_kept = refl;
      quiet_unended = refl;
      quiet_early = refl;
      refused_quiet = refl;
      refused_bad = refl;
    }

pub traced_cases : Cases.TracedCases
unfolding opened
traced_cases = record { seconds = refl; started = refl; one_by_one = refl; broken = refl }
