-- The sheet of turns computes. Assumes nothing.
use mathlib.Core.Path.{refl}
use Rattle.recording_player.specs.Sheet as PlayerSheet
use Rattle.recording_player.proofs.Unfolded.{opened}

pub sheet : PlayerSheet.Sheet
unfolding opened
sheet =
    record {
      start = refl;
      start_short = refl;
      stop_short = refl;
      rx_short = refl;
      table_short = refl;
      table_wrong = refl;
      not_formed = refl;
      add = refl;
      remove = refl;
      add_not_formed = refl;
      bad = refl;
      bad_short = refl;
      tick_line = refl;
      tick = refl;
      tick_late = refl;
      ticks_late = refl;
      tick_short = refl;
      held = refl;
      line_short = refl;
      setting = refl;
      setting_short = refl;
      good_setting = refl;
      fresh = refl;
      fresh_short = refl;
      quiet = refl;
      quiet_zero = refl;
      quiet_state = refl;
      quiet_zero_state = refl;
      quiet_two = refl;
      quiet_two_state = refl;
      quiet_zeros = refl;
      quiet_short = refl;
      quiet_sixth = refl;
      quiet_sixth_state = refl;
      quiet_fourth = refl;
      traced_add = refl;
      traced_add_short = refl;
      traced_remove_short = refl;
      traced_add_not_formed = refl;
      traced_tick = refl;
      traced_tick_passed = refl;
      traced_last = refl;
      traced_last_passed = refl;
      plain_passed = refl;
      missing = refl;
      missing_short = refl;
      unended = refl;
      unended_short = refl;
      listed = refl;
      listed_short = refl;
      listed_table = refl;
      listed_not_formed = refl;
    }
