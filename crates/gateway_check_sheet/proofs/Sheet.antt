-- The check sheet, computed. Assumes nothing.
use mathlib.Core.Path.{refl}
use Rattle.gateway_check_sheet.specs.Sheet.{CheckSheet}
use Rattle.gateway_check_sheet.proofs.Unfolded.{opened}

pub check_sheet : CheckSheet
unfolding opened
check_sheet =
    record {
      numbers = refl;
      orders = refl;
      replies = refl;
      forms = refl;
      homes = refl;
      settings = refl;
      kinds = refl;
      sequences = refl;
      spacings = refl;
      bodies = refl;
      writings = refl;
      listings = refl;
      effects = refl;
      strays = refl;
      refused_strays_lem = refl;
      seconds = refl;
      untimed = refl;
      refused_ticks_lem = refl;
      timed_forms_lem = refl;
      timed_listing = refl;
      indications = refl;
      class_c = refl;
    }
