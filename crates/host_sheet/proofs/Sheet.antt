-- The C layer's sheet, computed. Assumes nothing.
use mathlib.Core.Path.{refl}
use Rattle.host_sheet.specs.Sheet.{HostSheet}
use Rattle.host_sheet.proofs.Unfolded.{opened}

pub host_sheet : HostSheet
unfolding opened
host_sheet =
    record {
      layout_written = refl;
      layout_read = refl;
      quiet_written = refl;
      quiet_read = refl;
      places = refl;
      ranges = refl;
      lengths = refl;
      forms = refl;
      tables = refl;
      others = refl;
      packed = refl;
      results = refl;
      effects = refl;
      seconds = refl;
      readings = refl;
      writings = refl;
    }
