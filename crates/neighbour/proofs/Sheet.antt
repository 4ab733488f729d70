-- The sheet of indications, computed. Assumes nothing.
use mathlib.Core.Path.{refl}
use Rattle.neighbour.specs.Rules.{indicates}
use Rattle.neighbour.specs.Sheet.{computed, written, indication_sheet, IndicationSheet}

pub indication_sheet_lem : IndicationSheet
unfolding indicates computed written indication_sheet
indication_sheet_lem = refl
