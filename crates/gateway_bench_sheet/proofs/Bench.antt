-- The bench sheet, computed. Assumes nothing.
use mathlib.Core.Path.{refl}
use Rattle.gateway_bench_sheet.specs.Sheet.{BenchSheet}
use Rattle.gateway_bench_sheet.proofs.Unfolded.{opened}

pub bench_sheet : BenchSheet
unfolding opened
bench_sheet = refl
