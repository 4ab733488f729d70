-- The checksums of the sheet come out as it says. Assumes nothing.
use mathlib.Core.Path.{refl}
use Rattle.octets_checksum.specs.Checksum.{ones_add, ones_sum, checksum_of, folded}
use Rattle.octets_checksum.specs.Wide.{wide_total}
use Rattle.octets_checksum.specs.Sheet.{counting, lines, ChecksumSheet}

pub checksum_sheet : ChecksumSheet
unfolding ones_add ones_sum checksum_of folded wide_total counting lines
checksum_sheet = record { words = refl; wide_words = refl }
