-- The C layer's sheet: 02's state block, numbers, results and effects, reading alone and writing as literal cases, and
-- the claim about them. The lines are written from 01 and 02 alone, and the checksums in them were worked out apart
-- from our definitions: so a rule that is wrong in definition and code together shows here.
use Rattle.std.specs.Prelude.{◌≡◌, map}
use Rattle.host_state_block.specs.Block.{block_of, state_in}
use Rattle.host_sheet.specs.Layout.{every_field, every_octet, both_kinds, both_blocks, places_computed, places_written}
use Rattle.host_sheet.specs.Ranges.{ranges}
use Rattle.host_sheet.specs.Ranges as Ranges
use Rattle.host_sheet.specs.Line.{computed, written}
use Rattle.host_sheet.specs.Numbers.{lengths, forms, tables, others}
use Rattle.host_sheet.specs.Results.{packed_computed, packed_written, results}
use Rattle.host_sheet.specs.Effects.{effects}
use Rattle.host_sheet.specs.Seconds.{seconds}
use Rattle.host_sheet.specs.Readings.{readings}
use Rattle.host_sheet.specs.Readings as Readings
use Rattle.host_sheet.specs.Writings.{writings}
use Rattle.host_sheet.specs.Writings as Writings

pub record HostSheet : Type 0 where
  -- the block of a state, and the state in a block
  pub layout_written : block_of every_field ≡ every_octet
  pub layout_read : state_in every_octet ≡ every_field
  pub quiet_written : map block_of both_kinds ≡ both_blocks
  pub quiet_read : map state_in both_blocks ≡ both_kinds
  pub places : places_computed ≡ places_written
  -- which octets make a block well formed
  pub ranges : map Ranges.computed ranges ≡ map Ranges.written ranges
  -- 20
  pub lengths : map computed lengths ≡ map written lengths
  -- 1
  pub forms : map computed forms ≡ map written forms
  -- 2
  pub tables : map computed tables ≡ map written tables
  -- 3 to 18
  pub others : map computed others ≡ map written others
  -- four numbers in one
  pub packed : packed_computed ≡ packed_written
  pub results : map computed results ≡ map written results
  -- what is left in block and table
  pub effects : map computed effects ≡ map written effects
  -- the seconds in each state
  pub seconds : map computed seconds ≡ map written seconds
  -- reading alone, and writing
  pub readings : map Readings.computed readings ≡ map Readings.written readings
  pub writings : map Writings.computed writings ≡ map Writings.written writings
