-- What a record may ask for.
use Rattle.std.specs.Prelude.{◌≤◌}
use Rattle.driver_records.specs.declared.RecordHead.{RecordHead}

-- at most 4,096 octets, 4,096 numbers and a buffer of 70,000 octets
pub record InBounds (head : RecordHead) : Type 0 where
  pub octets : head.octets ≤ 4096
  pub numbers : head.numbers ≤ 4096
  pub room : head.room ≤ 70000
