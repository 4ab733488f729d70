use mathlib.Core.List.{[]}
use mathlib.Core.Path.{◌∙◌}
use native.Mathlib.Omega.{arith}
use Rattle.octets.specs.Numbers.{octets32}
use Rattle.octets.proofs.Numbers.{sets_part}
use Rattle.octets.proofs.put32.Goals as goal

pub returns : goal.returns
returns c = sets_part c.args.out.now (octets32 c.args.number []) _ c.args.at _ (c.copy_from_slice.ensures.after ∙ c.to_be_bytes.ensures) (omega arith) c.requires
