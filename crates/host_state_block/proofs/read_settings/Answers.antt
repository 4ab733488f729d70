use mathlib.Core.Path.{◌∙◌}
use lib.ListN.{get_or}
use Rattle.octets.proofs.Back.{quad_bytes}
use Rattle.host_state_block.specs.Layout.{numbers_at}
use Rattle.host_state_block.specs.Block.{settings_of, settings_in}
use Rattle.host_state_block.proofs.read_settings.Goals as goal

pub returns : goal.returns
unfolding settings_in settings_of numbers_at
returns c = λ i. record { asn = c.from_be_bytes.ensures i; own = (c.from_be_bytes-2.ensures ∙ quad_bytes _ _ _ _) i; capability = get_or c.args.part.now 6 0; net = (c.from_be_bytes-3.ensures ∙ quad_bytes _ _ _ _) i; quiet = get_or c.args.part.now 11 0 }
