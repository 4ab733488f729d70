-- `message_writing::write_short` meets its contract. Assumes nothing.
use mathlib.Core.List.{List}
use Prim.Native.Nat.{ℕ}
use mathlib.Core.Path.{◌∙◌, ap}
use lib.ListN.{length}
use Rattle.octets.specs.Buffer.{over}
use Rattle.octets_checksum.proofs.Laws.{sealed_length}
use Rattle.message_writing.proofs.write_short.Goals as goal

pub returns-clause-value : goal.returns-clause-value
returns-clause-value c = c.store.ensures.value ∙ ap length c.short.ensures ∙ sealed_length _

pub returns-clause-buffer_after : goal.returns-clause-buffer_after
returns-clause-buffer_after c = c.store.ensures.buffer_after ∙ ap (λ (l : List ℕ). over l c.args.buffer.now) c.short.ensures
