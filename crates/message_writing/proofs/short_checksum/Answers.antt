-- `message_writing::short_checksum` meets its contract: the plain sum of the words, folded once. Assumes nothing.
use Prim.Native.Nat.{ℕ, ◌-◌}
use mathlib.Core.Path.{◌∙◌, ap}
use Rattle.message_writing.proofs.Laws.{short_sum}
use borrow.Author.Rules.{rules}
use Rattle.message_writing.proofs.short_checksum.Goals as goal

pub returns : goal.returns
returns c =
    let a = c.args in
    ap (λ (x : ℕ). 65535 - x) c.fold.ensures ∙ short_sum a.number a.code a.status a.asn a.sequence (search rules) (search rules) (search rules) (search rules) (search rules)
