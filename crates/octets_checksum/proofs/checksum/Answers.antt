use Prim.Native.Nat.{ℕ, ◌-◌}
use mathlib.Core.Path.{◌∙◌, ap}
use Rattle.checks.proofs.Laws.{part_from_lem}
use Rattle.octets_checksum.specs.Checksum.{folded}
use Rattle.octets_checksum.proofs.Wide.{first_fits, checksum_front, checksum_rest}
use Rattle.octets_checksum.proofs.checksum.Goals as goal

pub returns-then-message-lt8 : goal.returns-then-message-lt8
returns-then-message-lt8 c =
    ap (λ (x : ℕ). 65535 - x) (c.fold.ensures ∙ ap folded c.first_words.ensures)
    ∙ checksum_front c.args.message.now (λ i. (c.type_inv.message i).fits) c.if-message-lt8.true

pub wide_sum-requires : goal.wide_sum-requires
wide_sum-requires c = rw c.first_words-2.ensures (first_fits c.args.message.now (λ i. (c.type_inv.message i).fits))

pub returns : goal.returns
returns c =
    ap (λ (x : ℕ). 65535 - x)
    (c.fold-2.ensures ∙ c.wide_sum.ensures ∙ rw (c.first_words-2.ensures, part_from_lem 8 c.args.message.now))
    ∙ checksum_rest c.args.message.now (λ i. (c.type_inv.message i).fits)
