-- `text_values::is_hex` meets its contract: an even number of digits, each of them one. Assumes nothing.
use Rattle.std.proofs.Common.{is_some, ◌∙◌, rules, tests}
use borrow.Author.Tests.{ne_eqb}
use Rattle.std.proofs.lemmas.Iterator.{YieldsList-from_slice}
use Rattle.std.proofs.lemmas.Iterator.Search.{all_from_yields_List}
use Rattle.text_values.specs.Hex.{digit_number}
use Rattle.text_values.proofs.Laws.{hex_even, hex_odd}
use Rattle.text_values.proofs.is_hex.Goals as goal

pub returns-then-text-eq0 : goal.returns-then-text-eq0
returns-then-text-eq0 c =
    let l = c.args.text.now in
    all_from_yields_List (λ d. is_some (digit_number d)) _ _ c.all.result c.all.ensures.ran (YieldsList-from_slice l cc) (λ x b q k. search (rules, tests))
    ∙ hex_even l c.if-text-eq0.true

pub returns-else-text-eq0 : goal.returns-else-text-eq0
returns-else-text-eq0 c = ne_eqb _ _ c.if-text-eq0.false ∙ hex_odd c.args.text.now c.if-text-eq0.false
