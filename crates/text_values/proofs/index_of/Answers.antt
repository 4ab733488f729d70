-- `text_values::index_of` meets its contract: the library's place is the first. Assumes nothing.
use Rattle.std.proofs.Common.{cond, ltb, eqb, length, ℕ, Some, None, ap, ◌∙◌, rules, tests}
use Rattle.std.proofs.lemmas.Iterator.{YieldsList-from_slice}
use Rattle.std.proofs.lemmas.Iterator.Search.{position_from_yields_List}
use Rattle.text_values.proofs.Laws.{place_is}
use Rattle.text_values.proofs.index_of.Goals as goal

pub returns : goal.returns
returns c =
    let l = c.args.octets.now in
    position_from_yields_List (λ o. eqb o c.args.octet) _ _ c.position.result c.position.ensures.ran (YieldsList-from_slice l cc) (λ x b q k. search (rules, tests))
    ∙ ap (λ (i : ℕ). cond (ltb i (length l)) (Some i) None) (place_is c.args.octet l)
