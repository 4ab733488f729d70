-- `text_values::read_digits` meets its contract. The loop keeps: the number so far and the digits left give what all give, and it is within the limit. Assumes nothing.
use Rattle.std.proofs.Common.{sym, ◌∙◌, arith}
use Rattle.text_values.specs.Numbers.{is_digit}
use Rattle.text_values.proofs.Laws.{digits_other, digits_above, digits_next, digits_end}
use Rattle.text_values.proofs.read_digits.Goals as goal

pub returns-then-not-is_ascii_digit : goal.returns-then-not-is_ascii_digit
unfolding is_digit
returns-then-not-is_ascii_digit c =
    let l = c.loop-digit in
    sym (l.invariant.same ∙ digits_other _ _ _ l.digit-index c.loop-digit-test.true (sym c.is_ascii_digit.ensures.value ∙ c.if-not-is_ascii_digit.true))

pub returns-then-from-n : goal.returns-then-from-n
unfolding is_digit
returns-then-from-n c =
    let l = c.loop-digit in
    sym (l.invariant.same ∙ digits_above _ _ _ l.digit-index c.loop-digit-test.true (sym c.is_ascii_digit.ensures.value ∙ c.if-not-is_ascii_digit.false) (omega arith))

pub loop-digit-preserved : goal.loop-digit-preserved
unfolding is_digit
loop-digit-preserved c =
    let l = c.loop-digit in
    let digit = sym c.is_ascii_digit.ensures.value ∙ c.if-not-is_ascii_digit.false in
    record {
      within = omega arith;
      same = rw c.from.ensures (l.invariant.same ∙ digits_next _ _ _ l.digit-index c.loop-digit-test.true digit (omega arith));
    }

pub returns : goal.returns
returns c =
    let l = c.loop-digit in
    sym (l.invariant.same ∙ digits_end _ _ _ l.digit-index c.loop-digit-test.false)
