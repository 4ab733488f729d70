-- `text_values::read_dotted` meets its contract. The loop keeps: the number so far and the text left give what all gives, and there is room for the rest. Assumes nothing.
use Rattle.std.proofs.Common.{◌≡◌, ℕ, suc, ◌+◌, ◌-◌, ◌<◌, refl, sym, ◌∙◌, arith}
use Rattle.text_values.specs.Numbers.{dotted_of}
use Rattle.text_values.proofs.Laws.{quad_start, quad_product, quad_fits, quad_below, quad_no_dot, quad_bad, quad_next, quad_last_bad, quad_last}
use Rattle.text_values.proofs.read_dotted.Goals as goal

-- one dot fewer
fewer : (i : ℕ) → i < 3 → 3 - i ≡ suc (3 - (i + 1))
fewer i h = omega arith

pub loop-init : goal.loop-init
unfolding dotted_of
loop-init c = record { below = quad_start; same = refl }

pub returns-in_err-octet : goal.returns-in_err-octet
returns-in_err-octet c =
    let l = c.loop in
    c.from_residual.ensures ∙ sym (l.invariant.same ∙ quad_no_dot l.n l.rest.now _ _ (fewer l.counter c.loop-test.true) c.in_err-octet.ensures)

pub overflow_mul-n : goal.overflow_mul-n
overflow_mul-n c = omega (arith, quad_product _ _ c.loop.invariant.below)

pub returns-in_err-n : goal.returns-in_err-n
returns-in_err-n c =
    let l = c.loop in
    c.from_residual-in_err-n.ensures
    ∙ sym (l.invariant.same ∙ quad_bad l.n l.rest.now c.in_ok-octet.ensures _ _ (fewer l.counter c.loop-test.true) (sym c.read_decimal.ensures ∙ c.in_err-n.was))

pub overflow_add-n : goal.overflow_add-n
overflow_add-n c = omega (arith, quad_fits _ _ _ _ c.loop.invariant.below (sym c.read_decimal.ensures ∙ c.in_ok-n.was))

pub loop-preserved : goal.loop-preserved
loop-preserved c =
    let l = c.loop in
    let d = fewer l.counter c.loop-test.true in
    let e = sym c.read_decimal.ensures ∙ c.in_ok-n.was in
    record {
      below = quad_below _ _ _ _ _ d l.invariant.below e;
      same = l.invariant.same ∙ quad_next l.n l.rest.now c.in_ok-octet.ensures _ _ d _ e;
    }

pub overflow_mul-result : goal.overflow_mul-result
overflow_mul-result c = omega (arith, quad_product _ _ c.loop.invariant.below)

pub returns-in_err-read_decimal : goal.returns-in_err-read_decimal
returns-in_err-read_decimal c =
    let l = c.loop in
    c.from_residual-in_err-read_decimal.ensures
    ∙ sym (l.invariant.same ∙ quad_last_bad l.n l.rest.now _ (omega arith) (sym c.read_decimal-2.ensures ∙ c.in_err-read_decimal.was))

pub overflow_add-result : goal.overflow_add-result
overflow_add-result c = omega (arith, quad_fits _ _ _ _ c.loop.invariant.below (sym c.read_decimal-2.ensures ∙ c.in_ok-read_decimal.was))

pub returns : goal.returns
returns c =
    let l = c.loop in
    sym (l.invariant.same ∙ quad_last l.n l.rest.now _ _ (omega arith) (sym c.read_decimal-2.ensures ∙ c.in_ok-read_decimal.was))
