-- `text_values::read_digits` meets its contract. The loop keeps: the number so far and the digits left give what all give, and it is within the limit. Assumes nothing.
use Rattle.std.proofs.Common.{◌≡◌, ◌≤◌, drop}
use Rattle.text_values.specs.Numbers.{digits_of}
use Rattle.text_values.proofs.read_digits.Given as goal

abbrev pub invariant-loop-digit : goal.invariant-loop-digit
invariant-loop-digit l = record {
  within : l.n ≤ l.limit;
  same : digits_of l.limit 0 l.text ≡ digits_of l.limit l.n (drop l.digit-index l.text);
}
