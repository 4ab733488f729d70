-- `text_values::read_dotted` meets its contract. The loop keeps: the number so far and the text left give what all gives, and there is room for the rest. Assumes nothing.
use Rattle.std.proofs.Common.{◌≡◌, ◌-◌, ◌<◌}
use Rattle.text_values.specs.Numbers.{dotted_from, dotted_of}
use Rattle.text_values.proofs.Laws.{quad_limit}
use Rattle.text_values.proofs.read_dotted.Given as goal

abbrev pub invariant-loop : goal.invariant-loop
invariant-loop l = record {
  below : l.n < quad_limit (3 - l.counter);
  same : dotted_of l.text ≡ dotted_from (3 - l.counter) l.n l.rest;
}
