-- `recording_trace::record_numbers` meets its contract. Assumes nothing.
use native.Mathlib.Omega.{arith}
use Rattle.recording_trace.specs.Trace.{record_numbers}
use borrow.Author.Rules.{rules}
use Rattle.recording_trace.proofs.record_numbers.Goals as goal

pub overflow_cast-result-4 : goal.overflow_cast-result-4
overflow_cast-result-4 c = omega (arith, c.struct_known-4-1.given)

pub overflow_cast-result-13 : goal.overflow_cast-result-13
overflow_cast-result-13 c = let f = c.struct_known-13-1.given in search rules

pub overflow_cast-result-14 : goal.overflow_cast-result-14
overflow_cast-result-14 c = omega (arith, c.struct_known-14-1.given)

pub overflow_cast-result-15 : goal.overflow_cast-result-15
overflow_cast-result-15 c = omega (arith, c.struct_known-15-1.given)

pub overflow_cast-result-16 : goal.overflow_cast-result-16
overflow_cast-result-16 c = omega (arith, c.struct_known-16-1.given)

pub returns : goal.returns
unfolding record_numbers
returns c = search rules
