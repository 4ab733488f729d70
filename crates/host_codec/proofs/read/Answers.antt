use native.Mathlib.Omega.{arith}
use mathlib.Core.Path.{sym, ap, ◌∙◌}
use mathlib.Core.List.{List}
use Prim.Native.Nat.{ℕ}
use lib.Seq.{length-take-le}
use Rattle.octets.specs.Buffer.{over}
use Rattle.host_codec.proofs.ReadLaws.{count_few, count_fits, rows_room, meaning_length, over_behind, read_3, read_refused, read_good}
use Rattle.host_codec.proofs.read.Goals as goal

pub returns-then-buffer-lt1560 : goal.returns-then-buffer-lt1560
returns-then-buffer-lt1560 c = let both = read_3 _ _ _ _ c.if-buffer-lt1560.true c.alone.ensures in record { value = both.0; buffer_after = both.1 }

pub slice_bounds-rows-end : goal.slice_bounds-rows-end
slice_bounds-rows-end c = count_fits _ _ _ c.read-meaning.ensures

pub slice_bounds-write_words-end-in-Ok : goal.slice_bounds-write_words-end-in-Ok
slice_bounds-write_words-end-in-Ok c = sym (length-take-le _ _ (count_fits _ _ _ c.read-meaning.ensures))

pub write_words-requires : goal.write_words-requires
write_words-requires c = rows_room _ _ _ c.store-numbers.new.buffer c.read-meaning.ensures (omega (arith, c.store-numbers.auto.buffer, c.if-buffer-lt1560.false))

pub overflow_mul-count : goal.overflow_mul-count
overflow_mul-count c = let f = count_few _ _ _ c.read-meaning.ensures in omega (arith, f)

pub returns-in-Err : goal.returns-in-Err
returns-in-Err c = let both = read_refused _ _ _ _ c.read-meaning.result _ c.if-buffer-lt1560.false c.read-meaning.ensures c.in-Err.is (rw c.from.ensures at c.alone-in-Err.ensures) in record { value = both.0; buffer_after = both.1 }

pub returns-in-Ok : goal.returns-in-Ok
returns-in-Ok c =
    let a = c.args in
    let both = read_good a.net a.message.now a.buffer.now _ c.read-meaning.result _ _ c.if-buffer-lt1560.false c.read-meaning.ensures c.in-Ok.is
    (over_behind _ _ a.buffer.now _ _ (meaning_length _) (omega (arith, c.if-buffer-lt1560.false)) (c.store-numbers.ensures.buffer_after ∙ ap (λ (o : List ℕ). over o a.buffer.now) c.meaning_octets.ensures) c.write_words.ensures) c.pack.ensures in
    record { value = both.0; buffer_after = both.1 }
