use native.Mathlib.Omega.{arith}
use mathlib.Core.Path.{sym, ap, ◌∙◌}
use mathlib.Core.List.{List}
use Prim.Native.Nat.{ℕ, ◌/◌, ◌≤◌}
use lib.ListN.{length}
use lib.Seq.{length-take-le}
use Rattle.octets.specs.Buffer.{over}
use Rattle.codec.specs.Writing.{write_of, write_octets}
use Rattle.host_codec.proofs.WriteLaws.{laid_out, laid_length}
use Rattle.host_codec.proofs.write_words.Goals as goal

pub slice_bounds-read_words-end-2 : goal.slice_bounds-read_words-end-2
slice_bounds-read_words-end-2 c = sym (length-take-le (length c.args.rows.now / 4) c.args.room.now (omega (arith, c.requires)))

pub read_words-requires : goal.read_words-requires
read_words-requires c = let k : length c.args.rows.now / 4 ≤ length c.args.room.now = omega (arith, c.requires) in omega (arith, length-take-le (length c.args.rows.now / 4) c.args.room.now k)

pub slice_bounds-write-end-2 : goal.slice_bounds-write-end-2
slice_bounds-write-end-2 c = laid_length c.args.rows.now c.args.room.now _ c.requires c.read_words.ensures

pub returns : goal.returns
returns c =
    let a = c.args in
    let e = laid_out a.rows.now a.room.now _ c.requires c.read_words.ensures in
    record { value = c.write.ensures.value ∙ ap (λ (l : List ℕ). write_of a.m l a.buffer.now) e; buffer_after = c.write.ensures.buffer_after ∙ ap (λ (l : List ℕ). over (write_octets a.m l a.buffer.now) a.buffer.now) e }
