-- Laws of changing the rows of one slot in the table's octets. Assumes nothing.
use Prim.Native.Nat.{ℕ, ◌+◌, ◌*◌, ◌-◌, ◌≤◌, ◌<◌}
use native.Mathlib.Omega.{arith}
use native.Mathlib.Nat.{add-sub_cancel_left}
use borrow.Rule.Slice.PartMut.{put_mid}
use mathlib.Core.Path.{◌≡◌, sym, ◌∙◌, ap, ap₂}
use mathlib.Core.Bool.{true}
use mathlib.Core.List.{List, ◌++◌}
use lib.ListN.{length, take, drop, replicate, length-drop}
use lib.Seq.{drop-drop, length-take-le}
use Rattle.octets.specs.Numbers.{Octets}
use Rattle.octets_words.specs.Words.{words_of, word_octets}
use Rattle.octets_words.proofs.Words.{word_octets_append, word_octets_take, word_octets_drop, word_octets_zeros, octets_of_words}
use Rattle.nets.specs.Rows.{Row, flat}
use Rattle.update_walk.specs.Body.{walked_blocks}
use Rattle.update_rows.specs.Storing.{zeros, padded, walked_rows}
use Rattle.gateway_state.specs.Places.{with_part, write_rows}
use Rattle.gateway_rules.specs.declared.Effect.{Effect}
use Rattle.gateway_rules.specs.declared.Effect.TheVariants.{Keep, Clear, Replace}
use Rattle.gateway_rules.specs.Carried.{table_after}
use Rattle.gateway_carry.specs.Asked.{takes, change_of}
use Rattle.gateway_carry.proofs.Rows.{taken_whole, taken_count}
use Rattle.host_rows.specs.Storing.{OctetsStorable}
use Rattle.host_rules.specs.Held.{table_size}
use Rattle.host_calls.specs.Steps.{octets_after}

module _ (table : List ℕ) (o : Octets table) (long : length table ≡ table_size) where
  back : word_octets (words_of table) ≡ table
  back = octets_of_words table o (omega (arith, long))

  module _ (i : ℕ) (h : i < 8) (start : ℕ) (p : start ≡ i * 1536) where
    pub part_room : start + 1536 ≤ table_size
    part_room = omega (arith, p, h)

    part_length : length (take (start + 1536 - start) (drop start table)) ≡ 1536
    part_length =
        rw (add-sub_cancel_left start 1536) (length-take-le 1536 (drop start table) (simp length-drop (omega (arith, part_room, long))))

    -- a slot's part, put into the octets and into the numbers
    part_put : (part : List ℕ) → put_mid start (start + 1536 - start) table (word_octets part) ≡ word_octets (with_part (words_of table) i part)
    unfolding with_part
    part_put part =
        let a : i * 384 * 4 ≡ start = omega (arith, p) in
        let b : (i * 384 + 384) * 4 ≡ start + 1536 = omega (arith, p) in
        let w = words_of table in
        rw (add-sub_cancel_left start 1536, drop-drop 1536 start table)
        (sym (word_octets_append (take (i * 384) w) (part ++ drop (i * 384 + 384) w)
        ∙ ap₂ (λ (x y : List ℕ). x ++ y)
        (sym (word_octets_take (i * 384) w) ∙ ap₂ take a back)
        (word_octets_append part (drop (i * 384 + 384) w)
        ∙ ap (λ (x : List ℕ). word_octets part ++ x) (sym (word_octets_drop (i * 384 + 384) w) ∙ ap₂ drop b back))))

    module _ (effect : Effect) (rows : List Row) where
      pub change_keep : effect ≡ Keep → (counts : List ℕ) → table ≡ octets_after table counts i (change_of effect rows)
      unfolding octets_after table_after change_of
      change_keep e counts = rw e (sym back)

      pub change_clear : effect ≡ Clear → (x : List ℕ) → x ≡ zeros (length (take (start + 1536 - start) (drop start table)))
          → (counts : List ℕ) → put_mid start (start + 1536 - start) table x ≡ octets_after table counts i (change_of effect rows)
      unfolding octets_after table_after change_of write_rows padded flat zeros
      change_clear e x f counts =
          ap (put_mid start (start + 1536 - start) table) (f ∙ ap (λ (n : ℕ). replicate n 0) part_length ∙ sym (word_octets_zeros 384))
          ∙ part_put (replicate 384 0) ∙ rw e

    module _ (effect : Effect) (count net : ℕ) (message : List ℕ) (e : effect ≡ Replace count) (t : takes effect (walked_blocks net message) ≡ true) where
      pub change_asked : OctetsStorable net message (take (start + 1536 - start) (drop start table))
      change_asked =
          record {
            sound = taken_whole count (walked_blocks net message) (rw e at t);
            room = omega (arith, part_length, (taken_count count (walked_blocks net message) (rw e at t)).1);
            long = part_length;
          }

      pub change_replace : (x : List ℕ) → x ≡ word_octets (padded 384 (flat (walked_rows (walked_blocks net message))))
          → (counts : List ℕ)
          → put_mid start (start + 1536 - start) table x ≡ octets_after table counts i (change_of effect (walked_rows (walked_blocks net message)))
      unfolding octets_after table_after change_of write_rows
      change_replace x f counts =
          ap (put_mid start (start + 1536 - start) table) f ∙ part_put (padded 384 (flat (walked_rows (walked_blocks net message)))) ∙ rw e
