-- Laws of rows stored in octets: the numbers that the octets make are those of a part of numbers. Assumes nothing.
use Prim.Native.Nat.{ℕ}
use native.Mathlib.Omega.{arith}
use mathlib.Core.Path.{◌≡◌, sym, ap, ◌∙◌}
use mathlib.Core.List.{List}
use lib.ListN.{length}
use Rattle.octets.specs.Numbers.{Octets}
use Rattle.octets_words.specs.Words.{words_of, word_octets}
use Rattle.octets_words.proofs.Words.{words_length, octets_of_words}
use Rattle.nets.specs.Rows.{flat}
use Rattle.update_walk.specs.Body.{walked_blocks}
use Rattle.update_rows.specs.Storing.{padded, walked_rows, Storable}
use Rattle.host_rows.specs.Storing.{OctetsStorable}

-- ---- the whole part

module _ {net : ℕ} {message part : List ℕ} (s : OctetsStorable net message part) where
  pub words_long : length (words_of part) ≡ 384
  words_long = words_length part ∙ omega (arith, s.long)

  -- what holds of a part of numbers holds of the numbers of this one
  pub words_storable : Storable net message (words_of part)
  words_storable = record { sound = s.sound; room = omega (arith, s.room, s.long, words_long) }

  -- the octets of the numbers that stand there at the end
  pub octets_done : (last : List ℕ) → Octets last → length last ≡ length part → words_of last ≡ padded (length (words_of part)) (flat (walked_rows (walked_blocks net message)))
      → last ≡ word_octets (padded 384 (flat (walked_rows (walked_blocks net message))))
  octets_done last o k e =
      sym (octets_of_words last o (omega (arith, s.long)))
      ∙ ap word_octets (e ∙ ap (λ (n : ℕ). padded n (flat (walked_rows (walked_blocks net message)))) words_long)
