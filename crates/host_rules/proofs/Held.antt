-- Laws of what a host's blocks hold. Assumes nothing.
use Prim.Native.Nat.{ℕ, ◌<◌}
use native.Mathlib.Omega.{arith}
use borrow.Author.Tests.{eq-eqb, ne_eqb, eqb-true}
use mathlib.Core.Path.{◌≡◌, refl, sym, ap, ◌∙◌}
use mathlib.Core.Bool.{Bool, true, false, cond}
use mathlib.Core.List.{List, []}
use lib.Dec.{eqb}
use lib.ListN.{length}
use lib.Seq.{sets}
use Rattle.octets.specs.Numbers.{Octets}
use Rattle.octets_words.specs.Words.{words_of, word_octets}
use Rattle.octets_words.proofs.Words.{words_length, octets_of_words}
use Rattle.gateway_state.specs.declared.Slot.{Slot}
use Rattle.gateway_state.specs.Slots.{with_slot}
use Rattle.gateway_rules.specs.Calls.{table_fits}
use Rattle.host_state_block.specs.Block.{block_size, slot_start, slot_octets, block_of, state_in}
use Rattle.host_state_block.specs.Formed.{block_in_range}
use Rattle.host_state_block.proofs.Trip.{blocks_read_back}
use Rattle.host_rules.specs.Held.{table_size, table_in}

-- ---- the table

pub table_held : (table : List ℕ) → length table ≡ table_size → table_in table ≡ words_of table
unfolding table_in
table_held table e = rw (eq-eqb (length table) table_size e)

pub table_long : (table : List ℕ) → length table ≡ table_size → length (table_in table) ≡ 3072
table_long table e = ap length (table_held table e) ∙ words_length table ∙ omega (arith, e)

pub table_fits_lem : (table : List ℕ) → length table ≡ table_size → table_fits (table_in table) ≡ true
table_fits_lem table e = eq-eqb (length (table_in table)) 3072 (table_long table e)

pub table_short : (table : List ℕ) → (length table ≡ table_size → ⊥) → table_fits (table_in table) ≡ false
unfolding table_in
table_short table n = rw (ne_eqb (length table) table_size n)

-- one that has 3,072 numbers is of its size
pub table_size_lem : (table : List ℕ) → length (table_in table) ≡ 3072 → length table ≡ table_size
unfolding table_in
table_size_lem table e = go (eqb (length table) table_size) refl e
  where
    go : (b : Bool) → eqb (length table) table_size ≡ b → length (cond b (words_of table) []) ≡ 3072 → length table ≡ table_size
    go true h e = eqb-true (length table) table_size h
    go false h e = absurd (omega (arith, e))

pub table_same : (table : List ℕ) → Octets table → length table ≡ table_size → table ≡ word_octets (table_in table)
table_same table o long = sym (ap word_octets (table_held table long) ∙ octets_of_words table o (omega (arith, long)))

-- ---- a slot's octets

module _ (block : List ℕ) (long : length block ≡ block_size) (o : Octets block) (ranged : block_in_range block ≡ true) where
  pub slot_stored : (i : ℕ) (slot : Slot) → i < 8 → sets block (slot_start i) (slot_octets slot) ≡ block_of (with_slot (state_in block) i slot)
  slot_stored i slot h = sym ((blocks_read_back block long o).slot ranged i slot h)
