-- Laws of the rows in a table's octets, and of the state in a block. Assumes nothing.
use Prim.Native.Nat.{ℕ, zero, suc, ◌+◌, ◌*◌, ◌-◌, ◌/◌, ◌≤◌, ◌<◌}
use native.Mathlib.Nat.{add-sub_cancel_left}
use native.Mathlib.Omega.{arith}
use borrow.Author.Tests.{ne_eqb}
use mathlib.Core.Bool.{true, false}
use mathlib.Core.Path.{◌≡◌, sym, ap, ap₂, ◌∙◌}
use mathlib.Core.List.{List, [], ◌++◌}
use lib.Dec.{eqb}
use lib.ListN.{length, take, drop, get_or, length-take, length-drop}
use lib.Seq.{take-take, take_all, take_at, get_or-take, get_or-drop, length-take-le}
use Rattle.std.proofs.lemmas.List.{take-append-drop}
use Rattle.std.proofs.Math.Seq.{drop-append_seam}
use Rattle.checks.specs.Lists.{every, join}
use Rattle.octets.specs.Numbers.{Octets, word32}
use Rattle.text.specs.declared.Writer.{Writer}
use Rattle.text.specs.Writer.{Puts, HasRoom}
use Rattle.text.proofs.Writing.{puts_both, room_behind, all_left, part_room}
use Rattle.octets_words.specs.Words.{words_of}
use Rattle.octets_words.proofs.Words.{words_cons, words_take, words_drop, words_length}
use Rattle.nets.specs.Rows.{Row, rows_of}
use Rattle.gateway_state.specs.declared.State.{State}
use Rattle.gateway_state.specs.declared.Slot.{Slot}
use Rattle.gateway_state.specs.Slots.{free_slot, slot_at, address_of}
use Rattle.gateway_state.specs.Places.{place, row_counts, part_at, read_rows}
use Rattle.gateway_state.proofs.Theorems.{formed_slot}
use Rattle.listing_lines.specs.Lines.{head_lines, entry_text}
use Rattle.listing_lines.specs.Listing.{entry_of, marked_row, listable}
use Rattle.listing_lines.specs.Steps.{slot_entry, rows_text}
use Rattle.listing_lines.proofs.Laws.{count_at}
use Rattle.listing.specs.Steps.{slot_text, slot_listable}
use Rattle.listing.specs.Claims.{Typed}
use Rattle.listing.proofs.Laws.{marked_not, marked_next, marked_end}
use Rattle.host_state_block.specs.Layout.{numbers_at}
use Rattle.host_state_block.specs.Block.{slot_size, own_size, slot_of, slot_in, slots_in, state_in}
use Rattle.host_state_block.proofs.Slots.{slots_count, octets_drop}
use Rattle.host_listing.specs.Steps.{Lent, used_octets}

-- ---- third numbers, row by row

-- the next twelve octets are three numbers, and those behind them
module _ {rest : List ℕ} (xs u : List ℕ) (e : rest ≡ xs ++ u) (h : length xs ≡ 12) where
  words : words_of rest ≡ words_of xs ++ words_of u
  words =
      let behind : drop 12 rest ≡ u = rw e (ap (λ (n : ℕ). drop n (xs ++ u)) (sym h) ∙ drop-append_seam xs u) in
      let front : take 12 rest ≡ xs = rw e (take_at xs u 12 h) in
      sym (take-append-drop 3 (words_of rest)) ∙ ap₂ (λ (l m : List ℕ). l ++ m) (sym (words_take 3 rest) ∙ ap words_of front) (sym (words_drop 3 rest) ∙ ap words_of behind)

  three : length (words_of xs) ≡ 3
  three = rw (words_length xs) (omega arith)

  third : get_or (words_of xs) 2 0 ≡ word32 xs 8
  third =
      let k : 3 < length (drop 8 xs) = rw (length-drop 8 xs) (omega arith) in
      sym (get_or-drop 2 (words_of xs) 0 0) ∙ ap (λ (l : List ℕ). get_or l 0 0) (sym (words_drop 2 xs) ∙ words_cons (drop 8 xs) k)
      ∙ rw (get_or-drop 8 xs 0 0, get_or-drop 8 xs 1 0, get_or-drop 8 xs 2 0, get_or-drop 8 xs 3 0)

  pub octets_not : 511 < word32 xs 8 → every marked_row (rows_of (words_of rest)) ≡ false
  octets_not k = marked_not (words_of xs) (words_of u) words three (rw third k)

  pub octets_next : word32 xs 8 ≤ 511 → every marked_row (rows_of (words_of rest)) ≡ every marked_row (rows_of (words_of u))
  octets_next k = marked_next (words_of xs) (words_of u) words three (rw third k)

pub octets_end : (u : List ℕ) → length u < 12 → every marked_row (rows_of (words_of u)) ≡ true
octets_end u h = marked_end (words_of u) (rw (words_length u) (omega arith))

-- ---- the used rows of a slot are a part of the table

-- the part that the code takes
pub used_is : (table counts : List ℕ) (i rows p : ℕ) → p ≡ place counts i
    → take (4 * p + 12 * rows - 4 * p) (drop (4 * p) table) ≡ used_octets table counts i rows
unfolding used_octets
used_is table counts i rows p e = rw (e, add-sub_cancel_left (4 * place counts i) (12 * rows))

module _ (st : State) (i : ℕ) (table : List ℕ) (few : (slot_at st i).rows ≤ 128) where
  used_rows : rows_of (words_of (used_octets table (row_counts st) i (slot_at st i).rows)) ≡ read_rows (words_of table) (row_counts st) i
  unfolding used_octets read_rows part_at place
  used_rows =
      let a : 12 * (slot_at st i).rows ≡ 3 * (slot_at st i).rows * 4 = omega arith in
      let b : 4 * (i * 384) ≡ i * 384 * 4 = omega arith in
      rw (
        a,
        b,
        words_take (3 * (slot_at st i).rows) (drop (i * 384 * 4) table),
        words_drop (i * 384) table,
        count_at st i,
        take-take (3 * (slot_at st i).rows) 384 (drop (i * 384) (words_of table)) (omega arith),
      )

-- slot i of a block, and the octets of its used rows
module _ {block table : List ℕ} (l : Lent block table) (i : ℕ) {slot : Slot} (s : slot ≡ slot_at (state_in block) i) where
  pub few_rows : slot.rows ≤ 128
  few_rows = rw s (formed_slot (state_in block) i l.formed).1.few

  pub address_is : (slot_at (state_in block) i).address ≡ slot.address
  address_is = ap address_of (sym s)

  module _ {octets : List ℕ} (u : (counts : List ℕ) → octets ≡ used_octets table counts i slot.rows) where
    pub few_numbers : length octets / 4 ≤ 384
    unfolding used_octets
    few_numbers = rw (u [], length-take) (omega (arith, few_rows))

    rows_are : rows_of (words_of octets) ≡ read_rows (words_of table) (row_counts (state_in block)) i
    rows_are =
        ap (λ (o : List ℕ). rows_of (words_of o))
        (u (row_counts (state_in block)) ∙ ap (λ (x : Slot). used_octets table (row_counts (state_in block)) i x.rows) s)
        ∙ used_rows (state_in block) i table (formed_slot (state_in block) i l.formed).1.few

    module _ (n : slot.address ≡ 0 → ⊥) where
      used : eqb (slot_at (state_in block) i).address 0 ≡ false
      used = ne_eqb (slot_at (state_in block) i).address 0 (λ z. n (sym address_is ∙ z))

      pub used_listable : every marked_row (rows_of (words_of octets)) ≡ slot_listable (state_in block) i (words_of table)
      unfolding slot_listable listable entry_of
      used_listable = rw used (ap (every marked_row) rows_are)

      text_is : entry_text (slot_entry i slot (rows_of (words_of octets))) ≡ slot_text (state_in block) i (words_of table)
      unfolding slot_text entry_of
      text_is = rw used (ap₂ (λ (x : Slot) (rows : List Row). entry_text (slot_entry i x rows)) s rows_are)

      pub used_room : (w : Writer) → HasRoom w (slot_text (state_in block) i (words_of table)) → HasRoom w (entry_text (slot_entry i slot (rows_of (words_of octets))))
      used_room w h = rw text_is h

      pub used_written : {w v : Writer} → Puts (entry_text (slot_entry i slot (rows_of (words_of octets)))) w v → Puts (slot_text (state_in block) i (words_of table)) w v
      used_written p = rw (← text_is) p

-- ---- the numbers of a slot's rows

-- read into the front of a room, and lent from there
module _ (numbers octets : List ℕ) (h : length octets / 4 ≤ length numbers) where
  pub front_long : length octets / 4 ≡ length (take (length octets / 4) numbers)
  front_long = sym (length-take-le (length octets / 4) numbers h)

  pub front_fits : length (take (length octets / 4) numbers) * 4 ≤ length octets
  front_fits = rw (← front_long) (omega arith)

  module _ {new : List ℕ} (e : new ≡ take (length (take (length octets / 4) numbers)) (words_of octets)) where
    pub numbers_read : take (length octets / 4) (new ++ drop (length octets / 4) numbers) ≡ words_of octets
    numbers_read =
        let a : new ≡ words_of octets
        = e ∙ rw (← front_long) (take_all (length octets / 4) (words_of octets) (omega (arith, words_length octets))) in
        ap (λ (l : List ℕ). take (length octets / 4) (l ++ drop (length octets / 4) numbers)) a
        ∙ take_at (words_of octets) (drop (length octets / 4) numbers) (length octets / 4) (words_length octets)

    pub read_long : length octets / 4 ≡ length (take (length octets / 4) (new ++ drop (length octets / 4) numbers))
    read_long = sym (ap length numbers_read ∙ words_length octets)

-- the lines of a slot before its rows, then those, where u are its rows' numbers
module _ (i : ℕ) (slot : Slot) (octets : List ℕ) (u : List ℕ) (q : u ≡ words_of octets) where
  entry_is : entry_text (slot_entry i slot (rows_of (words_of octets))) ≡ join (head_lines (slot_entry i slot (rows_of u))) ++ rows_text (rows_of u)
  unfolding entry_text rows_text
  entry_is = rw q

  module _ (w : Writer) (h : HasRoom w (entry_text (slot_entry i slot (rows_of (words_of octets))))) where
    pub head_room : HasRoom w (join (head_lines (slot_entry i slot (rows_of u))))
    head_room =
        part_room (all_left (entry_text (slot_entry i slot (rows_of (words_of octets)))) w h)
        (join (head_lines (slot_entry i slot (rows_of u)))) (rows_text (rows_of u)) entry_is

    module _ {mid : Writer} (p : Puts (join (head_lines (slot_entry i slot (rows_of u)))) w mid) where
      pub rows_room : HasRoom mid (rows_text (rows_of u))
      rows_room = room_behind (rows_text (rows_of u)) p (rw (← entry_is) h)

      pub entry_done : {new : Writer} → Puts (rows_text (rows_of u)) mid new → Puts (entry_text (slot_entry i slot (rows_of (words_of octets)))) w new
      entry_done q = rw entry_is (puts_both p q)

-- ---- a state that is read from octets has eight slots and 16-bit ASs

asn_fits : (n : ℕ) (l : List ℕ) → Octets l → (i : ℕ) → (get_or (slots_in n l) i free_slot).asn < 65536
unfolding slots_in slot_in slot_of numbers_at free_slot
asn_fits zero l o i = omega arith
asn_fits (suc n) l o zero = rw (get_or-take slot_size l 4 0 (omega arith), get_or-take slot_size l 5 0 (omega arith)) (omega (arith, o 4, o 5))
asn_fits (suc n) l o (suc i) = asn_fits n (drop slot_size l) (octets_drop slot_size l o) i

pub eight : (block : List ℕ) → length (state_in block).slots ≡ 8
unfolding state_in
eight block = slots_count 8 (drop own_size block)

pub typed : (block : List ℕ) → Octets block → Typed (state_in block)
unfolding state_in slot_at
typed block o = record { eight = eight block; words = asn_fits 8 (drop own_size block) (octets_drop own_size block o) }
