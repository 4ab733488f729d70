-- Laws of the used slots and rows, along the loops over them. Assumes nothing.
use Prim.Native.Nat.{ℕ, suc, ◌+◌, ◌-◌, ◌*◌, ◌≤◌, ◌<◌}
use native.Mathlib.Nat.{add-zero, zero-add, add-sub_cancel_left}
use native.Mathlib.Numerals.{add-one}
use native.Mathlib.Omega.{arith}
use borrow.Author.Tests.{eq-eqb, ne_eqb, le-leb, lt-leb}
use mathlib.Core.Bool.{Bool, true, false, cond, not, ◌&&◌}
use mathlib.Core.Path.{◌≡◌, refl, sym, ap, ◌∙◌}
use mathlib.Core.List.{List, [], ◌∷◌, ◌++◌, map}
use lib.Dec.{eqb}
use lib.ListN.{length, take, drop, get_or, length-take, drop_of_length-le}
use lib.Seq.{drop-cons, take-take}
use Rattle.std.specs.List.{filter}
use Rattle.checks.specs.Lists.{every, join}
use Rattle.nets.specs.Rows.{rows_of}
use Rattle.update_writing.proofs.Lists.{rows_short}
use Rattle.update_writing.proofs.Lists.{row_at}
use Rattle.text.specs.Text.{text, decimal, line}
use Rattle.text.specs.declared.Writer.{Writer}
use Rattle.text.specs.Writer.{Puts, HasRoom}
use Rattle.text.proofs.Writing.{puts_nothing, puts_both, room_behind, all_left, part_room}
use Rattle.gateway_state.specs.declared.Slot.{Slot}
use Rattle.gateway_state.specs.declared.State.{State}
use Rattle.gateway_state.specs.Slots.{free_slot, slot_at}
use Rattle.gateway_state.specs.Places.{row_counts, place, part_at, read_rows}
use Rattle.listing_lines.specs.Lines.{Entry, head_lines, entry_text, listing_text}
use Rattle.listing_lines.specs.Listing.{entry_of, entries_from, marked_row, listable}
use Rattle.listing_lines.specs.Steps.{slot_entry, rows_text}
use Rattle.listing_lines.proofs.Laws.{count_at}
use Rattle.listing.specs.Steps.{slot_text, slot_listable, is_used}

-- ---- third numbers, row by row

marked_turn : (xs u : List ℕ) → length xs ≡ 3 → every marked_row (rows_of (xs ++ u)) ≡ (marked_row (row_at xs) && every marked_row (rows_of u))
unfolding every rows_of
marked_turn [] u h = absurd (omega arith)
marked_turn (a ∷ []) u h = absurd (omega arith)
marked_turn (a ∷ b ∷ []) u h = absurd (omega arith)
marked_turn (a ∷ b ∷ c ∷ []) u h = refl
marked_turn (a ∷ b ∷ c ∷ d ∷ xs) u h = absurd (omega arith)

-- the next three numbers, and those behind them
module _ {rest : List ℕ} (xs u : List ℕ) (e : rest ≡ xs ++ u) (h : length xs ≡ 3) where
  pub marked_not : 511 < get_or xs 2 0 → every marked_row (rows_of rest) ≡ false
  unfolding marked_row
  marked_not k = rw (e, marked_turn xs u h, lt-leb (get_or xs 2 0) 511 k)

  pub marked_next : get_or xs 2 0 ≤ 511 → every marked_row (rows_of rest) ≡ every marked_row (rows_of u)
  unfolding marked_row
  marked_next k = rw (e, marked_turn xs u h, le-leb (get_or xs 2 0) 511 k)

pub marked_end : (u : List ℕ) → length u ≤ 2 → every marked_row (rows_of u) ≡ true
unfolding every
marked_end u h = rw (rows_short u h)

-- ---- the used rows of a slot are a part of the table

-- the part that the code takes, from index p on
abbrev pub part : ℕ → Slot → List ℕ → List ℕ
part p slot table = take (p + 3 * slot.rows - p) (drop p table)

module _ (st : State) (i : ℕ) (table : List ℕ) (few : (slot_at st i).rows ≤ 128) (p : ℕ) (e : p ≡ place (row_counts st) i) where
  used_part : rows_of (part p (slot_at st i) table) ≡ read_rows table (row_counts st) i
  unfolding read_rows part_at place
  used_part =
      rw (count_at st i, e, add-sub_cancel_left (i * 384) (3 * (slot_at st i).rows), take-take (3 * (slot_at st i).rows) 384 (drop (i * 384) table) (omega arith))

  listed_is : slot_entry i (slot_at st i) (rows_of (part p (slot_at st i) table)) ≡ entry_of i (slot_at st i) table (row_counts st)
  unfolding entry_of
  listed_is = ap (slot_entry i (slot_at st i)) used_part

  pub part_long : length (part p (slot_at st i) table) ≤ 384
  part_long = simp length-take (omega arith)

  module _ (n : (slot_at st i).address ≡ 0 → ⊥) where
    pub used_listable : every marked_row (rows_of (part p (slot_at st i) table)) ≡ slot_listable st i table
    unfolding slot_listable listable entry_of
    used_listable = rw (ne_eqb (slot_at st i).address 0 n) (ap (every marked_row) used_part)

    used_text : slot_text st i table
        ≡ join (head_lines (slot_entry i (slot_at st i) (rows_of (part p (slot_at st i) table)))) ++ rows_text (rows_of (part p (slot_at st i) table))
    unfolding slot_text entry_text rows_text entry_of
    used_text = rw (ne_eqb (slot_at st i).address 0 n, used_part)

    module _ (w : Writer) (h : HasRoom w (slot_text st i table)) where
      pub head_room : HasRoom w (join (head_lines (slot_entry i (slot_at st i) (rows_of (part p (slot_at st i) table)))))
      head_room =
          part_room (all_left (slot_text st i table) w h)
          (join (head_lines (slot_entry i (slot_at st i) (rows_of (part p (slot_at st i) table))))) (rows_text (rows_of (part p (slot_at st i) table))) used_text

      module _ {mid : Writer} (q : Puts (join (head_lines (slot_entry i (slot_at st i) (rows_of (part p (slot_at st i) table))))) w mid) where
        pub rows_room : HasRoom mid (rows_text (rows_of (part p (slot_at st i) table)))
        rows_room = room_behind (rows_text (rows_of (part p (slot_at st i) table))) q (rw (← used_text) h)

        pub slot_done : {new : Writer} → Puts (rows_text (rows_of (part p (slot_at st i) table))) mid new → Puts (slot_text st i table) w new
        slot_done r = rw used_text (puts_both q r)

pub free_listable : (st : State) (i : ℕ) (table : List ℕ) → (slot_at st i).address ≡ 0 → slot_listable st i table ≡ true
unfolding slot_listable
free_listable st i table e = rw (eq-eqb (slot_at st i).address 0 e)

pub free_written : (st : State) (i : ℕ) (table : List ℕ) (w : Writer) → (slot_at st i).address ≡ 0 → Puts (slot_text st i table) w w
unfolding slot_text
free_written st i table w e = rw (eq-eqb (slot_at st i).address 0 e) (puts_nothing w)

-- ---- slot by slot

text_next : (b : Bool) (e : Entry) (es : List Entry) → join (map entry_text (cond b es (e ∷ es))) ≡ cond b [] (entry_text e) ++ join (map entry_text es)
unfolding join
text_next true e es = refl
text_next false e es = refl

listable_next : (b : Bool) (e : Entry) (es : List Entry) → every listable (cond b es (e ∷ es)) ≡ (cond b true (listable e) && every listable es)
unfolding every
listable_next true e es = refl
listable_next false e es = refl

-- the used slots from index i on
unfoldable pub left : State → List ℕ → ℕ → List Entry
left st table i = entries_from i (drop i st.slots) table (row_counts st)

unfoldable pub text_left : State → List ℕ → ℕ → List ℕ
text_left st table i = join (map entry_text (left st table i))

module _ (st : State) (table : List ℕ) (i : ℕ) where
  module _ (h : i < length st.slots) where
    left_turn : left st table i ≡ cond (eqb (slot_at st i).address 0) (left st table (i + 1)) (entry_of i (slot_at st i) table (row_counts st) ∷ left st table (i + 1))
    unfolding left entries_from slot_at
    left_turn = rw (add-one, drop-cons st.slots i free_slot h)

    pub text_turn : text_left st table i ≡ slot_text st i table ++ text_left st table (i + 1)
    unfolding text_left slot_text
    text_turn =
        ap (λ (es : List Entry). join (map entry_text es)) left_turn
        ∙ text_next (eqb (slot_at st i).address 0) (entry_of i (slot_at st i) table (row_counts st)) (left st table (i + 1))

    listable_turn : every listable (left st table i) ≡ (slot_listable st i table && every listable (left st table (i + 1)))
    unfolding slot_listable
    listable_turn =
        ap (every listable) left_turn
        ∙ listable_next (eqb (slot_at st i).address 0) (entry_of i (slot_at st i) table (row_counts st)) (left st table (i + 1))

    pub listable_not : slot_listable st i table ≡ false → every listable (left st table i) ≡ false
    listable_not e = listable_turn ∙ rw e

    pub listable_more : slot_listable st i table ≡ true → every listable (left st table i) ≡ every listable (left st table (i + 1))
    listable_more e = listable_turn ∙ rw e

    pub count_free : (slot_at st i).address ≡ 0 → length (left st table i) ≡ length (left st table (i + 1))
    count_free e = rw (left_turn, eq-eqb (slot_at st i).address 0 e)

    pub count_used : ((slot_at st i).address ≡ 0 → ⊥) → length (left st table i) ≡ suc (length (left st table (i + 1)))
    count_used n = rw (left_turn, ne_eqb (slot_at st i).address 0 n)

  module _ (h : length st.slots ≤ i) where
    left_end : left st table i ≡ []
    unfolding left entries_from
    left_end = rw (drop_of_length-le st.slots h)

    pub text_end : text_left st table i ≡ []
    unfolding text_left join
    text_end = rw left_end

    pub listable_end : every listable (left st table i) ≡ true
    unfolding every
    listable_end = rw left_end

    pub count_end : length (left st table i) ≡ 0
    count_end = ap length left_end

-- how many are listed, wherever the slots begin and whatever the table holds
pub used_count : (i : ℕ) (slots : List Slot) (table counts : List ℕ) → length (filter is_used slots) ≡ length (entries_from i slots table counts)
unfolding entries_from
used_count i [] table counts = refl
used_count i (slot ∷ rest) table counts = go (eqb slot.address 0) (used_count (suc i) rest table counts)
  where
    go : (b : Bool) → length (filter is_used rest) ≡ length (entries_from (suc i) rest table counts)
        → length (cond (not b) (slot ∷ filter is_used rest) (filter is_used rest))
        ≡ length (cond b (entries_from (suc i) rest table counts) (entry_of i slot table counts ∷ entries_from (suc i) rest table counts))
    go true e = e
    go false e = ap suc e

-- ---- the whole text

module _ (es : List Entry) (n : ℕ) (e : n ≡ length es) (w : Writer) (h : HasRoom w (listing_text es)) where
  text_is : listing_text es ≡ line (text "neighbours=") (decimal n) ++ join (map entry_text es)
  unfolding listing_text
  text_is = rw e

  pub count_room : HasRoom w (line (text "neighbours=") (decimal n))
  count_room = part_room (all_left (listing_text es) w h) (line (text "neighbours=") (decimal n)) (join (map entry_text es)) text_is

  module _ {mid : Writer} (p : Puts (line (text "neighbours=") (decimal n)) w mid) where
    pub slots_room : HasRoom mid (join (map entry_text es))
    slots_room = room_behind (join (map entry_text es)) p (rw (← text_is) h)

    pub all_done : {new : Writer} → Puts (join (map entry_text es)) mid new → Puts (listing_text es) w new
    all_done q = rw text_is (puts_both p q)
