-- Laws of lines written one after the other, and of the row counts that say which rows are listed. Assumes nothing.
use Prim.Native.Nat.{ℕ, ◌≤◌}
use native.Mathlib.Omega.{arith}
use mathlib.Core.Path.{◌≡◌, refl, ap, ◌∙◌}
use mathlib.Core.List.{List, [], ◌∷◌, ◌++◌}
use lib.ListN.{length, get_or, get_or-map}
use Rattle.checks.specs.Lists.{join}
use Rattle.nets.specs.Rows.{rows_of}
use Rattle.text.specs.declared.Writer.{Writer}
use Rattle.text.specs.Writer.{Puts, HasRoom}
use Rattle.text.proofs.Writing.{Left, part_room, less_left, none_left}
use Rattle.update_writing.proofs.Lists.{row_at, rows_short}
use Rattle.gateway_state.specs.declared.State.{State}
use Rattle.gateway_state.specs.Slots.{free_slot, slot_at}
use Rattle.gateway_state.specs.Places.{row_count, row_counts}
use Rattle.listing_lines.specs.Lines.{row_text}
use Rattle.listing_lines.specs.Steps.{rows_text}

-- ---- row by row

-- three numbers more are a row more
rows_turn : (xs u : List ℕ) → length xs ≡ 3 → rows_text (rows_of (xs ++ u)) ≡ row_text (row_at xs) ++ rows_text (rows_of u)
unfolding rows_text rows_of join
rows_turn [] u h = absurd (omega arith)
rows_turn (a ∷ []) u h = absurd (omega arith)
rows_turn (a ∷ b ∷ []) u h = absurd (omega arith)
rows_turn (a ∷ b ∷ c ∷ []) u h = refl
rows_turn (a ∷ b ∷ c ∷ d ∷ xs) u h = absurd (omega arith)

module _ {total : List ℕ} {first w : Writer} (rest : List ℕ) (l : Left total first (rows_text (rows_of rest)) w) where
  module _ (xs u : List ℕ) (e : rest ≡ xs ++ u) (h : length xs ≡ 3) where
    turn : rows_text (rows_of rest) ≡ row_text (row_at xs) ++ rows_text (rows_of u)
    turn = ap (λ (m : List ℕ). rows_text (rows_of m)) e ∙ rows_turn xs u h

    pub row_room : HasRoom w (row_text (row_at xs))
    row_room = part_room l (row_text (row_at xs)) (rows_text (rows_of u)) turn

    pub row_less : {next : Writer} → Puts (row_text (row_at xs)) w next → Left total first (rows_text (rows_of u)) next
    row_less p = less_left l (row_text (row_at xs)) (rows_text (rows_of u)) turn p

  pub rows_done : length rest ≤ 2 → Puts total first w
  unfolding rows_text join
  rows_done h = none_left l (rw (rows_short rest h))

-- ---- row counts

pub count_at : (st : State) (i : ℕ) → get_or (row_counts st) i 0 ≡ (slot_at st i).rows
unfolding row_counts slot_at free_slot
count_at st i = get_or-map row_count st.slots i free_slot
