-- Laws of fields, rows and readings written one part after the other. Assumes nothing.
use Prim.Native.Nat.{ℕ, suc, ◌+◌, ◌-◌, ◌*◌, ◌≤◌, ◌<◌}
use native.Mathlib.Numerals.{add-one}
use native.Mathlib.Omega.{arith}
use borrow.Author.Tests.{ltb-true}
use mathlib.Core.Path.{◌≡◌, refl, sym, ap, ◌∙◌}
use mathlib.Core.List.{List, [], ◌∷◌, ◌++◌, append_assoc, append-nil}
use lib.Dec.{ltb, leb}
use lib.ListN.{length, take, drop, get_or, length-append, length-drop, drop_of_length-le}
use lib.Seq.{drop-cons, length-take-le}
use Rattle.std.specs.Prelude.{Result}
use Rattle.checks.specs.Lists.{join}
use Rattle.checks.specs.Refusals.{answer_of}
use Rattle.checks.specs.declared.Refusal.{Refusal}
use Rattle.checks.proofs.Laws.{cond_elim}
use Rattle.nets.specs.Rows.{Row, rows_of}
use Rattle.text.specs.Text.{text, decimal}
use Rattle.text.specs.declared.Writer.{Writer}
use Rattle.text.specs.Writer.{Puts, Room, HasRoom}
use Rattle.text.proofs.Writing.{puts_nothing, puts_both}
use Rattle.text_values.specs.Places.{index_of}
use Rattle.text_values.specs.Hex.{hex_text}
use Rattle.message.specs.declared.Message.{Message}
use Rattle.message.specs.declared.Message.TheVariants as M
use Rattle.listing_lines.specs.Lines.{side_word}
use Rattle.recording_bad_line.proofs.Laws.{long_length}
use Rattle.recording_message.specs.Message.{key_size, fields, own_fields, row_fields, rows_fields, meaning_word, head_keys, head_numbers, body_fields, reading_text}

-- total is this part, already written, and the rest
pub record Partly (total : List ℕ) (first : Writer) (rest : List ℕ) (w : Writer) : Type 0 where
  pub part : List ℕ
  pub whole : total ≡ part ++ rest
  pub written : Puts part first w

pub none_yet : (total : List ℕ) (w : Writer) → Partly total w total w
none_yet total w = record { part = []; whole = refl; written = puts_nothing w }

module _ {total : List ℕ} {first : Writer} {rest : List ℕ} {w : Writer} (so : Partly total first rest w) where
  pub part_more : (xs ys : List ℕ) {next : Writer} → rest ≡ xs ++ ys → Puts xs w next → Partly total first ys next
  part_more xs ys e p =
      record {
        part = so.part ++ xs;
        whole = so.whole ∙ ap (λ (l : List ℕ). so.part ++ l) e ∙ sym (append_assoc so.part xs ys);
        written = puts_both so.written p;
      }

  pub part_all : rest ≡ [] → Puts total first w
  part_all e = rw (so.whole ∙ ap (λ (l : List ℕ). so.part ++ l) e ∙ append-nil so.part) so.written

-- ---- numbers behind their keys

pub key_fits : (keys : List ℕ) → key_size keys ≤ length keys
unfolding key_size
key_fits keys =
    cond_elim (λ (k : ℕ). k ≤ length keys) (ltb (index_of 61 keys) (length keys)) (suc (index_of 61 keys)) (length keys)
    (λ e. omega (arith, ltb-true (index_of 61 keys) (length keys) e)) (λ e. omega arith)

fields_turn : (keys values : List ℕ) (i : ℕ) → i < length values
    → fields keys (drop i values) ≡ take (key_size keys) keys ++ (decimal (get_or values i 0) ++ fields (drop (key_size keys) keys) (drop (i + 1) values))
unfolding fields
fields_turn keys values i h = rw (drop-cons values i 0 h, add-one)

-- so far: the keys and values that are left, and room for them
pub record Fields (keys values : List ℕ) (first : Writer) (rest : List ℕ) (i : ℕ) (w : Writer) : Type 0 where
  pub so : Partly (fields keys values) first (fields rest (drop i values)) w
  pub some : i ≤ length values
  pub few : w.end + (length rest + 20 * (length values - i)) ≤ first.end + (length keys + 20 * length values)
  pub long : length w.out.now ≡ length first.out.now

pub fields_start : (keys values : List ℕ) (w : Writer) → Fields keys values w keys 0 w
fields_start keys values w = record { so = none_yet (fields keys values) w; some = omega arith; few = omega arith; long = refl }

module _ {keys values : List ℕ} {first : Writer} {rest : List ℕ} {i : ℕ} {w : Writer} (f : Fields keys values first rest i w) where
  pub fields_done : length values ≤ i → Puts (fields keys values) first w × (w.end ≤ first.end + (length keys + 20 * length values))
  unfolding fields
  fields_done h = (part_all f.so (rw (drop_of_length-le values h)), omega (arith, f.few))

  module _ (room : Room first (length keys + 20 * length values)) (h : i < length values) (size : ℕ) (e : size ≡ key_size rest) where
    pub size_fits : size ≤ length rest
    size_fits = omega (arith, key_fits rest)

    pub key_long : length (take size rest) ≡ size
    key_long = length-take-le size rest size_fits

    pub key_room : HasRoom w (take size rest)
    key_room = omega (arith, room, key_long, size_fits, f.few, f.long)

    module _ {mid : Writer} (p : Puts (take size rest) w mid) (small : get_or values i 0 < 18446744073709551616) where
      pub value_room : HasRoom mid (decimal (get_or values i 0))
      value_room = omega (arith, room, p.after, p.long, key_long, size_fits, f.few, f.long, long_length (get_or values i 0) small)

      pub fields_more : {next : Writer} → Puts (decimal (get_or values i 0)) mid next → Fields keys values first (drop size rest) (i + 1) next
      fields_more q =
          record {
            so =
                part_more
                (part_more f.so (take size rest) (decimal (get_or values i 0) ++ fields (drop size rest) (drop (i + 1) values)) (rw e (fields_turn rest values i h)) p)
                (decimal (get_or values i 0)) (fields (drop size rest) (drop (i + 1) values)) refl q;
            some = omega arith;
            few = omega (arith, p.after, q.after, key_long, size_fits, length-drop size rest, f.few, long_length (get_or values i 0) small);
            long = q.long ∙ p.long ∙ f.long;
          }

-- ---- the fields of a kind

pub no_fields : (m : Message) (w : Writer) → (((a : ℕ) (b : ℕ) (c : ℕ) (d : ℕ) (e : ℕ) → m ≡ M.Request a b c d e → ⊥) × ((a : ℕ) (b : ℕ) (c : ℕ) (d : ℕ) (e : ℕ) → m ≡ M.Confirm a b c d e → ⊥) × ((a : ℕ) (b : ℕ) (c : ℕ) (d : ℕ) → m ≡ M.Poll a b c d → ⊥) × ((a : ℕ) (b : ℕ) (c : ℕ) (d : ℕ) → m ≡ M.Update a b c d → ⊥) × ((a : ℕ) (b : ℕ) (c : ℕ) (d : ℕ) (e : ℕ) (f : ℕ) (g : ℕ) → m ≡ M.Error a b c d e f g → ⊥)) → Puts (own_fields m) w w
unfolding own_fields
no_fields (M.Request a q s hello poll) w h = absurd (h.0 a q s hello poll refl)
no_fields (M.Confirm a q s hello poll) w h = absurd (h.1 a q s hello poll refl)
no_fields (M.Refuse a q s) w h = puts_nothing w
no_fields (M.Cease a q s) w h = puts_nothing w
no_fields (M.CeaseAck a q s) w h = puts_nothing w
no_fields (M.Hello a q s) w h = puts_nothing w
no_fields (M.IHeardYou a q s) w h = puts_nothing w
no_fields (M.Poll a q s net) w h = absurd (h.2 a q s net refl)
no_fields (M.Update a q s net) w h = absurd (h.3 a q s net refl)
no_fields (M.Error a q s reason x y z) w h = absurd (h.4 a q s reason x y z refl)

-- ---- row by row

abbrev pub row_at : List ℕ → Row
row_at u = record { net = get_or u 0 0; gateway = get_or u 1 0; third = get_or u 2 0 }

rows_turn : (xs u : List ℕ) → length xs ≡ 3 → rows_fields (rows_of (xs ++ u)) ≡ row_fields (row_at xs) ++ rows_fields (rows_of u)
unfolding rows_fields rows_of join
rows_turn [] u h = absurd (omega arith)
rows_turn (a ∷ []) u h = absurd (omega arith)
rows_turn (a ∷ b ∷ []) u h = absurd (omega arith)
rows_turn (a ∷ b ∷ c ∷ []) u h = refl
rows_turn (a ∷ b ∷ c ∷ d ∷ xs) u h = absurd (omega arith)

rows_short : (u : List ℕ) → length u ≤ 2 → rows_fields (rows_of u) ≡ []
unfolding rows_fields rows_of join
rows_short [] h = refl
rows_short (a ∷ []) h = refl
rows_short (a ∷ b ∷ []) h = refl
rows_short (a ∷ b ∷ c ∷ u) h = absurd (omega arith)

-- so far: the numbers that are left, and room for their rows
pub record Rows (rows : List ℕ) (first : Writer) (rest : List ℕ) (w : Writer) : Type 0 where
  pub so : Partly (rows_fields (rows_of rows)) first (rows_fields (rows_of rest)) w
  pub few : w.end + 25 * length rest ≤ first.end + 25 * length rows
  pub long : length w.out.now ≡ length first.out.now

pub rows_start : (rows : List ℕ) (w : Writer) → Rows rows w rows w
rows_start rows w = record { so = none_yet (rows_fields (rows_of rows)) w; few = omega arith; long = refl }

module _ {rows : List ℕ} {first w : Writer} (rest : List ℕ) (r : Rows rows first rest w) where
  pub rows_done : length rest ≤ 2 → Puts (rows_fields (rows_of rows)) first w × (w.end ≤ first.end + 25 * length rows)
  rows_done h = (part_all r.so (rows_short rest h), omega (arith, r.few))

  module _ (xs u : List ℕ) (e : rest ≡ xs ++ u) (h : length xs ≡ 3) where
    long : length rest ≡ 3 + length u
    long = ap length e ∙ length-append xs u ∙ omega (arith, h)

    pub row_room : Room first (25 * length rows) → Room w 75
    row_room k = omega (arith, k, long, r.few, r.long)

    pub rows_more : {next : Writer} → Puts (row_fields (row_at xs)) w next → next.end ≤ w.end + 75 → Rows rows first u next
    rows_more p k =
        record {
          so = part_more r.so (row_fields (row_at xs)) (rows_fields (rows_of u)) (ap (λ (m : List ℕ). rows_fields (rows_of m)) e ∙ rows_turn xs u h) p;
          few = omega (arith, k, long, r.few);
          long = p.long ∙ r.long;
        }

-- ---- a message

module _ (key : List ℕ) (meaning : Result Message Refusal) (count : ℕ) (rows o : List ℕ) {number : ℕ} {numbers part : List ℕ}
    (e : number ≡ answer_of meaning) (f : numbers ≡ head_numbers number count o) (g : part ≡ take (count * 3) rows) where
  pub reading_done : {word : List ℕ} {a b c d x y z w : Writer} → word ≡ meaning_word meaning
      → Puts key a b → Puts word b c → Puts (fields head_keys numbers) c d → Puts (body_fields meaning) d x
      → Puts (rows_fields (rows_of part)) x y → Puts (text " hex=") y z → Puts (hex_text o) z w
      → Puts (reading_text key (record { meaning = meaning; count = count; rows = rows }) o) a w
  unfolding reading_text
  reading_done h p q r s t u v =
      rw (← g, ← e, ← f)
      (puts_both p (puts_both (rw h at q) (puts_both r (puts_both s (puts_both t (puts_both u v))))))

-- ---- words

pub side_length : (third : ℕ) → length (side_word third) ≤ 3
unfolding side_word text
side_length third = cond_elim (λ (l : List ℕ). length l ≤ 3) (leb 256 third) (text "ext") (text "int") (λ e. omega arith) (λ e. omega arith)
