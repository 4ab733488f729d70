-- Claims of reading and writing for a C host. Assumes nothing.
use Prim.Native.Nat.{ℕ, ◌*◌, ◌-◌, ◌%◌, ◌≤◌}
use native.Mathlib.Omega.{arith}
use mathlib.Core.Path.{◌≡◌, refl, sym, ap, ap₂, subst, ◌∙◌}
use mathlib.Core.Logic.{◌↔◌}
use mathlib.Core.Bool.{Bool, true, false, ◌&&◌, false≢true}
use mathlib.Core.List.{List, [], ◌∷◌, ◌++◌, append_assoc}
use lib.Dec.{eqb, leb}
use lib.ListN.{length, take, drop, length-append}
use lib.Seq.{take_at, drop_at, length-take-le}
use borrow.Author.Tests.{leb-true, le-leb, eqb-true, eqb-false}
use Rattle.std.specs.Prelude.{Result, Ok, Err}
use Rattle.checks.specs.Refusals.{answer_of}
use Rattle.checks.specs.declared.Refusal.{Refusal}
use Rattle.checks.proofs.Laws.{number_some, check_passed, check_holds, and_left, and_right, and_both, if_ok_new, if_ok_old, if_ok_holds}
use Rattle.octets.specs.Numbers.{Octets}
use Rattle.octets.specs.Buffer.{over}
use Rattle.octets_words.specs.Words.{words_of, word_octets, row_numbers}
use Rattle.octets_words.proofs.Words.{word_octets_length, words_length, octets_of_words, words_of_octets}
use Rattle.nets.specs.Rows.{Row, flat, rows_of}
use Rattle.message.specs.declared.Message.{Message}
use Rattle.update_rows.specs.Storing.{zeros, padded}
use Rattle.update_rows.proofs.Laws.{flat_length}
use Rattle.update_writing.proofs.Lists.{rows_length}
use Rattle.codec_writing.specs.Octets.{message_octets}
use Rattle.codec.specs.Reading.{read_of}
use Rattle.codec.specs.Writing.{writable}
use Rattle.codec.specs.declared.Reading.{Reading}
use Rattle.codec_theorem.specs.Widths.{InWidths}
use Rattle.codec_theorem.specs.Exchange.{handed_back, Common, Reads, ComesBack}
use Rattle.codec_theorem.proofs.Exchange.{meanings_read_back, octets_come_back}
use Rattle.host_result.specs.Packed.{packed}
use Rattle.host_meaning.specs.Meaning.{meaning_at, meaning_octets}
use Rattle.host_codec.specs.Codec.{reading_number, found_octets, reading_octets, reading_buffer, reading_result, is_meaning, writing_number, writing_octets, writing_buffer}
use Rattle.host_codec.specs.Claims.{MeaningBack, read_length, Within, handed_message, handed_meaning, handed_rows, CallsUndoEachOther}
use Rattle.host_codec.proofs.Same.{same_equal, same_self}
use Rattle.host_codec.proofs.ReadLaws.{reading_sound, meaning_length, read_good}
use Rattle.host_codec.proofs.WriteLaws.{one_refused, rows_broken, rows_whole}
use Rattle.host_codec.proofs.Meanings.{meaning_back, meaning_fits, writable_numbers_lem}

-- ---- meanings

is_meaning_lem : (m : Message) → InWidths m → is_meaning (meaning_octets m) ≡ true
unfolding is_meaning
is_meaning_lem m f = rw (meaning_back m f) (same_self (meaning_octets m))

only_meaning : (octets : List ℕ) → is_meaning octets ≡ true → meaning_octets (meaning_at octets) ≡ octets
unfolding is_meaning
only_meaning octets e = sym (same_equal octets (meaning_octets (meaning_at octets)) e)

pub meaning_comes_back : MeaningBack
meaning_comes_back = record {
  back = meaning_back;
  is = is_meaning_lem;
  only = λ octets e. (only_meaning octets e, ap length (sym (only_meaning octets e)) ∙ meaning_length (meaning_at octets));
}

-- ---- nothing behind the lengths

behind : (octets buffer : List ℕ) (n : ℕ) → length octets ≡ n → drop n (over octets buffer) ≡ drop n buffer
unfolding over
behind octets buffer n e = drop_at octets (drop (length octets) buffer) n e ∙ ap (λ (k : ℕ). drop k buffer) e

-- what answered 0 passed its checks: the buffer is long enough, and the message was read
pub record Passed (net : ℕ) (message buffer : List ℕ) : Type 0 where
  pub long : 1560 ≤ length buffer
  pub m : Message
  pub good : (read_of net message).meaning ≡ Ok m

read_passed : (net : ℕ) (message buffer : List ℕ) → reading_number net message buffer ≡ 0 → Passed net message buffer
unfolding reading_number
read_passed net message buffer z =
    let p = check_passed (leb 1560 (length buffer)) 3 (answer_of (read_of net message).meaning) refl z in
    go (leb-true 1560 (length buffer) p.0) (read_of net message).meaning refl p.1
  where
    go : 1560 ≤ length buffer → (x : Result Message Refusal) → (read_of net message).meaning ≡ x → answer_of x ≡ 0 → Passed net message buffer
    go h (Ok m) e k = record { long = h; m = m; good = e }
    go h (Err refused) e k = absurd (number_some refused k)

octets_length : (net : ℕ) (message : List ℕ) (m : Message) → (read_of net message).meaning ≡ Ok m → length (reading_octets (read_of net message)) ≡ read_length net message
unfolding reading_octets found_octets
octets_length net message m e =
    let r = read_of net message in
    let s = reading_sound net message in
    let k : (read_of net message).count * 3 ≤ length (read_of net message).rows = omega (arith, s.few, s.long) in
    rw e
    (length-append (meaning_octets m) (word_octets (take (r.count * 3) r.rows))
    ∙ omega (arith, meaning_length m, word_octets_length (take (r.count * 3) r.rows), length-take-le (r.count * 3) r.rows k))

read_behind : (net : ℕ) (message buffer : List ℕ) → drop (read_length net message) (reading_buffer net message buffer) ≡ drop (read_length net message) buffer
unfolding reading_buffer
read_behind net message buffer =
    if_ok_holds (reading_number net message buffer) (over (reading_octets (read_of net message)) buffer) buffer
    (λ l. drop (read_length net message) l ≡ drop (read_length net message) buffer)
    (λ z.
    behind (reading_octets (read_of net message)) buffer (read_length net message)
    (octets_length net message (read_passed net message buffer z).m (read_passed net message buffer z).good)) refl

pub within : Within
unfolding reading_buffer writing_buffer
within = record {
  read_refused = λ net message buffer n. if_ok_old (reading_number net message buffer) _ buffer n;
  write_refused = λ meaning rows buffer n. if_ok_old (writing_number meaning rows buffer) _ buffer n;
  read = read_behind;
  write = λ meaning rows buffer.
      if_ok_holds (writing_number meaning rows buffer) (over (writing_octets meaning rows) buffer) buffer
      (λ l. drop (length (writing_octets meaning rows)) l ≡ drop (length (writing_octets meaning rows)) buffer)
      (λ z. behind (writing_octets meaning rows) buffer (length (writing_octets meaning rows)) refl) refl;
}

-- ---- what was written is read

-- the buffer that reading leaves, where it is known what was read
read_octets : (net : ℕ) (message buffer : List ℕ) (m : Message) (count : ℕ) (numbers : List ℕ) → 1560 ≤ length buffer
    → read_of net message ≡ handed_back m count numbers → length numbers ≡ count * 3
    → (packed 0 24 (count * 12) ≡ reading_result net message buffer) × (over (meaning_octets m ++ word_octets numbers) buffer ≡ reading_buffer net message buffer)
unfolding handed_back padded
read_octets net message buffer m count numbers h e n =
    read_good net message buffer (packed 0 24 (count * 12)) (handed_back m count numbers) m (over (meaning_octets m ++ word_octets numbers) buffer) h (sym e) refl
    (rw (take_at numbers (zeros (384 - length numbers)) (count * 3) n)) refl

module _ (meaning rows buffer : List ℕ) (z : writing_number meaning rows buffer ≡ 0) where
  both : (is_meaning meaning && writable (meaning_at meaning) (row_numbers rows)) ≡ true
  unfolding writing_number
  both =
      (check_passed (is_meaning meaning && writable (meaning_at meaning) (row_numbers rows)) 16 0 refl
      (check_passed (leb 2048 (length buffer)) 3 _ refl z).1).0

  is : is_meaning meaning ≡ true
  is = and_left (is_meaning meaning) (writable (meaning_at meaning) (row_numbers rows)) both

  may : writable (meaning_at meaning) (row_numbers rows) ≡ true
  may = and_right (is_meaning meaning) (writable (meaning_at meaning) (row_numbers rows)) both

  whole : length rows % 12 ≡ 0
  whole = go (eqb (length rows % 12) 0) refl
    where
      go : (b : Bool) → eqb (length rows % 12) 0 ≡ b → length rows % 12 ≡ 0
      go true e = eqb-true (length rows % 12) 0 e
      go false e =
          absurd (false≢true (sym (one_refused (meaning_at meaning)) ∙ ap (writable (meaning_at meaning)) (sym (rows_broken rows (eqb-false (length rows % 12) 0 e))) ∙ may))

  handed : handed_message meaning rows buffer ≡ writing_octets meaning rows
  unfolding writing_buffer over
  handed =
      ap (take (length (writing_octets meaning rows))) (if_ok_new (writing_number meaning rows buffer) (over (writing_octets meaning rows) buffer) buffer z)
      ∙ take_at (writing_octets meaning rows) (drop (length (writing_octets meaning rows)) buffer) (length (writing_octets meaning rows)) refl

calls_written : (net : ℕ) (meaning rows buffer room : List ℕ) → Octets meaning → Octets rows → Common net (meaning_at meaning)
    → writing_number meaning rows buffer ≡ 0 → 1560 ≤ length room
    → (reading_result net (handed_message meaning rows buffer) room ≡ packed 0 24 (length rows))
    × (reading_buffer net (handed_message meaning rows buffer) room ≡ over (meaning ++ rows) room)
unfolding writing_octets
calls_written net meaning rows buffer room om or c z h =
    let m = meaning_at meaning in
    let words = words_of rows in
    let count = length (rows_of (words_of rows)) in
    let d : length rows % 12 ≡ 0 = whole meaning rows buffer z in
    let w : row_numbers rows ≡ words_of rows = rows_whole rows d in
    let e : read_of net (handed_message meaning rows buffer) ≡ handed_back (meaning_at meaning) (length (rows_of (words_of rows))) (words_of rows) =
    ap (read_of net) (handed meaning rows buffer z ∙ ap (λ (l : List ℕ). message_octets m (rows_of l)) w)
    ∙ meanings_read_back.same net m words (meaning_fits meaning om) (ap (writable m) (sym w) ∙ may meaning rows buffer z) c in
    let n : length (words_of rows) ≡ length (rows_of (words_of rows)) * 3 = omega (arith, d, rows_length words, words_length rows) in
    let t : length (rows_of (words_of rows)) * 12 ≡ length rows = omega (arith, d, rows_length words, words_length rows) in
    let p = read_octets net (handed_message meaning rows buffer) room m count words h e n in
    let q : length rows % 4 ≡ 0 = omega (arith, d) in (
      sym p.0 ∙ ap (packed 0 24) t,
      sym p.1
          ∙ ap₂ (λ (a b : List ℕ). over (a ++ b) room) (only_meaning meaning (is meaning rows buffer z)) (octets_of_words rows or q),
    )

-- ---- what was read is written

rows_flat : (rs : List Row) → rows_of (flat rs) ≡ rs
unfolding rows_of flat
rows_flat [] = refl
rows_flat (r ∷ rs) = ap (λ (k : List Row). r ∷ k) (rows_flat rs)

-- a meaning and rows that may be written, as octets
module _ (m : Message) (numbers buffer : List ℕ) (f : InWidths m) (w : writable m numbers ≡ true) (h : 2048 ≤ length buffer) where
  rows_back : row_numbers (word_octets numbers) ≡ numbers
  rows_back =
      let n = writable_numbers_lem m numbers w in
      rows_whole (word_octets numbers) (omega (arith, word_octets_length numbers, n.thirds)) ∙ words_of_octets numbers n.words

  number_0 : writing_number (meaning_octets m) (word_octets numbers) buffer ≡ 0
  unfolding writing_number
  number_0 =
      check_holds (leb 2048 (length buffer)) 3 _ (le-leb 2048 (length buffer) h)
      ∙ check_holds (is_meaning (meaning_octets m) && writable (meaning_at (meaning_octets m)) (row_numbers (word_octets numbers))) 16 0
      (and_both (is_meaning (meaning_octets m)) _ (is_meaning_lem m f) (rw (meaning_back m f, rows_back) w))

  octets_are : writing_octets (meaning_octets m) (word_octets numbers) ≡ message_octets m (rows_of numbers)
  unfolding writing_octets
  octets_are = rw (meaning_back m f, rows_back)

-- what a good reading hands over
module _ (net : ℕ) (message room : List ℕ) (m : Message) (rs : List Row) (h : 1560 ≤ length room) (r : Reads net message m rs) where
  count_is : (read_of net message).count ≡ length rs
  unfolding handed_back
  count_is = ap (λ (t : Reading). t.count) r

  laid : reading_buffer net message room ≡ meaning_octets m ++ (word_octets (flat rs) ++ drop (length (meaning_octets m ++ word_octets (flat rs))) room)
  unfolding over
  laid =
      let n : length (flat rs) ≡ length rs * 3 = omega (arith, flat_length rs) in
      sym (read_octets net message room m (length rs) (flat rs) h r n).1
      ∙ append_assoc (meaning_octets m) (word_octets (flat rs)) (drop (length (meaning_octets m ++ word_octets (flat rs))) room)

  meaning_is : handed_meaning net message room ≡ meaning_octets m
  meaning_is = ap (take 24) laid ∙ take_at (meaning_octets m) _ 24 (meaning_length m)

  rows_are : handed_rows net message room ≡ word_octets (flat rs)
  rows_are =
      let n : length (word_octets (flat rs)) ≡ (read_of net message).count * 12 = omega (arith, word_octets_length (flat rs), flat_length rs, count_is) in
      ap (λ (l : List ℕ). take ((read_of net message).count * 12) (drop 24 l)) laid
      ∙ ap (take ((read_of net message).count * 12)) (drop_at (meaning_octets m) _ 24 (meaning_length m))
      ∙ take_at (word_octets (flat rs)) _ ((read_of net message).count * 12) n

  module _ (buffer : List ℕ) (oct : Octets message) (k : 2048 ≤ length buffer) where
    fits : InWidths m
    fits = (octets_come_back.writes net message m rs oct r).0

    allowed : writable m (flat rs) ≡ true
    allowed = (octets_come_back.writes net message m rs oct r).2

    taken_0 : writing_number (handed_meaning net message room) (handed_rows net message room) buffer ≡ 0
    taken_0 = rw (meaning_is, rows_are) (number_0 m (flat rs) buffer fits allowed k)

    written_is : handed_message (handed_meaning net message room) (handed_rows net message room) buffer ≡ message_octets m rs
    written_is =
        handed (handed_meaning net message room) (handed_rows net message room) buffer taken_0
        ∙ ap₂ writing_octets meaning_is rows_are ∙ octets_are m (flat rs) buffer fits allowed k ∙ ap (message_octets m) (rows_flat rs)

    same_m : meaning_at (handed_meaning net message room) ≡ m
    same_m = ap meaning_at meaning_is ∙ meaning_back m fits

    comes : (handed_message (handed_meaning net message room) (handed_rows net message room) buffer ≡ message) ↔ ComesBack net message (meaning_at (handed_meaning net message room))
    comes =
        let b = octets_come_back.back net message m rs oct r in (
          λ e. subst (λ (t : Message). ComesBack net message t) (sym same_m) (b.0 (sym written_is ∙ e)),
          λ e. written_is ∙ b.1 (subst (λ (t : Message). ComesBack net message t) same_m e),
        )

pub calls_undo_each_other : CallsUndoEachOther
calls_undo_each_other = record {
  written = calls_written;
  taken = λ net message room buffer oct z k.
      let p = read_passed net message room z in
      let r = octets_come_back.rows net message p.m p.good in
      taken_0 net message room p.m r.0 p.long r.1 buffer oct k;
  read = λ net message room buffer oct z k.
      let p = read_passed net message room z in
      let r = octets_come_back.rows net message p.m p.good in
      comes net message room p.m r.0 p.long r.1 buffer oct k;
}
