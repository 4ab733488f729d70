-- Laws of writing from octets. Assumes nothing.
use Prim.Native.Nat.{ℕ, ◌*◌, ◌/◌, ◌%◌, ◌≤◌, ◌<◌}
use native.Mathlib.Omega.{arith}
use mathlib.Core.Path.{◌≡◌, refl, sym, ap, ◌∙◌}
use mathlib.Core.Bool.{Bool, true, false, cond, ◌&&◌}
use mathlib.Core.List.{List, [], ◌∷◌, ◌++◌}
use lib.Dec.{eqb, leb}
use lib.ListN.{length, take, drop}
use lib.Seq.{take_all, take_at, length-take-le}
use borrow.Author.Tests.{eq-eqb, ne_eqb, le-leb, lt-leb}
use Rattle.std.specs.Prelude.{Result, Ok, Err}
use Rattle.checks.specs.Checks.{if_ok}
use Rattle.checks.specs.Refusals.{number_of, answer_of, checked}
use Rattle.checks.specs.declared.Refusal.{Refusal}
use Rattle.checks.specs.declared.Refusal.TheVariants.{ShortBuffer, BadArgument}
use Rattle.checks.proofs.Laws.{number_some, and_right, cond_elim, check_holds, check_fails, if_ok_new, if_ok_old}
use Rattle.codec.proofs.Laws.{write_checks, octets_told, length_is, refused_leaves}
use Rattle.octets.specs.Buffer.{over}
use Rattle.octets_words.specs.Words.{words_of, row_numbers}
use Rattle.octets_words.proofs.Words.{words_length}
use Rattle.nets.specs.Classes.{good_net}
use Rattle.nets.specs.Rows.{rows_of}
use Rattle.message.specs.Kinds.{kind_of, status_of, status_allowed}
use Rattle.message.specs.declared.Message.{Message}
use Rattle.message.specs.declared.Message.TheVariants.{Request, Confirm, Refuse, Cease, CeaseAck, Hello, IHeardYou, Poll, Update, Error}
use Rattle.update_writing.specs.Writable.{writable_numbers}
use Rattle.update_writing.proofs.Lists.{rows_length}
use Rattle.codec_writing.specs.Octets.{message_octets}
use Rattle.codec_writing.specs.Room.{rows_fit}
use Rattle.codec_writing.proofs.Laws.{rows_few}
use Rattle.codec.specs.Writing.{rows_allowed, writable, write_answer, write_octets, write_of}
use Rattle.host_result.specs.Packed.{packed, bare}
use Rattle.host_meaning.specs.Meaning.{meaning_at, meaning_octets}
use Rattle.host_codec.specs.Codec.{same_octets, is_meaning, writing_number, writing_octets, writing_buffer, writing_result}
use Rattle.host_codec.proofs.Same.{and_false}

-- ---- rows that the writer refuses beside every kind

-- one number is no row
one_allowed : (m : Message) → rows_allowed m (0 ∷ []) ≡ false
unfolding rows_allowed rows_fit writable_numbers
one_allowed (Request a q s h p) = refl
one_allowed (Confirm a q s h p) = refl
one_allowed (Refuse a q s) = refl
one_allowed (Cease a q s) = refl
one_allowed (CeaseAck a q s) = refl
one_allowed (Hello a q s) = refl
one_allowed (IHeardYou a q s) = refl
one_allowed (Poll a q s n) = refl
one_allowed (Update a q s n) = and_false (good_net n) false refl
one_allowed (Error a q s r x y z) = refl

pub one_refused : (m : Message) → writable m (0 ∷ []) ≡ false
unfolding writable
one_refused m = and_false (status_allowed (kind_of m) (status_of m)) (rows_allowed m (0 ∷ [])) (one_allowed m)

-- more than 128 rows
false_of : (b : Bool) → (b ≡ true → ⊥) → b ≡ false
false_of true n = absurd (n refl)
false_of false n = refl

many_allowed : (m : Message) (numbers : List ℕ) → 384 < length numbers → length numbers % 3 ≡ 0 → rows_allowed m numbers ≡ false
unfolding rows_allowed rows_fit
many_allowed (Request a q s h p) l k e = ne_eqb (length l) 0 (λ z. absurd (omega (arith, k, z)))
many_allowed (Confirm a q s h p) l k e = ne_eqb (length l) 0 (λ z. absurd (omega (arith, k, z)))
many_allowed (Refuse a q s) l k e = ne_eqb (length l) 0 (λ z. absurd (omega (arith, k, z)))
many_allowed (Cease a q s) l k e = ne_eqb (length l) 0 (λ z. absurd (omega (arith, k, z)))
many_allowed (CeaseAck a q s) l k e = ne_eqb (length l) 0 (λ z. absurd (omega (arith, k, z)))
many_allowed (Hello a q s) l k e = ne_eqb (length l) 0 (λ z. absurd (omega (arith, k, z)))
many_allowed (IHeardYou a q s) l k e = ne_eqb (length l) 0 (λ z. absurd (omega (arith, k, z)))
many_allowed (Poll a q s n) l k e = ne_eqb (length l) 0 (λ z. absurd (omega (arith, k, z)))
many_allowed (Update a q s n) l k e =
    false_of (good_net n && writable_numbers n l)
    (λ w. absurd (omega (arith, k, e, rows_length l, rows_few n l (and_right (good_net n) (writable_numbers n l) w))))
many_allowed (Error a q s r x y z) l k e = ne_eqb (length l) 0 (λ z. absurd (omega (arith, k, z)))

pub many_refused : (m : Message) (numbers : List ℕ) → 384 < length numbers → length numbers % 3 ≡ 0 → writable m numbers ≡ false
unfolding writable
many_refused m numbers k e = and_false (status_allowed (kind_of m) (status_of m)) (rows_allowed m numbers) (many_allowed m numbers k e)

-- ---- rows as octets

pub rows_broken : (octets : List ℕ) → (length octets % 12 ≡ 0 → ⊥) → row_numbers octets ≡ 0 ∷ []
unfolding row_numbers
rows_broken octets n = rw (ne_eqb (length octets % 12) 0 n)

pub rows_whole : (octets : List ℕ) → length octets % 12 ≡ 0 → row_numbers octets ≡ words_of octets
unfolding row_numbers
rows_whole octets e = rw (eq-eqb (length octets % 12) 0 e)

pub long_refused : (m : Message) (octets : List ℕ) → length octets % 12 ≡ 0 → 1536 < length octets → writable m (row_numbers octets) ≡ false
long_refused m octets e h =
    let k : 384 < length (words_of octets) = omega (arith, words_length octets) in
    let t : length (words_of octets) % 3 ≡ 0 = omega (arith, words_length octets) in
    rw (rows_whole octets e) (many_refused m (words_of octets) k t)

-- the numbers that were laid out at the front of a room
pub laid_out : (rows room x : List ℕ) → length rows ≤ length room * 4 → x ≡ take (length (take (length rows / 4) room)) (words_of rows)
    → take (length rows / 4) (x ++ drop (length rows / 4) room) ≡ words_of rows
laid_out rows room x h e =
    let k : length rows / 4 ≤ length room = omega arith in
    let n : length (words_of rows) ≤ length rows / 4 = omega (arith, words_length rows) in
    let f : x ≡ words_of rows = e ∙ rw (length-take-le (length rows / 4) room k) (take_all (length rows / 4) (words_of rows) n) in
    take_at x (drop (length rows / 4) room) (length rows / 4) (ap length f ∙ words_length rows) ∙ f

pub laid_length : (rows room x : List ℕ) → length rows ≤ length room * 4 → x ≡ take (length (take (length rows / 4) room)) (words_of rows)
    → length rows / 4 ≡ length (take (length rows / 4) (x ++ drop (length rows / 4) room))
laid_length rows room x h e = sym (ap length (laid_out rows room x h e) ∙ words_length rows)

-- ---- the writer's answers

-- two lists that it refuses alike
module _ (m : Message) (buffer : List ℕ) where
  refused_is : (numbers : List ℕ) → writable m numbers ≡ false → write_of m numbers buffer ≡ checked (leb 2048 (length buffer)) ShortBuffer (Err BadArgument)
  unfolding write_of
  refused_is numbers w = rw w

  octets_none : (numbers : List ℕ) → writable m numbers ≡ false → write_octets m numbers buffer ≡ []
  unfolding write_octets write_answer if_ok
  octets_none numbers w = rw (refused_is numbers w) (cond_elim (λ (r : Result ℕ Refusal). cond (eqb (answer_of r) 0) (message_octets m (rows_of numbers)) [] ≡ []) (leb 2048 (length buffer)) _ _ (λ _. refl) (λ _. refl))

  pub refused_alike : (numbers others : List ℕ) → writable m numbers ≡ false → writable m others ≡ false → (a : Result ℕ Refusal) (x : List ℕ)
      → a ≡ write_of m numbers buffer → x ≡ over (write_octets m numbers buffer) buffer
      → (a ≡ write_of m others buffer) × (x ≡ over (write_octets m others buffer) buffer)
  refused_alike numbers others v w a x e f = (
    e ∙ refused_is numbers v ∙ sym (refused_is others w),
    f ∙ ap (λ (o : List ℕ). over o buffer) (octets_none numbers v ∙ sym (octets_none others w)),
  )

-- ---- what the call answers and leaves

-- what the comparison of octets found
pub is_told : (meaning octets : List ℕ) (m : Message) (b : Bool) → b ≡ same_octets meaning octets → octets ≡ meaning_octets m → m ≡ meaning_at meaning → is_meaning meaning ≡ b
unfolding is_meaning
is_told meaning octets m b e f g = sym (e ∙ ap (same_octets meaning) (f ∙ ap meaning_octets g))

module _ (meaning rows buffer : List ℕ) where
  refused : (k r : ℕ) → writing_number meaning rows buffer ≡ k → (k ≡ 0 → ⊥) → r ≡ bare k
      → (r ≡ writing_result meaning rows buffer) × (buffer ≡ writing_buffer meaning rows buffer)
  unfolding writing_result writing_buffer
  refused k r e n f =
      let z : writing_number meaning rows buffer ≡ 0 → ⊥ = λ z. n (sym e ∙ z) in (
        f ∙ ap bare (sym e) ∙ sym (if_ok_old (writing_number meaning rows buffer) _ (bare (writing_number meaning rows buffer)) z),
        sym (if_ok_old (writing_number meaning rows buffer) _ buffer z),
      )

  pub write_3 : (r : ℕ) → length buffer < 2048 → r ≡ bare 3 → (r ≡ writing_result meaning rows buffer) × (buffer ≡ writing_buffer meaning rows buffer)
  unfolding writing_number
  write_3 r h e = refused 3 r (check_fails (leb 2048 (length buffer)) 3 _ (lt-leb 2048 (length buffer) h)) (λ z. absurd (omega arith)) e

  pub write_16 : (r : ℕ) → 2048 ≤ length buffer → is_meaning meaning ≡ false → r ≡ bare 16
      → (r ≡ writing_result meaning rows buffer) × (buffer ≡ writing_buffer meaning rows buffer)
  unfolding writing_number
  write_16 r h w e =
      refused 16 r
      (check_holds (leb 2048 (length buffer)) 3 _ (le-leb 2048 (length buffer) h)
      ∙ check_fails (is_meaning meaning && writable (meaning_at meaning) (row_numbers rows)) 16 0 (rw w))
      (λ z. absurd (omega arith)) e

  -- a meaning that reading can give: the answer is the writer's own
  number_writer : is_meaning meaning ≡ true → writing_number meaning rows buffer ≡ write_answer (meaning_at meaning) (row_numbers rows) buffer
  unfolding writing_number
  number_writer w = rw w (sym (write_checks (meaning_at meaning) (row_numbers rows) buffer))

  module _ (x : List ℕ) (w : is_meaning meaning ≡ true) (f : x ≡ over (write_octets (meaning_at meaning) (row_numbers rows) buffer) buffer) where
    pub write_done : (r n : ℕ) → write_of (meaning_at meaning) (row_numbers rows) buffer ≡ Ok n → r ≡ packed 0 n 0
        → (r ≡ writing_result meaning rows buffer) × (x ≡ writing_buffer meaning rows buffer)
    unfolding writing_result writing_buffer writing_octets write_answer
    write_done r n e g =
        let z : writing_number meaning rows buffer ≡ 0 = number_writer w ∙ rw e in (
          g ∙ ap (λ (l : ℕ). packed 0 l 0) (length_is (meaning_at meaning) (row_numbers rows) buffer n e) ∙ sym (if_ok_new (writing_number meaning rows buffer) _ _ z),
          f ∙ ap (λ (o : List ℕ). over o buffer) (octets_told (meaning_at meaning) (row_numbers rows) buffer n e) ∙ sym (if_ok_new (writing_number meaning rows buffer) _ _ z),
        )

    pub write_refused : (r : ℕ) (told : Refusal) → write_of (meaning_at meaning) (row_numbers rows) buffer ≡ Err told → r ≡ bare (number_of told)
        → (r ≡ writing_result meaning rows buffer) × (x ≡ writing_buffer meaning rows buffer)
    unfolding write_answer
    write_refused r told e g =
        let both = refused (number_of told) r (number_writer w ∙ rw e) (number_some told) g in
        (both.0, f ∙ sym (refused_leaves (meaning_at meaning) (row_numbers rows) buffer told e) ∙ both.1)
