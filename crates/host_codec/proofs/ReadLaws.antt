-- Laws of reading alone into a buffer. Assumes nothing.
use Prim.Native.Nat.{ℕ, ◌*◌, ◌-◌, ◌≤◌, ◌<◌}
use native.Mathlib.Omega.{arith}
use mathlib.Core.Path.{◌≡◌, refl, sym, ap, ◌∙◌}
use mathlib.Core.List.{List, ◌++◌, append-nil, append_assoc}
use lib.Dec.{leb}
use lib.ListN.{length, take, drop, length-append, length-drop, drop_of_length-le}
use lib.Seq.{take_at, drop_at, drop-drop, length-take-le}
use borrow.Author.Tests.{leb-true, le-leb, lt-leb}
use borrow.Rule.Slice.PartMut.{put_mid}
use Rattle.std.specs.Prelude.{Result, Ok, Err}
use Rattle.checks.specs.Refusals.{number_of, answer_of}
use Rattle.checks.specs.declared.Refusal.{Refusal}
use Rattle.checks.specs.declared.Refusal.TheVariants.{BrokenBlocks, TooManyRows}
use Rattle.checks.proofs.Laws.{number_some, part_from_lem, cond_elim, check_holds, check_fails, if_ok_new, if_ok_old}
use Rattle.octets.specs.Buffer.{over}
use Rattle.octets_words.specs.Words.{word_octets}
use Rattle.message.specs.declared.Message.{Message}
use Rattle.message.specs.declared.Message.TheVariants.{Request, Confirm, Refuse, Cease, CeaseAck, Hello, IHeardYou, Poll, Update, Error}
use Rattle.update_walk.specs.Body.{Walk, whole, broken, walked_blocks, read_within, accepted, too_many, update_of}
use Rattle.nets.specs.Rows.{flat}
use Rattle.update_rows.proofs.Laws.{flat_length, zeros_length, padded_length}
use Rattle.codec.specs.Reading.{refusal, rowless, update_reading, meaning_reading, meaning_read, reading_after, read_of}
use Rattle.codec.specs.declared.Reading.{Reading}
use Rattle.host_result.specs.Packed.{packed, bare}
use Rattle.host_meaning.specs.Meaning.{field_octets, meaning_octets}
use Rattle.host_codec.specs.Codec.{reading_number, found_octets, reading_octets, reading_buffer, reading_result}

-- ---- what reading alone gives: at most 128 rows in 384 numbers

pub record Sound (r : Reading) : Type 0 where
  pub few : r.count ≤ 128
  pub long : length r.rows ≡ 384

refused_sound : (refused : Refusal) → Sound (refusal refused)
unfolding refusal
refused_sound refused = record { few = omega arith; long = zeros_length 384 }

rowless_sound : (m : Message) → Sound (rowless m)
unfolding rowless
rowless_sound m = record { few = omega arith; long = zeros_length 384 }

update_sound : (m : Message) (w : Walk) → Sound (update_reading m (read_within 128 w))
unfolding read_within update_reading
update_sound m (whole rs) =
    cond_elim (λ u. Sound (update_reading m u)) (leb (length rs) 128) (accepted rs) too_many
    (λ e. record {
      few = leb-true (length rs) 128 e;
      long = padded_length 384 (flat rs) (omega (arith, flat_length rs, leb-true (length rs) 128 e));
    })
    (λ e. refused_sound TooManyRows)
update_sound m (broken offset) = refused_sound BrokenBlocks

meaning_sound : (net : ℕ) (o : List ℕ) (m : Message) → Sound (meaning_reading net o m)
unfolding meaning_reading update_of
meaning_sound net o (Request a q s h p) = rowless_sound (Request a q s h p)
meaning_sound net o (Confirm a q s h p) = rowless_sound (Confirm a q s h p)
meaning_sound net o (Refuse a q s) = rowless_sound (Refuse a q s)
meaning_sound net o (Cease a q s) = rowless_sound (Cease a q s)
meaning_sound net o (CeaseAck a q s) = rowless_sound (CeaseAck a q s)
meaning_sound net o (Hello a q s) = rowless_sound (Hello a q s)
meaning_sound net o (IHeardYou a q s) = rowless_sound (IHeardYou a q s)
meaning_sound net o (Poll a q s n) = rowless_sound (Poll a q s n)
meaning_sound net o (Update a q s n) = update_sound (Update a q s n) (walked_blocks net o)
meaning_sound net o (Error a q s r x y z) = rowless_sound (Error a q s r x y z)

after_sound : (net : ℕ) (o : List ℕ) (d : Result Message Refusal) → Sound (reading_after net o d)
unfolding reading_after
after_sound net o (Ok m) = meaning_sound net o m
after_sound net o (Err refused) = refused_sound refused

pub reading_sound : (net : ℕ) (o : List ℕ) → Sound (read_of net o)
unfolding read_of
reading_sound net o = after_sound net o (meaning_read o)

pub count_few : (net : ℕ) (o : List ℕ) (r : Reading) → r ≡ read_of net o → r.count ≤ 128
count_few net o r e = rw e (reading_sound net o).few

pub count_fits : (net : ℕ) (o : List ℕ) (r : Reading) → r ≡ read_of net o → r.count * 3 ≤ length r.rows
count_fits net o r e = rw e (omega (arith, (reading_sound net o).few, (reading_sound net o).long))

-- room for the rows behind the meaning
pub rows_room : (net : ℕ) (o : List ℕ) (r : Reading) (x : List ℕ) → r ≡ read_of net o → 1560 ≤ length x
    → length (take (r.count * 3) r.rows) * 4 ≤ length (take (length x - 24) (drop 24 x))
rows_room net o r x e h =
    rw (part_from_lem 24 x, length-drop 24 x, length-take-le (r.count * 3) r.rows (count_fits net o r e))
    (omega (arith, count_few net o r e))

-- ---- the meaning's octets, and others behind them

pub meaning_length : (m : Message) → length (meaning_octets m) ≡ 24
unfolding meaning_octets field_octets
meaning_length (Request a q s h p) = refl
meaning_length (Confirm a q s h p) = refl
meaning_length (Refuse a q s) = refl
meaning_length (Cease a q s) = refl
meaning_length (CeaseAck a q s) = refl
meaning_length (Hello a q s) = refl
meaning_length (IHeardYou a q s) = refl
meaning_length (Poll a q s n) = refl
meaning_length (Update a q s n) = refl
meaning_length (Error a q s r x y z) = refl

-- octets laid over the front, then others over the part behind them
pub over_behind : (head more buffer x y : List ℕ) → length head ≡ 24 → 24 ≤ length buffer → x ≡ over head buffer
    → y ≡ over more (take (length x - 24) (drop 24 x)) → put_mid 24 (length x - 24) x y ≡ over (head ++ more) buffer
unfolding over
over_behind head more buffer x y n h e f =
    let d : drop 24 x ≡ drop 24 buffer = ap (drop 24) e ∙ drop_at head (drop (length head) buffer) 24 n ∙ ap (λ (k : ℕ). drop k buffer) n in
    let t : take 24 x ≡ head = ap (take 24) e ∙ take_at head (drop (length head) buffer) 24 n in
    let k : length (drop 24 x) ≤ length x - 24 = rw (length-drop 24 x) (omega arith) in
    let g : y ≡ more ++ drop (length more) (drop 24 buffer) = f ∙ rw (part_from_lem 24 x, d) in
    rw (t, g, drop_of_length-le (drop 24 x) k, append-nil, length-append head more, n, drop-drop, append_assoc)

-- ---- what the call answers and leaves

module _ (net : ℕ) (message buffer : List ℕ) where
  pub number_long : 1560 ≤ length buffer → reading_number net message buffer ≡ answer_of (read_of net message).meaning
  unfolding reading_number
  number_long h = check_holds (leb 1560 (length buffer)) 3 (answer_of (read_of net message).meaning) (le-leb 1560 (length buffer) h)

  -- a refused call
  refused : (k r : ℕ) → reading_number net message buffer ≡ k → (k ≡ 0 → ⊥) → r ≡ bare k
      → (r ≡ reading_result net message buffer) × (buffer ≡ reading_buffer net message buffer)
  unfolding reading_result reading_buffer
  refused k r e n f =
      let z : reading_number net message buffer ≡ 0 → ⊥ = λ z. n (sym e ∙ z) in (
        f ∙ ap bare (sym e) ∙ sym (if_ok_old (reading_number net message buffer) _ (bare (reading_number net message buffer)) z),
        sym (if_ok_old (reading_number net message buffer) _ buffer z),
      )

  pub read_3 : (r : ℕ) → length buffer < 1560 → r ≡ bare 3 → (r ≡ reading_result net message buffer) × (buffer ≡ reading_buffer net message buffer)
  unfolding reading_number
  read_3 r h e =
      refused 3 r (check_fails (leb 1560 (length buffer)) 3 (answer_of (read_of net message).meaning) (lt-leb 1560 (length buffer) h)) (λ z. absurd (omega arith)) e

  pub read_refused : (r : ℕ) (reading : Reading) (told : Refusal) → 1560 ≤ length buffer → reading ≡ read_of net message → reading.meaning ≡ Err told
      → r ≡ bare (number_of told) → (r ≡ reading_result net message buffer) × (buffer ≡ reading_buffer net message buffer)
  read_refused r reading told h i e f =
      let w : (read_of net message).meaning ≡ Err told = ap (λ (t : Reading). t.meaning) (sym i) ∙ e in
      refused (number_of told) r (number_long h ∙ rw w) (number_some told) f

  pub read_good : (r : ℕ) (reading : Reading) (m : Message) (x : List ℕ) → 1560 ≤ length buffer → reading ≡ read_of net message → reading.meaning ≡ Ok m
      → x ≡ over (meaning_octets m ++ word_octets (take (reading.count * 3) reading.rows)) buffer → r ≡ packed 0 24 (reading.count * 12)
      → (r ≡ reading_result net message buffer) × (x ≡ reading_buffer net message buffer)
  unfolding reading_result reading_buffer reading_octets found_octets
  read_good r reading m x h i e f g =
      let w : (read_of net message).meaning ≡ Ok m = ap (λ (t : Reading). t.meaning) (sym i) ∙ e in
      let z : reading_number net message buffer ≡ 0 = number_long h ∙ rw w in (
        g ∙ ap (λ (t : Reading). packed 0 24 (t.count * 12)) i ∙ sym (if_ok_new (reading_number net message buffer) _ _ z),
        f ∙ ap (λ (t : Reading). over (meaning_octets m ++ word_octets (take (t.count * 3) t.rows)) buffer) i
            ∙ rw (if_ok_new (reading_number net message buffer) (over (reading_octets (read_of net message)) buffer) buffer z, w),
      )
