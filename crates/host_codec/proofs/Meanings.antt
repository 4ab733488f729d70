-- Laws of meanings as octets, and of the numbers that may stand beside them. Assumes nothing.
use Prim.Native.Nat.{ℕ, zero, suc, ◌+◌, ◌/◌, ◌%◌, ◌≤◌, ◌<◌}
use native.Mathlib.Omega.{arith}
use mathlib.Core.Path.{◌≡◌, refl, ◌∙◌}
use mathlib.Core.Bool.{Bool, true, false, not, ◌&&◌, false≢true}
use mathlib.Core.List.{List, [], ◌∷◌}
use lib.Dec.{eqb, ltb}
use lib.ListN.{length, get_or}
use borrow.Author.Tests.{eqb-true, ltb-true, ltb-false, leb-true}
use Rattle.checks.specs.Lists.{every}
use Rattle.checks.proofs.Laws.{and_left, and_right, cond_elim}
use Rattle.octets.specs.Numbers.{Octets, word16, word32}
use Rattle.octets.proofs.Back.{word_back, quad_back}
use Rattle.octets_words.proofs.Words.{Words}
use Rattle.nets.specs.Classes.{net_width, first_octet, host_span, good_net, on_net}
use Rattle.nets.specs.Rows.{rows_of}
use Rattle.nets.proofs.Laws.{good_classless}
use Rattle.message.specs.Kinds.{kind_of, status_of, status_allowed}
use Rattle.message.specs.declared.Message.{Message}
use Rattle.message.specs.declared.Message.TheVariants.{Request, Confirm, Refuse, Cease, CeaseAck, Hello, IHeardYou, Poll, Update, Error}
use Rattle.update_writing.specs.Writable.{writable_row, writable_rows, writable_numbers}
use Rattle.update_writing.proofs.Lists.{rows_length}
use Rattle.codec_writing.specs.Room.{rows_fit}
use Rattle.codec_writing.proofs.Laws.{rows_few}
use Rattle.codec.specs.Writing.{rows_allowed, writable}
use Rattle.codec_theorem.specs.Widths.{HeadFits, InWidths}
use Rattle.host_meaning.specs.Meaning.{intervals_at, plain_at, net_message_at, error_at, meaning_at, field_octets, meaning_octets}

-- ---- a meaning read from its own octets

pub meaning_back : (m : Message) → InWidths m → meaning_at (meaning_octets m) ≡ m
unfolding meaning_at intervals_at plain_at net_message_at error_at meaning_octets field_octets
meaning_back (Request a q s h p) (f, x, y) = rw (word_back a f.asn16, word_back q f.sequence16, word_back h x, word_back p y)
meaning_back (Confirm a q s h p) (f, x, y) = rw (word_back a f.asn16, word_back q f.sequence16, word_back h x, word_back p y)
meaning_back (Refuse a q s) f = rw (word_back a f.asn16, word_back q f.sequence16)
meaning_back (Cease a q s) f = rw (word_back a f.asn16, word_back q f.sequence16)
meaning_back (CeaseAck a q s) f = rw (word_back a f.asn16, word_back q f.sequence16)
meaning_back (Hello a q s) f = rw (word_back a f.asn16, word_back q f.sequence16)
meaning_back (IHeardYou a q s) f = rw (word_back a f.asn16, word_back q f.sequence16)
meaning_back (Poll a q s n) (f, x) = rw (word_back a f.asn16, word_back q f.sequence16, quad_back n x)
meaning_back (Update a q s n) (f, x) = rw (word_back a f.asn16, word_back q f.sequence16, quad_back n x)
meaning_back (Error a q s r b c d) (f, u, x, y, z) =
    rw (word_back a f.asn16, word_back q f.sequence16, word_back r u, quad_back b x, quad_back c y, quad_back d z)

-- ---- what is read from octets is in its widths

module _ (l : List ℕ) (oct : Octets l) where
  word_fits : (i : ℕ) → word16 l i < 65536
  word_fits i = omega (arith, oct i, oct (i + 1))

  quad_fits : (i : ℕ) → word32 l i < 4294967296
  quad_fits i = omega (arith, oct i, oct (i + 1), oct (i + 2), oct (i + 3))

  head_fits : HeadFits (word16 l 2) (word16 l 4) (get_or l 1 0)
  head_fits = record { asn16 = word_fits 2; sequence16 = word_fits 4; status8 = oct 1 }

  pub meaning_fits : InWidths (meaning_at l)
  unfolding meaning_at intervals_at plain_at net_message_at error_at
  meaning_fits =
      cond_elim (λ m. InWidths m) (ltb (get_or l 0 0) 2) _ _
      (λ e. cond_elim (λ m. InWidths m) (eqb (get_or l 0 0) 0) _ _ (λ e. (head_fits, word_fits 6, word_fits 8)) (λ e. (head_fits, word_fits 6, word_fits 8)))
      (λ e. cond_elim (λ m. InWidths m) (ltb (get_or l 0 0) 7) _ _
      (λ e. cond_elim (λ m. InWidths m) (eqb (get_or l 0 0) 2) _ _ (λ e. head_fits)
      (λ e. cond_elim (λ m. InWidths m) (eqb (get_or l 0 0) 3) _ _ (λ e. head_fits)
      (λ e. cond_elim (λ m. InWidths m) (eqb (get_or l 0 0) 4) _ _ (λ e. head_fits)
      (λ e. cond_elim (λ m. InWidths m) (eqb (get_or l 0 0) 5) _ _ (λ e. head_fits) (λ e. head_fits)))))
      (λ e. cond_elim (λ m. InWidths m) (ltb (get_or l 0 0) 9) _ _
      (λ e. cond_elim (λ m. InWidths m) (eqb (get_or l 0 0) 7) _ _ (λ e. (head_fits, quad_fits 12)) (λ e. (head_fits, quad_fits 12)))
      (λ e. (head_fits, word_fits 6, quad_fits 12, quad_fits 16, quad_fits 20))))

-- ---- numbers that may be written are whole rows of 32 bits each

good_below : (net : ℕ) → good_net net ≡ true → net < 4294967296
good_below net g = go (ltb net 3758096384) refl
  where
    go : (b : Bool) → ltb net 3758096384 ≡ b → net < 4294967296
    go true e = omega (arith, ltb-true net 3758096384 e)
    go false e = absurd (false≢true (good_classless net (ltb-false net 3758096384 e) ∙ g))

on_below : (net address : ℕ) → net < 4294967296 → on_net net address ≡ true → address < 4294967296
unfolding on_net net_width host_span
on_below net address n h =
    cond_elim (λ w. (not (eqb w 0) && eqb (address / host_span w) (net / host_span w)) ≡ true → address < 4294967296) (ltb (first_octet net) 128) _ _
    (λ e k. omega (arith, n, eqb-true (address / 16777216) (net / 16777216) k))
    (λ e. cond_elim (λ w. (not (eqb w 0) && eqb (address / host_span w) (net / host_span w)) ≡ true → address < 4294967296) (ltb (first_octet net) 192) _ _
    (λ e k. omega (arith, n, eqb-true (address / 65536) (net / 65536) k))
    (λ e. cond_elim (λ w. (not (eqb w 0) && eqb (address / host_span w) (net / host_span w)) ≡ true → address < 4294967296) (ltb (first_octet net) 224) _ _
    (λ e k. omega (arith, n, eqb-true (address / 256) (net / 256) k))
    (λ e k. absurd (false≢true k)))) h

module _ (net : ℕ) (n : net < 4294967296) where
  rows_words : (l : List ℕ) → length l % 3 ≡ 0 → every (writable_row net) (rows_of l) ≡ true → Words l
  unfolding every rows_of writable_row
  rows_words [] e w i = omega arith
  rows_words (a ∷ []) e w i = absurd (omega (arith, e))
  rows_words (a ∷ b ∷ []) e w i = absurd (omega (arith, e))
  rows_words (a ∷ b ∷ c ∷ rest) e w zero = good_below a (search (and_left, and_right))
  rows_words (a ∷ b ∷ c ∷ rest) e w (suc zero) = on_below net b n (search (and_left, and_right))
  rows_words (a ∷ b ∷ c ∷ rest) e w (suc (suc zero)) = let t : c ≤ 511 = leb-true c 511 (search (and_left, and_right)) in omega (arith, t)
  rows_words (a ∷ b ∷ c ∷ rest) e w (suc (suc (suc i))) = rows_words rest (omega (arith, e)) (search (and_left, and_right)) i

no_words : (l : List ℕ) → length l ≡ 0 → Words l
no_words [] e i = omega arith
no_words (x ∷ l) e i = absurd (omega (arith, e))

-- as many as whole rows have, and each a number of 32 bits
pub record RowNumbers (l : List ℕ) : Type 0 where
  pub thirds : length l % 3 ≡ 0
  pub most : length l ≤ 384
  pub words : Words l

none : (l : List ℕ) → eqb (length l) 0 ≡ true → RowNumbers l
none l e =
    let z : length l ≡ 0 = eqb-true (length l) 0 e in
    record { thirds = omega (arith, z); most = omega (arith, z); words = no_words l z }

allowed_numbers : (m : Message) (l : List ℕ) → rows_allowed m l ≡ true → RowNumbers l
unfolding rows_allowed rows_fit writable_numbers writable_rows
allowed_numbers (Request a q s h p) l w = none l w
allowed_numbers (Confirm a q s h p) l w = none l w
allowed_numbers (Refuse a q s) l w = none l w
allowed_numbers (Cease a q s) l w = none l w
allowed_numbers (CeaseAck a q s) l w = none l w
allowed_numbers (Hello a q s) l w = none l w
allowed_numbers (IHeardYou a q s) l w = none l w
allowed_numbers (Poll a q s n) l w = none l w
allowed_numbers (Update a q s n) l w =
    let g : good_net n ≡ true = and_left (good_net n) (writable_numbers n l) w in
    let r : writable_numbers n l ≡ true = and_right (good_net n) (writable_numbers n l) w in
    let t : length l % 3 ≡ 0 = eqb-true (length l % 3) 0 (and_left (eqb (length l % 3) 0) (writable_rows n (rows_of l)) r) in
    let v : every (writable_row n) (rows_of l) ≡ true = search (and_left, and_right) in
    record { thirds = t; most = omega (arith, t, rows_length l, rows_few n l r); words = rows_words n (good_below n g) l t v }
allowed_numbers (Error a q s r x y z) l w = none l w

pub writable_numbers_lem : (m : Message) (l : List ℕ) → writable m l ≡ true → RowNumbers l
unfolding writable
writable_numbers_lem m l w = allowed_numbers m l (and_right (status_allowed (kind_of m) (status_of m)) (rows_allowed m l) w)
