-- Reading and writing undo each other, an Update's blocks left out. Assumes nothing.
use Prim.Native.Nat.{ℕ, zero, suc, ◌+◌, ◌≤◌, ◌<◌}
use native.Mathlib.Omega.{arith}
use borrow.Author.Tests.{eqb-true}
use mathlib.Core.Path.{◌≡◌, refl, sym, ap, ◌∙◌}
use mathlib.Core.Logic.{◌↔◌}
use mathlib.Core.Bool.{Bool, true, false}
use mathlib.Core.List.{List, [], ◌∷◌}
use lib.ListN.{length, get_or, drop, drop_of_length-le}
use lib.Seq.{drop-cons}
use Rattle.std.specs.Prelude.{Option, Some, None, Ok}
use Rattle.octets.specs.Numbers.{Octets, word16, word32, octets16, octets32}
use Rattle.octets.proofs.Back.{word_back, quad_back, high, low, first_of, second_of, third_of, fourth_of}
use Rattle.octets_checksum.specs.Checksum.{sealed, blanked}
use Rattle.octets_checksum.proofs.Laws.{sealed_length, field_sealed, sealed_first, sealed_right, sealed_blanked}
use Rattle.checks.specs.Refusals.{checked}
use Rattle.checks.specs.declared.Refusal.TheVariants.{BadStatus, BadLength}
use Rattle.message.proofs.Laws.{kind_pair}
use Rattle.message.specs.Kinds.{type_of, code_of, kind_at, kind_of, status_of, status_allowed, length_allowed}
use Rattle.message.specs.declared.Kind.{Kind}
use Rattle.message.specs.declared.Kind.TheVariants as K
use Rattle.message.specs.declared.Message.{Message}
use Rattle.message.specs.declared.Message.TheVariants.{Request, Confirm, Refuse, Cease, CeaseAck, Hello, IHeardYou, Poll, Update, Error}
use Rattle.message_reading.specs.Reading.{status_at, asn_at, sequence_at, header_answer, meaning_of, decode_as, decode_of}
use Rattle.nets.specs.Rows.{Row}
use Rattle.message_writing.specs.Writing.{headed}
use Rattle.codec_writing.specs.Octets.{plain_octets, message_octets}
use Rattle.codec_theorem.specs.Widths.{HeadFits, InWidths}
use Rattle.message_reading.proofs.Laws.{header_good, header_passed}

-- the status is one that the reader lets through
abbrev pub Allowed : Message → Type 0
Allowed m = status_allowed (kind_of m) (status_of m) ≡ true

-- 01: octets come back only "where a Poll's reserved octets are 0"
abbrev pub ReservedZero : Message → List ℕ → Type 0
ReservedZero m o = kind_of m ≡ K.Poll → (get_or o 10 0 ≡ 0) × (get_or o 11 0 ≡ 0)

-- ---- what was written passes the header stage

pub sealed_passes : (l : List ℕ) → 10 ≤ length l → length l ≤ 2048 → get_or l 0 0 ≡ 2 → header_answer (sealed l) ≡ 0
sealed_passes l low high v =
    let six : 6 ≤ length l = omega arith in
    header_good (sealed l) (record { low = rw (sealed_length l) low; high = rw (sealed_length l) high; version = sealed_first l six ∙ v; field = field_sealed l six })

pub passes : (m : Message) (rows : List Row) → (kind_of m ≡ K.Update → ⊥) → header_answer (message_octets m rows) ≡ 0
unfolding message_octets plain_octets
passes (Request a q s h p) rows u = sealed_passes _ (omega arith) (omega arith) refl
passes (Confirm a q s h p) rows u = sealed_passes _ (omega arith) (omega arith) refl
passes (Refuse a q s) rows u = sealed_passes _ (omega arith) (omega arith) refl
passes (Cease a q s) rows u = sealed_passes _ (omega arith) (omega arith) refl
passes (CeaseAck a q s) rows u = sealed_passes _ (omega arith) (omega arith) refl
passes (Hello a q s) rows u = sealed_passes _ (omega arith) (omega arith) refl
passes (IHeardYou a q s) rows u = sealed_passes _ (omega arith) (omega arith) refl
passes (Poll a q s n) rows u = sealed_passes _ (omega arith) (omega arith) refl
passes (Update a q s n) rows u = absurd (u refl)
passes (Error a q s r x y z) rows u = sealed_passes _ (omega arith) (omega arith) refl

-- ---- and reads to the same meaning

pub decodes : (m : Message) (rows : List Row) → (kind_of m ≡ K.Update → ⊥) → InWidths m → Allowed m → decode_of (message_octets m rows) ≡ Ok m
unfolding decode_of decode_as meaning_of kind_at message_octets plain_octets sealed
decodes (Request a q s h p) rows u f e = rw (e, word_back a f.0.asn16, word_back q f.0.sequence16, word_back h f.1, word_back p f.2)
decodes (Confirm a q s h p) rows u f e = rw (e, word_back a f.0.asn16, word_back q f.0.sequence16, word_back h f.1, word_back p f.2)
decodes (Refuse a q s) rows u f e = rw (e, word_back a f.asn16, word_back q f.sequence16)
decodes (Cease a q s) rows u f e = rw (e, word_back a f.asn16, word_back q f.sequence16)
decodes (CeaseAck a q s) rows u f e = rw (e, word_back a f.asn16, word_back q f.sequence16)
decodes (Hello a q s) rows u f e = rw (e, word_back a f.asn16, word_back q f.sequence16)
decodes (IHeardYou a q s) rows u f e = rw (e, word_back a f.asn16, word_back q f.sequence16)
decodes (Poll a q s n) rows u f e = rw (e, word_back a f.0.asn16, word_back q f.0.sequence16, quad_back n f.1)
decodes (Update a q s n) rows u f e = absurd (u refl)
decodes (Error a q s r x y z) rows u f e =
    rw (e, word_back a f.0.asn16, word_back q f.0.sequence16, word_back r f.1, quad_back x f.2, quad_back y f.3, quad_back z f.4)

-- ---- what a good reading says of the octets

-- a reading that found this kind
pub record ReadAs (o : List ℕ) (m : Message) (k : Kind) : Type 0 where
  pub is : kind_at (get_or o 1 0) (get_or o 2 0) ≡ Some k
  pub status : status_allowed k (get_or o 3 0) ≡ true
  pub long : length_allowed k (length o) ≡ true
  pub meaning : m ≡ meaning_of k o

pub read_as_lem : (o : List ℕ) (m : Message) → decode_of o ≡ Ok m → (k : Kind) × ReadAs o m k
unfolding decode_of decode_as
read_as_lem o m e = known (kind_at (get_or o 1 0) (get_or o 2 0)) refl e
  where
    known : (n : Option Kind) → kind_at (get_or o 1 0) (get_or o 2 0) ≡ n → decode_as n o ≡ Ok m → (k : Kind) × ReadAs o m k
    known None i e = let z : ◌≡◌ {A = ℕ} 0 1 = cc in absurd (omega arith)
    known (Some k) i e = go (status_allowed k (get_or o 3 0)) refl (length_allowed k (length o)) refl e
      where
        go : (a : Bool) → status_allowed k (get_or o 3 0) ≡ a → (b : Bool) → length_allowed k (length o) ≡ b
            → checked a BadStatus (checked b BadLength (Ok (meaning_of k o))) ≡ Ok m → (k : Kind) × ReadAs o m k
        go true p true q e = (k, record { is = i; status = p; long = q; meaning = cc })
        go true p false q e = let z : ◌≡◌ {A = ℕ} 0 1 = cc in absurd (omega arith)
        go false p b q e = let z : ◌≡◌ {A = ℕ} 0 1 = cc in absurd (omega arith)

-- ---- octets of a known number, written out

-- the elements of a list from index i on, n of them
unfoldable pub spell : ℕ → ℕ → List ℕ → List ℕ
spell zero i l = []
spell (suc n) i l = get_or l i 0 ∷ spell n (suc i) l

spell_drop : (n i : ℕ) (l : List ℕ) → length l ≡ i + n → drop i l ≡ spell n i l
unfolding spell
spell_drop zero i l e = let h : length l ≤ i = omega arith in drop_of_length-le l h
spell_drop (suc n) i l e =
    drop-cons l i 0 (omega arith) ∙ ap (λ (r : List ℕ). get_or l i 0 ∷ r) (spell_drop n (suc i) l (omega arith))

spelled : (n : ℕ) (l : List ℕ) → length l ≡ n → l ≡ spell n 0 l
spelled n l e = spell_drop n 0 l (omega arith)

-- ---- the octets of what was read, but for the checksum's field

module _ (o : List ℕ) (oct : Octets o) (k : Kind) (v : get_or o 0 0 ≡ 2) (t : get_or o 1 0 ≡ type_of k) (c : get_or o 2 0 ≡ code_of k) where
  short : length o ≡ 10 → headed k (asn_at o) (sequence_at o) (status_at o) ([]) ≡ blanked o
  unfolding spell
  short n =
      rw (high (get_or o 6 0) (get_or o 7 0) (oct 6) (oct 7), low (get_or o 6 0) (get_or o 7 0) (oct 6) (oct 7), high (get_or o 8 0) (get_or o 9 0) (oct 8) (oct 9), low (get_or o 8 0) (get_or o 9 0) (oct 8) (oct 9))
      (sym (ap blanked (spelled 10 o n) ∙ rw (v, t, c)))

  intervals : length o ≡ 14 → headed k (asn_at o) (sequence_at o) (status_at o) (octets16 (word16 o 10) (octets16 (word16 o 12) [])) ≡ blanked o
  unfolding spell
  intervals n =
      rw (high (get_or o 6 0) (get_or o 7 0) (oct 6) (oct 7), low (get_or o 6 0) (get_or o 7 0) (oct 6) (oct 7), high (get_or o 8 0) (get_or o 9 0) (oct 8) (oct 9), low (get_or o 8 0) (get_or o 9 0) (oct 8) (oct 9), high (get_or o 10 0) (get_or o 11 0) (oct 10) (oct 11), low (get_or o 10 0) (get_or o 11 0) (oct 10) (oct 11), high (get_or o 12 0) (get_or o 13 0) (oct 12) (oct 13), low (get_or o 12 0) (get_or o 13 0) (oct 12) (oct 13))
      (sym (ap blanked (spelled 14 o n) ∙ rw (v, t, c)))

  netted : length o ≡ 16 → (get_or o 10 0 ≡ 0) × (get_or o 11 0 ≡ 0) → headed k (asn_at o) (sequence_at o) (status_at o) (0 ∷ 0 ∷ octets32 (word32 o 12) []) ≡ blanked o
  unfolding spell
  netted n z =
      rw (high (get_or o 6 0) (get_or o 7 0) (oct 6) (oct 7), low (get_or o 6 0) (get_or o 7 0) (oct 6) (oct 7), high (get_or o 8 0) (get_or o 9 0) (oct 8) (oct 9), low (get_or o 8 0) (get_or o 9 0) (oct 8) (oct 9), first_of (get_or o 12 0) (get_or o 13 0) (get_or o 14 0) (get_or o 15 0) (oct 12) (oct 13) (oct 14) (oct 15), second_of (get_or o 12 0) (get_or o 13 0) (get_or o 14 0) (get_or o 15 0) (oct 12) (oct 13) (oct 14) (oct 15), third_of (get_or o 12 0) (get_or o 13 0) (get_or o 14 0) (get_or o 15 0) (oct 12) (oct 13) (oct 14) (oct 15), fourth_of (get_or o 12 0) (get_or o 13 0) (get_or o 14 0) (get_or o 15 0) (oct 12) (oct 13) (oct 14) (oct 15))
      (sym (ap blanked (spelled 16 o n) ∙ rw (v, t, c, z.0, z.1)))

  errored : length o ≡ 24 → headed k (asn_at o) (sequence_at o) (status_at o) (octets16 (word16 o 10) (octets32 (word32 o 12) (octets32 (word32 o 16) (octets32 (word32 o 20) [])))) ≡ blanked o
  unfolding spell
  errored n =
      rw (high (get_or o 6 0) (get_or o 7 0) (oct 6) (oct 7), low (get_or o 6 0) (get_or o 7 0) (oct 6) (oct 7), high (get_or o 8 0) (get_or o 9 0) (oct 8) (oct 9), low (get_or o 8 0) (get_or o 9 0) (oct 8) (oct 9), high (get_or o 10 0) (get_or o 11 0) (oct 10) (oct 11), low (get_or o 10 0) (get_or o 11 0) (oct 10) (oct 11), first_of (get_or o 12 0) (get_or o 13 0) (get_or o 14 0) (get_or o 15 0) (oct 12) (oct 13) (oct 14) (oct 15), second_of (get_or o 12 0) (get_or o 13 0) (get_or o 14 0) (get_or o 15 0) (oct 12) (oct 13) (oct 14) (oct 15), third_of (get_or o 12 0) (get_or o 13 0) (get_or o 14 0) (get_or o 15 0) (oct 12) (oct 13) (oct 14) (oct 15), fourth_of (get_or o 12 0) (get_or o 13 0) (get_or o 14 0) (get_or o 15 0) (oct 12) (oct 13) (oct 14) (oct 15), first_of (get_or o 16 0) (get_or o 17 0) (get_or o 18 0) (get_or o 19 0) (oct 16) (oct 17) (oct 18) (oct 19), second_of (get_or o 16 0) (get_or o 17 0) (get_or o 18 0) (get_or o 19 0) (oct 16) (oct 17) (oct 18) (oct 19), third_of (get_or o 16 0) (get_or o 17 0) (get_or o 18 0) (get_or o 19 0) (oct 16) (oct 17) (oct 18) (oct 19), fourth_of (get_or o 16 0) (get_or o 17 0) (get_or o 18 0) (get_or o 19 0) (oct 16) (oct 17) (oct 18) (oct 19), first_of (get_or o 20 0) (get_or o 21 0) (get_or o 22 0) (get_or o 23 0) (oct 20) (oct 21) (oct 22) (oct 23), second_of (get_or o 20 0) (get_or o 21 0) (get_or o 22 0) (get_or o 23 0) (oct 20) (oct 21) (oct 22) (oct 23), third_of (get_or o 20 0) (get_or o 21 0) (get_or o 22 0) (get_or o 23 0) (oct 20) (oct 21) (oct 22) (oct 23), fourth_of (get_or o 20 0) (get_or o 21 0) (get_or o 22 0) (get_or o 23 0) (oct 20) (oct 21) (oct 22) (oct 23))
      (sym (ap blanked (spelled 24 o n) ∙ rw (v, t, c)))

-- the octets of what was read as kind k, but for the checksum's field; an Update's blocks are left out
plain_back : (o : List ℕ) → Octets o → (k : Kind) → get_or o 0 0 ≡ 2 → get_or o 1 0 ≡ type_of k → get_or o 2 0 ≡ code_of k
    → length_allowed k (length o) ≡ true → (k ≡ K.Update → ⊥) → (k ≡ K.Poll → (get_or o 10 0 ≡ 0) × (get_or o 11 0 ≡ 0))
    → (rows : List Row) → plain_octets (meaning_of k o) rows ≡ blanked o
unfolding plain_octets meaning_of
plain_back o oct K.Request v t c n u z rows = intervals o oct K.Request v t c (eqb-true (length o) 14 n)
plain_back o oct K.Confirm v t c n u z rows = intervals o oct K.Confirm v t c (eqb-true (length o) 14 n)
plain_back o oct K.Refuse v t c n u z rows = short o oct K.Refuse v t c (eqb-true (length o) 10 n)
plain_back o oct K.Cease v t c n u z rows = short o oct K.Cease v t c (eqb-true (length o) 10 n)
plain_back o oct K.CeaseAck v t c n u z rows = short o oct K.CeaseAck v t c (eqb-true (length o) 10 n)
plain_back o oct K.Hello v t c n u z rows = short o oct K.Hello v t c (eqb-true (length o) 10 n)
plain_back o oct K.IHeardYou v t c n u z rows = short o oct K.IHeardYou v t c (eqb-true (length o) 10 n)
plain_back o oct K.Poll v t c n u z rows = netted o oct K.Poll v t c (eqb-true (length o) 16 n) (z refl)
plain_back o oct K.Update v t c n u z rows = absurd (u refl)
plain_back o oct K.Error v t c n u z rows = errored o oct K.Error v t c (eqb-true (length o) 24 n)

-- reading keeps the kind
pub kind_read : (k : Kind) (o : List ℕ) → kind_of (meaning_of k o) ≡ k
unfolding meaning_of
kind_read K.Request o = refl
kind_read K.Confirm o = refl
kind_read K.Refuse o = refl
kind_read K.Cease o = refl
kind_read K.CeaseAck o = refl
kind_read K.Hello o = refl
kind_read K.IHeardYou o = refl
kind_read K.Poll o = refl
kind_read K.Update o = refl
kind_read K.Error o = refl

status_read : (k : Kind) (o : List ℕ) → status_of (meaning_of k o) ≡ get_or o 3 0
unfolding meaning_of
status_read K.Request o = refl
status_read K.Confirm o = refl
status_read K.Refuse o = refl
status_read K.Cease o = refl
status_read K.CeaseAck o = refl
status_read K.Hello o = refl
status_read K.IHeardYou o = refl
status_read K.Poll o = refl
status_read K.Update o = refl
status_read K.Error o = refl

-- a Poll is written with reserved octets 0
poll_zero : (m : Message) (rows : List Row) (o : List ℕ) → message_octets m rows ≡ o → ReservedZero m o
unfolding message_octets plain_octets sealed
poll_zero (Request a q s h p) rows o e i = let z : ◌≡◌ {A = ℕ} 0 1 = cc in absurd (omega arith)
poll_zero (Confirm a q s h p) rows o e i = let z : ◌≡◌ {A = ℕ} 0 1 = cc in absurd (omega arith)
poll_zero (Refuse a q s) rows o e i = let z : ◌≡◌ {A = ℕ} 0 1 = cc in absurd (omega arith)
poll_zero (Cease a q s) rows o e i = let z : ◌≡◌ {A = ℕ} 0 1 = cc in absurd (omega arith)
poll_zero (CeaseAck a q s) rows o e i = let z : ◌≡◌ {A = ℕ} 0 1 = cc in absurd (omega arith)
poll_zero (Hello a q s) rows o e i = let z : ◌≡◌ {A = ℕ} 0 1 = cc in absurd (omega arith)
poll_zero (IHeardYou a q s) rows o e i = let z : ◌≡◌ {A = ℕ} 0 1 = cc in absurd (omega arith)
poll_zero (Update a q s n) rows o e i = let z : ◌≡◌ {A = ℕ} 0 1 = cc in absurd (omega arith)
poll_zero (Error a q s r x y z) rows o e i = let z : ◌≡◌ {A = ℕ} 0 1 = cc in absurd (omega arith)
poll_zero (Poll a q s n) rows o e i = (ap (λ (l : List ℕ). get_or l 10 0) (sym e), ap (λ (l : List ℕ). get_or l 11 0) (sym e))

-- octets that were read come back where no reserved octet was lost
come_back : (o : List ℕ) (m : Message) → Octets o → header_answer o ≡ 0 → (k : Kind) → ReadAs o m k → (kind_of m ≡ K.Update → ⊥)
    → (rows : List Row) → ReservedZero m o → message_octets m rows ≡ o
unfolding message_octets
come_back o m oct h k r u rows z =
    let g = header_passed o h in
    let six : 6 ≤ length o = omega (arith, g.low) in
    let same_kind : kind_of m ≡ k = ap kind_of r.meaning ∙ kind_read k o in
    let p = kind_pair (get_or o 1 0) (get_or o 2 0) k r.is in
    ap (λ (x : Message). sealed (plain_octets x rows)) r.meaning
    ∙ ap sealed (plain_back o oct k g.version p.0 p.1 r.long (λ e. u (same_kind ∙ e)) (λ e. z (same_kind ∙ e)) rows)
    ∙ sealed_blanked o six
    ∙ sealed_right o six (oct 4) (oct 5) g.field

-- what was read is in its widths
head_fits : (o : List ℕ) → Octets o → HeadFits (asn_at o) (sequence_at o) (status_at o)
head_fits o oct = record { asn16 = omega (arith, oct 6, oct 7); sequence16 = omega (arith, oct 8, oct 9); status8 = oct 3 }

word_fits : (o : List ℕ) → Octets o → (i : ℕ) → word16 o i < 65536
word_fits o oct i = omega (arith, oct i, oct (i + 1))

quad_fits : (o : List ℕ) → Octets o → (i : ℕ) → word32 o i < 4294967296
quad_fits o oct i = omega (arith, oct i, oct (i + 1), oct (i + 2), oct (i + 3))

read_fits : (k : Kind) (o : List ℕ) → Octets o → InWidths (meaning_of k o)
unfolding meaning_of
read_fits K.Request o oct = (head_fits o oct, word_fits o oct 10, word_fits o oct 12)
read_fits K.Confirm o oct = (head_fits o oct, word_fits o oct 10, word_fits o oct 12)
read_fits K.Refuse o oct = head_fits o oct
read_fits K.Cease o oct = head_fits o oct
read_fits K.CeaseAck o oct = head_fits o oct
read_fits K.Hello o oct = head_fits o oct
read_fits K.IHeardYou o oct = head_fits o oct
read_fits K.Poll o oct = (head_fits o oct, quad_fits o oct 12)
read_fits K.Update o oct = (head_fits o oct, quad_fits o oct 12)
read_fits K.Error o oct = (head_fits o oct, word_fits o oct 10, quad_fits o oct 12, quad_fits o oct 16, quad_fits o oct 20)

as_allowed : (o : List ℕ) (m : Message) (k : Kind) → Octets o → ReadAs o m k → InWidths m × Allowed m
as_allowed o m k oct r =
    rw r.meaning (read_fits k o oct, rw (kind_read k o, status_read k o) r.status)

-- whatever was read may be written
pub read_allowed : (o : List ℕ) (m : Message) → Octets o → decode_of o ≡ Ok m → InWidths m × Allowed m
read_allowed o m oct e = as_allowed o m (read_as_lem o m e).0 oct (read_as_lem o m e).1

-- writing what was read gives the octets back, exactly where no reserved octet was lost
pub fixed_back : (o : List ℕ) (m : Message) → Octets o → header_answer o ≡ 0 → decode_of o ≡ Ok m → (kind_of m ≡ K.Update → ⊥)
    → (rows : List Row) → (message_octets m rows ≡ o) ↔ ReservedZero m o
fixed_back o m oct h e u rows = (poll_zero m rows o, λ z. come_back o m oct h (read_as_lem o m e).0 (read_as_lem o m e).1 u rows z)
