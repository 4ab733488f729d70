-- Reading alone and writing undo each other. Assumes nothing.
use Prim.Native.Nat.{ℕ, zero, suc, ◌+◌, ◌-◌, ◌/◌, ◌%◌, ◌≤◌, ◌<◌}
use native.Mathlib.Nat.{add-zero, zero-add}
use native.Mathlib.Omega.{arith}
use borrow.Author.Tests.{leb-true, eqb-true, le-ltb, le-leb, lt-ltb, eq-eqb}
use mathlib.Core.Path.{◌≡◌, refl, sym, ap, subst, ◌∙◌}
use mathlib.Core.Logic.{◌↔◌}
use mathlib.Core.Bool.{Bool, true, false, cond, ◌&&◌}
use mathlib.Core.List.{List, [], ◌∷◌, ◌++◌}
use lib.Dec.{ltb, leb, eqb}
use lib.ListN.{length, take, drop, get_or}
use lib.Seq.{drop-cons, take_at}
use Rattle.std.specs.Result.{result_and}
use Rattle.std.specs.Prelude.{Result, Ok, Err}
use Rattle.checks.specs.declared.Refusal.{Refusal}
use Rattle.checks.specs.Checks.{check}
use Rattle.checks.proofs.Laws.{and_left, and_right, and_both, check_passed, check_holds, if_ok_new}
use Rattle.checks.specs.Lists.{every}
use Rattle.octets.specs.Numbers.{Octets, word16, word32}
use Rattle.octets_checksum.specs.Checksum.{checksum_of, sealed, blanked}
use Rattle.octets.specs.Buffer.{over}
use Rattle.octets_checksum.proofs.Laws.{sealed_right, sealed_blanked}
use Rattle.nets.specs.Classes.{good_net}
use Rattle.nets.specs.Rows.{Row, flat, rows_of}
use Rattle.message.specs.Kinds.{type_of, kind_at, kind_of, status_of, status_allowed}
use Rattle.message.specs.declared.Kind.{Kind}
use Rattle.message.specs.declared.Kind.TheVariants as K
use Rattle.message.specs.declared.Message.{Message}
use Rattle.message.specs.declared.Message.TheVariants.{Request, Confirm, Refuse, Cease, CeaseAck, Hello, IHeardYou, Poll, Update, Error}
use Rattle.message.proofs.Laws.{kind_pair}
use Rattle.message_reading.specs.Reading.{status_at, asn_at, sequence_at, header_of, header_answer, meaning_of, decode_as, decode_of}
use Rattle.message_writing.specs.Writing.{head_of}
use Rattle.codec_writing.specs.Octets.{plain_octets, message_octets}
use Rattle.codec_writing.specs.Room.{rows_fit}
use Rattle.codec_writing.proofs.Laws.{writable_rows_lem, rows_few, blocks_few}
use Rattle.message_reading.proofs.Laws.{header_passed, header_ok}
use Rattle.update_walk.specs.Body.{extended, got, both_sides, whole, nothing_left, body_of, further, net_at, UpdateRead, accepted, broken_at, too_many, update_of}
use Rattle.update_walk.specs.Body as Walk
use Rattle.update_walk.proofs.Digits.{octets_drop}
use Rattle.update_walk.proofs.Accepted.{whole_is, accepted_is, accepted_of}
use Rattle.update_rows.specs.Storing.{zeros, padded}
use Rattle.update_rows.proofs.Laws.{flat_length}
use Rattle.update_writing.specs.Blocks.{side_of, side_rows, gateway_runs, distance_runs, blocks_written, internal_blocks, external_blocks}
use Rattle.update_writing.specs.Writable.{writable_rows, writable_numbers}
use Rattle.update_writing.proofs.Claims.{counts}
use Rattle.update_theorem.specs.Canonical.{canonical}
use Rattle.update_theorem.specs.Trip.{octets_only, Read}
use Rattle.update_theorem.proofs.Readings.{every_all, all_every, all_map}
use Rattle.update_theorem.proofs.Trip as Trip
use Rattle.codec.specs.Writing.{rows_allowed, writable, write_answer, write_octets}
use Rattle.codec.specs.Reading.{most_read_numbers, refusal, rowless, update_reading, meaning_reading, meaning_read, reading_after, read_of}
use Rattle.codec.specs.declared.Reading.{Reading}
use Rattle.codec.proofs.Laws.{octets_short, write_checks, length_written}
use Rattle.codec_theorem.specs.Widths.{HeadFits, InWidths}
use Rattle.codec_theorem.specs.Exchange.{handed_back, Common, MeaningsReadBack, Reads, ComesBack, OctetsComeBack, handed_over, CallsUndoEachOther, Bound}
use Rattle.octets.proofs.Back.{word_back, quad_back, high, low, first_of, second_of, third_of, fourth_of}
use Rattle.codec_theorem.proofs.Fixed.{Allowed, ReservedZero, sealed_passes, passes, decodes, ReadAs, read_as_lem, spell, kind_read, read_allowed, fixed_back}

-- ---- rows and their numbers

flat_rows : (l : List ℕ) → length l % 3 ≡ 0 → flat (rows_of l) ≡ l
unfolding flat rows_of
flat_rows [] e = refl
flat_rows (a ∷ []) e = absurd (omega arith)
flat_rows (a ∷ b ∷ []) e = absurd (omega arith)
flat_rows (a ∷ b ∷ c ∷ l) e = ap (λ (k : List ℕ). a ∷ b ∷ c ∷ k) (flat_rows l (omega arith))

rows_flat : (rs : List Row) → rows_of (flat rs) ≡ rs
unfolding flat rows_of
rows_flat [] = refl
rows_flat (r ∷ rs) = ap (λ (k : List Row). r ∷ k) (rows_flat rs)

-- rows as many and with the same numbers are the same
padded_same : (size : ℕ) (xs ys : List Row) → length xs ≡ length ys → padded size (flat xs) ≡ padded size (flat ys) → xs ≡ ys
unfolding padded
padded_same size xs ys n e =
    let k : length (flat xs) ≡ length (flat ys) = omega (arith, flat_length xs, flat_length ys) in
    let f : flat xs ≡ flat ys =
    sym (take_at (flat xs) (zeros (size - length (flat xs))) (length (flat ys)) k)
    ∙ ap (take (length (flat ys))) e
    ∙ take_at (flat ys) (zeros (size - length (flat ys))) (length (flat ys)) refl in
    sym (rows_flat xs) ∙ ap rows_of f ∙ rows_flat ys

none_of : {A : Type 0} (l : List A) → length l ≡ 0 → l ≡ []
none_of [] e = refl
none_of (x ∷ l) e = absurd (omega arith)

whole_numbers : (net : ℕ) (numbers : List ℕ) → writable_numbers net numbers ≡ true → flat (rows_of numbers) ≡ numbers
unfolding writable_numbers
whole_numbers net numbers w =
    flat_rows numbers (eqb-true (length numbers % 3) 0 (and_left (eqb (length numbers % 3) 0) (writable_rows net (rows_of numbers)) w))

flat_whole : (net : ℕ) (rs : List Row) → writable_rows net rs ≡ true → writable_numbers net (flat rs) ≡ true
unfolding writable_numbers
flat_whole net rs w =
    and_both (eqb (length (flat rs) % 3) 0) (writable_rows net (rows_of (flat rs)))
    (eq-eqb (length (flat rs) % 3) 0 (omega (arith, flat_length rs)))
    (ap (writable_rows net) (rows_flat rs) ∙ w)

-- ---- a message whose header and kind pass

passed : (net : ℕ) (o : List ℕ) (m : Message) → header_answer o ≡ 0 → decode_of o ≡ Ok m → read_of net o ≡ meaning_reading net o m
unfolding read_of reading_after meaning_read
passed net o m h d = rw (header_ok o h, d)

rowless_is : (m : Message) → rowless m ≡ handed_back m 0 []
unfolding rowless handed_back padded
rowless_is m = refl

-- ---- a meaning that was written, of a kind without rows

rowless_back : (net : ℕ) (m : Message) (numbers : List ℕ) → 1 < type_of (kind_of m) → InWidths m → Allowed m → eqb (length numbers) 0 ≡ true
    → ((o : List ℕ) → meaning_reading net o m ≡ rowless m) → read_of net (message_octets m (rows_of numbers)) ≡ handed_back m (length (rows_of numbers)) numbers
unfolding rows_of
rowless_back net m numbers t f w z r =
    let u : kind_of m ≡ K.Update → ⊥ = λ e. omega (arith, ap type_of e) in
    let n : numbers ≡ [] = none_of numbers (eqb-true (length numbers) 0 z) in
    passed net (message_octets m (rows_of numbers)) m (passes m (rows_of numbers) u) (decodes m (rows_of numbers) u f w)
    ∙ r (message_octets m (rows_of numbers)) ∙ rowless_is m ∙ ap (λ (l : List ℕ). handed_back m (length (rows_of l)) l) (sym n)

-- ---- an Update that was written

module _ (a q s net : ℕ) (rows : List Row) where
  at_ten : get_or (message_octets (Update a q s net) rows) 10 0 ≡ internal_blocks rows
  unfolding message_octets plain_octets head_of sealed
  at_ten = refl

  at_eleven : get_or (message_octets (Update a q s net) rows) 11 0 ≡ external_blocks rows
  unfolding message_octets plain_octets head_of sealed
  at_eleven = refl

  after_head : drop 16 (message_octets (Update a q s net) rows) ≡ blocks_written net rows
  unfolding message_octets plain_octets head_of sealed
  after_head = refl

  update_long : 16 ≤ length (message_octets (Update a q s net) rows)
  unfolding message_octets plain_octets head_of sealed
  update_long = omega arith

  net_said : net < 4294967296 → net_at (message_octets (Update a q s net) rows) ≡ net
  unfolding message_octets plain_octets head_of sealed net_at extended
  net_said h = rw (zero-add (net / 16777216 % 256)) (quad_back net h)

  update_passes : length (blocks_written net rows) ≤ 1152 → header_answer (message_octets (Update a q s net) rows) ≡ 0
  unfolding message_octets plain_octets head_of
  update_passes h = sealed_passes _ (omega arith) (omega arith) refl

  update_decodes : HeadFits a q s → net < 4294967296 → status_allowed K.Update s ≡ true → decode_of (message_octets (Update a q s net) rows) ≡ Ok (Update a q s net)
  unfolding decode_of decode_as meaning_of kind_at message_octets plain_octets head_of sealed
  update_decodes f n e =
      let l : leb 16 (length (message_octets (Update a q s net) rows)) ≡ true = le-leb 16 (length (message_octets (Update a q s net) rows)) update_long in
      rw (e, l, word_back a f.asn16, word_back q f.sequence16, quad_back net n)

-- the blocks behind a head that says these counts and the common net
blocks_whole : (net internal external : ℕ) (o blocks : List ℕ) (rs : List Row) → 16 ≤ length o → good_net net ≡ true → net_at o ≡ net
    → get_or o 10 0 ≡ internal → get_or o 11 0 ≡ external → drop 16 o ≡ blocks → body_of net internal external blocks ≡ whole rs → Walk.walked_blocks net o ≡ whole rs
unfolding Walk.walked_blocks further
blocks_whole net internal external o blocks rs l g n p q d b =
    rw (le-ltb (length o) 16 l, g, eq-eqb (net_at o) net n, p, q, d, b)

update_back : (a q s net : ℕ) (numbers : List ℕ) → HeadFits a q s → net < 4294967296 → status_allowed K.Update s ≡ true → good_net net ≡ true → writable_numbers net numbers ≡ true
    → read_of net (message_octets (Update a q s net) (rows_of numbers)) ≡ handed_back (Update a q s net) (length (rows_of numbers)) numbers
unfolding meaning_reading update_reading handed_back
update_back a q s net numbers f n e g w =
    let rows = rows_of numbers in
    let o = message_octets (Update a q s net) (rows_of numbers) in
    let b : Walk.walked_blocks net (message_octets (Update a q s net) (rows_of numbers)) ≡ whole (rows_of numbers) =
    blocks_whole net (internal_blocks rows) (external_blocks rows) o (blocks_written net rows) rows (update_long a q s net rows) g (net_said a q s net rows n)
    (at_ten a q s net rows) (at_eleven a q s net rows) (after_head a q s net rows) ((Trip.writes_read_back).rows net g rows (writable_rows_lem net numbers w)) in
    let u : update_of 128 net (message_octets (Update a q s net) (rows_of numbers)) ≡ accepted (rows_of numbers) =
    accepted_of 128 net o rows (record { is = b; fits = rows_few net numbers w }) in
    passed net o (Update a q s net) (update_passes a q s net rows (blocks_few net numbers g w)) (update_decodes a q s net rows f n e)
    ∙ rw (u, whole_numbers net numbers w)

same : (net : ℕ) (m : Message) (numbers : List ℕ) → InWidths m → Allowed m → rows_allowed m numbers ≡ true → Common net m
    → read_of net (message_octets m (rows_of numbers)) ≡ handed_back m (length (rows_of numbers)) numbers
unfolding rows_allowed rows_fit meaning_reading
same net (Request a q s h p) numbers f w z c = rowless_back net (Request a q s h p) numbers (omega arith) f w z (λ o. refl)
same net (Confirm a q s h p) numbers f w z c = rowless_back net (Confirm a q s h p) numbers (omega arith) f w z (λ o. refl)
same net (Refuse a q s) numbers f w z c = rowless_back net (Refuse a q s) numbers (omega arith) f w z (λ o. refl)
same net (Cease a q s) numbers f w z c = rowless_back net (Cease a q s) numbers (omega arith) f w z (λ o. refl)
same net (CeaseAck a q s) numbers f w z c = rowless_back net (CeaseAck a q s) numbers (omega arith) f w z (λ o. refl)
same net (Hello a q s) numbers f w z c = rowless_back net (Hello a q s) numbers (omega arith) f w z (λ o. refl)
same net (IHeardYou a q s) numbers f w z c = rowless_back net (IHeardYou a q s) numbers (omega arith) f w z (λ o. refl)
same net (Poll a q s n) numbers f w z c = rowless_back net (Poll a q s n) numbers (omega arith) f w z (λ o. refl)
same net (Update a q s own) numbers f w z c =
    rw c
    (update_back a q s own numbers f.0 f.1 w (and_left (good_net own) (writable_numbers own numbers) z) (and_right (good_net own) (writable_numbers own numbers) z))
same net (Error a q s r x y w) numbers f w' z c = rowless_back net (Error a q s r x y w) numbers (omega arith) f w' z (λ o. refl)

pub meanings_read_back : MeaningsReadBack
unfolding writable
meanings_read_back = record {
  same = λ net m numbers f w c.
      same net m numbers f
      (and_left (status_allowed (kind_of m) (status_of m)) (rows_allowed m numbers) w)
      (and_right (status_allowed (kind_of m) (status_of m)) (rows_allowed m numbers) w) c;
}

-- ---- what a good reading says

refused_good : {A : Type 0} (refused : Refusal) (m : Message) → (refusal refused).meaning ≡ Ok m → A
unfolding refusal
refused_good refused m e = let z : ◌≡◌ {A = ℕ} 0 1 = cc in absurd (omega arith)

rowless_good : (n m : Message) → (rowless n).meaning ≡ Ok m → n ≡ m
unfolding rowless
rowless_good n m e = cc

update_good : (n m : Message) (u : UpdateRead) → (update_reading n u).meaning ≡ Ok m → n ≡ m
unfolding update_reading
update_good n m (accepted rs) e = cc
update_good n m (broken_at offset) e = refused_good _ m e
update_good n m too_many e = refused_good _ m e

meaning_good : (net : ℕ) (o : List ℕ) (n m : Message) → (meaning_reading net o n).meaning ≡ Ok m → n ≡ m
unfolding meaning_reading
meaning_good net o (Request a q s h p) m e = rowless_good _ m e
meaning_good net o (Confirm a q s h p) m e = rowless_good _ m e
meaning_good net o (Refuse a q s) m e = rowless_good _ m e
meaning_good net o (Cease a q s) m e = rowless_good _ m e
meaning_good net o (CeaseAck a q s) m e = rowless_good _ m e
meaning_good net o (Hello a q s) m e = rowless_good _ m e
meaning_good net o (IHeardYou a q s) m e = rowless_good _ m e
meaning_good net o (Poll a q s n) m e = rowless_good _ m e
meaning_good net o (Update a q s n) m e = update_good _ m (update_of 128 net o) e
meaning_good net o (Error a q s r x y z) m e = rowless_good _ m e

-- the header and the kind passed
record Found (net : ℕ) (o : List ℕ) (m : Message) : Type 0 where
  header : header_answer o ≡ 0
  kind : decode_of o ≡ Ok m
  is : read_of net o ≡ meaning_reading net o m

found : (net : ℕ) (o : List ℕ) (m : Message) → (read_of net o).meaning ≡ Ok m → Found net o m
unfolding read_of reading_after meaning_read header_answer
found net o m e = header (header_of o) refl (decode_of o) refl e
  where
    header : (h : Result (Unit {0}) Refusal) → header_of o ≡ h → (d : Result Message Refusal) → decode_of o ≡ d
        → (reading_after net o (result_and h d)).meaning ≡ Ok m → Found net o m
    header (Ok tt) f (Ok n) i e =
        let k : decode_of o ≡ Ok m = i ∙ ap Ok (meaning_good net o n m e) in
        let h : header_answer o ≡ 0 = rw f in
        record { header = h; kind = k; is = passed net o m h k }
    header (Ok tt) f (Err refused) i e = refused_good refused m e
    header (Err refused) f d i e = refused_good refused m e

-- it is one of a message with rows
rowless_rows : (net : ℕ) (o : List ℕ) (m : Message) → (read_of net o).meaning ≡ Ok m → meaning_reading net o m ≡ rowless m → (rs : List Row) × Reads net o m rs
unfolding flat
rowless_rows net o m e r = ([], (found net o m e).is ∙ r ∙ rowless_is m)

update_rows : (net : ℕ) (o : List ℕ) (m : Message) (u : UpdateRead) → read_of net o ≡ update_reading m u → (update_reading m u).meaning ≡ Ok m → (rs : List Row) × Reads net o m rs
unfolding update_reading handed_back
update_rows net o m (accepted rs) r e = (rs, r)
update_rows net o m (broken_at offset) r e = refused_good _ m e
update_rows net o m too_many r e = refused_good _ m e

rows : (net : ℕ) (o : List ℕ) (m : Message) → (read_of net o).meaning ≡ Ok m → (rs : List Row) × Reads net o m rs
unfolding meaning_reading
rows net o (Request a q s h p) e = rowless_rows net o (Request a q s h p) e refl
rows net o (Confirm a q s h p) e = rowless_rows net o (Confirm a q s h p) e refl
rows net o (Refuse a q s) e = rowless_rows net o (Refuse a q s) e refl
rows net o (Cease a q s) e = rowless_rows net o (Cease a q s) e refl
rows net o (CeaseAck a q s) e = rowless_rows net o (CeaseAck a q s) e refl
rows net o (Hello a q s) e = rowless_rows net o (Hello a q s) e refl
rows net o (IHeardYou a q s) e = rowless_rows net o (IHeardYou a q s) e refl
rows net o (Poll a q s n) e = rowless_rows net o (Poll a q s n) e refl
rows net o (Update a q s n) e =
    let f = found net o (Update a q s n) e in
    update_rows net o (Update a q s n) (update_of 128 net o) f.is (ap (λ (r : Reading). r.meaning) (sym f.is) ∙ e)
rows net o (Error a q s r x y z) e = rowless_rows net o (Error a q s r x y z) e refl

reads_good : (net : ℕ) (o : List ℕ) (m : Message) (rs : List Row) → Reads net o m rs → Found net o m
unfolding handed_back
reads_good net o m rs r = found net o m (ap (λ (x : Reading). x.meaning) r)

-- ---- octets that were read, of a kind without rows

-- Poll and Update have the two lowest types
others : (k : Kind) → 2 < type_of k → (k ≡ K.Update → ⊥) × (k ≡ K.Poll → ⊥)
others k h = (λ e. omega (arith, ap type_of e), λ e. omega (arith, ap type_of e))

rowless_none : (m : Message) (rs : List Row) → rowless m ≡ handed_back m (length rs) (flat rs) → rs ≡ []
unfolding rowless handed_back
rowless_none m rs e = none_of rs (sym (ap (λ (r : Reading). r.count) e))

module _ (net : ℕ) (o : List ℕ) (m : Message) (rs : List Row) (oct : Octets o) (r : Reads net o m rs) where
  reserved_back : (kind_of m ≡ K.Update → ⊥) → (message_octets m rs ≡ o) ↔ ReservedZero m o
  reserved_back u = let f = reads_good net o m rs r in fixed_back o m oct f.header f.kind u rs

  other_back : 2 < type_of (kind_of m) → (message_octets m rs ≡ o) ↔ Unit {0}
  other_back h = let k = others (kind_of m) h in (λ e. tt, λ z. (reserved_back k.0).1 (λ i. absurd (k.1 i)))

  good_allowed : InWidths m × Allowed m
  good_allowed = read_allowed o m oct (reads_good net o m rs r).kind

  other_writes : meaning_reading net o m ≡ rowless m → rows_allowed m [] ≡ true → Common net m → InWidths m × Common net m × (writable m (flat rs) ≡ true)
  unfolding writable flat
  other_writes n w c =
      let z : rs ≡ [] = rowless_none m rs (sym ((reads_good net o m rs r).is ∙ n) ∙ r) in
      (good_allowed.0, c, rw z (and_both (status_allowed (kind_of m) (status_of m)) (rows_allowed m []) good_allowed.1 w))

-- ---- an Update that was read

accepted_rows : (m : Message) (u : UpdateRead) (rs : List Row) → update_reading m u ≡ handed_back m (length rs) (flat rs) → u ≡ accepted rs
unfolding update_reading handed_back
accepted_rows m (accepted xs) rs e =
    ap accepted (padded_same most_read_numbers xs rs (ap (λ (r : Reading). r.count) e) (ap (λ (r : Reading). r.rows) e))
accepted_rows m (broken_at offset) rs e = refused_good _ m (ap (λ (r : Reading). r.meaning) e)
accepted_rows m too_many rs e = refused_good _ m (ap (λ (r : Reading). r.meaning) e)

octets_only_lem : (l : List ℕ) → Octets l → octets_only l ≡ true
unfolding octets_only every
octets_only_lem [] oct = refl
octets_only_lem (x ∷ l) oct =
    and_both (ltb x 256) (every (λ octet. ltb octet 256) l) (lt-ltb x 256 (oct 0)) (octets_only_lem l (λ i. oct (suc i)))

-- a list of i + n or more from index i on
spell_front : (n i : ℕ) (l : List ℕ) → i + n ≤ length l → drop i l ≡ spell n i l ++ drop (i + n) l
unfolding spell
spell_front zero i l h = ap (λ (k : ℕ). drop k l) (sym (add-zero i))
spell_front (suc n) i l h =
    let e : suc i + n ≡ i + suc n = omega arith in
    drop-cons l i 0 (omega arith)
    ∙ ap (λ (r : List ℕ). get_or l i 0 ∷ r) (spell_front n (suc i) l (omega arith))
    ∙ ap (λ (k : ℕ). get_or l i 0 ∷ (spell n (suc i) l ++ drop k l)) e

net_at_lem : (o : List ℕ) → 16 ≤ length o → net_at o ≡ word32 o 12
unfolding net_at extended spell
net_at_lem o h =
    ap (λ (l : List ℕ). extended 0 (take 4 (drop 12 l))) (spell_front 16 0 o h)
    ∙ rw (zero-add (get_or o 12 0))

-- an Update's octets, but for the checksum's field
head_back : (o : List ℕ) → Octets o → 16 ≤ length o → get_or o 0 0 ≡ 2 → get_or o 1 0 ≡ 1 → get_or o 2 0 ≡ 0
    → head_of (get_or o 10 0) (get_or o 11 0) (asn_at o) (sequence_at o) (status_at o) (word32 o 12) ++ drop 16 o ≡ blanked o
unfolding spell head_of
head_back o oct n v t c =
    rw (
      high (get_or o 6 0) (get_or o 7 0) (oct 6) (oct 7),
      low (get_or o 6 0) (get_or o 7 0) (oct 6) (oct 7),
      high (get_or o 8 0) (get_or o 9 0) (oct 8) (oct 9),
      low (get_or o 8 0) (get_or o 9 0) (oct 8) (oct 9),
      first_of (get_or o 12 0) (get_or o 13 0) (get_or o 14 0) (get_or o 15 0) (oct 12) (oct 13) (oct 14) (oct 15),
      second_of (get_or o 12 0) (get_or o 13 0) (get_or o 14 0) (get_or o 15 0) (oct 12) (oct 13) (oct 14) (oct 15),
      third_of (get_or o 12 0) (get_or o 13 0) (get_or o 14 0) (get_or o 15 0) (oct 12) (oct 13) (oct 14) (oct 15),
      fourth_of (get_or o 12 0) (get_or o 13 0) (get_or o 14 0) (get_or o 15 0) (oct 12) (oct 13) (oct 14) (oct 15),
    )
    (sym (ap blanked (spell_front 16 0 o n) ∙ rw (v, t, c)))

-- all that is known of an Update that was read
record UpdateFound (net : ℕ) (o : List ℕ) (a q s own : ℕ) (rs : List Row) : Type 0 where
  long : 16 ≤ length o
  version : get_or o 0 0 ≡ 2
  number : get_or o 1 0 ≡ 1
  code : get_or o 2 0 ≡ 0
  field : word16 o 4 ≡ checksum_of o
  asn : a ≡ asn_at o
  sequence : q ≡ sequence_at o
  status : s ≡ status_at o
  said : own ≡ word32 o 12
  common : own ≡ net
  few : length rs ≤ 128
  read : Read net (get_or o 10 0) (get_or o 11 0) (drop 16 o) rs

body_whole : (net internal external : ℕ) (t : List ℕ) (rs : List Row) → both_sides net internal external t ≡ got rs [] → body_of net internal external t ≡ whole rs
unfolding body_of nothing_left
body_whole net internal external t rs e = rw e

update_as : (o : List ℕ) (a q s own : ℕ) (k : Kind) → ReadAs o (Update a q s own) k → ReadAs o (Update a q s own) K.Update
update_as o a q s own k r =
    let e : K.Update ≡ k = ap kind_of r.meaning ∙ kind_read k o in
    subst (λ (j : Kind). ReadAs o (Update a q s own) j) (sym e) r

update_found : (net : ℕ) (o : List ℕ) (a q s own : ℕ) (rs : List Row) → Octets o → Reads net o (Update a q s own) rs → UpdateFound net o a q s own rs
unfolding meaning_reading meaning_of
update_found net o a q s own rs oct r =
    let m = Update a q s own in
    let f = reads_good net o (Update a q s own) rs r in
    let g = header_passed o f.header in
    let k = read_as_lem o (Update a q s own) f.kind in
    let x = update_as o a q s own k.0 k.1 in
    let p = kind_pair (get_or o 1 0) (get_or o 2 0) K.Update x.is in
    let u = accepted_rows (Update a q s own) (update_of 128 net o) rs (sym f.is ∙ r) in
    let b = accepted_is 128 net o rs u in
    let w = whole_is net o rs b.is in
    let y : Update a q s own ≡ Update (asn_at o) (sequence_at o) (status_at o) (word32 o 12) = x.meaning in
    let z : own ≡ word32 o 12 = cc in
    record {
      long = w.long;
      version = g.version;
      number = p.0;
      code = p.1;
      field = g.field;
      asn = cc;
      sequence = cc;
      status = cc;
      said = z;
      common = z ∙ sym (net_at_lem o w.long) ∙ w.said;
      few = b.fits;
      read = record {
        good = w.good;
        plain = octets_only_lem (drop 16 o) (octets_drop o 16 oct);
        is = body_whole net (get_or o 10 0) (get_or o 11 0) (drop 16 o) rs w.is;
      };
    }

module _ (net : ℕ) (o : List ℕ) (a q s own : ℕ) (rs : List Row) (oct : Octets o) (f : UpdateFound net o a q s own rs) where
  update_comes : canonical net (get_or o 10 0) (get_or o 11 0) (drop 16 o) ≡ true → message_octets (Update a q s own) rs ≡ o
  unfolding message_octets plain_octets
  update_comes full =
      let w = (Trip.reads_write_back).grouped net (get_or o 10 0) (get_or o 11 0) (drop 16 o) rs f.read full in
      let six : 6 ≤ length o = omega (arith, f.long) in
      let b : blocks_written own rs ≡ drop 16 o = ap (λ (n : ℕ). blocks_written n rs) f.common ∙ w.blocks in
      let h : head_of (internal_blocks rs) (external_blocks rs) a q s own ≡ head_of (get_or o 10 0) (get_or o 11 0) (asn_at o) (sequence_at o) (status_at o) (word32 o 12) =
      rw (w.inside, w.outside, f.asn, f.sequence, f.status, f.said) in
      ap sealed (rw (h, b) (head_back o oct f.long f.version f.number f.code))
      ∙ sealed_blanked o six
      ∙ sealed_right o six (oct 4) (oct 5) f.field

  update_only : message_octets (Update a q s own) rs ≡ o → canonical net (get_or o 10 0) (get_or o 11 0) (drop 16 o) ≡ true
  update_only e =
      (Trip.reads_write_back).only net (get_or o 10 0) (get_or o 11 0) (drop 16 o) rs f.read
      (record {
        blocks = ap (λ (n : ℕ). blocks_written n rs) (sym f.common) ∙ sym (after_head a q s own rs) ∙ ap (drop 16) e;
        inside = sym (at_ten a q s own rs) ∙ ap (λ (l : List ℕ). get_or l 10 0) e;
        outside = sym (at_eleven a q s own rs) ∙ ap (λ (l : List ℕ). get_or l 11 0) e;
      })

  update_writable : (good_net own && writable_numbers own (flat rs)) ≡ true
  update_writable =
      rw f.common
      (and_both (good_net net) (writable_numbers net (flat rs)) f.read.good
      (flat_whole net rs ((Trip.reads_write_back).writable net (get_or o 10 0) (get_or o 11 0) (drop 16 o) rs f.read f.few)))

-- ---- octets that were read, of any kind

writes : (net : ℕ) (o : List ℕ) (m : Message) (rs : List Row) → Octets o → Reads net o m rs → InWidths m × Common net m × (writable m (flat rs) ≡ true)
unfolding meaning_reading rows_allowed rows_fit writable
writes net o (Request a q s h p) rs oct r = other_writes net o (Request a q s h p) rs oct r refl refl tt
writes net o (Confirm a q s h p) rs oct r = other_writes net o (Confirm a q s h p) rs oct r refl refl tt
writes net o (Refuse a q s) rs oct r = other_writes net o (Refuse a q s) rs oct r refl refl tt
writes net o (Cease a q s) rs oct r = other_writes net o (Cease a q s) rs oct r refl refl tt
writes net o (CeaseAck a q s) rs oct r = other_writes net o (CeaseAck a q s) rs oct r refl refl tt
writes net o (Hello a q s) rs oct r = other_writes net o (Hello a q s) rs oct r refl refl tt
writes net o (IHeardYou a q s) rs oct r = other_writes net o (IHeardYou a q s) rs oct r refl refl tt
writes net o (Poll a q s n) rs oct r = other_writes net o (Poll a q s n) rs oct r refl refl tt
writes net o (Update a q s own) rs oct r =
    let f = update_found net o a q s own rs oct r in
    let k = good_allowed net o (Update a q s own) rs oct r in
    (k.0, sym f.common, and_both (status_allowed K.Update s) (good_net own && writable_numbers own (flat rs)) k.1 (update_writable net o a q s own rs oct f))
writes net o (Error a q s n x y z) rs oct r = other_writes net o (Error a q s n x y z) rs oct r refl refl tt

back : (net : ℕ) (o : List ℕ) (m : Message) (rs : List Row) → Octets o → Reads net o m rs → (message_octets m rs ≡ o) ↔ ComesBack net o m
back net o (Request a q s h p) rs oct r = other_back net o (Request a q s h p) rs oct r (omega arith)
back net o (Confirm a q s h p) rs oct r = other_back net o (Confirm a q s h p) rs oct r (omega arith)
back net o (Refuse a q s) rs oct r = other_back net o (Refuse a q s) rs oct r (omega arith)
back net o (Cease a q s) rs oct r = other_back net o (Cease a q s) rs oct r (omega arith)
back net o (CeaseAck a q s) rs oct r = other_back net o (CeaseAck a q s) rs oct r (omega arith)
back net o (Hello a q s) rs oct r = other_back net o (Hello a q s) rs oct r (omega arith)
back net o (IHeardYou a q s) rs oct r = other_back net o (IHeardYou a q s) rs oct r (omega arith)
back net o (Poll a q s n) rs oct r =
    let u : K.Poll ≡ K.Update → ⊥ = λ e. omega (arith, ap type_of e) in
    let b = reserved_back net o (Poll a q s n) rs oct r u in
    (λ e. b.0 e refl, λ z. b.1 (λ i. z))
back net o (Update a q s own) rs oct r =
    let f = update_found net o a q s own rs oct r in
    (update_only net o a q s own rs oct f, update_comes net o a q s own rs oct f)
back net o (Error a q s n x y z) rs oct r = other_back net o (Error a q s n x y z) rs oct r (omega arith)

pub octets_come_back : OctetsComeBack
octets_come_back = record { rows = rows; writes = writes; back = back }

-- ---- through the public calls

-- 0 is answered where the buffer is long enough and the meaning may be written, and only there
module _ (m : Message) (numbers buffer : List ℕ) where
  answered_0 : write_answer m numbers buffer ≡ 0 → writable m numbers ≡ true
  answered_0 e =
      (check_passed (writable m numbers) 16 0 refl
      (check_passed (leb 2048 (length buffer)) 3 (check (writable m numbers) 16 0) refl (sym (write_checks m numbers buffer) ∙ e)).1).0

  answers_0 : 2048 ≤ length buffer → writable m numbers ≡ true → write_answer m numbers buffer ≡ 0
  answers_0 h w =
      write_checks m numbers buffer
      ∙ check_holds (leb 2048 (length buffer)) 3 (check (writable m numbers) 16 0) (le-leb 2048 (length buffer) h)
      ∙ check_holds (writable m numbers) 16 0 w

  handed_over_lem : write_answer m numbers buffer ≡ 0 → handed_over m numbers buffer ≡ message_octets m (rows_of numbers)
  unfolding over write_octets
  handed_over_lem e =
      rw (length_written m numbers buffer, if_ok_new (write_answer m numbers buffer) (message_octets m (rows_of numbers)) [] e)
      (take_at (message_octets m (rows_of numbers)) (drop (length (message_octets m (rows_of numbers))) buffer) (length (message_octets m (rows_of numbers))) refl)

calls_written : (net : ℕ) (m : Message) (numbers buffer : List ℕ) → InWidths m → Common net m → write_answer m numbers buffer ≡ 0
    → read_of net (handed_over m numbers buffer) ≡ handed_back m (length (rows_of numbers)) numbers
calls_written net m numbers buffer f c e =
    ap (read_of net) (handed_over_lem m numbers buffer e) ∙ meanings_read_back.same net m numbers f (answered_0 m numbers buffer e) c

calls_taken : (net : ℕ) (o : List ℕ) (m : Message) (rs : List Row) (buffer : List ℕ) → Octets o → Reads net o m rs
    → 2048 ≤ length buffer → write_answer m (flat rs) buffer ≡ 0
calls_taken net o m rs buffer oct r h = answers_0 m (flat rs) buffer h (writes net o m rs oct r).2

calls_read : (net : ℕ) (o : List ℕ) (m : Message) (rs : List Row) (buffer : List ℕ) → Octets o → Reads net o m rs
    → 2048 ≤ length buffer → (handed_over m (flat rs) buffer ≡ o) ↔ ComesBack net o m
calls_read net o m rs buffer oct r h =
    let e : handed_over m (flat rs) buffer ≡ message_octets m rs =
    handed_over_lem m (flat rs) buffer (answers_0 m (flat rs) buffer h (writes net o m rs oct r).2) ∙ ap (message_octets m) (rows_flat rs) in
    let b = back net o m rs oct r in
    (λ k. b.0 (sym e ∙ k), λ k. e ∙ b.1 k)

pub calls_undo_each_other : CallsUndoEachOther
calls_undo_each_other = record { written = calls_written; taken = calls_taken; read = calls_read }

-- ---- how much an Update that may be written takes

every_map : {A : Type 0} (p q : A → Bool) → ((x : A) → p x ≡ true → q x ≡ true) → (xs : List A) → every p xs ≡ true → every q xs ≡ true
every_map p q f xs e = all_every q xs (all_map f xs (every_all p xs e))

side_few : (side : ℕ) (rows : List Row) → length (side_rows side rows) ≤ length rows
unfolding side_rows
side_few side [] = omega arith
side_few side (row ∷ rest) = go (eqb (side_of row) side) (side_few side rest)
  where
    go : (b : Bool) → length (side_rows side rest) ≤ length rest → length (cond b (row ∷ side_rows side rest) (side_rows side rest)) ≤ suc (length rest)
    go true h = omega arith
    go false h = omega arith

module _ (rows : List Row) (few : length rows ≤ 128) (side : ℕ) where
  -- the rows of a block
  blocks_most : every (λ block. leb (length block) 128) (gateway_runs (side_rows side rows)) ≡ true
  blocks_most =
      every_map (λ block. leb (length block) (length (side_rows side rows))) (λ block. leb (length block) 128)
      (λ block h. le-leb (length block) 128 (omega (arith, leb-true (length block) (length (side_rows side rows)) h, side_few side rows)))
      (gateway_runs (side_rows side rows)) (counts.size (λ row. row.gateway) (side_rows side rows))

  distances_most : every (λ block. leb (length (distance_runs block)) 128) (gateway_runs (side_rows side rows)) ≡ true
  distances_most =
      every_map (λ block. leb (length block) 128) (λ block. leb (length (distance_runs block)) 128)
      (λ block h. le-leb (length (distance_runs block)) 128 (omega (arith, leb-true (length block) 128 h, counts.number (λ row. row.third) block)))
      (gateway_runs (side_rows side rows)) blocks_most

  nets_most : every (λ block. every (λ group. leb (length group) 128) (distance_runs block)) (gateway_runs (side_rows side rows)) ≡ true
  nets_most =
      every_map (λ block. leb (length block) 128) (λ block. every (λ group. leb (length group) 128) (distance_runs block))
      (λ block h.
      every_map (λ group. leb (length group) (length block)) (λ group. leb (length group) 128)
      (λ group k. le-leb (length group) 128 (omega (arith, leb-true (length group) (length block) k, leb-true (length block) 128 h)))
      (distance_runs block) (counts.size (λ row. row.third) block))
      (gateway_runs (side_rows side rows)) blocks_most

allowed_rows : (m : Message) (numbers : List ℕ) → writable m numbers ≡ true → rows_allowed m numbers ≡ true
unfolding writable
allowed_rows m numbers w = and_right (status_allowed (kind_of m) (status_of m)) (rows_allowed m numbers) w

update_numbers : (a q s net : ℕ) (numbers : List ℕ) → writable (Update a q s net) numbers ≡ true → writable_numbers net numbers ≡ true
unfolding rows_allowed rows_fit
update_numbers a q s net numbers w = and_right (good_net net) (writable_numbers net numbers) (allowed_rows (Update a q s net) numbers w)

pub bound : Bound
bound = record {
  long = λ m numbers w. octets_short m numbers (allowed_rows m numbers w);
  internal = λ a q s net numbers w. counts.internal net (rows_of numbers) (writable_rows_lem net numbers (update_numbers a q s net numbers w));
  external = λ a q s net numbers w. counts.external net (rows_of numbers) (writable_rows_lem net numbers (update_numbers a q s net numbers w));
  distances = λ a q s net numbers w side. distances_most (rows_of numbers) (rows_few net numbers (update_numbers a q s net numbers w)) side;
  nets = λ a q s net numbers w side. nets_most (rows_of numbers) (rows_few net numbers (update_numbers a q s net numbers w)) side;
}
