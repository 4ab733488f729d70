-- Laws of reading alone. Assumes nothing.
use Prim.Native.Nat.{ℕ, ◌≤◌}
use native.Mathlib.Omega.{arith}
use borrow.Author.Tests.{leb-true}
use mathlib.Core.Path.{◌≡◌, refl, ap, ◌∙◌, sym}
use mathlib.Core.Bool.{Bool, true, false, cond}
use mathlib.Core.List.{List}
use lib.ListN.{length}
use lib.Dec.{leb}
use Rattle.std.specs.Prelude.{Ok, Err, Result}
use Rattle.checks.specs.Refusals.{answer_of}
use Rattle.nets.specs.Rows.{flat}
use Rattle.message.specs.declared.Message.{Message}
use Rattle.message.specs.declared.Message.TheVariants.{Request, Confirm, Refuse, Cease, CeaseAck, Hello, IHeardYou, Poll, Update, Error}
use Rattle.update_walk.specs.Body.{Walk, whole, broken, walked_blocks, read_within, UpdateRead, accepted, broken_at, too_many, update_of, walked_of, refusal_of, update_number}
use Rattle.update_walk.specs.declared.BodyError.{BodyError}
use Rattle.update_walk.specs.declared.BodyError.TheVariants.{Broken, TooMany}
use Rattle.update_rows.specs.Storing.{padded, is_whole, walked_rows, Storable}
use Rattle.codec.specs.Reading.{most_read, refusal, rowless, update_reading, meaning_reading, reading_after, read_of, UpdateNumber, meaning_read}
use Rattle.checks.specs.declared.Refusal.{Refusal}
use Rattle.message_reading.specs.Reading.{header_answer, decode_of}
use Rattle.message_reading.proofs.Laws.{header_ok}
use Rattle.codec.specs.declared.Reading.{Reading}
use Rattle.codec.proofs.Laws.{OtherKind}

-- what the walk counted, and what an accepted Update is
pub record Accepted (net : ℕ) (o : List ℕ) (count : ℕ) : Type 0 where
  pub sound : is_whole (walked_blocks net o) ≡ true
  pub few : count ≤ 128
  pub number : length (walked_rows (walked_blocks net o)) ≡ count
  pub is : update_of most_read net o ≡ accepted (walked_rows (walked_blocks net o))

judged_rows : (w : Walk) (count : ℕ) → walked_of (read_within 128 w) ≡ Ok count
    → (is_whole w ≡ true) × (count ≤ 128) × (length (walked_rows w) ≡ count) × (read_within 128 w ≡ accepted (walked_rows w))
unfolding read_within is_whole walked_rows
judged_rows (whole rs) count e = go (leb (length rs) 128) refl e
  where
    go : (b : Bool) → leb (length rs) 128 ≡ b → walked_of (cond b (accepted rs) too_many) ≡ Ok count
        → (is_whole (whole rs) ≡ true) × (count ≤ 128) × (length (walked_rows (whole rs)) ≡ count) × (cond (leb (length rs) 128) (accepted rs) too_many ≡ accepted (walked_rows (whole rs)))
    go true p e =
        let n : length rs ≡ count = cc in
        (refl, omega (arith, leb-true (length rs) 128 p), n, rw p)
    go false p e = let z : ◌≡◌ {A = ℕ} 0 1 = cc in absurd (omega arith)
judged_rows (broken offset) count e = let z : ◌≡◌ {A = ℕ} 0 1 = cc in absurd (omega arith)

pub rows_accepted : (net : ℕ) (o : List ℕ) (count : ℕ) → walked_of (update_of 128 net o) ≡ Ok count → Accepted net o count
unfolding update_of
rows_accepted net o count e =
    let j = judged_rows (walked_blocks net o) count e in
    record { sound = j.0; few = j.1; number = j.2; is = j.3 }

-- room for the rows in a slot's numbers
pub accepted_room : {net : ℕ} {o : List ℕ} {count : ℕ} → Accepted net o count → (part : List ℕ) → length part ≡ 384 → Storable net o part
accepted_room a part e = record { sound = a.sound; room = omega (arith, a.few, a.number) }

pub update_read : (m : Message) (net : ℕ) (o : List ℕ) (count : ℕ) (part : List ℕ) → Accepted net o count
    → part ≡ padded 384 (flat (walked_rows (walked_blocks net o))) → record { meaning = Ok m; count = count; rows = part } ≡ update_reading m (update_of most_read net o)
unfolding update_reading
update_read m net o count part a e = rw (a.is, e, a.number)

-- where the walk found no rows that may be taken
pub update_refused : (m : Message) (net : ℕ) (o : List ℕ) (error : BodyError) → walked_of (update_of 128 net o) ≡ Err error
    → refusal (refusal_of error) ≡ update_reading m (update_of most_read net o)
unfolding update_reading
update_refused m net o error e = go (update_of 128 net o) error e
  where
    go : (u : UpdateRead) (error : BodyError) → walked_of u ≡ Err error → refusal (refusal_of error) ≡ update_reading m u
    go (accepted rs) error e = absurd (cc)
    go (broken_at n) (Broken m) e = refl
    go (broken_at n) TooMany e = absurd (cc)
    go too_many (Broken m) e = absurd (cc)
    go too_many TooMany e = refl

-- 14 and 15 are the walk's
pub update_numbered : (m : Message) (found : UpdateRead) → answer_of (update_reading m found).meaning ≡ update_number found
unfolding update_reading refusal update_number
update_numbered m (accepted rs) = refl
update_numbered m (broken_at offset) = refl
update_numbered m too_many = refl

-- what is answered where the walk refuses, and where it counts rows
pub refused_numbered : (m : Message) (net : ℕ) (o : List ℕ) (r : Reading) → r ≡ update_reading m (update_of most_read net o)
    → answer_of r.meaning ≡ update_number (update_of most_read net o)
refused_numbered m net o r e = ap (λ (r : Reading). answer_of r.meaning) e ∙ update_numbered m (update_of most_read net o)

pub accepted_numbered : {net : ℕ} {o : List ℕ} {count : ℕ} → Accepted net o count → 0 ≡ update_number (update_of most_read net o)
unfolding update_number
accepted_numbered a = rw a.is refl

pub update_number_laws : UpdateNumber
unfolding read_of reading_after meaning_reading
update_number_laws =
    record {
      update = update_numbered;
      read = λ net o a q s n e. rw e (update_numbered (Update a q s n) (update_of most_read net o));
    }

-- kinds without rows
pub rowless_read : (net : ℕ) (o : List ℕ) (m : Message) → OtherKind m → rowless m ≡ meaning_reading net o m
unfolding meaning_reading
rowless_read net o (Request a q s h p) k = refl
rowless_read net o (Confirm a q s h p) k = refl
rowless_read net o (Refuse a q s) k = refl
rowless_read net o (Cease a q s) k = refl
rowless_read net o (CeaseAck a q s) k = refl
rowless_read net o (Hello a q s) k = refl
rowless_read net o (IHeardYou a q s) k = refl
rowless_read net o (Poll a q s n) k = refl
rowless_read net o (Update a q s n) k = absurd (k a q s n refl)
rowless_read net o (Error a q s r x y z) k = refl

-- a message that passed the header stage and the kind stage reads as what it says
pub read_kind_good : (net : ℕ) (o : List ℕ) (h : ℕ) → h ≡ header_answer o → h ≡ 0 → (d : Result Message Refusal) → d ≡ decode_of o
    → (m : Message) (r : Reading) → d ≡ Ok m → r ≡ meaning_reading net o m → r ≡ read_of net o
unfolding read_of reading_after meaning_read
read_kind_good net o h e z d f m r g q = rw (header_ok o (sym e ∙ z), ← f, g) q
