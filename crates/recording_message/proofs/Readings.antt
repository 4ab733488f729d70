-- A reading has at most 128 rows, and numbers enough for them. Assumes nothing.
use Prim.Native.Nat.{ℕ, ◌≤◌}
use native.Mathlib.Omega.{arith}
use mathlib.Core.Path.{◌≡◌}
use mathlib.Core.List.{List}
use lib.Dec.{leb}
use lib.ListN.{length}
use borrow.Author.Tests.{leb-true}
use Rattle.std.specs.Prelude.{Result, Ok, Err}
use Rattle.checks.specs.declared.Refusal.{Refusal}
use Rattle.checks.proofs.Laws.{cond_elim}
use Rattle.message.specs.declared.Message.{Message}
use Rattle.message.specs.declared.Message.TheVariants.{Request, Confirm, Refuse, Cease, CeaseAck, Hello, IHeardYou, Poll, Update, Error}
use Rattle.update_walk.specs.Body.{Walk, whole, broken, walked_blocks, read_within, accepted, too_many, update_of}
use Rattle.codec.specs.Reading.{refusal, rowless, update_reading, meaning_reading, meaning_read, reading_after, read_of}
use Rattle.codec.specs.declared.Reading.{Reading}

abbrev Few : Reading → Type 0
Few r = r.count ≤ 128

refused_few : (refused : Refusal) → Few (refusal refused)
unfolding refusal
refused_few refused = omega arith

rowless_few : (m : Message) → Few (rowless m)
unfolding rowless
rowless_few m = omega arith

update_few : (m : Message) (w : Walk) → Few (update_reading m (read_within 128 w))
unfolding read_within update_reading refusal
update_few m (whole rs) =
    cond_elim (λ u. Few (update_reading m u)) (leb (length rs) 128) (accepted rs) too_many (λ e. leb-true (length rs) 128 e) (λ e. omega arith)
update_few m (broken offset) = omega arith

meaning_few : (net : ℕ) (o : List ℕ) (m : Message) → Few (meaning_reading net o m)
unfolding meaning_reading update_of
meaning_few net o (Request a q s h p) = rowless_few (Request a q s h p)
meaning_few net o (Confirm a q s h p) = rowless_few (Confirm a q s h p)
meaning_few net o (Refuse a q s) = rowless_few (Refuse a q s)
meaning_few net o (Cease a q s) = rowless_few (Cease a q s)
meaning_few net o (CeaseAck a q s) = rowless_few (CeaseAck a q s)
meaning_few net o (Hello a q s) = rowless_few (Hello a q s)
meaning_few net o (IHeardYou a q s) = rowless_few (IHeardYou a q s)
meaning_few net o (Poll a q s n) = rowless_few (Poll a q s n)
meaning_few net o (Update a q s n) = update_few (Update a q s n) (walked_blocks net o)
meaning_few net o (Error a q s r x y z) = rowless_few (Error a q s r x y z)

after_few : (net : ℕ) (o : List ℕ) (d : Result Message Refusal) → Few (reading_after net o d)
unfolding reading_after
after_few net o (Ok m) = meaning_few net o m
after_few net o (Err refused) = refused_few refused

pub count_few : (net : ℕ) (o : List ℕ) {r : Reading} → r ≡ read_of net o → r.count ≤ 128
unfolding read_of
count_few net o e = rw e (after_few net o (meaning_read o))
