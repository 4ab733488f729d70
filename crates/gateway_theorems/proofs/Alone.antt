-- Reading alone and writing, where they refuse. Assumes nothing.
use Prim.Native.Nat.{ℕ}
use mathlib.Core.Path.{◌≡◌, ap, ◌∙◌}
use mathlib.Core.List.{List, []}
use lib.ListN.{length, drop}
use lib.Seq.{drop-append_seam}
use Rattle.std.specs.Prelude.{Result, Ok, Err}
use Rattle.checks.specs.declared.Refusal.{Refusal}
use Rattle.checks.specs.declared.Refusal.TheVariants.{BrokenBlocks, TooManyRows}
use Rattle.checks.proofs.Laws.{if_ok_old}
use Rattle.octets.specs.Buffer.{over}
use Rattle.message.specs.declared.Message.{Message}
use Rattle.message.specs.declared.Message.TheVariants.{Request, Confirm, Refuse, Cease, CeaseAck, Hello, IHeardYou, Poll, Update, Error}
use Rattle.update_walk.specs.Body.{UpdateRead, accepted, broken_at, too_many, update_of}
use Rattle.codec.specs.declared.Reading.{Reading}
use Rattle.codec.specs.Reading.{most_read, refusal, rowless, update_reading, meaning_reading, meaning_read, reading_after, read_of}
use Rattle.codec.specs.Writing.{write_answer, write_length, write_octets}
use Rattle.codec.proofs.Laws.{length_written}

-- where it is refused there is nothing but the refusal
abbrev Empty : Reading → Type 0
Empty r = (refused : Refusal) → r.meaning ≡ Err refused → r ≡ refusal refused

refusal_empty : (told : Refusal) → Empty (refusal told)
unfolding refusal
refusal_empty told refused e = cc

rowless_empty : (m : Message) → Empty (rowless m)
unfolding rowless
rowless_empty m refused e = absurd (cc)

update_empty : (m : Message) (u : UpdateRead) → Empty (update_reading m u)
unfolding update_reading
update_empty m (accepted rs) refused e = absurd (cc)
update_empty m (broken_at offset) refused e = refusal_empty BrokenBlocks refused e
update_empty m too_many refused e = refusal_empty TooManyRows refused e

meaning_empty : (net : ℕ) (o : List ℕ) (m : Message) → Empty (meaning_reading net o m)
unfolding meaning_reading
meaning_empty net o (Request a q s hello poll) = rowless_empty _
meaning_empty net o (Confirm a q s hello poll) = rowless_empty _
meaning_empty net o (Refuse a q s) = rowless_empty _
meaning_empty net o (Cease a q s) = rowless_empty _
meaning_empty net o (CeaseAck a q s) = rowless_empty _
meaning_empty net o (Hello a q s) = rowless_empty _
meaning_empty net o (IHeardYou a q s) = rowless_empty _
meaning_empty net o (Poll a q s n) = rowless_empty _
meaning_empty net o (Update a q s n) = update_empty _ (update_of most_read net o)
meaning_empty net o (Error a q s reason x y z) = rowless_empty _

after_empty : (net : ℕ) (o : List ℕ) (d : Result Message Refusal) → Empty (reading_after net o d)
unfolding reading_after
after_empty net o (Ok m) = meaning_empty net o m
after_empty net o (Err told) = refusal_empty told

pub reading_refused : (net : ℕ) (o : List ℕ) → Empty (read_of net o)
unfolding read_of
reading_refused net o = after_empty net o (meaning_read o)

module _ (m : Message) (numbers buffer : List ℕ) where
  no_octets_lem : (write_answer m numbers buffer ≡ 0 → ⊥) → write_octets m numbers buffer ≡ []
  unfolding write_octets
  no_octets_lem z = if_ok_old (write_answer m numbers buffer) _ _ z

  pub writing_refused : (write_answer m numbers buffer ≡ 0 → ⊥)
      → (write_length m numbers buffer ≡ 0) × (over (write_octets m numbers buffer) buffer ≡ buffer)
  unfolding over
  writing_refused z = (length_written m numbers buffer ∙ ap length (no_octets_lem z), rw (no_octets_lem z))

  pub writing_within : drop (write_length m numbers buffer) (over (write_octets m numbers buffer) buffer) ≡ drop (write_length m numbers buffer) buffer
  unfolding over
  writing_within = rw (length_written m numbers buffer) (drop-append_seam (write_octets m numbers buffer) (drop (length (write_octets m numbers buffer)) buffer))
