-- Laws of what may be written, and of the writer's answers. Assumes nothing.
use Prim.Native.Nat.{ℕ, ◌≤◌, ◌<◌}
use native.Mathlib.Omega.{arith}
use borrow.Author.Tests.{le-leb, lt-leb, ne_eqb}
use mathlib.Core.Path.{◌≡◌, refl, sym, ◌∙◌, ap}
use mathlib.Core.Bool.{Bool, true, false, cond}
use mathlib.Core.List.{List, []}
use lib.ListN.{length}
use lib.Dec.{leb, eqb}
use Rattle.std.specs.Result.{result_unwrap_or}
use Rattle.std.specs.Prelude.{Ok, Err}
use Rattle.checks.proofs.Laws.{and_right, checked_answer, number_some}
use Rattle.checks.specs.Checks.{check, if_ok}
use Rattle.checks.specs.Refusals.{number_of, answer_of, checked}
use Rattle.checks.specs.declared.Refusal.{Refusal}
use Rattle.checks.specs.declared.Refusal.TheVariants.{ShortBuffer, BadArgument}
use Rattle.octets.specs.Buffer.{over}
use Rattle.octets.proofs.Buffer.{over_nothing}
use Rattle.nets.specs.Rows.{rows_of}
use Rattle.message.specs.Kinds.{kind_of, status_of, status_allowed}
use Rattle.message.specs.declared.Message.{Message}
use Rattle.message.specs.declared.Message.TheVariants.{Request, Confirm, Refuse, Cease, CeaseAck, Hello, IHeardYou, Poll, Update, Error}
use Rattle.codec_writing.specs.Octets.{message_octets}
use Rattle.codec_writing.specs.Room.{rows_fit}
use Rattle.codec_writing.proofs.Laws.{room_most, octets_fit}
use Rattle.codec.specs.Writing.{rows_allowed, writable, write_of, write_answer, write_length, write_octets}

-- ---- kinds other than an Update

abbrev pub OtherKind : Message → Type 0
OtherKind m = (a q s n : ℕ) → m ≡ Update a q s n → ⊥

pub other_rows : (m : Message) (numbers : List ℕ) → OtherKind m → rows_allowed m numbers ≡ eqb (length numbers) 0
unfolding rows_allowed
other_rows (Request a q s h p) rows o = refl
other_rows (Confirm a q s h p) rows o = refl
other_rows (Refuse a q s) rows o = refl
other_rows (Cease a q s) rows o = refl
other_rows (CeaseAck a q s) rows o = refl
other_rows (Hello a q s) rows o = refl
other_rows (IHeardYou a q s) rows o = refl
other_rows (Poll a q s n) rows o = refl
other_rows (Update a q s n) rows o = absurd (o a q s n refl)
other_rows (Error a q s r x y z) rows o = refl

pub allowed_fits : (m : Message) (numbers : List ℕ) → rows_allowed m numbers ≡ true → rows_fit m numbers ≡ true
unfolding rows_allowed rows_fit
allowed_fits (Request a q s h p) numbers w = refl
allowed_fits (Confirm a q s h p) numbers w = refl
allowed_fits (Refuse a q s) numbers w = refl
allowed_fits (Cease a q s) numbers w = refl
allowed_fits (CeaseAck a q s) numbers w = refl
allowed_fits (Hello a q s) numbers w = refl
allowed_fits (IHeardYou a q s) numbers w = refl
allowed_fits (Poll a q s n) numbers w = refl
allowed_fits (Update a q s n) numbers w = w
allowed_fits (Error a q s r x y z) numbers w = refl

-- ---- the writer's two checks

-- no message that may be written is longer than 1,168 octets
pub octets_short : (m : Message) (numbers : List ℕ) → rows_allowed m numbers ≡ true → length (message_octets m (rows_of numbers)) ≤ 1168
octets_short m numbers w = omega (arith, octets_fit m numbers (allowed_fits m numbers w), room_most m)

module _ (m : Message) (numbers buffer : List ℕ) where
  pub write_checks : write_answer m numbers buffer ≡ check (leb 2048 (length buffer)) 3 (check (writable m numbers) 16 0)
  unfolding write_answer write_of
  write_checks = checked_answer (leb 2048 (length buffer)) _ _ ∙ ap (check (leb 2048 (length buffer)) 3) (checked_answer (writable m numbers) _ _)

  -- the length that is reported is that of the octets that are written
  pub length_written : write_length m numbers buffer ≡ length (write_octets m numbers buffer)
  unfolding write_length write_octets write_answer write_of if_ok
  length_written = go (leb 2048 (length buffer)) (writable m numbers)
    where
      go : (a b : Bool) → result_unwrap_or (checked a ShortBuffer (checked b BadArgument (Ok (length (message_octets m (rows_of numbers)))))) 0
          ≡ length (cond (eqb (answer_of (checked a ShortBuffer (checked b BadArgument (Ok (length (message_octets m (rows_of numbers))))))) 0) (message_octets m (rows_of numbers)) [])
      go true true = refl
      go true false = refl
      go false b = refl

  -- one of writing's answers, with what it leaves
  module _ (refused : Refusal) (is : write_of m numbers buffer ≡ Err refused) where
    pub refused_leaves : buffer ≡ over (write_octets m numbers buffer) buffer
    unfolding write_octets write_answer if_ok
    refused_leaves = rw (is, ne_eqb (number_of refused) 0 (number_some refused)) (sym (over_nothing buffer))

  pub write_3 : length buffer < 2048 → write_of m numbers buffer ≡ Err ShortBuffer
  unfolding write_of
  write_3 h = rw (lt-leb 2048 (length buffer) h)

  pub write_16 : 2048 ≤ length buffer → writable m numbers ≡ false → write_of m numbers buffer ≡ Err BadArgument
  unfolding write_of
  write_16 h w = rw (le-leb 2048 (length buffer) h, w)

  pub write_0 : 2048 ≤ length buffer → writable m numbers ≡ true → write_of m numbers buffer ≡ Ok (length (message_octets m (rows_of numbers)))
  unfolding write_of
  write_0 h w = rw (le-leb 2048 (length buffer) h, w)

  pub written_leaves : (n : ℕ) (x : List ℕ) → write_of m numbers buffer ≡ Ok n
      → x ≡ over (message_octets m (rows_of numbers)) buffer → x ≡ over (write_octets m numbers buffer) buffer
  unfolding write_octets write_answer if_ok
  written_leaves n x e f = rw e f

  -- how many octets a call tells, and which they are
  module _ (n : ℕ) (is : write_of m numbers buffer ≡ Ok n) where
    length_told : write_length m numbers buffer ≡ n
    unfolding write_length
    length_told = rw is

    pub octets_told : write_octets m numbers buffer ≡ message_octets m (rows_of numbers)
    unfolding write_octets write_answer if_ok
    octets_told = rw is

    pub length_is : n ≡ length (message_octets m (rows_of numbers))
    length_is = sym length_told ∙ length_written ∙ ap length octets_told

  pub write_rows_lem : writable m numbers ≡ true → rows_allowed m numbers ≡ true
  unfolding writable
  write_rows_lem w = and_right (status_allowed (kind_of m) (status_of m)) (rows_allowed m numbers) w
