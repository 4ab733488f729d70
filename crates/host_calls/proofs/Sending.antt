-- Laws of sending a reply, of which an Update alone looks at the home list. Assumes nothing.
use Prim.Native.Nat.{ℕ, ◌≤◌, ◌<◌}
use native.Mathlib.Omega.{arith}
use mathlib.Core.Path.{◌≡◌, refl, ◌∙◌, ap}
use mathlib.Core.Bool.{true}
use mathlib.Core.List.{List, [], append-nil}
use lib.ListN.{length}
use borrow.Author.Tests.{leb-true}
use Rattle.checks.proofs.Laws.{and_left, and_right}
use Rattle.octets.specs.Buffer.{over}
use Rattle.nets.specs.Classes.{good_net}
use Rattle.nets.specs.Rows.{Row, rows_of}
use Rattle.message.specs.declared.Message.{Message}
use Rattle.message.specs.declared.Message.TheVariants.{Request, Confirm, Refuse, Cease, CeaseAck, Hello, IHeardYou, Poll, Update, Error}
use Rattle.update_writing.specs.Writable.{writable_numbers}
use Rattle.codec_writing.specs.Octets.{plain_octets, message_octets}
use Rattle.codec_writing.specs.Room.{rows_fit, room_for}
use Rattle.neighbour_machine.specs.declared.Reply.{Reply}
use Rattle.neighbour_machine.specs.declared.Reply.TheVariants.{Nothing, One, Two}
use Rattle.gateway_rules.specs.Carried.{first_octets, second_octets, reply_octets, buffer_after}
use Rattle.gateway_carry.specs.declared.Lengths.{Lengths}
use Rattle.gateway_carry.specs.Asked.{brief, sendable, lengths_of}
use Rattle.gateway_carry.proofs.Sending.{message_short}
use Rattle.host_result.specs.Packed.{packed}

-- ---- a message that is no Update has no rows

abbrev Other : Message → Type 0
Other m = ((a : ℕ) (b : ℕ) (c : ℕ) (d : ℕ) → m ≡ Update a b c d → ⊥)

octets_other : (m : Message) → Other m → (rows : List Row) → message_octets m rows ≡ message_octets m []
unfolding message_octets plain_octets
octets_other (Request a q s hello poll) h rows = refl
octets_other (Confirm a q s hello poll) h rows = refl
octets_other (Refuse a q s) h rows = refl
octets_other (Cease a q s) h rows = refl
octets_other (CeaseAck a q s) h rows = refl
octets_other (Hello a q s) h rows = refl
octets_other (IHeardYou a q s) h rows = refl
octets_other (Poll a q s net) h rows = refl
octets_other (Update a q s net) h rows = absurd (h a q s net refl)
octets_other (Error a q s reason x y z) h rows = refl

brief_other : (m : Message) → brief m ≡ true → (rows : List Row) → message_octets m rows ≡ message_octets m []
unfolding message_octets plain_octets brief room_for
brief_other (Request a q s hello poll) h rows = refl
brief_other (Confirm a q s hello poll) h rows = refl
brief_other (Refuse a q s) h rows = refl
brief_other (Cease a q s) h rows = refl
brief_other (CeaseAck a q s) h rows = refl
brief_other (Hello a q s) h rows = refl
brief_other (IHeardYou a q s) h rows = refl
brief_other (Poll a q s net) h rows = refl
brief_other (Update a q s net) h rows = absurd (omega (arith, leb-true 1168 24 h))
brief_other (Error a q s reason x y z) h rows = refl

fits_other : (m : Message) → Other m → (home : List ℕ) → rows_fit m home ≡ true
unfolding rows_fit
fits_other (Request a q s hello poll) h home = refl
fits_other (Confirm a q s hello poll) h home = refl
fits_other (Refuse a q s) h home = refl
fits_other (Cease a q s) h home = refl
fits_other (CeaseAck a q s) h home = refl
fits_other (Hello a q s) h home = refl
fits_other (IHeardYou a q s) h home = refl
fits_other (Poll a q s net) h home = refl
fits_other (Update a q s net) h home = absurd (h a q s net refl)
fits_other (Error a q s reason x y z) h home = refl

-- ---- a reply that is no lone Update is sent as with an empty home list

pub record Rowless (reply : Reply) (home : List ℕ) : Type 0 where
  pub asked : sendable reply [] ≡ true
  pub first : first_octets reply (rows_of home) ≡ first_octets reply (rows_of [])
  pub second : second_octets reply (rows_of home) ≡ second_octets reply (rows_of [])

pub two_rowless : (reply : Reply) (home : List ℕ) → ((a : Message) → reply ≡ One a → ⊥) → sendable reply home ≡ true → Rowless reply home
unfolding sendable first_octets second_octets rows_of
two_rowless Nothing home t s = record { asked = refl; first = refl; second = refl }
two_rowless (One m) home t s = absurd (t m refl)
two_rowless (Two m next) home t s =
    record {
      asked = s;
      first = brief_other m (and_left (brief m) (brief next) s) (rows_of home);
      second = brief_other next (and_right (brief m) (brief next) s) (rows_of home);
    }

pub one_rowless : (reply : Reply) (m : Message) (home : List ℕ) → reply ≡ One m → Other m → Rowless reply home
unfolding sendable first_octets second_octets rows_of
one_rowless reply m home e h =
    record { asked = rw e (fits_other m h []); first = rw e (octets_other m h (rows_of home)); second = rw e }

module _ (reply : Reply) (home buffer : List ℕ) (r : Rowless reply home) where
  pub rowless_lengths : (lengths : Lengths) → lengths ≡ lengths_of reply (rows_of []) → lengths ≡ lengths_of reply (rows_of home)
  unfolding lengths_of
  rowless_lengths lengths e = e ∙ rw (r.first, r.second)

  pub rowless_buffer : (b : List ℕ) → b ≡ buffer_after buffer reply (rows_of []) → b ≡ buffer_after buffer reply (rows_of home)
  unfolding buffer_after reply_octets
  rowless_buffer b e = e ∙ rw (r.first, r.second)

-- ---- a lone Update

module _ (reply : Reply) (home buffer : List ℕ) (a q s net : ℕ) (e : reply ≡ One (Update a q s net)) (fit : sendable reply home ≡ true) (long : 2048 ≤ length buffer) where
  fits : rows_fit (Update a q s net) home ≡ true
  unfolding sendable
  fits = rw e at fit

  pub update_asked : ((good_net net ≡ true) × (writable_numbers net home ≡ true)) × (1168 ≤ length buffer)
  unfolding rows_fit
  update_asked = ((and_left (good_net net) (writable_numbers net home) fits, and_right (good_net net) (writable_numbers net home) fits), omega arith)

  module _ (n : ℕ) (x : List ℕ) (f : n ≡ length (message_octets (Update a q s net) (rows_of home))) (w : x ≡ over (message_octets (Update a q s net) (rows_of home)) buffer) where
    pub update_short : n < 65536
    update_short = omega (arith, f, message_short (Update a q s net) home fits)

    pub update_lengths : ◌≡◌ {A = Lengths} (record { first = n; second = 0 }) (lengths_of reply (rows_of home))
    unfolding lengths_of first_octets second_octets
    update_lengths = rw (e, f)

    pub update_buffer : x ≡ buffer_after buffer reply (rows_of home)
    unfolding buffer_after reply_octets first_octets second_octets
    update_buffer = rw (e, append-nil (message_octets (Update a q s net) (rows_of home))) w

-- ---- the number that is returned

pub packed_lengths : (r answer : ℕ) (l m : Lengths) → r ≡ packed answer l.first l.second → l ≡ m → r ≡ packed answer m.first m.second
packed_lengths r answer l m e f = e ∙ ap (λ (x : Lengths). packed answer x.first x.second) f
