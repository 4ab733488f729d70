-- Laws of sending a reply: the room for each message, and what the buffer holds afterwards. Assumes nothing.
use Prim.Native.Nat.{ℕ, ◌-◌, ◌≤◌, ◌<◌}
use native.Mathlib.Omega.{arith}
use borrow.Author.Tests.{leb-true}
use borrow.Rule.Slice.PartMut.{put_mid}
use mathlib.Core.Path.{◌≡◌, refl, sym, ap, ◌∙◌}
use mathlib.Core.Bool.{true}
use mathlib.Core.List.{List, ◌++◌, append-nil, append_assoc}
use lib.ListN.{length, take, drop, length-append, length-drop, drop_of_length-le}
use lib.Seq.{drop-drop, drop_at, take_at}
use Rattle.checks.proofs.Laws.{part_from_lem, and_left, and_right}
use Rattle.octets.specs.Buffer.{over}
use Rattle.octets.proofs.Buffer.{over_length, over_nothing}
use Rattle.nets.specs.Rows.{rows_of}
use Rattle.message.specs.declared.Message.{Message}
use Rattle.message.specs.declared.Message.TheVariants.{Request, Confirm, Refuse, Cease, CeaseAck, Hello, IHeardYou, Poll, Update, Error}
use Rattle.codec_writing.specs.Octets.{message_octets}
use Rattle.codec_writing.specs.Room.{rows_fit, room_for}
use Rattle.codec_writing.proofs.Laws.{octets_fit, room_most}
use Rattle.neighbour_machine.specs.declared.Reply.{Reply}
use Rattle.neighbour_machine.specs.declared.Reply.TheVariants.{Nothing, One, Two}
use Rattle.gateway_rules.specs.Carried.{first_octets, second_octets, reply_octets, buffer_after}
use Rattle.gateway_carry.specs.declared.Lengths.{Lengths}
use Rattle.gateway_carry.specs.Asked.{brief, sendable, lengths_of}

-- ---- octets laid over a buffer, and others straight after them

over_end : (x b : List ℕ) → drop (length x) (over x b) ≡ drop (length x) b
unfolding over
over_end x b = drop_at x (drop (length x) b) (length x) refl

pub over_twice : (x y b : List ℕ)
    → put_mid (length x) (length (over x b) - length x) (over x b) (over y (drop (length x) b)) ≡ over (x ++ y) b
unfolding over
over_twice x y b =
    let z : length (drop (length x) (x ++ drop (length x) b)) ≤ length (x ++ drop (length x) b) - length x = simp length-drop (omega arith) in
    rw (
      take_at x (drop (length x) b) (length x) refl,
      drop_of_length-le (drop (length x) (x ++ drop (length x) b)) z,
      append-nil (y ++ drop (length y) (drop (length x) b)),
      drop-drop,
      append_assoc x y (drop (length (x ++ y)) b),
      length-append x y,
    )

-- ---- a message that may be followed

pub brief_room : (m : Message) → brief m ≡ true → room_for m ≤ 24
unfolding brief
brief_room m e = leb-true (room_for m) 24 e

pub brief_fits : (m : Message) (home : List ℕ) → brief m ≡ true → rows_fit m home ≡ true
unfolding rows_fit brief room_for
brief_fits (Request a q s h p) home e = refl
brief_fits (Confirm a q s h p) home e = refl
brief_fits (Refuse a q s) home e = refl
brief_fits (Cease a q s) home e = refl
brief_fits (CeaseAck a q s) home e = refl
brief_fits (Hello a q s) home e = refl
brief_fits (IHeardYou a q s) home e = refl
brief_fits (Poll a q s n) home e = refl
brief_fits (Update a q s n) home e = absurd (omega (arith, leb-true 1168 24 e))
brief_fits (Error a q s r x y z) home e = refl

-- ---- each kind of reply

pub message_short : (m : Message) (home : List ℕ) → rows_fit m home ≡ true → length (message_octets m (rows_of home)) ≤ 1168
message_short m home e = omega (arith, octets_fit m home e, room_most m)

module _ (reply : Reply) (home b : List ℕ) (s : sendable reply home ≡ true) (long : 2048 ≤ length b) where
  pub send_nothing : reply ≡ Nothing → (◌≡◌ {A = Lengths} (record { first = 0; second = 0 }) (lengths_of reply (rows_of home))) × (b ≡ buffer_after b reply (rows_of home))
  unfolding lengths_of buffer_after reply_octets first_octets second_octets
  send_nothing e = (rw e, rw e (sym (over_nothing b)))

  module _ (m : Message) (e : reply ≡ One m) where
    pub one_fits : rows_fit m home ≡ true
    unfolding sendable
    one_fits = rw e at s

    pub one_asked : (rows_fit m home ≡ true) × (room_for m ≤ length b)
    one_asked = (one_fits, omega (arith, room_most m))

    pub one_short : (n : ℕ) → n ≡ length (message_octets m (rows_of home)) → n < 65536
    one_short n f = omega (arith, message_short m home one_fits)

    pub send_one : (n : ℕ) (x : List ℕ) → n ≡ length (message_octets m (rows_of home)) → x ≡ over (message_octets m (rows_of home)) b
        → (◌≡◌ {A = Lengths} (record { first = n; second = 0 }) (lengths_of reply (rows_of home))) × (x ≡ buffer_after b reply (rows_of home))
    unfolding lengths_of buffer_after reply_octets first_octets second_octets
    send_one n x f w = (rw (e, f), rw (e, append-nil (message_octets m (rows_of home))) w)

  module _ (m next : Message) (e : reply ≡ Two m next) where
    pub first_brief : brief m ≡ true
    unfolding sendable
    first_brief = and_left (brief m) (brief next) (rw e at s)

    pub second_brief : brief next ≡ true
    unfolding sendable
    second_brief = and_right (brief m) (brief next) (rw e at s)

    pub first_asked : (rows_fit m home ≡ true) × (room_for m ≤ length b)
    first_asked = (brief_fits m home first_brief, omega (arith, room_most m))

    pub second_fits : rows_fit next home ≡ true
    second_fits = brief_fits next home second_brief

    module _ (n : ℕ) (x : List ℕ) (f : n ≡ length (message_octets m (rows_of home))) (w : x ≡ over (message_octets m (rows_of home)) b) where
      pub first_short : n ≤ 24
      first_short = omega (arith, f, octets_fit m home first_asked.0, brief_room m first_brief)

      same : length x ≡ length b
      same = ap length w ∙ over_length (message_octets m (rows_of home)) b (omega (arith, f, first_short))

      pub first_within : n ≤ length x
      first_within = omega (arith, same, first_short)

      pub second_asked : (rows_fit next home ≡ true) × (room_for next ≤ length (take (length x - n) (drop n x)))
      second_asked = (second_fits, rw (part_from_lem n x) (simp length-drop (omega (arith, same, first_short, brief_room next second_brief))))

      rest : drop n x ≡ drop (length (message_octets m (rows_of home))) b
      rest = rw (f, w) (over_end (message_octets m (rows_of home)) b)

      module _ (k : ℕ) (y : List ℕ) (g : k ≡ length (message_octets next (rows_of home))) (v : y ≡ over (message_octets next (rows_of home)) (take (length x - n) (drop n x))) where
        pub second_short : k < 65536
        second_short = omega (arith, message_short next home second_fits)

        laid : y ≡ over (message_octets next (rows_of home)) (drop (length (message_octets m (rows_of home))) b)
        laid = v ∙ ap (over (message_octets next (rows_of home))) (part_from_lem n x ∙ rest)

        pub send_two : (◌≡◌ {A = Lengths} (record { first = n; second = k }) (lengths_of reply (rows_of home))) × (put_mid n (length x - n) x y ≡ buffer_after b reply (rows_of home))
        unfolding lengths_of buffer_after reply_octets first_octets second_octets
        send_two = (rw (e, f, g), rw (e, laid, f, w) (over_twice (message_octets m (rows_of home)) (message_octets next (rows_of home)) b))
