-- Laws of writing a message of any kind. Assumes nothing.
use Prim.Native.Nat.{ℕ, ◌+◌, ◌/◌, ◌%◌, ◌≤◌}
use native.Mathlib.Omega.{arith}
use mathlib.Core.Path.{◌≡◌, refl, sym, ◌∙◌}
use mathlib.Core.Bool.{true, ◌&&◌}
use mathlib.Core.List.{List, ◌++◌, append_assoc}
use lib.ListN.{length, take, drop, length-append}
use lib.Seq.{sets, sets-eq, drop_at, length-take-le}
use lib.Dec.{eqb}
use Rattle.checks.proofs.Laws.{and_left, and_right}
use Rattle.octets.specs.Buffer.{over}
use Rattle.octets_checksum.specs.Checksum.{sealed}
use Rattle.octets.proofs.Buffer.{over_length}
use Rattle.octets_checksum.proofs.Laws.{sealed_length}
use Rattle.octets_checksum.proofs.Laws.{over_sealed}
use Rattle.nets.specs.Classes.{good_net}
use Rattle.nets.specs.Rows.{Row, rows_of}
use Rattle.message.specs.declared.Message.{Message}
use Rattle.message.specs.declared.Message.TheVariants.{Request, Confirm, Refuse, Cease, CeaseAck, Hello, IHeardYou, Poll, Update, Error}
use Rattle.message_writing.specs.Writing.{head_of}
use Rattle.update_writing.specs.Blocks.{blocks_written, internal_blocks, external_blocks}
use Rattle.update_writing.specs.Writable.{writable_numbers, writable_rows}
use Rattle.std.proofs.Common.{map}
use Rattle.std.specs.Simd.{first_chunks}
use Rattle.update_writing.proofs.Claims.{short, rows_most}
use Rattle.update_writing.proofs.Lists.{row_at, rows_chunks}
use Rattle.codec_writing.specs.Octets.{plain_octets, message_octets}
use Rattle.codec_writing.specs.Room.{rows_fit, room_for}

-- ---- blocks first, then the head, then the checksum

module _ (b blocks head x y : List ℕ) (e : x ≡ sets b 16 blocks) (f : y ≡ over head x) (h : length head ≡ 16) (room : 16 + length blocks ≤ length b) where
  long : length (head ++ blocks) ≡ 16 + length blocks
  long = length-append head blocks ∙ rw h

  pub assembled : y ≡ over (head ++ blocks) b
  unfolding over
  assembled =
      let k : 16 ≤ length b = omega arith in
      rw (
        f,
        e,
        sets-eq blocks b 16 room,
        h,
        append_assoc (take 16 b) blocks (drop (16 + length blocks) b),
        drop_at (take 16 b) (blocks ++ drop (16 + length blocks) b) 16 (length-take-le 16 b k),
        long,
        append_assoc head blocks (drop (16 + length blocks) b),
      )

  pub head_fits : 16 + length blocks ≤ length y
  head_fits = rw (assembled, over_length (head ++ blocks) b (rw long room)) room

head_length : (i e a q s n : ℕ) → length (head_of i e a q s n) ≡ 16
unfolding head_of
head_length i e a q s n = refl

pub writable_rows_lem : (net : ℕ) (numbers : List ℕ) → writable_numbers net numbers ≡ true → writable_rows net (rows_of numbers) ≡ true
unfolding writable_numbers
writable_rows_lem net numbers w = and_right (eqb (length numbers % 3) 0) (writable_rows net (rows_of numbers)) w

pub rows_few : (net : ℕ) (numbers : List ℕ) → writable_numbers net numbers ≡ true → length (rows_of numbers) ≤ 128
rows_few net numbers w = rows_most net (rows_of numbers) (writable_rows_lem net numbers w)

-- 01: an Update of 128 rows is at most 1,168 octets long
pub blocks_few : (net : ℕ) (numbers : List ℕ) → good_net net ≡ true → writable_numbers net numbers ≡ true → length (blocks_written net (rows_of numbers)) ≤ 1152
blocks_few net numbers g w = short.most net g (rows_of numbers) (writable_rows_lem net numbers w)

pub update_length : (a q s net : ℕ) (rows : List Row) → length (message_octets (Update a q s net) rows) ≡ 16 + length (blocks_written net rows)
unfolding message_octets plain_octets
update_length a q s net rows =
    sealed_length _ ∙ length-append (head_of (internal_blocks rows) (external_blocks rows) a q s net) (blocks_written net rows)
    ∙ rw (head_length (internal_blocks rows) (external_blocks rows) a q s net)

-- the same along the code: what each step leaves in the buffer
module _ (b x y : List ℕ) (rows : List Row) (a q s net i e end : ℕ) (g : good_net net ≡ true) (w : writable_rows net rows ≡ true) (room : 1168 ≤ length b)
    (blocks : x ≡ sets b 16 (blocks_written net rows)) (ends : end ≡ 16 + length (blocks_written net rows))
    (inside : i ≡ internal_blocks rows) (outside : e ≡ external_blocks rows) (head : y ≡ over (head_of i e a q s net) x) where
  enough : 16 + length (blocks_written net rows) ≤ length b
  enough = omega (arith, short.most net g rows w)

  pub end_fits : end ≤ length y
  end_fits = rw ends (head_fits b (blocks_written net rows) (head_of i e a q s net) x y blocks head (head_length i e a q s net) enough)

  pub update_end : end ≡ length (message_octets (Update a q s net) rows)
  update_end = ends ∙ sym (update_length a q s net rows)

  pub update_written : sealed (take end y) ++ drop end y ≡ over (message_octets (Update a q s net) rows) b
  unfolding message_octets plain_octets
  update_written =
      let h = head_of i e a q s net in
      let l = blocks_written net rows in
      over_sealed (head_of i e a q s net ++ blocks_written net rows) b y end
      (assembled b l h x y blocks head (head_length i e a q s net) enough) (ends ∙ sym (long b l h x y blocks head (head_length i e a q s net) enough))
      ∙ rw (inside, outside)

-- ---- the room that a message takes

pub room_most : (m : Message) → room_for m ≤ 1168
unfolding room_for
room_most (Request a q s h p) = omega arith
room_most (Confirm a q s h p) = omega arith
room_most (Refuse a q s) = omega arith
room_most (Cease a q s) = omega arith
room_most (CeaseAck a q s) = omega arith
room_most (Hello a q s) = omega arith
room_most (IHeardYou a q s) = omega arith
room_most (Poll a q s n) = omega arith
room_most (Update a q s n) = omega arith
room_most (Error a q s r x y z) = omega arith

pub octets_fit : (m : Message) (numbers : List ℕ) → rows_fit m numbers ≡ true → length (message_octets m (rows_of numbers)) ≤ room_for m
unfolding message_octets plain_octets rows_fit room_for
octets_fit (Request a q s h p) numbers w = rw sealed_length (omega arith)
octets_fit (Confirm a q s h p) numbers w = rw sealed_length (omega arith)
octets_fit (Refuse a q s) numbers w = rw sealed_length (omega arith)
octets_fit (Cease a q s) numbers w = rw sealed_length (omega arith)
octets_fit (CeaseAck a q s) numbers w = rw sealed_length (omega arith)
octets_fit (Hello a q s) numbers w = rw sealed_length (omega arith)
octets_fit (IHeardYou a q s) numbers w = rw sealed_length (omega arith)
octets_fit (Poll a q s n) numbers w = rw sealed_length (omega arith)
octets_fit (Update a q s net) numbers w =
    rw (update_length a q s net (rows_of numbers))
    (omega (arith, blocks_few net numbers (and_left (good_net net) (writable_numbers net numbers) w) (and_right (good_net net) (writable_numbers net numbers) w)))
octets_fit (Error a q s r x y z) numbers w = rw sealed_length (omega arith)

-- what writing an Update asks
pub update_asked : (m : Message) (room : ℕ) (numbers : List ℕ) (a q s net : ℕ) → m ≡ Update a q s net → (rows_fit m numbers ≡ true) × (room_for m ≤ room)
    → ((good_net net ≡ true) × (writable_numbers net numbers ≡ true)) × (1168 ≤ room)
unfolding rows_fit room_for
update_asked m room numbers a q s net e p =
    let w : (good_net net && writable_numbers net numbers) ≡ true = rw e at p.0 in
    ((and_left (good_net net) (writable_numbers net numbers) w, and_right (good_net net) (writable_numbers net numbers) w), rw e at p.1)

-- the same of its rows as arrays
pub rows_asked : (net n : ℕ) (numbers : List ℕ) → n ≡ length numbers / 3 → writable_numbers net numbers ≡ true → writable_rows net (map row_at (first_chunks 3 n numbers)) ≡ true
rows_asked net n numbers e w = rw (rows_chunks n numbers e) (writable_rows_lem net numbers w)
