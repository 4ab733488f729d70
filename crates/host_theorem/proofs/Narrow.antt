-- Every number of a model is in its width, after every call with numbers that C's types let through. Assumes nothing.
use Prim.Native.Nat.{ℕ, zero, suc, ◌+◌, ◌/◌, ◌%◌, ◌≤◌, ◌<◌}
use native.Mathlib.Omega.{arith}
use mathlib.Core.Path.{◌≡◌, refl, sym, subst}
use mathlib.Core.Bool.{Bool, true, false, cond, not, ◌&&◌, ◌||◌}
use mathlib.Core.List.{List, [], ◌∷◌}
use lib.Dec.{ltb, leb, eqb}
use lib.ListN.{length, drop, get_or}
use borrow.Author.Tests.{lt-ltb, ltb-true, leb-true, eqb-true}
use Rattle.std.specs.Prelude.{Option, Some, None, Result, Ok, Err}
use Rattle.checks.specs.declared.Refusal.{Refusal}
use Rattle.checks.specs.declared.Refusal.TheVariants.{BadStatus, BadLength}
use Rattle.checks.specs.Checks.{if_ok}
use Rattle.checks.specs.Lists.{every}
use Rattle.checks.proofs.Laws.{cond_elim, and_left, and_right, and_both}
use Rattle.nets.specs.Classes.{width_of, host_span, good_net, on_net}
use Rattle.nets.specs.Rows.{Row}
use Rattle.message.specs.Kinds.{kind_of, sequence_of, status_allowed, length_allowed}
use Rattle.message.specs.declared.Kind.{Kind}
use Rattle.message.specs.declared.Kind.TheVariants as K
use Rattle.message.specs.declared.Message.{Message}
use Rattle.message_reading.specs.Reading.{status_at, sequence_at, kind_in, meaning_of, decode_as, decode_of}
use Rattle.update_walk.specs.Body.{Walk, whole, broken, body_of, further, net_at, walked_blocks, read_within, update_of, rows_read}
use Rattle.update_writing.specs.Writable.{ordered, writable_row, writable_rows}
use Rattle.update_theorem.specs.Trip.{octets_only}
use Rattle.update_theorem.proofs.Octets.{good_is, octets_drop}
use Rattle.update_theorem.proofs.Trip.{reads_write_back}
use Rattle.neighbour.specs.declared.Settings.{Settings}
use Rattle.neighbour.specs.declared.Neighbour.{Neighbour}
use Rattle.neighbour.specs.Record.{idle, is_idle, is_up}
use Rattle.neighbour.specs.Rules.{is_command}
use Rattle.neighbour_seconds.specs.declared.Seconds.{Seconds}
use Rattle.neighbour_messages.specs.declared.Head.{Head}
use Rattle.neighbour_wellformed.specs.Formed.{well_formed}
use Rattle.neighbour_machine.specs.declared.Event.{Event}
use Rattle.neighbour_machine.specs.declared.Event.TheVariants.{Received}
use Rattle.neighbour_machine.specs.declared.After.{After}
use Rattle.neighbour_machine.specs.Intrinsics.{Intrinsic, Start, Stop, Tick, as_event}
use Rattle.neighbour_machine.specs.Table.{unanswered}
use Rattle.neighbour_machine.specs.Step.{step_of}
use Rattle.neighbour_machine.specs.Laws.{sends_poll, brought}
use Rattle.neighbour_machine.proofs.Theorems.{step_lawful}
use Rattle.gateway_state.specs.Claims.{SlotGood}
use Rattle.gateway_state.proofs.ListLaws.{every_set, every_get_or}
use Rattle.model.specs.Model.{Call, add, remove, happen, receive, listing, Peer, Slot, free, used, Model, new_peer, slot_in, put, found_at, add_turn, remove_turn, no_octets, no_move, rows_in_phase, moved, seconds_after, event_move, is_update, answer_to, first_twelve, after_message, rows_after, refused_move, message_move, turn_at, event_turn, message_turn, listing_turn, step}
use Rattle.model.specs.Theorem.{is_octet, cell}
use Rattle.model.proofs.Represent.{Good, good_at}
use Rattle.model.proofs.History.{step_settings}
use Rattle.model.proofs.Simulation.{good_step}
use Rattle.host_state_block.specs.Layout.{Fit}
use Rattle.host_state_block.specs.Block.{own_fields, own_numbers}
use Rattle.host_theorem.specs.Theorem.{fits_types}

-- ---- the rows of an Update are of 32 bits

abbrev pub is_word : ℕ → Bool
is_word n = ltb n 4294967296

unfoldable pub word_row : Row → Bool
word_row row = is_word row.net && is_word row.gateway && is_word row.third

-- on a net that begins below 224
on_below : (width net gateway : ℕ) → 0 < width → width ≤ 3 → net / 16777216 < 224 → gateway / host_span width ≡ net / host_span width → gateway < 4294967296
unfolding host_span
on_below zero net gateway a b f e = absurd (omega arith)
on_below (suc zero) net gateway a b f e = omega arith
on_below (suc (suc zero)) net gateway a b f e = omega arith
on_below (suc (suc (suc zero))) net gateway a b f e = omega arith
on_below (suc (suc (suc (suc k)))) net gateway a b f e = absurd (omega arith)

module _ (net : ℕ) (g : good_net net ≡ true) where
  row_word : (row : Row) → writable_row net row ≡ true → word_row row ≡ true
  unfolding writable_row word_row on_net
  row_word row w =
      let n = good_is net g in
      let a = and_left (good_net row.net && on_net net row.gateway) (leb row.third 511) w in
      let own = good_is row.net (and_left (good_net row.net) (on_net net row.gateway) a) in
      let on = and_right (good_net row.net) (on_net net row.gateway) a in
      let e = eqb-true (row.gateway / host_span (width_of net)) (net / host_span (width_of net)) (and_right (not (eqb (width_of net) 0)) _ on) in
      let third = leb-true row.third 511 (and_right (good_net row.net && on_net net row.gateway) (leb row.third 511) w) in
      let p : row.net < 4294967296 = omega (arith, own.first) in
      let q : row.gateway < 4294967296 = on_below (width_of net) net row.gateway n.class n.most n.first e in
      let r : row.third < 4294967296 = omega (arith, third) in
      rw (lt-ltb row.net 4294967296 p, lt-ltb row.gateway 4294967296 q, lt-ltb row.third 4294967296 r)

  rows_word : (rows : List Row) → every (writable_row net) rows ≡ true → every word_row rows ≡ true
  unfolding every
  rows_word [] e = refl
  rows_word (row ∷ rest) e =
      and_both (word_row row) (every word_row rest) (row_word row (and_left (writable_row net row) (every (writable_row net) rest) e))
      (rows_word rest (and_right (writable_row net row) (every (writable_row net) rest) e))

  -- of blocks that were read whole, no more than 128 rows
  body_word : (internal external : ℕ) (t : List ℕ) → octets_only t ≡ true → (rows : List Row) → body_of net internal external t ≡ whole rows → length rows ≤ 128
      → every word_row rows ≡ true
  unfolding writable_rows
  body_word internal external t o rows e few =
      let w = reads_write_back.writable net internal external t rows (record { good = g; plain = o; is = e }) few in
      rows_word rows (and_right (leb (length rows) 128) (every (writable_row net) rows) (and_left (leb (length rows) 128 && every (writable_row net) rows) (ordered 0 rows) w))

  within_word : (internal external start : ℕ) (t : List ℕ) → octets_only t ≡ true → (w : Walk) → body_of net internal external t ≡ w
      → every word_row (rows_read (read_within 128 (further start w))) ≡ true
  unfolding read_within further rows_read every
  within_word internal external start t o (whole rows) e =
      cond_elim (λ u. every word_row (rows_read u) ≡ true) (leb (length rows) 128) _ _
      (λ f. body_word internal external t o rows e (leb-true (length rows) 128 f)) (λ _. refl)
  within_word internal external start t o (broken offset) e = refl

broken_word : (offset : ℕ) → every word_row (rows_read (read_within 128 (broken offset))) ≡ true
unfolding read_within rows_read every
broken_word offset = refl

update_word : (net : ℕ) (o : List ℕ) → every is_octet o ≡ true → every word_row (rows_read (update_of 128 net o)) ≡ true
unfolding update_of walked_blocks octets_only
update_word net o e =
    cond_elim (λ w. every word_row (rows_read (read_within 128 w)) ≡ true) (ltb (length o) 16) _ _ (λ _. broken_word (length o))
    (λ _. cond_elim (λ w. every word_row (rows_read (read_within 128 w)) ≡ true) (good_net net && eqb (net_at o) net) _ _
    (λ g. within_word net (and_left (good_net net) (eqb (net_at o) net) g) (get_or o 10 0) (get_or o 11 0) 16 (drop 16 o) (octets_drop 16 o e) _ refl)
    (λ _. broken_word 12))

-- ---- S and R

-- the sequence number of a message that was read
unfoldable Carries : Result Message Refusal → Type 0
Carries (Ok m) = sequence_of m < 65536
Carries (Err refused) = true ≡ true

sequence_is : (k : Kind) (o : List ℕ) → sequence_of (meaning_of k o) ≡ sequence_at o
unfolding meaning_of
sequence_is K.Request o = refl
sequence_is K.Confirm o = refl
sequence_is K.Refuse o = refl
sequence_is K.Cease o = refl
sequence_is K.CeaseAck o = refl
sequence_is K.Hello o = refl
sequence_is K.IHeardYou o = refl
sequence_is K.Poll o = refl
sequence_is K.Update o = refl
sequence_is K.Error o = refl

octet_below : (o : List ℕ) → every is_octet o ≡ true → (i : ℕ) → get_or o i 0 < 256
octet_below o e i = ltb-true (get_or o i 0) 256 (every_get_or is_octet o i 0 e refl)

good_carries : (k : Kind) (o : List ℕ) → every is_octet o ≡ true → Carries (Ok (meaning_of k o))
unfolding Carries
good_carries k o e = rw (sequence_is k o) (omega (arith, octet_below o e 8, octet_below o e 9))

known_carries : (k : Option Kind) (o : List ℕ) → every is_octet o ≡ true → Carries (decode_as k o)
unfolding decode_as Carries
known_carries None o e = refl
known_carries (Some k) o e =
    cond_elim Carries (status_allowed k (status_at o)) _ (Err BadStatus)
    (λ _. cond_elim Carries (length_allowed k (length o)) (Ok (meaning_of k o)) (Err BadLength) (λ _. good_carries k o e) (λ _. refl)) (λ _. refl)

decode_carries : (o : List ℕ) → every is_octet o ≡ true → Carries (decode_of o)
unfolding decode_of
decode_carries o e = known_carries (kind_in o) o e

-- S and R of 16 bits
pub record Narrow (n : Neighbour) : Type 0 where
  pub s16 : n.s < 65536
  pub r16 : n.r < 65536

step_narrow : (g : Settings) (asn : ℕ) (n : Neighbour) (event : Event) (head : Head) → well_formed n ≡ true → n.s < 65536 → brought event n.r < 65536
    → Narrow (step_of g asn n event head).neighbour
step_narrow g asn n event head h s r =
    let x = step_of g asn n event head in
    let l = step_lawful g asn n event head h in
    let next : (n.s + 1) % 65536 < 65536 = omega arith in
    record {
      s16 =
          rw l.s_moves
          (cond_elim (λ (k : ℕ). k < 65536) (is_idle n.phase || is_idle x.neighbour.phase) 0 _ (λ _. omega arith)
          (λ _. cond_elim (λ (k : ℕ). k < 65536) (sends_poll x.reply) _ _ (λ _. next) (λ _. s)));
      r16 = rw l.r_moves (cond_elim (λ (k : ℕ). k < 65536) (is_idle x.neighbour.phase) 0 _ (λ _. omega arith) (λ _. r));
    }

-- ---- slots

-- what no rule of the gateway's bounds: address, AS, S, R, and the numbers of the rows (the seconds are bounded by their
-- sum)
pub record Fits (p : Peer) : Type 0 where
  pub address32 : p.address < 4294967296
  pub asn16 : p.asn < 65536
  pub numbers : Narrow p.neighbour
  pub rows32 : every word_row p.rows ≡ true

unfoldable pub narrow : Slot → Bool
narrow free = true
narrow (used p) =
    is_word p.address && ltb p.asn 65536 && ltb p.neighbour.s 65536 && ltb p.neighbour.r 65536 && every word_row p.rows

module _ (p : Peer) where
  pub narrow_fits : narrow (used p) ≡ true → Fits p
  unfolding narrow
  narrow_fits e =
      let a = is_word p.address in
      let b = ltb p.asn 65536 in
      let c = ltb p.neighbour.s 65536 in
      let d = ltb p.neighbour.r 65536 in
      let e4 = and_left (a && b && c && d) (every word_row p.rows) e in
      let e3 = and_left (a && b && c) d e4 in
      let e2 = and_left (a && b) c e3 in
      record {
        address32 = ltb-true p.address 4294967296 (and_left a b e2);
        asn16 = ltb-true p.asn 65536 (and_right a b e2);
        numbers =
            record {
              s16 = ltb-true p.neighbour.s 65536 (and_right (a && b) c e3);
              r16 = ltb-true p.neighbour.r 65536 (and_right (a && b && c) d e4);
            };
        rows32 = and_right (a && b && c && d) (every word_row p.rows) e;
      }

  fits_narrow : Fits p → narrow (used p) ≡ true
  unfolding narrow
  fits_narrow f =
      rw (
        lt-ltb p.address 4294967296 f.address32,
        lt-ltb p.asn 65536 f.asn16,
        lt-ltb p.neighbour.s 65536 f.numbers.s16,
        lt-ltb p.neighbour.r 65536 f.numbers.r16,
        f.rows32,
      )

moved_narrow : (p : Peer) → Fits p → (x : After) (rows : List Row) (s : Seconds) → Narrow x.neighbour → every word_row rows ≡ true
    → narrow (moved p x rows s).slot ≡ true
unfolding moved rows_in_phase every
moved_narrow p f x rows s n e =
    fits_narrow _
    (record {
      address32 = f.address32;
      asn16 = f.asn16;
      numbers = n;
      rows32 = cond_elim (λ l. every word_row l ≡ true) (is_up x.neighbour.phase) rows [] (λ _. e) (λ _. refl);
    })

event_brings : (event : Intrinsic) (r : ℕ) → brought (as_event event) r ≡ r
event_brings Start r = refl
event_brings Stop r = refl
event_brings Tick r = refl

event_narrow : (g : Settings) (event : Intrinsic) (slot : Slot) → SlotGood (cell slot) → narrow slot ≡ true → narrow (event_move g event slot).slot ≡ true
unfolding event_move no_move narrow cell
event_narrow g event free h e = refl
event_narrow g event (used p) h e =
    let f = narrow_fits p e in
    moved_narrow p f (step_of g p.asn p.neighbour (as_event event) no_octets) p.rows (seconds_after (as_event event) p)
    (step_narrow g p.asn p.neighbour (as_event event) no_octets h.neighbour f.numbers.s16 (rw (event_brings event p.neighbour.r) f.numbers.r16))
    f.rows32

after_narrow : (g : Settings) (asn : ℕ) (n : Neighbour) (o : List ℕ) (d : Result Message Refusal) → well_formed n ≡ true → Narrow n → Carries d
    → Narrow (after_message g asn n o d).neighbour
unfolding after_message Carries unanswered
after_narrow g asn n o (Ok m) h f c =
    step_narrow g asn n (Received m) (first_twelve o) h f.s16
    (cond_elim (λ (k : ℕ). k < 65536) (is_command (kind_of m)) (sequence_of m) n.r (λ _. c) (λ _. f.r16))
after_narrow g asn n o (Err refused) h f c = f

rows_narrow : (g : Settings) (n : Neighbour) (o : List ℕ) (d : Result Message Refusal) (rows : List Row) → every is_octet o ≡ true → every word_row rows ≡ true
    → every word_row (rows_after g n o d rows) ≡ true
unfolding rows_after
rows_narrow g n o (Ok m) rows h e =
    cond_elim (λ l. every word_row l ≡ true) (is_update m && is_up n.phase) _ rows (λ _. update_word g.net o h) (λ _. e)
rows_narrow g n o (Err refused) rows h e = e

message_narrow : (g : Settings) (o : List ℕ) (slot : Slot) → every is_octet o ≡ true → SlotGood (cell slot) → narrow slot ≡ true
    → narrow (message_move g o slot).slot ≡ true
unfolding message_move no_move narrow cell if_ok
message_narrow g o free h k e = refl
message_narrow g o (used p) h k e = go (eqb (answer_to g p.asn p.neighbour o) 0)
  where
    f : Fits p
    f = narrow_fits p e

    go : (b : Bool)
        → narrow (cond b (moved p (after_message g p.asn p.neighbour o (decode_of o)) (rows_after g p.neighbour o (decode_of o) p.rows) p.seconds)
        (refused_move g o p (answer_to g p.asn p.neighbour o))).slot ≡ true
    go true =
        moved_narrow p f (after_message g p.asn p.neighbour o (decode_of o)) (rows_after g p.neighbour o (decode_of o) p.rows) p.seconds
        (after_narrow g p.asn p.neighbour o (decode_of o) k.neighbour f.numbers (decode_carries o h))
        (rows_narrow g p.neighbour o (decode_of o) p.rows h f.rows32)
    go false = e

-- a newcomer is in Idle, all its numbers 0
new_narrow : (address asn : ℕ) → address < 4294967296 → asn < 65536 → narrow (used (new_peer address asn)) ≡ true
unfolding idle every
new_narrow address asn a b =
    fits_narrow _ (record { address32 = a; asn16 = b; numbers = record { s16 = omega arith; r16 = omega arith }; rows32 = refl })

-- ---- a model in the widths of a block and a table

pub record Kept (m : Model) : Type 0 where
  pub ok : Good m
  pub own : Fit own_fields (own_numbers m.settings)
  pub each : every narrow m.slots ≡ true

module _ (m : Model) (k : Kept m) where
  narrow_at : (i : ℕ) → narrow (slot_in m i) ≡ true
  unfolding slot_in narrow
  narrow_at i = every_get_or narrow m.slots i free k.each refl

  put_narrow : (a i : ℕ) (slot : Slot) → narrow slot ≡ true → every narrow (if_ok a (put m i slot) m).slots ≡ true
  unfolding if_ok put
  put_narrow a i slot s =
      cond_elim (λ (x : Model). every narrow x.slots ≡ true) (eqb a 0) _ m (λ _. every_set narrow m.slots i slot k.each s) (λ _. k.each)

  each_step : (call : Call) → fits_types call ≡ true → every narrow (step call m).model.slots ≡ true
  unfolding fits_types step add_turn remove_turn event_turn message_turn listing_turn turn_at narrow
  each_step (add address asn) h =
      put_narrow _ _ (used (new_peer address asn))
      (new_narrow address asn (ltb-true address 4294967296 (and_left (ltb address 4294967296) (ltb asn 65536) h))
      (ltb-true asn 65536 (and_right (ltb address 4294967296) (ltb asn 65536) h)))
  each_step (remove address) h = put_narrow _ _ free refl
  each_step (happen event a buffer) h =
      put_narrow _ (found_at m a) _ (event_narrow m.settings event (slot_in m (found_at m a)) (good_at m k.ok (found_at m a)) (narrow_at (found_at m a)))
  each_step (receive a o home buffer) h =
      put_narrow _ (found_at m a) _ (message_narrow m.settings o (slot_in m (found_at m a)) h (good_at m k.ok (found_at m a)) (narrow_at (found_at m a)))
  each_step (listing buffer) h = k.each

  pub kept_step : (call : Call) → fits_types call ≡ true → Kept (step call m).model
  kept_step call h =
      record {
        ok = good_step m k.ok call;
        own = subst (λ (g : Settings). Fit own_fields (own_numbers g)) (sym (step_settings call m)) k.own;
        each = each_step call h;
      }
