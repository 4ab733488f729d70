-- Laws of the message call for a host: each way it ends. Assumes nothing.
use Prim.Native.Nat.{ℕ, ◌≤◌, ◌<◌}
use native.Mathlib.Omega.{arith}
use borrow.Author.Tests.{eqb-true}
use mathlib.Core.Path.{◌≡◌, refl, sym, ◌∙◌, ap}
use mathlib.Core.Bool.{Bool, true, false}
use mathlib.Core.List.{List}
use lib.Dec.{ltb}
use lib.ListN.{length}
use lib.Seq.{sets}
use Rattle.checks.specs.Checks.{check, if_ok}
use Rattle.checks.proofs.Laws.{check_holds, check_fails, if_ok_new}
use Rattle.octets.specs.Numbers.{Octets}
use Rattle.octets_words.specs.Words.{word_octets}
use Rattle.nets.specs.Rows.{rows_of}
use Rattle.update_walk.specs.Body.{walked_blocks}
use Rattle.update_rows.specs.Storing.{walked_rows}
use Rattle.neighbour_machine.specs.declared.After.{After}
use Rattle.neighbour_machine.specs.declared.Reply.{Reply}
use Rattle.gateway_state.specs.declared.Slot.{Slot}
use Rattle.gateway_state.specs.declared.Outcome.{Outcome}
use Rattle.gateway_state.specs.Slots.{slot_at, slot_of, with_slot}
use Rattle.gateway_state.specs.Places.{row_counts}
use Rattle.gateway_state.specs.Outcomes.{refused_of}
use Rattle.gateway_rules.specs.declared.Verdict.{Verdict}
use Rattle.gateway_rules.specs.Home.{good_home}
use Rattle.gateway_rules.specs.Number.{message_number, named_reply}
use Rattle.gateway_rules.specs.Ruling.{keep, Ruling, receive_ruling, verdict_of}
use Rattle.gateway_rules.specs.Carried.{slot_after, outcome_after, refused_with}
use Rattle.gateway_rules.specs.Carried as Carried
use Rattle.gateway_rules.specs.Calls.{table_fits, buffer_fits, lent_checks, message_checks}
use Rattle.gateway_stages.specs.Stages.{keeping}
use Rattle.gateway_carry.specs.declared.Lengths.{Lengths}
use Rattle.gateway_carry.specs.Asked.{sendable, lengths_of, takes, change_of, ruling_of}
use Rattle.gateway_calls.proofs.Checks.{message_0}
use Rattle.gateway_calls.proofs.Calls.{Received, message_refused, number_asked, number_done, reach_asked, reach_done, message_asked, message_done}
use Rattle.model.specs.Model.{receive}
use Rattle.model.specs.Theorem.{outcome_of, table_left, buffer_left, buffer_of}
use Rattle.host_result.specs.Packed.{packed, bare}
use Rattle.host_state_block.specs.Block.{block_size, slot_start, slot_octets, block_of, state_in}
use Rattle.host_state_block.specs.Formed.{block_fits, block_in_range}
use Rattle.host_home.specs.Home.{home_in}
use Rattle.host_rules.specs.Held.{table_size, table_in, held, as_gateway}
use Rattle.host_rules.specs.Calls.{held_outcome}
use Rattle.host_rules.proofs.Held.{table_held, table_same, slot_stored}
use Rattle.host_rules.proofs.Left.{Left, left_20, left_1, left_by, left_refused}
use Rattle.host_calls.specs.Steps.{host_checks, host_lent, octets_after}
use Rattle.host_calls.proofs.Lent.{Good, lent_good}

module _ (block table buffer home : List ℕ) (a : ℕ) (m : List ℕ) where
  -- what the promise says of the number, the block, the table and the buffer after the call
  abbrev pub Heard : ℕ → List ℕ → List ℕ → List ℕ → Type 0
  Heard r b t x = Left (receive a m home buffer) block table r b t x

  -- by what the gateway's call leaves
  module _ (long : length block ≡ block_size) (ranged : block_in_range block ≡ true) (out : Outcome) (t b : List ℕ)
      (h : Received (state_in block) (table_in table) buffer (home_in home) a m out t b) where
    heard_by : (block' table' : List ℕ) → block' ≡ if_ok out.answer (block_of out.state) block → table' ≡ if_ok out.answer (word_octets t) table
        → Heard (packed out.answer out.first out.second) block' table' b
    unfolding held_outcome outcome_of table_left buffer_left as_gateway held
    heard_by block' table' p q = left_by (receive a m home buffer) block table long ranged out t b h.0 h.1.0 h.1.1 block' table' p q

    heard_refused : (out.answer ≡ 0 → ⊥) → Heard (packed out.answer out.first out.second) block table b
    unfolding held_outcome outcome_of table_left buffer_left as_gateway held
    heard_refused n = left_refused (receive a m home buffer) block table long ranged out t b h.0 h.1.0 h.1.1 n

  -- refused before the message is read
  pub receive_refused : (k : ℕ) → (k ≡ 0 → ⊥) → k ≡ host_checks block (message_checks (state_in block) (table_in table) buffer (home_in home) a)
      → Heard (bare k) block table buffer
  unfolding host_checks refused_of buffer_of
  receive_refused k n e = go (block_fits block) refl (block_in_range block) refl e
    where
      go : (f : Bool) → block_fits block ≡ f → (g : Bool) → block_in_range block ≡ g
          → k ≡ check f 20 (check g 1 (message_checks (state_in block) (table_in table) buffer (home_in home) a))
          → Heard (bare k) block table buffer
      go false f g r e = rw (e ∙ check_fails false 20 _ refl) (left_20 (receive a m home buffer) block table f)
      go true f false r e =
          rw (e ∙ check_holds true 20 _ refl ∙ check_fails false 1 _ refl) (left_1 (receive a m home buffer) block table f r)
      go true f true r e =
          heard_refused (eqb-true (length block) block_size f) r (refused_of (state_in block) k) (table_in table) buffer
          (message_refused (state_in block) (table_in table) buffer (home_in home) a m k (e ∙ check_holds true 20 _ refl ∙ check_holds true 1 _ refl) n (refused_of (state_in block) k) refl) n

  -- once the checks passed
  module _ (good : 0 ≡ host_lent block table buffer) where
    met : Good block table buffer
    met = lent_good block table buffer (sym good)

    module _ (g : good_home (state_in block).settings (home_in home) ≡ true) where
      module _ (i : ℕ) (slot : Slot) (p : i ≡ slot_of (state_in block) a) (h : i < 8) (s : slot ≡ slot_at (state_in block) i) where
        checks : 0 ≡ message_checks (state_in block) (table_in table) buffer (home_in home) a
        checks = message_0 (state_in block) (table_in table) buffer a (sym met.lent) (home_in home) g (rw p at h)

        pub heard_room : (length block ≡ block_size) × (i < 8) × (length table ≡ table_size) × (2048 ≤ length buffer)
        heard_room = (met.long, h, met.table_size_lem, met.room)

        -- a number that the ruling answers with
        module _ (number : ℕ) (x : number ≡ 0 → ⊥)
            (is : message_number 128 (state_in block).settings slot.asn slot.neighbour m ≡ number) (named : Reply)
            (named-is : named ≡ named_reply (state_in block).settings slot.neighbour m number) where
          pub refuse_asked : (sendable named (home_in home) ≡ true) × (2048 ≤ length buffer)
          refuse_asked = number_asked (state_in block) (table_in table) buffer (home_in home) a m 0 checks refl i slot p s number x is named named-is

          pub refuse_done : (r : ℕ) (b : List ℕ)
              → r ≡ packed number (lengths_of named (rows_of (home_in home))).first (lengths_of named (rows_of (home_in home))).second
              → b ≡ Carried.buffer_after buffer named (rows_of (home_in home)) → Heard r block table b
          unfolding lengths_of refused_with
          refuse_done r b e k =
              let out = refused_with (state_in block) number named (rows_of (home_in home)) in
              rw (e, k)
              (heard_refused met.long met.ranged out (table_in table) (Carried.buffer_after buffer named (rows_of (home_in home)))
              (number_done (state_in block) (table_in table) buffer (home_in home) a m 0 checks refl i slot p s number x is named named-is out
              (Carried.buffer_after buffer named (rows_of (home_in home))) refl refl) x)

        module _ (o : Octets block) (q : Octets table) where
          -- a Hello or an I-H-U in Up
          module _ (after : After) (is : keeping after ≡ receive_ruling 128 (state_in block).settings slot.asn slot.neighbour m) where
            pub note_asked : (sendable after.reply (home_in home) ≡ true) × (2048 ≤ length buffer)
            note_asked = reach_asked (state_in block) (table_in table) buffer (home_in home) a m 0 checks refl i slot p s after is

            pub note_done : (lengths : Lengths) (next : Slot) (r : ℕ) (b x : List ℕ) → lengths ≡ lengths_of after.reply (rows_of (home_in home))
                → ((y : Ruling) → y.neighbour ≡ after.neighbour → y.change ≡ keep → next ≡ slot_after slot y)
                → r ≡ packed 0 lengths.first lengths.second → b ≡ sets block (slot_start i) (slot_octets next)
                → x ≡ Carried.buffer_after buffer after.reply (rows_of (home_in home)) → Heard r b table x
            note_done lengths next r b x l w e f k =
                let st = with_slot (state_in block) i next in
                let x' = Carried.buffer_after buffer after.reply (rows_of (home_in home)) in
                rw (e, k)
                (heard_by met.long met.ranged (record { answer = 0; first = lengths.first; second = lengths.second; state = st }) (table_in table) x'
                (reach_done (state_in block) (table_in table) buffer (home_in home) a m 0 checks refl i slot p s after is lengths next st x' l w refl refl) b table
                (f ∙ slot_stored block met.long o met.ranged i next h ∙ sym (if_ok_new 0 _ _ refl)) (table_same table q met.table_size_lem ∙ sym (if_ok_new 0 _ _ refl)))

          module _ (v : Verdict) (w : v ≡ verdict_of (receive_ruling 128 (state_in block).settings slot.asn slot.neighbour m)) where
            pub take_asked : (sendable v.reply (home_in home) ≡ true) × (takes v.effect (walked_blocks (state_in block).settings.net m) ≡ true)
            take_asked = (message_asked (state_in block) (table_in table) buffer (home_in home) a m 0 checks refl i slot p s v w).1

            pub take_done : (r : ℕ) (b t x : List ℕ)
                → r ≡ packed v.answer (lengths_of v.reply (rows_of (home_in home))).first (lengths_of v.reply (rows_of (home_in home))).second
                → b ≡ if_ok v.answer (sets block (slot_start i) (slot_octets (slot_after slot (ruling_of v (walked_rows (walked_blocks (state_in block).settings.net m)))))) block
                → ((counts : List ℕ) → t ≡ if_ok v.answer (octets_after table counts i (change_of v.effect (walked_rows (walked_blocks (state_in block).settings.net m)))) table)
                → x ≡ Carried.buffer_after buffer v.reply (rows_of (home_in home)) → Heard r b t x
            unfolding octets_after lengths_of ruling_of outcome_after
            take_done r b t x e f n k =
                let st = state_in block in
                let rows = walked_rows (walked_blocks st.settings.net m) in
                let out = outcome_after st i slot (ruling_of v rows) (rows_of (home_in home)) in
                let t' = Carried.table_after (table_in table) (row_counts st) i (change_of v.effect rows) in
                let x' = Carried.buffer_after buffer v.reply (rows_of (home_in home)) in
                rw (e, k)
                (heard_by met.long met.ranged out t' x'
                (message_done st (table_in table) buffer (home_in home) a m 0 checks refl i slot p s v w out t' x' refl refl refl) b t
                (f ∙ ap (λ (y : List ℕ). if_ok v.answer y block) (slot_stored block met.long o met.ranged i _ h))
                (n (row_counts st) ∙ ap (λ (y : List ℕ). if_ok v.answer (word_octets (Carried.table_after y (row_counts st) i (change_of v.effect rows))) table) (sym (table_held table met.table_size_lem))))
