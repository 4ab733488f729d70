-- Laws of Start, Stop and tick for a host: each way they end. Assumes nothing.
use Prim.Native.Nat.{ℕ, ◌≤◌, ◌<◌}
use native.Mathlib.Omega.{arith}
use borrow.Author.Tests.{eqb-true}
use mathlib.Core.Path.{◌≡◌, refl, sym, ◌∙◌, ap}
use mathlib.Core.Bool.{Bool, true, false}
use mathlib.Core.List.{List, []}
use lib.ListN.{length}
use lib.Seq.{sets}
use Rattle.checks.specs.Checks.{check, if_ok}
use Rattle.checks.proofs.Laws.{check_holds, check_fails, if_ok_new}
use Rattle.octets.specs.Numbers.{Octets}
use Rattle.octets_words.specs.Words.{words_of, word_octets, row_numbers}
use Rattle.nets.specs.Rows.{rows_of}
use Rattle.update_walk.specs.Body.{walked_blocks}
use Rattle.update_rows.specs.Storing.{walked_rows}
use Rattle.neighbour.specs.declared.Phase.TheVariants.{Up}
use Rattle.neighbour.specs.declared.Settings.{Settings}
use Rattle.neighbour.specs.declared.Neighbour.{Neighbour}
use Rattle.neighbour_seconds.specs.Seconds.{seconds_formed}
use Rattle.neighbour_machine.specs.declared.Event.{Event}
use Rattle.neighbour_machine.specs.declared.Event.TheVariants.{Tick}
use Rattle.neighbour_machine.specs.declared.After.{After}
use Rattle.neighbour_machine.specs.Intrinsics.{Intrinsic, as_event}
use Rattle.neighbour_machine.specs.Table.{unanswered}
use Rattle.neighbour_machine.specs.Tick.{on_tick}
use Rattle.neighbour_machine.specs.Step.{step_of}
use Rattle.gateway_state.specs.declared.Slot.{Slot}
use Rattle.gateway_state.specs.declared.Outcome.{Outcome}
use Rattle.gateway_state.specs.Slots.{slot_at, slot_of, with_slot}
use Rattle.gateway_state.specs.Places.{row_counts}
use Rattle.gateway_state.specs.Outcomes.{refused_of}
use Rattle.gateway_state.proofs.Theorems.{formed_slot}
use Rattle.gateway_rules.specs.declared.Verdict.{Verdict}
use Rattle.gateway_rules.specs.Ruling.{keep, Ruling, stepped, verdict_of}
use Rattle.gateway_rules.specs.Seconds.{has_time, booked}
use Rattle.gateway_rules.specs.Carried.{slot_after, outcome_after}
use Rattle.gateway_rules.specs.Carried as Carried
use Rattle.gateway_rules.specs.Calls.{table_fits, buffer_fits, lent_checks, event_checks}
use Rattle.gateway_rules.proofs.Checks.{Passed}
use Rattle.gateway_carry.specs.Asked.{sendable, lengths_of, takes, change_of, ruling_of}
use Rattle.gateway_calls.proofs.Checks.{event_0, event_met}
use Rattle.gateway_calls.proofs.Calls.{Happened, event_refused, event_asked, event_done, event_counted}
use Rattle.model.specs.Model.{happen}
use Rattle.model.specs.Theorem.{outcome_of, table_left, buffer_left, buffer_of}
use Rattle.host_result.specs.Packed.{packed, bare}
use Rattle.host_state_block.specs.Block.{block_size, slot_start, slot_octets, block_of, state_in}
use Rattle.host_state_block.specs.Formed.{block_fits, block_in_range}
use Rattle.host_home.specs.Home.{home_in}
use Rattle.host_rules.specs.Held.{table_size, table_in, held, as_gateway}
use Rattle.host_rules.specs.Calls.{held_outcome, result_of, block_after, table_after, buffer_after}
use Rattle.host_rules.proofs.Held.{table_held, table_same, slot_stored}
use Rattle.host_rules.proofs.Left.{Left, left_20, left_1, left_by, left_refused}
use Rattle.host_calls.specs.Steps.{host_checks, host_lent, octets_after}
use Rattle.host_calls.proofs.Lent.{Good, lent_good}

-- what the promise says of the number, the block, the table and the buffer after them
abbrev pub Answered : Event → List ℕ → List ℕ → List ℕ → ℕ → ℕ → List ℕ → List ℕ → List ℕ → Type 0
Answered event block table buffer a r b t x =
    ((e : Intrinsic) → event ≡ as_event e → r ≡ result_of (happen e a buffer) block table)
    × (((e : Intrinsic) → event ≡ as_event e → b ≡ block_after (happen e a buffer) block table)
    × (((e : Intrinsic) → event ≡ as_event e → t ≡ table_after (happen e a buffer) block table)
    × ((e : Intrinsic) → event ≡ as_event e → x ≡ buffer_after (happen e a buffer) block table)))

module _ (event : Event) (block table buffer : List ℕ) (a : ℕ) where
  answered : (r : ℕ) (b t x : List ℕ) → ((e : Intrinsic) → event ≡ as_event e → Left (happen e a buffer) block table r b t x)
      → Answered event block table buffer a r b t x
  answered r b t x f = (λ e q. (f e q).0, (λ e q. (f e q).1.0, (λ e q. (f e q).1.1.0, λ e q. (f e q).1.1.1)))

  -- by what the gateway's call leaves
  module _ (long : length block ≡ block_size) (ranged : block_in_range block ≡ true) (out : Outcome) (t b : List ℕ)
      (h : Happened (state_in block) (table_in table) buffer a event out t b) where
    pub answered_by : (block' table' : List ℕ) → block' ≡ if_ok out.answer (block_of out.state) block → table' ≡ if_ok out.answer (word_octets t) table
        → Answered event block table buffer a (packed out.answer out.first out.second) block' table' b
    unfolding held_outcome outcome_of table_left buffer_left as_gateway held
    answered_by block' table' p q =
        answered _ _ _ _ (λ e i. left_by (happen e a buffer) block table long ranged out t b (h.outcome e i) (h.rows e i) (h.octets e i) block' table' p q)

    pub answered_refused : (out.answer ≡ 0 → ⊥) → Answered event block table buffer a (packed out.answer out.first out.second) block table b
    unfolding held_outcome outcome_of table_left buffer_left as_gateway held
    answered_refused n =
        answered _ _ _ _ (λ e i. left_refused (happen e a buffer) block table long ranged out t b (h.outcome e i) (h.rows e i) (h.octets e i) n)

  -- refused before anything is done
  pub happen_refused : (k : ℕ) → (k ≡ 0 → ⊥)
      → ((e : Intrinsic) → event ≡ as_event e → k ≡ host_checks block (event_checks e (state_in block) (table_in table) buffer a))
      → Answered event block table buffer a (bare k) block table buffer
  unfolding host_checks refused_of buffer_of
  happen_refused k n c = go (block_fits block) refl (block_in_range block) refl c
    where
      go : (f : Bool) → block_fits block ≡ f → (g : Bool) → block_in_range block ≡ g
          → ((e : Intrinsic) → event ≡ as_event e → k ≡ check f 20 (check g 1 (event_checks e (state_in block) (table_in table) buffer a)))
          → Answered event block table buffer a (bare k) block table buffer
      go false f g r c = answered _ _ _ _ (λ i x. rw (c i x ∙ check_fails false 20 _ refl) (left_20 (happen i a buffer) block table f))
      go true f false r c =
          answered _ _ _ _ (λ i x. rw (c i x ∙ check_holds true 20 _ refl ∙ check_fails false 1 _ refl) (left_1 (happen i a buffer) block table f r))
      go true f true r c =
          answered_refused (eqb-true (length block) block_size f) r (refused_of (state_in block) k) (table_in table) buffer
          (event_refused event (state_in block) (table_in table) buffer a k (λ i x. c i x ∙ check_holds true 20 _ refl ∙ check_holds true 1 _ refl) n (refused_of (state_in block) k) refl) n

  -- once the checks passed
  module _ (good : 0 ≡ host_lent block table buffer) where
    met : Good block table buffer
    met = lent_good block table buffer (sym good)

    module _ (i : ℕ) (p : i ≡ slot_of (state_in block) a) where
      -- the slot is there
      module _ (h : i < 8) (found : Slot) (s : found ≡ slot_at (state_in block) i) where
        passed : Passed (state_in block) (table_in table) buffer a
        passed = event_met (state_in block) (table_in table) buffer a (sym met.lent) i p h

        pub found_formed : seconds_formed found.seconds ≡ true
        found_formed = rw s (formed_slot (state_in block) i passed.formed).1.seconds

        pub found_room : (length block ≡ block_size) × (i < 8) × (length table ≡ table_size) × (2048 ≤ length buffer)
        found_room = (met.long, h, met.table_size_lem, met.room)

        -- and its clock has room; then the slot with a tick booked
        module _ (time : has_time event (slot_at (state_in block) i).seconds ≡ true) (slot : Slot) (k : slot ≡ booked event found) where
          checks : (e : Intrinsic) → event ≡ as_event e → 0 ≡ event_checks e (state_in block) (table_in table) buffer a
          checks = event_0 (state_in block) (table_in table) buffer a (sym met.lent) i p h event time

          slot_is : slot ≡ booked event (slot_at (state_in block) i)
          slot_is = k ∙ ap (booked event) s

          module _ (o : Octets block) (q : Octets table) where
            -- a tick that only counts
            pub happen_counted : (n : Neighbour) (next : Slot) → event ≡ Tick → slot.neighbour.phase ≡ Up → ((g : Settings) → unanswered n ≡ on_tick g slot.neighbour) → n.phase ≡ Up
                → ((x : Ruling) → x.neighbour ≡ n → x.change ≡ keep → next ≡ slot_after slot x)
                → Answered event block table buffer a (bare 0) (sets block (slot_start i) (slot_octets next)) table buffer
            happen_counted n next tick up left still w =
                answered_by met.long met.ranged (record { answer = 0; first = 0; second = 0; state = with_slot (state_in block) i next }) (table_in table) buffer
                (event_counted event (state_in block) (table_in table) buffer a 0 checks refl passed i slot n next p slot_is tick up left still w (with_slot (state_in block) i next) refl)
                (sets block (slot_start i) (slot_octets next)) table
                (slot_stored block met.long o met.ranged i next h ∙ sym (if_ok_new 0 _ _ refl)) (table_same table q met.table_size_lem ∙ sym (if_ok_new 0 _ _ refl))

            module _ (after : After) (v : Verdict) (m : after ≡ step_of (state_in block).settings slot.asn slot.neighbour event (record { first = 0; second = 0; third = 0 }))
                (w : v ≡ verdict_of (stepped slot.neighbour after)) where
              pub happen_asked : (sendable v.reply (home_in []) ≡ true) × (takes v.effect (walked_blocks (state_in block).settings.net []) ≡ true)
              unfolding row_numbers words_of
              happen_asked = (event_asked event (state_in block) (table_in table) buffer a 0 checks refl passed i slot after v p slot_is m w []).1

              pub happen_done : (r : ℕ) (b t x : List ℕ)
                  → r ≡ packed v.answer (lengths_of v.reply (rows_of (home_in []))).first (lengths_of v.reply (rows_of (home_in []))).second
                  → b ≡ if_ok v.answer (sets block (slot_start i) (slot_octets (slot_after slot (ruling_of v (walked_rows (walked_blocks (state_in block).settings.net [])))))) block
                  → ((counts : List ℕ) → t ≡ if_ok v.answer (octets_after table counts i (change_of v.effect (walked_rows (walked_blocks (state_in block).settings.net [])))) table)
                  → x ≡ Carried.buffer_after buffer v.reply (rows_of (home_in []))
                  → Answered event block table buffer a r b t x
              unfolding row_numbers words_of octets_after lengths_of ruling_of outcome_after rows_of
              happen_done r b t x e f g k =
                  let st = state_in block in
                  let rows = walked_rows (walked_blocks st.settings.net []) in
                  let out = outcome_after st i slot (ruling_of v rows) (rows_of []) in
                  let t' = Carried.table_after (table_in table) (row_counts st) i (change_of v.effect rows) in
                  let x' = Carried.buffer_after buffer v.reply (rows_of []) in
                  let done = event_done event st (table_in table) buffer a 0 checks refl passed i slot after v p slot_is m w [] out t' x' refl refl refl in
                  rw (e, k)
                  (answered_by met.long met.ranged out t' x' done b t
                  (f ∙ ap (λ (y : List ℕ). if_ok v.answer y block) (slot_stored block met.long o met.ranged i _ h))
                  (g (row_counts st) ∙ ap (λ (y : List ℕ). if_ok v.answer (word_octets (Carried.table_after y (row_counts st) i (change_of v.effect rows))) table) (sym (table_held table met.table_size_lem))))
