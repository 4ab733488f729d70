-- Laws of the call: its checks, a refusal, and the text written. Assumes nothing.
use Prim.Native.Nat.{ℕ, ◌≤◌, ◌<◌}
use native.Mathlib.Omega.{arith}
use borrow.Author.Tests.{eq-eqb, ne_eqb, eqb-true}
use mathlib.Core.Bool.{Bool, true, false, cond}
use mathlib.Core.Path.{◌≡◌, refl, sym, ap, ◌∙◌}
use mathlib.Core.List.{List, []}
use lib.Dec.{eqb}
use lib.ListN.{length}
use Rattle.checks.proofs.Laws.{and_left, and_right, and_both, cond_elim, check_passed, check_holds, check_fails, if_ok_holds}
use Rattle.checks.specs.Checks.{check}
use Rattle.checks.specs.Lists.{every}
use Rattle.octets.specs.Buffer.{over}
use Rattle.octets.specs.Numbers.{Octets}
use Rattle.octets_words.specs.Words.{words_of}
use Rattle.octets_words.proofs.Words.{words_length}
use Rattle.gateway_state.specs.declared.Outcome.{Outcome}
use Rattle.gateway_state.specs.Formed.{state_formed}
use Rattle.gateway_state.specs.Outcomes.{refused_of}
use Rattle.listing_lines.specs.Lines.{listing_text}
use Rattle.listing_lines.specs.Listing.{entries, listable, listing_checks, listing_outcome, listing_buffer}
use Rattle.listing.proofs.Calls as Numbers
use Rattle.model.specs.Model.{listing}
use Rattle.model.specs.Theorem.{outcome_of, buffer_of, buffer_left}
use Rattle.host_result.specs.Packed.{packed, bare}
use Rattle.host_state_block.specs.Block.{block_size, state_in}
use Rattle.host_state_block.specs.Formed.{block_fits, block_in_range, block_formed}
use Rattle.host_rules.specs.Held.{table_size, table_in, held, holds_state, as_gateway}
use Rattle.host_rules.specs.Calls.{held_outcome, number_of, packed_outcome, result_of, buffer_after}
use Rattle.host_listing.specs.Steps.{Lent}
use Rattle.host_listing.proofs.Laws.{typed}

-- ---- the table

table_in_lem : (table : List ℕ) → length table ≡ table_size → table_in table ≡ words_of table
unfolding table_in
table_in_lem table t = rw (eq-eqb (length table) table_size t)

table_long : (table : List ℕ) → length table ≡ table_size → length (table_in table) ≡ 3072
table_long table t = ap length (table_in_lem table t) ∙ words_length table ∙ omega (arith, t)

table_fits_lem : (table : List ℕ) → length (table_in table) ≡ 3072 → length table ≡ table_size
unfolding table_in
table_fits_lem table e = eqb-true (length table) table_size (go (eqb (length table) table_size) e)
  where
    go : (b : Bool) → length (cond b (words_of table) []) ≡ 3072 → b ≡ true
    go true e = refl
    go false e = absurd (omega (arith, e))

-- ---- the first check that fails answers

module _ (block table buffer : List ℕ) where
  answered : (held_outcome (listing buffer) block table).answer ≡ listing_checks (state_in block) (table_in table) buffer
  unfolding held_outcome as_gateway held outcome_of listing_outcome refused_of
  answered =
      if_ok_holds (listing_checks (state_in block) (table_in table) buffer) _ _
      (λ (o : Outcome). o.answer ≡ listing_checks (state_in block) (table_in table) buffer) sym refl

  number_is : block_fits block ≡ true → block_in_range block ≡ true → number_of (listing buffer) block table ≡ listing_checks (state_in block) (table_in table) buffer
  unfolding number_of
  number_is f r = check_holds (block_fits block) 20 _ f ∙ check_holds (block_in_range block) 1 _ r ∙ answered

module _ (block table : List ℕ) (octets : ℕ) where
  abbrev Answer : ℕ → Type 0
  Answer k = (buffer : List ℕ) → length buffer ≡ octets → k ≡ number_of (listing buffer) block table

  pub other_length : (length block ≡ block_size → ⊥) → Answer 20
  unfolding number_of
  other_length n buffer q = sym (check_fails (block_fits block) 20 _ (ne_eqb (length block) block_size n))

  module _ (e : length block ≡ block_size) where
    fits : block_fits block ≡ true
    fits = eq-eqb (length block) block_size e

    pub unformed : block_formed block ≡ false → Answer 1
    unfolding number_of block_formed check
    unformed f buffer q =
        sym (check_holds (block_fits block) 20 _ fits
        ∙ cond_elim (λ (n : ℕ). n ≡ 1) (block_in_range block) _ _
        (λ r. answered block table buffer ∙ sym (Numbers.unformed (state_in block) (table_in table) octets (rw r at f) buffer q)) (λ r. refl))

    module _ (f : block_formed block ≡ true) where
      ranged : block_in_range block ≡ true
      unfolding block_formed
      ranged = and_left (block_in_range block) (state_formed (state_in block)) f

      formed : state_formed (state_in block) ≡ true
      unfolding block_formed
      formed = and_right (block_in_range block) (state_formed (state_in block)) f

      -- the gateway's own number
      own : (k : ℕ) → ((buffer : List ℕ) → length buffer ≡ octets → k ≡ listing_checks (state_in block) (table_in table) buffer) → Answer k
      own k h buffer q = h buffer q ∙ sym (number_is block table buffer fits ranged)

      pub unfit : (length table ≡ table_size → ⊥) → Answer 2
      unfit n = own 2 (Numbers.unfit (state_in block) (table_in table) octets formed (λ l. n (table_fits_lem table l)))

      module _ (t : length table ≡ table_size) where
        pub lent : Lent block table
        lent = record { block_long = e; formed = formed; table_long = t }

        marks : every listable (entries (state_in block) (table_in table)) ≡ every listable (entries (state_in block) (words_of table))
        marks = ap (λ (l : List ℕ). every listable (entries (state_in block) l)) (table_in_lem table t)

        pub unmarked : every listable (entries (state_in block) (words_of table)) ≡ false → Answer 2
        unmarked m = own 2 (Numbers.unmarked (state_in block) (table_in table) octets formed (table_long table t) (marks ∙ m))

        module _ (m : every listable (entries (state_in block) (words_of table)) ≡ true) where
          pub short_buffer : octets < 65536 → Answer 3
          short_buffer b = own 3 (Numbers.short_buffer (state_in block) (table_in table) octets formed (table_long table t) (marks ∙ m) b)

          pub all_passed : 65536 ≤ octets → Answer 0
          all_passed b = own 0 (Numbers.all_passed (state_in block) (table_in table) octets formed (table_long table t) (marks ∙ m) b)

-- ---- refused, and carried out

module _ (block table buffer : List ℕ) (k : ℕ) (e : k ≡ number_of (listing buffer) block table) where
  abbrev Told : ℕ → List ℕ → Type 0
  Told r new = (r ≡ result_of (listing buffer) block table) × (new ≡ buffer_after (listing buffer) block table)

  -- a block that holds a state: what the gateway's own call tells
  module _ (h : holds_state block ≡ true) where
    own_number : k ≡ listing_checks (state_in block) (table_in table) buffer
    unfolding holds_state
    own_number =
        e ∙ number_is block table buffer (and_left (block_fits block) (block_in_range block) h) (and_right (block_fits block) (block_in_range block) h)

    told : (o : Outcome) (new : List ℕ)
        → (o ≡ listing_outcome (state_in block) (table_in table) buffer) × (new ≡ listing_buffer (state_in block) (table_in table) buffer)
        → Told (packed_outcome o) new
    unfolding result_of buffer_after held_outcome as_gateway held outcome_of buffer_left
    told o new q = (rw h (ap packed_outcome q.0), rw h q.1)

  bare_is : bare k ≡ packed_outcome (refused_of (state_in block) k)
  unfolding refused_of
  bare_is = refl

  -- one that holds none
  unheld : holds_state block ≡ false → (r : ℕ) → r ≡ bare k → Told r buffer
  unfolding result_of buffer_after buffer_of
  unheld h r q = (rw h (q ∙ ap bare e), rw h)

  pub refused : (k ≡ 0 → ⊥) → (r : ℕ) → r ≡ bare k → Told r buffer
  refused n r q = go (holds_state block) refl
    where
      go : (b : Bool) → holds_state block ≡ b → Told r buffer
      go true h =
          let o = Numbers.refused (state_in block) (table_in table) buffer k (own_number h) n (refused_of (state_in block) k) refl in
          let t = told h (refused_of (state_in block) k) buffer o in
          (q ∙ bare_is ∙ t.0, t.1)
      go false h = unheld h r q

  module _ (z : k ≡ 0) where
    holds : holds_state block ≡ true
    unfolding holds_state number_of
    holds =
        let p = check_passed (block_fits block) 20 _ refl (sym e ∙ z) in
        and_both (block_fits block) (block_in_range block) p.0 (check_passed (block_in_range block) 1 _ refl p.1).0

    module _ (o : Octets block) where
      room : ((state_formed (state_in block) ≡ true) × (length (table_in table) ≡ 3072)) × (length (listing_text (entries (state_in block) (table_in table))) ≤ length buffer)
      room = Numbers.text_room (state_in block) (table_in table) buffer k (own_number holds) z (typed block o)

      long : length table ≡ table_size
      long = table_fits_lem table room.0.1

      fits_block : length block ≡ block_size
      unfolding holds_state
      fits_block = eqb-true (length block) block_size (and_left (block_fits block) (block_in_range block) holds)

      same : table_in table ≡ words_of table
      same = table_in_lem table long

      pub text_room : Lent block table × (length (listing_text (entries (state_in block) (words_of table))) ≤ length buffer)
      text_room =
          (record { block_long = fits_block; formed = room.0.0; table_long = long }, rw (← same) room.1)

      pub text_word : (n : ℕ) → n ≡ length (listing_text (entries (state_in block) (words_of table))) → n < 65536
      text_word n q = Numbers.text_word (state_in block) (table_in table) buffer k (own_number holds) z (typed block o) n (rw same q)

      pub carried_out_lem : (n : ℕ) (new : List ℕ) (r : ℕ)
          → (n ≡ length (listing_text (entries (state_in block) (words_of table)))) × (new ≡ over (listing_text (entries (state_in block) (words_of table))) buffer)
          → r ≡ packed 0 n 0 → Told r new
      carried_out_lem n new r q w =
          let c = Numbers.carried_out_lem (state_in block) (table_in table) buffer k (own_number holds) z (typed block o) n new (rw same q) in
          let t = told holds (record { answer = 0; first = n; second = 0; state = state_in block }) new c in
          (w ∙ t.0, t.1)
