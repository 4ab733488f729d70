-- A model in its widths as a host keeps it, and one call on that. Assumes nothing.
use Prim.Native.Nat.{ℕ}
use native.Mathlib.Omega.{arith}
use mathlib.Core.Path.{◌≡◌, refl, sym, ap, ◌∙◌}
use mathlib.Core.Bool.{Bool, true, false}
use mathlib.Core.List.{List, [], ◌∷◌}
use lib.Dec.{eqb}
use lib.ListN.{length, length-append}
use lib.Seq.{drop_at, take_at}
use borrow.Author.Tests.{le-leb, eq-eqb, eqb-true, eqb-false}
use Rattle.checks.specs.Checks.{if_ok}
use Rattle.checks.proofs.Laws.{and_both, if_ok_new, if_ok_old}
use Rattle.octets_words.specs.Words.{word_octets}
use Rattle.octets_words.proofs.Words.{word_octets_length, words_of_octets}
use Rattle.gateway_state.specs.declared.Slot.{Slot}
use Rattle.gateway_state.specs.declared.State.{State}
use Rattle.model.specs.Model.{Call, Model, step}
use Rattle.model.specs.Theorem.{outcome_of, table_left, seen_of, state_of, table_of}
use Rattle.model.proofs.Represent.{eight_of, table_length}
use Rattle.model.proofs.Simulation.{represent, leaves}
use Rattle.host_state_block.specs.Block.{own_fields, slot_fields, own_size, slot_size, block_size, own_numbers, slot_numbers, own_octets, slot_octets, slots_octets, block_of}
use Rattle.host_state_block.specs.Formed.{in_range, all_in_range, block_fits, block_in_range}
use Rattle.host_state_block.specs.Claims.{SlotsFit, StateFits}
use Rattle.host_state_block.specs.Layout.{Fit}
use Rattle.host_state_block.proofs.Fields.{octets_total, numbers_back}
use Rattle.host_state_block.proofs.Slots.{slot_length, slots_length}
use Rattle.host_state_block.proofs.Trip.{written_reads_back}
use Rattle.host_rules.specs.Held.{table_size, table_in, held, holds_state, as_gateway}
use Rattle.host_rules.specs.Calls.{held_outcome, number_of, result_of, block_after, table_after, buffer_after}
use Rattle.host_theorem.specs.Theorem.{Lent, host_step, HostSeen, as_host_sees}
use Rattle.host_theorem.proofs.Narrow.{Kept}
use Rattle.host_theorem.proofs.Fields.{phase_small, mode_small, state_fits, table_words}
use Rattle.host_theorem.proofs.Refused.{gateway_refused, number_is}

-- ---- a block that was written holds a state

slot_in_range : (slot : Slot) → Fit slot_fields (slot_numbers slot) → in_range (slot_octets slot) ≡ true
unfolding in_range slot_octets slot_numbers
slot_in_range slot f =
    rw (numbers_back slot_fields (slot_numbers slot) f, le-leb _ 4 (phase_small slot.neighbour.phase), le-leb _ 2 (mode_small slot.neighbour.mode))

slots_in_range : (slots : List Slot) → SlotsFit slots → all_in_range (length slots) (slots_octets slots) ≡ true
unfolding all_in_range slots_octets
slots_in_range [] f = refl
slots_in_range (slot ∷ rest) f =
    rw (take_at (slot_octets slot) (slots_octets rest) slot_size (slot_length slot), drop_at (slot_octets slot) (slots_octets rest) slot_size (slot_length slot))
    (and_both (in_range (slot_octets slot)) (all_in_range (length rest) (slots_octets rest)) (slot_in_range slot f.0) (slots_in_range rest f.1))

module _ (st : State) (f : StateFits st) where
  own_length : length (own_octets st.settings) ≡ own_size
  unfolding own_octets
  own_length = octets_total own_fields (own_numbers st.settings)

  block_length : length (block_of st) ≡ block_size
  unfolding block_of
  block_length =
      length-append (own_octets st.settings) (slots_octets st.slots) ∙ omega (arith, own_length, slots_length st.slots, f.eight)

  block_in_range_lem : block_in_range (block_of st) ≡ true
  unfolding block_in_range block_of
  block_in_range_lem =
      rw (drop_at (own_octets st.settings) (slots_octets st.slots) own_size own_length)
      (ap (λ (n : ℕ). all_in_range n (slots_octets st.slots)) (sym f.eight) ∙ slots_in_range st.slots f.slots)

  block_holds_lem : holds_state (block_of st) ≡ true
  unfolding holds_state
  block_holds_lem = and_both (block_fits (block_of st)) (block_in_range (block_of st)) (eq-eqb (length (block_of st)) block_size block_length) block_in_range_lem

-- ---- what the host keeps

unfoldable pub lent_of : Model → Lent
lent_of m = record { block = block_of (state_of m); table = word_octets (table_of m) }

module _ (m : Model) (k : Kept m) where
  table_back : table_in (word_octets (table_of m)) ≡ table_of m
  unfolding table_in
  table_back =
      let e : length (word_octets (table_of m)) ≡ table_size = word_octets_length (table_of m) ∙ omega (arith, table_length m k.ok) in
      rw (eq-eqb (length (word_octets (table_of m))) table_size e) (words_of_octets (table_of m) (table_words m k))

  -- 02: "A block written and read back gives the same state", and the table
  pub held_is : held (block_of (state_of m)) (word_octets (table_of m)) ≡ represent m
  unfolding held represent
  held_is =
      let s = written_reads_back (state_of m) (state_fits m k) in
      let t = table_back in
      λ i. record { state = s i; table = t i }

  holds_is : holds_state (block_of (state_of m)) ≡ true
  holds_is = block_holds_lem (state_of m) (state_fits m k)

  module _ (call : Call) where
    outcome_is : held_outcome call (block_of (state_of m)) (word_octets (table_of m)) ≡ outcome_of (as_gateway call) (represent m)
    unfolding held_outcome
    outcome_is = ap (outcome_of (as_gateway call)) held_is

    answer_is : number_of call (block_of (state_of m)) (word_octets (table_of m)) ≡ (outcome_of (as_gateway call) (represent m)).answer
    answer_is = number_is call (block_of (state_of m)) (word_octets (table_of m)) holds_is ∙ rw outcome_is

    -- what is left where a call is refused is what was there
    kept_eight : length (represent m).state.slots ≡ 8
    unfolding represent
    kept_eight = eight_of m k.ok

    same_state_lem : ((outcome_of (as_gateway call) (represent m)).answer ≡ 0 → ⊥) → state_of m ≡ (outcome_of (as_gateway call) (represent m)).state
    unfolding represent
    same_state_lem z = sym (gateway_refused (as_gateway call) (represent m) kept_eight z).state

    same_table : ((outcome_of (as_gateway call) (represent m)).answer ≡ 0 → ⊥) → table_of m ≡ table_left (as_gateway call) (represent m)
    unfolding represent
    same_table z = sym (gateway_refused (as_gateway call) (represent m) kept_eight z).table

    either : {A : Type 0} (n : ℕ) (new old : A) → ((n ≡ 0 → ⊥) → old ≡ new) → if_ok n new old ≡ new
    either n new old h = go (eqb n 0) refl
      where
        go : (b : Bool) → eqb n 0 ≡ b → if_ok n new old ≡ new
        go true e = if_ok_new n new old (eqb-true n 0 e)
        go false e = let z = eqb-false n 0 e in if_ok_old n new old z ∙ h z

    block_is : block_after call (block_of (state_of m)) (word_octets (table_of m)) ≡ block_of (state_of (step (as_gateway call) m).model)
    unfolding block_after
    block_is =
        rw (answer_is, outcome_is)
        (either (outcome_of (as_gateway call) (represent m)).answer _ (block_of (state_of m)) (λ z. ap block_of (same_state_lem z))
        ∙ ap block_of (leaves m k.ok (as_gateway call)).state)

    table_is : table_after call (block_of (state_of m)) (word_octets (table_of m)) ≡ word_octets (table_of (step (as_gateway call) m).model)
    unfolding table_after
    table_is =
        rw (answer_is, held_is)
        (either (outcome_of (as_gateway call) (represent m)).answer _ (word_octets (table_of m)) (λ z. ap word_octets (same_table z))
        ∙ ap word_octets (leaves m k.ok (as_gateway call)).table)

    pub host_step_is : host_step call (lent_of m) ≡ lent_of (step (as_gateway call) m).model
    unfolding host_step lent_of
    host_step_is = λ i. record { block = block_is i; table = table_is i }

    pub host_seen_is :
        ◌≡◌ {A = HostSeen}
        (record { result = result_of call (lent_of m).block (lent_of m).table; buffer = buffer_after call (lent_of m).block (lent_of m).table })
        (as_host_sees (seen_of (as_gateway call) (represent m)))
    unfolding result_of buffer_after lent_of as_host_sees seen_of
    host_seen_is = rw (holds_is, outcome_is, held_is)
