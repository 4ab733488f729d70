-- Laws of fresh, add and remove on a block: each way they end. Assumes nothing.
use Prim.Native.Nat.{ℕ, ◌≤◌, ◌<◌}
use native.Mathlib.Omega.{arith}
use borrow.Author.Tests.{eq-eqb, ne_eqb, lt-ltb, le-ltb}
use mathlib.Core.Path.{◌≡◌, refl, sym, ◌∙◌, ap}
use mathlib.Core.Bool.{Bool, true, false, not, ◌&&◌}
use mathlib.Core.List.{List, ◌++◌, append-nil}
use lib.Dec.{ltb}
use lib.ListN.{length, length-append, drop_of_length-le}
use lib.Seq.{sets}
use Rattle.checks.specs.Checks.{check, if_ok}
use Rattle.checks.proofs.Laws.{and_left, and_right, check_holds, check_fails, if_ok_new, if_ok_old, if_ok_holds}
use Rattle.octets.specs.Numbers.{Octets}
use Rattle.octets.specs.Buffer.{over}
use Rattle.neighbour.specs.declared.Settings.{Settings}
use Rattle.neighbour.specs.Record.{is_idle}
use Rattle.gateway_state.specs.declared.Slot.{Slot}
use Rattle.gateway_state.specs.declared.State.{State}
use Rattle.gateway_state.specs.declared.Outcome.{Outcome}
use Rattle.gateway_state.specs.Slots.{newcomer, free_slot, slot_at, with_slot, slot_of, present, lowest_free}
use Rattle.gateway_state.specs.Formed.{good_peer, state_formed}
use Rattle.gateway_state.specs.Outcomes.{silent_of}
use Rattle.gateway_slots.specs.Calls.{free_slots, empty_state, zero_state, fresh_answer, fresh_of, add_answer, add_of, remove_answer, remove_of}
use Rattle.model.specs.Model.{Call, add, remove}
use Rattle.model.specs.Theorem.{outcome_of}
use Rattle.host_result.specs.Packed.{bare}
use Rattle.host_state_block.specs.Block.{block_size, slot_start, own_octets, slot_octets, slots_octets, block_of, state_in}
use Rattle.host_state_block.specs.Formed.{block_fits, block_in_range, block_formed}
use Rattle.host_state_block.proofs.Slots.{slots_length}
use Rattle.host_state_block.proofs.Trip.{own_length}
use Rattle.host_rules.specs.Held.{held, as_gateway}
use Rattle.host_rules.specs.Calls.{held_outcome, result_of, block_after, fresh_number, fresh_block, fresh_result}
use Rattle.host_rules.proofs.Held.{slot_stored}
use Rattle.host_rules.proofs.Left.{left_20, left_1, left_by, left_refused}

-- what the promise says of the number and the block, whatever table the host has
abbrev pub Kept : Call → List ℕ → ℕ → List ℕ → Type 0
Kept call block r b = record { value : (table : List ℕ) → r ≡ result_of call block table; block_after : (table : List ℕ) → b ≡ block_after call block table }

-- a call that answers this number, with this state
abbrev Silent : Call → List ℕ → ℕ → State → Type 0
Silent call block k st = (table : List ℕ) → silent_of k st (state_in block) ≡ held_outcome call block table

module _ (call : Call) (block : List ℕ) where
  pub kept_20 : (length block ≡ block_size → ⊥) → Kept call block (bare 20) block
  kept_20 n = record {
    value = λ table. (left_20 call block table (ne_eqb (length block) block_size n)).0;
    block_after = λ table. (left_20 call block table (ne_eqb (length block) block_size n)).1.0;
  }

  -- the gateway's refusal
  refused : length block ≡ block_size → block_in_range block ≡ true → (k : ℕ) (st : State) → (k ≡ 0 → ⊥) → Silent call block k st → Kept call block (bare k) block
  unfolding silent_of
  refused f r k st n is = record {
    value = λ table. (left_refused call block table f r _ _ _ (is table) refl refl n).0;
    block_after = λ table. (left_refused call block table f r _ _ _ (is table) refl refl n).1.0;
  }

  done : length block ≡ block_size → block_in_range block ≡ true → (b : List ℕ) (st : State) → b ≡ block_of st → Silent call block 0 st → Kept call block (bare 0) b
  unfolding silent_of if_ok
  done f r b st e is = record {
    value = λ table. (left_by call block table f r _ _ _ (is table) refl refl b _ e refl).0;
    block_after = λ table. (left_by call block table f r _ _ _ (is table) refl refl b _ e refl).1.0;
  }

-- ---- add

module _ (block : List ℕ) (address asn : ℕ) where
  abbrev Added : ℕ → List ℕ → Type 0
  Added r b = Kept (add address asn) block r b

  -- what the gateway's add leaves, by its number
  add_is : (k : ℕ) → k ≡ add_answer (state_in block) address asn → Silent (add address asn) block k (with_slot (state_in block) (lowest_free (state_in block)) (newcomer address asn))
  unfolding held_outcome outcome_of as_gateway held add_of
  add_is k e table = ap (λ (n : ℕ). silent_of n (with_slot (state_in block) (lowest_free (state_in block)) (newcomer address asn)) (state_in block)) e

  add_refused : length block ≡ block_size → block_in_range block ≡ true → (k : ℕ) → (k ≡ 0 → ⊥) → k ≡ add_answer (state_in block) address asn → Added (bare k) block
  add_refused f r k n e = refused (add address asn) block f r k _ n (add_is k e)

  module _ (f : length block ≡ block_size) where
    pub add_1 : block_formed block ≡ false → Added (bare 1) block
    unfolding block_formed add_answer
    add_1 h = go (block_in_range block) refl
      where
        go : (b : Bool) → block_in_range block ≡ b → Added (bare 1) block
        go false r = record {
          value = λ table. (left_1 (add address asn) block table (eq-eqb (length block) block_size f) r).0;
          block_after = λ table. (left_1 (add address asn) block table (eq-eqb (length block) block_size f) r).1.0;
        }
        go true r =
            add_refused f r 1 (λ z. absurd (omega (arith, z))) (sym (check_fails (state_formed (state_in block)) 1 _ (rw r at h)))

    module _ (h : block_formed block ≡ true) where
      ranged : block_in_range block ≡ true
      unfolding block_formed
      ranged = and_left (block_in_range block) (state_formed (state_in block)) h

      formed : state_formed (state_in block) ≡ true
      unfolding block_formed
      formed = and_right (block_in_range block) (state_formed (state_in block)) h

      past_1 : (rest : ℕ) → check (state_formed (state_in block)) 1 rest ≡ rest
      past_1 rest = check_holds (state_formed (state_in block)) 1 rest formed

      pub add_16 : good_peer (state_in block).settings address asn ≡ false → Added (bare 16) block
      unfolding add_answer
      add_16 p = add_refused f ranged 16 (λ z. absurd (omega (arith, z))) (sym (past_1 _ ∙ check_fails _ 16 _ (rw p)))

      module _ (p : good_peer (state_in block).settings address asn ≡ true) (i : ℕ) (e : i ≡ slot_of (state_in block) address) where
        pub add_present : i < 8 → Added (bare 16) block
        unfolding add_answer
        add_present q =
            add_refused f ranged 16 (λ z. absurd (omega (arith, z)))
            (sym (past_1 _ ∙ check_fails _ 16 _ (rw (p, lt-ltb (slot_of (state_in block) address) 8 (rw (← e) q)))))

        module _ (q : 8 ≤ i) (free : ℕ) (g : free ≡ lowest_free (state_in block)) where
          past_16 : (rest : ℕ) → check (good_peer (state_in block).settings address asn && not (present (state_in block) address)) 16 rest ≡ rest
          past_16 rest = check_holds _ 16 rest (rw (p, le-ltb (slot_of (state_in block) address) 8 (rw (← e) q)))

          pub add_17 : 8 ≤ free → Added (bare 17) block
          unfolding add_answer
          add_17 k =
              add_refused f ranged 17 (λ z. absurd (omega (arith, z)))
              (sym (past_1 _ ∙ past_16 _ ∙ check_fails (ltb (lowest_free (state_in block)) 8) 17 0 (le-ltb (lowest_free (state_in block)) 8 (rw (← g) k))))

          pub add_done : Octets block → free < 8 → (b : List ℕ) (slot : Slot) → slot ≡ newcomer address asn → b ≡ sets block (slot_start free) (slot_octets slot) → Added (bare 0) b
          unfolding add_answer
          add_done o k b slot s t =
              done (add address asn) block f ranged b (with_slot (state_in block) (lowest_free (state_in block)) (newcomer address asn))
              (t ∙ slot_stored block f o ranged free slot k ∙ rw (g, s))
              (add_is 0 (sym (past_1 _ ∙ past_16 _ ∙ check_holds (ltb (lowest_free (state_in block)) 8) 17 0 (lt-ltb (lowest_free (state_in block)) 8 (rw (← g) k)))))

-- ---- remove

module _ (block : List ℕ) (address : ℕ) where
  abbrev Removed : ℕ → List ℕ → Type 0
  Removed r b = Kept (remove address) block r b

  remove_is : (k : ℕ) → k ≡ remove_answer (state_in block) address → Silent (remove address) block k (with_slot (state_in block) (slot_of (state_in block) address) free_slot)
  unfolding held_outcome outcome_of as_gateway held remove_of
  remove_is k e table = ap (λ (n : ℕ). silent_of n (with_slot (state_in block) (slot_of (state_in block) address) free_slot) (state_in block)) e

  remove_refused : length block ≡ block_size → block_in_range block ≡ true → (k : ℕ) → (k ≡ 0 → ⊥) → k ≡ remove_answer (state_in block) address → Removed (bare k) block
  remove_refused f r k n e = refused (remove address) block f r k _ n (remove_is k e)

  module _ (f : length block ≡ block_size) where
    pub remove_1 : block_formed block ≡ false → Removed (bare 1) block
    unfolding block_formed remove_answer
    remove_1 h = go (block_in_range block) refl
      where
        go : (b : Bool) → block_in_range block ≡ b → Removed (bare 1) block
        go false r = record {
          value = λ table. (left_1 (remove address) block table (eq-eqb (length block) block_size f) r).0;
          block_after = λ table. (left_1 (remove address) block table (eq-eqb (length block) block_size f) r).1.0;
        }
        go true r =
            remove_refused f r 1 (λ z. absurd (omega (arith, z))) (sym (check_fails (state_formed (state_in block)) 1 _ (rw r at h)))

    module _ (h : block_formed block ≡ true) (i : ℕ) (e : i ≡ slot_of (state_in block) address) where
      pub remove_5 : 8 ≤ i → Removed (bare 5) block
      unfolding remove_answer
      remove_5 k =
          remove_refused f (ranged block address address f h) 5 (λ z. absurd (omega (arith, z)))
          (sym (past_1 block address address f h _ ∙ check_fails (ltb (slot_of (state_in block) address) 8) 5 _ (le-ltb (slot_of (state_in block) address) 8 (rw (← e) k))))

      module _ (k : i < 8) (slot : Slot) (s : slot ≡ slot_at (state_in block) i) where
        past_5 : (rest : ℕ) → check (ltb (slot_of (state_in block) address) 8) 5 rest ≡ rest
        past_5 rest = check_holds (ltb (slot_of (state_in block) address) 8) 5 rest (lt-ltb (slot_of (state_in block) address) 8 (rw (← e) k))

        idle_is : is_idle slot.neighbour.phase ≡ is_idle (slot_at (state_in block) (slot_of (state_in block) address)).neighbour.phase
        idle_is = ap (λ (x : Slot). is_idle x.neighbour.phase) (s ∙ ap (slot_at (state_in block)) e)

        pub remove_18 : is_idle slot.neighbour.phase ≡ false → Removed (bare 18) block
        unfolding remove_answer
        remove_18 n =
            remove_refused f (ranged block address address f h) 18 (λ z. absurd (omega (arith, z)))
            (sym (past_1 block address address f h _ ∙ past_5 _ ∙ check_fails _ 18 0 (sym idle_is ∙ n)))

        pub remove_done : Octets block → is_idle slot.neighbour.phase ≡ true → (b : List ℕ) (new : Slot) → new ≡ free_slot → b ≡ sets block (slot_start i) (slot_octets new) → Removed (bare 0) b
        unfolding remove_answer
        remove_done o n b new w t =
            done (remove address) block f (ranged block address address f h) b (with_slot (state_in block) (slot_of (state_in block) address) free_slot)
            (t ∙ slot_stored block f o (ranged block address address f h) i new k ∙ rw (e, w))
            (remove_is 0 (sym (past_1 block address address f h _ ∙ past_5 _ ∙ check_holds _ 18 0 (sym idle_is ∙ n))))

-- ---- fresh

-- octets laid over a buffer of their length
over_all : (xs b : List ℕ) → length xs ≡ length b → over xs b ≡ xs
unfolding over
over_all xs b e = let h : length b ≤ length xs = omega (arith, e) in ap (λ (r : List ℕ). xs ++ r) (drop_of_length-le b h) ∙ append-nil xs

block_long : (st : State) → length st.slots ≡ 8 → length (block_of st) ≡ block_size
unfolding block_of
block_long st e =
    length-append (own_octets st.settings) (slots_octets st.slots) ∙ omega (arith, own_length st.settings, slots_length st.slots, e)

fresh_eight : (g : Settings) → length (fresh_of g).state.slots ≡ 8
unfolding fresh_of silent_of empty_state zero_state free_slots
fresh_eight g = if_ok_holds (fresh_answer g) (empty_state g) zero_state (λ st. length st.slots ≡ 8) (λ e. refl) refl

module _ (g : Settings) (block : List ℕ) where
  abbrev pub Begun : ℕ → List ℕ → Type 0
  Begun r b = record { value : r ≡ fresh_result g block; block_after : b ≡ fresh_block g block }

  pub fresh_20 : (length block ≡ block_size → ⊥) → Begun (bare 20) block
  unfolding fresh_result fresh_block fresh_number
  fresh_20 n =
      let e : check (block_fits block) 20 (fresh_answer g) ≡ 20 = check_fails (block_fits block) 20 _ (ne_eqb (length block) block_size n) in
      record { value = rw e; block_after = sym (if_ok_old _ _ _ (λ z. absurd (omega (arith, sym e ∙ z)))) }

  module _ (f : length block ≡ block_size) (out : Outcome) (is : out ≡ fresh_of g) where
    number : fresh_number g block ≡ out.answer
    unfolding fresh_number fresh_of silent_of
    number = check_holds (block_fits block) 20 _ (eq-eqb (length block) block_size f) ∙ sym (ap (λ (x : Outcome). x.answer) is)

    pub fresh_refused : (k : ℕ) → k ≡ out.answer → (k ≡ 0 → ⊥) → Begun (bare k) block
    unfolding fresh_result fresh_block
    fresh_refused k e n = record { value = rw (e, number); block_after = sym (if_ok_old _ _ _ (λ z. n (e ∙ sym number ∙ z))) }

    pub fresh_done : out.answer ≡ 0 → (b : List ℕ) → b ≡ over (block_of out.state) block → Begun (bare 0) b
    unfolding fresh_result fresh_block
    fresh_done z b e = record {
      value = rw (number, z);
      block_after = e ∙ over_all (block_of out.state) block (rw is (block_long (fresh_of g).state (fresh_eight g)) ∙ sym f) ∙ sym (if_ok_new _ _ _ (number ∙ z) ∙ rw is);
    }
