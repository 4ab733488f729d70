-- Laws of the slots and of the loops over them. Assumes nothing.
use Prim.Native.Nat.{ℕ, ◌+◌, ◌≤◌, ◌<◌}
use native.Mathlib.Omega.{arith}
use mathlib.Core.Path.{◌≡◌, refl, sym, ◌∙◌}
use mathlib.Core.Bool.{Bool, true, false, not, ◌&&◌, false≢true}
use lib.ListN.{length, drop, get_or, length-map, length-set, get_or-map, get_or-eq_default}
use lib.Dec.{eqb}
use lib.Seq.{set_out, set-get_or, get_or-set_same, get_or-set_other}
use borrow.Author.Tests.{eq-eqb, ne_eqb, eqb-true, eqb-false, not-true}
use Rattle.checks.proofs.Laws.{and_left, and_right}
use Rattle.checks.specs.Lists.{first, every, distinct}
use Rattle.gateway_state.specs.declared.Slot.{Slot}
use Rattle.gateway_state.specs.declared.State.{State}
use Rattle.gateway_state.specs.Slots.{free_slot, slot_at, with_slot, address_of, addresses, clash, apart, slot_of}
use Rattle.gateway_state.proofs.ListLaws.{first_here, first_next, first_end, every_here, every_next, every_end, distinct_here, distinct_next, distinct_end, first_never, every_always}

pub clash_is : (a b : ℕ) → (a ≡ 0 → ⊥) → a ≡ b → clash a b ≡ true
unfolding clash
clash_is a b n e = rw (ne_eqb a 0 n, eq-eqb a b e)

pub clash_not : (a b : ℕ) → (a ≡ b → ⊥) → clash a b ≡ false
unfolding clash
clash_not a b n = go (eqb a 0)
  where
    go : (t : Bool) → (not t && eqb a b) ≡ false
    go true = refl
    go false = ne_eqb a b n

pub clash_zero : (a b : ℕ) → a ≡ 0 → clash a b ≡ false
unfolding clash
clash_zero a b e = rw (eq-eqb a 0 e)

pub clash_used : (a b : ℕ) → clash a b ≡ true → a ≡ 0 → ⊥
unfolding clash
clash_used a b e = eqb-false a 0 (not-true (eqb a 0) (and_left (not (eqb a 0)) (eqb a b) e))

pub clash_same : (a b : ℕ) → clash a b ≡ true → a ≡ b
unfolding clash
clash_same a b e = eqb-true a b (and_right (not (eqb a 0)) (eqb a b) e)

pub apart_both : (a b : ℕ) → apart a b ≡ true → apart b a ≡ true
apart_both a b e = go (clash b a) refl
  where
    go : (t : Bool) → clash b a ≡ t → not t ≡ true
    go false q = refl
    go true q =
        absurd (false≢true (sym (not-true (clash a b) e)
        ∙ clash_is a b (λ z. clash_used b a q (clash_same b a q ∙ z)) (sym (clash_same b a q))))

pub clash_twice : (a b c : ℕ) → clash a b ≡ true → clash a c ≡ true → apart b c ≡ true → ⊥
clash_twice a b c p q r =
    false≢true (sym (not-true (clash b c) r)
    ∙ clash_is b c (λ z. clash_used a b p (clash_same a b p ∙ z)) (sym (clash_same a b p) ∙ clash_same a c q))

module _ (st : State) where
  pub address_at : (i : ℕ) → get_or (addresses st) i 0 ≡ (slot_at st i).address
  unfolding addresses slot_at free_slot
  address_at i = get_or-map address_of st.slots i free_slot

  pub addresses_length : length (addresses st) ≡ length st.slots
  unfolding addresses
  addresses_length = length-map st.slots address_of

  -- a slot that is written is read back, and no other changes
  pub slot_set_same : (i : ℕ) (slot : Slot) → i < length st.slots → slot_at (with_slot st i slot) i ≡ slot
  unfolding slot_at with_slot
  slot_set_same i slot h = get_or-set_same st.slots i slot free_slot h

  pub slot_set_other : (i j : ℕ) (slot : Slot) → (j ≡ i → ⊥) → slot_at (with_slot st i slot) j ≡ slot_at st j
  unfolding slot_at with_slot
  slot_set_other i j slot n = get_or-set_other st.slots i j slot free_slot n

  -- a slot that is written as it was read changes nothing
  pub same_slot_lem : (i : ℕ) → with_slot st i (slot_at st i) ≡ st
  unfolding with_slot slot_at
  same_slot_lem i = λ k. record { settings = st.settings; slots = set-get_or st.slots i free_slot k }

  -- past the last slot there is nothing: a free slot is read, and nothing is written
  pub slot_past : (i : ℕ) → length st.slots ≡ 8 → 8 ≤ i → free_slot ≡ slot_at st i
  unfolding slot_at
  slot_past i eight h = sym (get_or-eq_default st.slots free_slot (omega (arith, eight, h)))

  pub with_past : (i : ℕ) (slot : Slot) → length st.slots ≡ 8 → 8 ≤ i → st ≡ with_slot st i slot
  unfolding with_slot
  with_past i slot eight h = λ k. record { settings = st.settings; slots = sym (set_out st.slots i slot (omega (arith, eight, h))) k }

  pub slots_length : (i : ℕ) (slot : Slot) → length (with_slot st i slot).slots ≡ length st.slots
  unfolding with_slot
  slots_length i slot = length-set st.slots i slot

-- the loops over the slots: what the whole gives is what the rest gives
module _ (st : State) (eight : length st.slots ≡ 8) where
  long : (i : ℕ) → i < 8 → i < length (addresses st)
  long i h = omega (arith, addresses_length st)

  short : (i : ℕ) → 8 ≤ i → length (addresses st) ≤ i
  short i h = omega (arith, addresses_length st)

  module _ (p : ℕ → Bool) (i : ℕ) (inv : first p (addresses st) ≡ i + first p (drop i (addresses st))) where
    pub find_here : i < 8 → p (slot_at st i).address ≡ true → i ≡ first p (addresses st)
    find_here h e = omega (arith, first_here p (addresses st) i 0 (long i h) (rw (address_at st i) e))

    pub find_next : i < 8 → p (slot_at st i).address ≡ false → first p (addresses st) ≡ i + 1 + first p (drop (i + 1) (addresses st))
    find_next h e = omega (arith, first_next p (addresses st) i 0 (long i h) (rw (address_at st i) e))

    pub find_end : 8 ≤ i → i ≡ first p (addresses st)
    find_end h = omega (arith, first_end p (addresses st) i (short i h))

  pub find_zero : (a : ℕ) → a ≡ 0 → 8 ≡ slot_of st a
  unfolding slot_of
  find_zero a z = sym (first_never (clash a) (λ b. clash_zero a b z) (addresses st) ∙ addresses_length st ∙ eight)

  module _ (a i : ℕ) where
    pub apart_here : i < 8 → clash a (slot_at st i).address ≡ true → every (apart a) (drop i (addresses st)) ≡ false
    apart_here h e = every_here (apart a) (addresses st) i 0 (long i h) (rw (address_at st i, e))

    pub apart_next : i < 8 → clash a (slot_at st i).address ≡ false → every (apart a) (drop i (addresses st)) ≡ every (apart a) (drop (i + 1) (addresses st))
    apart_next h e = every_next (apart a) (addresses st) i 0 (long i h) (rw (address_at st i, e))

    pub apart_end : 8 ≤ i → every (apart a) (drop i (addresses st)) ≡ true
    apart_end h = every_end (apart a) (addresses st) i (short i h)

  pub apart_zero : (a i : ℕ) → a ≡ 0 → every (apart a) (drop i (addresses st)) ≡ true
  apart_zero a i z = every_always (apart a) (λ b. rw (clash_zero a b z)) (drop i (addresses st))

  module _ (i : ℕ) where
    pub distinct_slot_here : i < 8 → every (apart (slot_at st i).address) (drop (i + 1) (addresses st)) ≡ false
        → distinct apart (drop i (addresses st)) ≡ false
    distinct_slot_here h e = distinct_here apart (addresses st) i 0 (long i h) (rw (address_at st i) e)

    pub distinct_slot_next : i < 8 → every (apart (slot_at st i).address) (drop (i + 1) (addresses st)) ≡ true
        → distinct apart (drop i (addresses st)) ≡ distinct apart (drop (i + 1) (addresses st))
    distinct_slot_next h e = distinct_next apart (addresses st) i 0 (long i h) (rw (address_at st i) e)

    pub distinct_slot_end : 8 ≤ i → distinct apart (drop i (addresses st)) ≡ true
    distinct_slot_end h = distinct_end apart (addresses st) i (short i h)
