-- The claims about any slot of any state. Assumes nothing.
use Prim.Native.Nat.{ℕ, ◌≤◌, ◌<◌}
use native.Mathlib.Omega.{arith}
use mathlib.Core.Path.{◌≡◌, refl, sym, ◌∙◌, ap}
use mathlib.Core.Bool.{Bool, true, false, cond, ◌||◌}
use lib.ListN.{get_or}
use lib.Dec.{ltb, eqb}
use lib.Seq.{map-set_same}
use borrow.Author.Tests.{eq-eqb, ne_eqb, eqb-true, eqb-false, leb-true, ltb-true, ltb-false, not-true}
use Rattle.checks.proofs.Laws.{and_left, and_right}
use Rattle.checks.specs.Lists.{first, every, distinct}
use Rattle.neighbour.specs.declared.Settings.{Settings}
use Rattle.neighbour.specs.Record.{idle, is_idle, is_up}
use Rattle.neighbour_wellformed.specs.Formed.{all_zero}
use Rattle.neighbour_seconds.specs.declared.Seconds.{Seconds}
use Rattle.neighbour_seconds.specs.Seconds.{seconds_sum, are_none, seconds_formed}
use Rattle.neighbour_seconds.proofs.Laws.{seconds_laws}
use Rattle.gateway_state.specs.declared.Slot.{Slot}
use Rattle.gateway_state.specs.declared.State.{State}
use Rattle.gateway_state.specs.Slots.{free_slot, slot_at, with_slot, address_of, addresses, clash, apart, slot_of}
use Rattle.gateway_state.specs.Formed.{good_settings, good_peer, rows_formed, free_formed, used_formed, slot_formed, state_formed}
use Rattle.gateway_state.specs.Claims.{WrittenSlot, OtherSlots, SlotFound, SlotBelow, SlotUnique, SlotStays, FormedSettings, SlotGood, FormedSlot, FreeIsZero, WithSlotFormed, StepFormed}
use Rattle.gateway_state.proofs.ListLaws.{first_in, first_least, first_bound, every_set, every_get_or, distinct_apart}
use Rattle.gateway_state.proofs.SlotLaws.{
  clash_is,
  clash_used,
  clash_same,
  clash_twice,
  address_at,
  addresses_length,
  slot_set_same,
  slot_set_other,
}
use Rattle.gateway_state.proofs.FormedLaws.{zero_idle, idle_zero}

pub written_slot : WrittenSlot
written_slot = slot_set_same

pub other_slots : OtherSlots
other_slots = slot_set_other

-- ---- the three parts of check 1

module _ (st : State) (f : state_formed st ≡ true) where
  pub formed_settings_test : good_settings st.settings ≡ true
  unfolding state_formed
  formed_settings_test = search (and_left, and_right)

  pub formed_slots : every (slot_formed st.settings) st.slots ≡ true
  unfolding state_formed
  formed_slots = search (and_left, and_right)

  pub formed_distinct : distinct apart (addresses st) ≡ true
  unfolding state_formed
  formed_distinct = search (and_left, and_right)

pub formed_of : (st : State) → good_settings st.settings ≡ true → every (slot_formed st.settings) st.slots ≡ true
    → distinct apart (addresses st) ≡ true → state_formed st ≡ true
unfolding state_formed
formed_of st a b c = rw (a, b, c)

-- ---- look-up

pub slot_found : SlotFound
unfolding slot_of
slot_found st a eight h =
    let e = rw (address_at st (first (clash a) (addresses st))) at (first_in (clash a) (addresses st) 0 (omega (arith, addresses_length st))) in
    record { address = sym (clash_same a _ e); used = clash_used a _ e }

pub slot_below : SlotBelow
unfolding slot_of
slot_below st a eight = omega (arith, first_bound (clash a) (addresses st), addresses_length st)

pub slot_unique : SlotUnique
unfolding slot_of
slot_unique st a i eight f h e n =
    let l = addresses_length st in
    let s = first (clash a) (addresses st) in
    let c : clash a (get_or (addresses st) i 0) ≡ true = rw (address_at st i) (clash_is a _ n (sym e)) in
    let least : s ≤ i = first_least (clash a) (addresses st) 0 i c in
    let found : clash a (get_or (addresses st) s 0) ≡ true = first_in (clash a) (addresses st) 0 (omega arith) in
    go s i least (ltb s i) refl (λ k. clash_twice a _ _ found c (distinct_apart apart (addresses st) 0 s i (formed_distinct st f) k (omega arith)))
  where
    go : (s i : ℕ) → s ≤ i → (b : Bool) → ltb s i ≡ b → (s < i → ⊥) → s ≡ i
    go s i h true e n = absurd (n (ltb-true s i e))
    go s i h false e n = omega (arith, ltb-false s i e)

pub addresses_stay : (st : State) (i : ℕ) (slot : Slot) → slot.address ≡ (slot_at st i).address → addresses (with_slot st i slot) ≡ addresses st
unfolding addresses with_slot slot_at
addresses_stay st i slot e = map-set_same address_of st.slots i slot free_slot e

pub slot_stays : SlotStays
unfolding slot_of
slot_stays st i slot a e = ap (first (clash a)) (addresses_stay st i slot e)

-- ---- what check 1 says

pub formed_settings : FormedSettings
unfolding good_settings
formed_settings st f =
    let e = formed_settings_test st f in
    record {
      asn = eqb-false st.settings.asn 0 (not-true _ (search (and_left, and_right)));
      capability = leb-true _ _ (search (and_left, and_right));
      quiet = leb-true _ _ (search (and_left, and_right));
      net = search (and_left, and_right);
      own = search (and_left, and_right);
    }

pub free_slot_formed : (g : Settings) → slot_formed g free_slot ≡ true
unfolding slot_formed free_formed free_slot idle all_zero are_none seconds_sum
free_slot_formed g = refl

pub slot_formed_lem : (st : State) (i : ℕ) → state_formed st ≡ true → slot_formed st.settings (slot_at st i) ≡ true
unfolding slot_at
slot_formed_lem st i f = every_get_or (slot_formed st.settings) st.slots i free_slot (formed_slots st f) (free_slot_formed st.settings)

none_formed : (s : Seconds) → are_none s ≡ true → seconds_formed s ≡ true
unfolding are_none seconds_formed
none_formed s e = rw (eqb-true (seconds_sum s) 0 e)

free_slot_good : (slot : Slot) → free_formed slot ≡ true → SlotGood slot
unfolding free_formed
free_slot_good slot e =
    let i : is_idle slot.neighbour.phase ≡ true = search (and_left, and_right) in
    let z : all_zero slot.neighbour ≡ true = search (and_left, and_right) in
    let r : slot.rows ≡ 0 = eqb-true _ _ (search (and_left, and_right)) in
    let s : are_none slot.seconds ≡ true = search (and_left, and_right) in
    record { neighbour = idle_zero slot.neighbour i ∙ z; few = omega arith; none = λ _. r; seconds = none_formed slot.seconds s }

used_slot_good : (g : Settings) (slot : Slot) → used_formed g slot ≡ true → SlotGood slot
unfolding used_formed rows_formed
used_slot_good g slot e =
    let u : (is_up slot.neighbour.phase || eqb slot.rows 0) ≡ true = search (and_left, and_right) in
    record {
      neighbour = search (and_left, and_right);
      few = leb-true _ _ (search (and_left, and_right));
      none = λ d. eqb-true slot.rows 0 (rw d at u);
      seconds = search (and_left, and_right);
    }

slot_good : (g : Settings) (slot : Slot) → slot_formed g slot ≡ true → SlotGood slot
unfolding slot_formed
slot_good g slot e = go (eqb slot.address 0) e
  where
    go : (b : Bool) → cond b (free_formed slot) (used_formed g slot) ≡ true → SlotGood slot
    go true q = free_slot_good slot q
    go false q = used_slot_good g slot q

pub formed_slot : FormedSlot
formed_slot st i f = (slot_formed_lem st i f, slot_good st.settings (slot_at st i) (slot_formed_lem st i f))

free_is : (slot : Slot) → slot.address ≡ 0 → free_formed slot ≡ true → slot ≡ free_slot
unfolding free_formed free_slot
free_is slot a e =
    let i : is_idle slot.neighbour.phase ≡ true = search (and_left, and_right) in
    let z : all_zero slot.neighbour ≡ true = search (and_left, and_right) in
    let asn : slot.asn ≡ 0 = eqb-true _ _ (search (and_left, and_right)) in
    let rows : slot.rows ≡ 0 = eqb-true _ _ (search (and_left, and_right)) in
    let s : are_none slot.seconds ≡ true = search (and_left, and_right) in
    λ k. record { address = a k; asn = asn k; neighbour = zero_idle slot.neighbour i z k; rows = rows k; seconds = seconds_laws.zero slot.seconds s k }

pub free_is_zero : FreeIsZero
unfolding slot_formed
free_is_zero st i f a = free_is (slot_at st i) a (rw (eq-eqb (slot_at st i).address 0 a) at (slot_formed_lem st i f))

-- ---- writing a slot

-- the addresses are judged apart
pub written_formed : (st : State) (i : ℕ) (slot : Slot) → state_formed st ≡ true → slot_formed st.settings slot ≡ true
    → distinct apart (addresses (with_slot st i slot)) ≡ true → state_formed (with_slot st i slot) ≡ true
unfolding with_slot
written_formed st i slot f s d =
    formed_of (with_slot st i slot) (formed_settings_test st f) (every_set (slot_formed st.settings) st.slots i slot (formed_slots st f) s) d

pub with_slot_formed : WithSlotFormed
with_slot_formed st i slot f a s =
    written_formed st i slot f s (rw (addresses_stay st i slot a) (formed_distinct st f))

pub step_formed : StepFormed
unfolding slot_formed used_formed
step_formed st a slot eight f h p q n r s =
    let used = slot_found st a eight h in
    let z : (slot_at st (slot_of st a)).address ≡ 0 → ⊥ = λ e. used.used (sym used.address ∙ e) in
    let old : used_formed st.settings (slot_at st (slot_of st a)) ≡ true = rw (ne_eqb (slot_at st (slot_of st a)).address 0 z) at (slot_formed_lem st (slot_of st a) f) in
    let peer : good_peer st.settings (slot_at st (slot_of st a)).address (slot_at st (slot_of st a)).asn ≡ true = search (and_left, and_right) in
    with_slot_formed st (slot_of st a) slot f p (rw (p, q, ne_eqb (slot_at st (slot_of st a)).address 0 z, peer, n, r, s))
