-- The claims about fresh, add and remove. Assumes nothing.
use Prim.Native.Nat.{ℕ, ◌≤◌, ◌<◌}
use native.Mathlib.Omega.{arith}
use mathlib.Core.Path.{◌≡◌, refl, sym, ◌∙◌, ap}
use mathlib.Core.Bool.{Bool, true, false, not, ◌&&◌}
use lib.ListN.{length, get_or}
use lib.Dec.{ltb, eqb}
use borrow.Author.Tests.{eq-eqb, ne_eqb, eqb-true, eqb-false, lt-ltb, ltb-true, ltb-false, not-true}
use Rattle.checks.proofs.Laws.{and_left, and_right, check_passed, check_holds, if_ok_new, if_ok_old, if_ok_holds}
use Rattle.checks.specs.Checks.{check}
use Rattle.checks.specs.Lists.{first, every, distinct}
use Rattle.neighbour.specs.declared.Settings.{Settings}
use Rattle.neighbour.specs.Record.{idle, is_up}
use Rattle.gateway_state.specs.declared.Slot.{Slot}
use Rattle.neighbour_seconds.specs.Seconds.{no_seconds, seconds_sum, seconds_formed}
use Rattle.gateway_state.specs.declared.State.{State}
use Rattle.gateway_state.specs.declared.Outcome.{Outcome}
use Rattle.gateway_state.specs.Slots.{newcomer, free_slot, slot_at, with_slot, address_of, addresses, clash, apart, slot_of, present, is_none, lowest_free}
use Rattle.gateway_state.specs.Formed.{good_settings, good_peer, rows_formed, used_formed, slot_formed, state_formed}
use Rattle.gateway_state.specs.Outcomes.{refused_of, silent_of}
use Rattle.gateway_state.proofs.ListLaws.{first_in, first_before, first_least, first_none, every_always, map_set, distinct_set}
use Rattle.gateway_state.proofs.SlotLaws.{clash_zero, apart_both, address_at, addresses_length, slot_set_same, slot_set_other, slots_length}
use Rattle.gateway_state.proofs.FormedLaws.{idle_formed_lem}
use Rattle.gateway_state.proofs.Theorems.{slot_found, slot_unique, free_slot_formed, formed_of, formed_distinct, free_is_zero, written_formed}
use Rattle.gateway_slots.specs.Calls.{free_slots, empty_state, zero_state, fresh_answer, fresh_of, add_answer, add_of, remove_answer, remove_of}
use Rattle.gateway_slots.proofs.CallLaws.{fresh_16, fresh_done}
use Rattle.gateway_slots.specs.Claims.{ZeroNotFormed, Fresh, Keeps, Added, Add, Removed, Remove, AddAgain, AddFull}

-- ---- a call that never replies

silent_keeps : (answer : ℕ) (new st : State) → (answer ≡ 0 → state_formed st ≡ true → state_formed new ≡ true) → new.settings ≡ st.settings
    → length new.slots ≡ 8 → length st.slots ≡ 8 → Keeps st (silent_of answer new st)
unfolding silent_of refused_of
silent_keeps answer new st f g n e =
    record {
      formed = λ h. if_ok_holds answer new st (λ s. state_formed s ≡ true) (λ z. f z h) h;
      refused = λ z. rw (if_ok_old answer new st z);
      settings = if_ok_holds answer new st (λ s. s.settings ≡ st.settings) (λ _. g) refl;
      eight = if_ok_holds answer new st (λ s. length s.slots ≡ 8) (λ _. n) e;
    }

silent_answer : (answer : ℕ) (new old : State) → (silent_of answer new old).answer ≡ answer
unfolding silent_of
silent_answer answer new old = refl

silent_state : (answer : ℕ) (new old : State) → answer ≡ 0 → (silent_of answer new old).state ≡ new
unfolding silent_of
silent_state answer new old z = if_ok_new answer new old z

settings_stay : (st : State) (i : ℕ) (slot : Slot) → (with_slot st i slot).settings ≡ st.settings
unfolding with_slot
settings_stay st i slot = refl

-- ---- fresh

pub zero_not_formed : ZeroNotFormed
unfolding state_formed good_settings zero_state empty_state
zero_not_formed = refl

pub empty_formed : (g : Settings) → good_settings g ≡ true → state_formed (empty_state g) ≡ true
unfolding empty_state free_slots every distinct addresses free_slot clash
empty_formed g e = formed_of (empty_state g) e (rw (free_slot_formed g)) refl

fresh_eight : (g : Settings) → length (empty_state g).slots ≡ 8
unfolding empty_state free_slots
fresh_eight g = refl

zero_eight : length zero_state.slots ≡ 8
unfolding zero_state
zero_eight = fresh_eight _

fresh_refused : (g : Settings) → ((fresh_of g).answer ≡ 0 → ⊥) → fresh_of g ≡ refused_of zero_state 16
fresh_refused g n = go (good_settings g) refl
  where
    go : (b : Bool) → good_settings g ≡ b
        → fresh_of g ≡ refused_of zero_state 16
    go false e = sym (fresh_16 g e)
    go true e = absurd (n (ap (λ (o : Outcome). o.answer) (sym (fresh_done g e)) ∙ silent_answer 0 _ _))

pub fresh_claim : Fresh
unfolding fresh_of silent_of fresh_answer
fresh_claim g =
    let new = if_ok_new (check (good_settings g) 16 0) (empty_state g) zero_state in
    record {
      formed = λ z. rw (new z) (empty_formed g (check_passed (good_settings g) 16 0 refl z).0);
      given = new;
      refused = fresh_refused g;
      eight = if_ok_holds (check (good_settings g) 16 0) (empty_state g) zero_state (λ s. length s.slots ≡ 8) (λ _. fresh_eight g) zero_eight;
    }

-- ---- add

-- what add found where it was carried out
record Passed (st : State) (address asn : ℕ) : Type 0 where
  formed : state_formed st ≡ true
  peer : good_peer st.settings address asn ≡ true
  absent : 8 ≤ slot_of st address
  room : lowest_free st < 8

add_passed : (st : State) (address asn : ℕ) → add_answer st address asn ≡ 0 → Passed st address asn
unfolding add_answer
add_passed st address asn z =
    let a = check_passed (state_formed st) 1 _ refl z in
    let b = check_passed (good_peer st.settings address asn && not (present st address)) 16 _ refl a.1 in
    let c = check_passed (ltb (lowest_free st) 8) 17 0 refl b.1 in
    record {
      formed = a.0;
      peer = and_left (good_peer st.settings address asn) (not (present st address)) b.0;
      absent = ltb-false (slot_of st address) 8 (not-true (present st address) (and_right (good_peer st.settings address asn) (not (present st address)) b.0));
      room = ltb-true (lowest_free st) 8 c.0;
    }

idle_not_up : is_up idle.phase ≡ false
unfolding idle
idle_not_up = refl

none_formed : seconds_formed no_seconds ≡ true
unfolding seconds_formed seconds_sum
none_formed = refl

newcomer_formed : (g : Settings) (address asn : ℕ) → good_peer g address asn ≡ true → (address ≡ 0 → ⊥) → slot_formed g (newcomer address asn) ≡ true
unfolding slot_formed used_formed rows_formed
newcomer_formed g address asn p n = rw (ne_eqb address 0 n, p, idle_formed_lem, idle_not_up, none_formed)

peer_used : (g : Settings) (address asn : ℕ) → good_peer g address asn ≡ true → address ≡ 0 → ⊥
unfolding good_peer
peer_used g address asn p = eqb-false address 0 (not-true (eqb address 0) (search (and_left, and_right)))

-- a slot that is written with an address that is not there
distinct_written : (st : State) (i : ℕ) (slot : Slot) → distinct apart (addresses st) ≡ true → every (apart slot.address) (addresses st) ≡ true
    → distinct apart (addresses (with_slot st i slot)) ≡ true
unfolding addresses with_slot
distinct_written st i slot d e =
    rw (map_set address_of st.slots i slot) (distinct_set apart slot.address (apart_both slot.address) (addresses st) i d e)

absent_apart : (st : State) (a : ℕ) → length st.slots ≡ 8 → 8 ≤ slot_of st a → every (apart a) (addresses st) ≡ true
unfolding slot_of
absent_apart st a eight h = first_none (clash a) (addresses st) (omega (arith, addresses_length st))

added_formed : (st : State) (address asn : ℕ) → length st.slots ≡ 8 → Passed st address asn
    → state_formed (with_slot st (lowest_free st) (newcomer address asn)) ≡ true
added_formed st address asn eight p =
    written_formed st (lowest_free st) (newcomer address asn) p.formed
    (newcomer_formed st.settings address asn p.peer (peer_used st.settings address asn p.peer))
    (distinct_written st (lowest_free st) (newcomer address asn) (formed_distinct st p.formed) (absent_apart st address eight p.absent))

lowest_free_is : (st : State) → length st.slots ≡ 8 → lowest_free st < 8 → (slot_at st (lowest_free st)).address ≡ 0
unfolding lowest_free
lowest_free_is st eight h =
    eqb-true _ 0 (rw (address_at st (first is_none (addresses st))) at (first_in is_none (addresses st) 0 (omega (arith, addresses_length st))))

lower_used : (st : State) (j : ℕ) → j < lowest_free st → (slot_at st j).address ≡ 0 → ⊥
unfolding lowest_free
lower_used st j h = eqb-false _ 0 (rw (address_at st j) at (first_before is_none (addresses st) 0 j h))

newcomer_address : (address asn : ℕ) → (newcomer address asn).address ≡ address
newcomer_address address asn = refl

add_answer_lem : (st : State) (address asn : ℕ) → (add_of st address asn).answer ≡ add_answer st address asn
unfolding add_of silent_of
add_answer_lem st address asn = refl

added : (st : State) (address asn : ℕ) → length st.slots ≡ 8 → add_answer st address asn ≡ 0 → Added st address asn
unfolding add_of
added st address asn eight z =
    let p = add_passed st address asn z in
    let i = lowest_free st in
    let new = with_slot st i (newcomer address asn) in
    let s : (add_of st address asn).state ≡ new = silent_state (add_answer st address asn) new st z in
    let same : slot_at new i ≡ newcomer address asn = slot_set_same st i (newcomer address asn) (omega (arith, p.room)) in
    record {
      below = p.room;
      free = free_is_zero st i p.formed (lowest_free_is st eight p.room);
      lowest = lower_used st;
      newest = rw s same;
      others = λ j n. rw s (slot_set_other st i j (newcomer address asn) n);
      found =
          rw s (slot_unique new address i (slots_length st i (newcomer address asn) ∙ eight) (added_formed st address asn eight p) p.room
          (ap address_of same ∙ newcomer_address address asn) (peer_used st.settings address asn p.peer));
    }

pub add_claim : Add
unfolding add_of
add_claim st address asn eight =
    let i = lowest_free st in
    let s = newcomer address asn in (
      silent_keeps (add_answer st address asn) (with_slot st i s) st (λ z _. added_formed st address asn eight (add_passed st address asn z))
          (settings_stay st i s) (slots_length st i s ∙ eight) eight,
      λ z. added st address asn eight (sym (add_answer_lem st address asn) ∙ z),
    )

-- ---- remove

-- what remove found where it was carried out
record RemovePassed (st : State) (address : ℕ) : Type 0 where
  formed : state_formed st ≡ true
  found : slot_of st address < 8

remove_passed : (st : State) (address : ℕ) → remove_answer st address ≡ 0 → RemovePassed st address
unfolding remove_answer
remove_passed st address z =
    let a = check_passed (state_formed st) 1 _ refl z in
    let b = check_passed (present st address) 5 _ refl a.1 in
    record { formed = a.0; found = ltb-true (slot_of st address) 8 b.0 }

free_address : free_slot.address ≡ 0
unfolding free_slot
free_address = refl

-- a slot may be freed in any well-formed state
pub freed_formed : (st : State) (i : ℕ) → state_formed st ≡ true → state_formed (with_slot st i free_slot) ≡ true
freed_formed st i f =
    written_formed st i free_slot f (free_slot_formed st.settings)
    (distinct_written st i free_slot (formed_distinct st f) (every_always (apart free_slot.address) (λ b. rw (clash_zero free_slot.address b free_address)) (addresses st)))

-- the address that stood in a slot of a well-formed state stood in no other
gone : (st : State) (address : ℕ) → length st.slots ≡ 8 → RemovePassed st address
    → slot_of (with_slot st (slot_of st address) free_slot) address < 8 → ⊥
gone st address eight p h =
    let i = slot_of st address in
    let new = with_slot st i free_slot in
    let j = slot_of new address in
    let f = slot_found new address (slots_length st i free_slot ∙ eight) h in
    let n : j ≡ i → ⊥ = λ e. f.used (sym f.address ∙ ap (λ (k : ℕ). (slot_at new k).address) e ∙ ap address_of (slot_set_same st i free_slot (omega (arith, p.found))) ∙ free_address) in
    n (sym (slot_unique st address j eight p.formed h (ap address_of (sym (slot_set_other st i j free_slot n)) ∙ f.address) f.used))

not_below : (k : ℕ) → (k < 8 → ⊥) → ltb k 8 ≡ false
not_below k n = go (ltb k 8) refl
  where
    go : (b : Bool) → ltb k 8 ≡ b → ltb k 8 ≡ false
    go false e = e
    go true e = absurd (n (ltb-true k 8 e))

remove_answer_lem : (st : State) (address : ℕ) → (remove_of st address).answer ≡ remove_answer st address
unfolding remove_of silent_of
remove_answer_lem st address = refl

removed : (st : State) (address : ℕ) → length st.slots ≡ 8 → remove_answer st address ≡ 0 → Removed st address
unfolding remove_of
removed st address eight z =
    let p = remove_passed st address z in
    let i = slot_of st address in
    let new = with_slot st i free_slot in
    let s : (remove_of st address).state ≡ new = silent_state (remove_answer st address) new st z in
    record {
      below = p.found;
      freed = rw s (slot_set_same st i free_slot (omega (arith, p.found)));
      others = λ j n. rw s (slot_set_other st i j free_slot n);
      gone = rw s (not_below (slot_of new address) (gone st address eight p));
    }

pub remove_claim : Remove
unfolding remove_of
remove_claim st address eight =
    let i = slot_of st address in (
      silent_keeps (remove_answer st address) (with_slot st i free_slot) st (λ _. freed_formed st i)
          (settings_stay st i free_slot) (slots_length st i free_slot ∙ eight) eight,
      λ z. removed st address eight (sym (remove_answer_lem st address) ∙ z),
    )

-- ---- the check that a refusal names

-- a chain that answers a number passed each check that names another
check_named : {P : Type 0} (ok : Bool) (number rest n : ℕ) → eqb number n ≡ false → check ok number rest ≡ n → (rest ≡ n → P) → P
unfolding check
check_named true number rest n d e f = f e
check_named false number rest n d e f = absurd (eqb-false number n d e)

check_last : (ok : Bool) (number : ℕ) → check ok number 0 ≡ number → eqb number 0 ≡ false → ok ≡ false
unfolding check
check_last true number e d = absurd (eqb-false number 0 d (sym e))
check_last false number e d = refl

-- ---- add after remove, and a full gateway

free_first : (st : State) (i : ℕ) → (slot_at st i).address ≡ 0 → lowest_free st ≤ i
unfolding lowest_free
free_first st i e = first_least is_none (addresses st) 0 i (eq-eqb (get_or (addresses st) i 0) 0 (address_at st i ∙ e))

add_answers : (st : State) (address asn : ℕ) → state_formed st ≡ true → good_peer st.settings address asn ≡ true → present st address ≡ false
    → lowest_free st < 8 → add_answer st address asn ≡ 0
unfolding add_answer
add_answers st address asn f p a r =
    check_holds _ 1 _ f ∙ check_holds _ 16 _ (rw (p, a)) ∙ check_holds _ 17 _ (lt-ltb (lowest_free st) 8 r)

pub add_again : AddAgain
add_again st address asn eight z p =
    let k = remove_claim st address eight in
    let r = k.1 z in
    let new = (remove_of st address).state in
    let q : remove_answer st address ≡ 0 = sym (remove_answer_lem st address) ∙ z in
    let low : lowest_free new ≤ slot_of st address = free_first new (slot_of st address) (ap address_of r.freed ∙ free_address) in
    add_answer_lem new address asn
    ∙ add_answers new address asn (k.0.formed (remove_passed st address q).formed) (rw k.0.settings p) r.gone (omega (arith, r.below))

full : (st : State) (address asn : ℕ) → add_answer st address asn ≡ 17 → 8 ≤ lowest_free st
unfolding add_answer
full st address asn e =
    check_named (state_formed st) 1 _ 17 refl e (λ e₁.
    check_named (good_peer st.settings address asn && not (present st address)) 16 _ 17 refl e₁ (λ e₂.
    ltb-false (lowest_free st) 8 (check_last (ltb (lowest_free st) 8) 17 e₂ refl)))

pub add_full : AddFull
add_full st address asn e j h =
    lower_used st j (omega (arith, full st address asn (sym (add_answer_lem st address asn) ∙ e)))
