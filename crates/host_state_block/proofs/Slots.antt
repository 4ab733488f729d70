-- The slots of a block, one by one. Assumes nothing.
use Prim.Native.Nat.{ℕ, zero, suc, ◌+◌, ◌*◌, ◌≤◌, ◌<◌}
use native.Mathlib.Nat.{zero-add}
use native.Mathlib.Omega.{arith}
use mathlib.Core.Path.{◌≡◌, refl, sym, ap, ap₂, ◌∙◌}
use mathlib.Core.Bool.{Bool, true, false, ◌&&◌}
use mathlib.Core.List.{List, [], ◌∷◌, ◌++◌, map}
use lib.ListN.{length, get_or, take, drop, set, length-append, length-drop, take-append-drop}
use lib.Seq.{sets, sets-eq, drop_at, drop-drop, get_or-take, length-take-le}
use borrow.Author.Tests.{leb-true, ne_eqb}
use lib.Dec.{leb, eqb}
use Rattle.std.specs.Prelude.{Result, Ok, Err, MatchResult}
use Rattle.std.specs.Result.{result_unwrap_or}
use Rattle.checks.specs.Lists.{every}
use Rattle.checks.proofs.Laws.{and_left, and_right}
use Rattle.octets.specs.Numbers.{Octets}
use Rattle.neighbour.specs.declared.Phase.{Phase}
use Rattle.neighbour.specs.declared.Phase.TheVariants.{Idle, Acquisition, Down, Up, Cease}
use Rattle.neighbour.specs.declared.Mode.{Mode}
use Rattle.neighbour.specs.declared.Mode.TheVariants.{Unset, Active, Passive}
use Rattle.neighbour.specs.Record.{phase_number, mode_number}
use Rattle.neighbour.specs.declared.Settings.{Settings}
use Rattle.gateway_state.specs.declared.Slot.{Slot}
use Rattle.gateway_state.specs.Slots.{address_of}
use Rattle.gateway_state.specs.Formed.{slot_formed}
use Rattle.host_state_block.specs.Layout.{numbers_at, octets_for}
use Rattle.host_state_block.specs.Block.{slot_fields, slot_size, phase_at, mode_at, slot_numbers, record_of, seconds_of, slot_of, slot_octets, slots_octets, slot_in, slots_in}
use Rattle.host_state_block.specs.Formed.{in_range, all_in_range}
use Rattle.host_state_block.specs.Steps.{part_formed, parts_formed}
use Rattle.host_state_block.proofs.Fields.{octets_total, octets_back}

-- ---- states and modes by number

pub phase_back : (p : Phase) → phase_at (phase_number p) ≡ p
phase_back Idle = refl
phase_back Acquisition = refl
phase_back Down = refl
phase_back Up = refl
phase_back Cease = refl

pub mode_back : (m : Mode) → mode_at (mode_number m) ≡ m
mode_back Unset = refl
mode_back Active = refl
mode_back Passive = refl

phase_number_lem : (n : ℕ) → n ≤ 4 → phase_number (phase_at n) ≡ n
phase_number_lem zero h = refl
phase_number_lem (suc zero) h = refl
phase_number_lem (suc (suc zero)) h = refl
phase_number_lem (suc (suc (suc zero))) h = refl
phase_number_lem (suc (suc (suc (suc zero)))) h = refl
phase_number_lem (suc (suc (suc (suc (suc n))))) h = absurd (omega (arith, h))

mode_number_lem : (n : ℕ) → n ≤ 2 → mode_number (mode_at n) ≡ n
mode_number_lem zero h = refl
mode_number_lem (suc zero) h = refl
mode_number_lem (suc (suc zero)) h = refl
mode_number_lem (suc (suc (suc n))) h = absurd (omega (arith, h))

idle_above : (n : ℕ) → 4 < n → Idle ≡ phase_at n
idle_above n h =
    let other : (k : ℕ) → k ≤ 4 → eqb n k ≡ false = λ k b. ne_eqb n k (λ e. omega (arith, e, b, h)) in
    rw (other 1 (omega arith), other 2 (omega arith), other 3 (omega arith), other 4 (omega arith))

unset_above : (n : ℕ) → 2 < n → Unset ≡ mode_at n
unset_above n h =
    let other : (k : ℕ) → k ≤ 2 → eqb n k ≡ false = λ k b. ne_eqb n k (λ e. omega (arith, e, b, h)) in
    rw (other 1 (omega arith), other 2 (omega arith))

-- as they are read, those of a number that stands for none too
pub phase_read : {E : Type 0} (n : ℕ) (r : Result Phase E) → MatchResult r (λ phase. n ≡ phase_number phase) (λ _. 4 < n) → result_unwrap_or r Idle ≡ phase_at n
phase_read n (Ok p) e = sym (ap phase_at e ∙ phase_back p)
phase_read n (Err x) h = idle_above n h

pub mode_read : {E : Type 0} (n : ℕ) (r : Result Mode E) → MatchResult r (λ mode. n ≡ mode_number mode) (λ _. 2 < n) → result_unwrap_or r Unset ≡ mode_at n
mode_read n (Ok m) e = sym (ap mode_at e ∙ mode_back m)
mode_read n (Err x) h = unset_above n h

-- ---- one slot

pub slot_length : (slot : Slot) → length (slot_octets slot) ≡ slot_size
unfolding slot_octets
slot_length slot = octets_total slot_fields (slot_numbers slot)

pub slot_numbers_back : (part : List ℕ) → in_range part ≡ true → slot_numbers (slot_in part) ≡ numbers_at slot_fields part 0
unfolding in_range slot_numbers slot_in slot_of record_of seconds_of numbers_at
slot_numbers_back part h =
    let p : get_or part 22 0 ≤ 4 = leb-true (get_or part 22 0) 4 (and_left (leb (get_or part 22 0) 4) (leb (get_or part 23 0) 2) h) in
    let m : get_or part 23 0 ≤ 2 = leb-true (get_or part 23 0) 2 (and_right (leb (get_or part 22 0) 4) (leb (get_or part 23 0) 2) h) in
    rw (phase_number_lem (get_or part 22 0) p, mode_number_lem (get_or part 23 0) m)

-- a slot that is read is written back
pub slot_octets_back : (part : List ℕ) → length part ≡ slot_size → Octets part → in_range part ≡ true → slot_octets (slot_in part) ≡ part
unfolding slot_octets
slot_octets_back part e o h = ap (octets_for slot_fields) (slot_numbers_back part h) ∙ octets_back slot_fields part e o

-- ---- all of them

pub octets_take : (n : ℕ) (l : List ℕ) → n ≤ length l → Octets l → Octets (take n l)
octets_take zero l h o i = omega arith
octets_take (suc n) [] h o i = o i
octets_take (suc n) (x ∷ l) h o zero = o 0
octets_take (suc n) (x ∷ l) h o (suc i) = octets_take n l (omega (arith, h)) (λ j. o (suc j)) i

pub octets_drop : (n : ℕ) (l : List ℕ) → Octets l → Octets (drop n l)
octets_drop zero l o i = o i
octets_drop (suc n) [] o i = o i
octets_drop (suc n) (x ∷ l) o i = octets_drop n l (λ j. o (suc j)) i

slot_more : (n : ℕ) → suc n * slot_size ≡ slot_size + n * slot_size
slot_more n = omega arith

pub slots_octets_back : (n : ℕ) (l : List ℕ) → length l ≡ n * slot_size → Octets l → all_in_range n l ≡ true → slots_octets (slots_in n l) ≡ l
unfolding all_in_range slots_in slots_octets
slots_octets_back zero [] e o h = refl
slots_octets_back zero (x ∷ l) e o h = absurd (omega (arith, e))
slots_octets_back (suc n) l e o h =
    let k : slot_size ≤ length l = omega (arith, e) in
    let r : length (drop slot_size l) ≡ n * slot_size = length-drop slot_size l ∙ omega (arith, e) in
    ap₂ (λ (x y : List ℕ). x ++ y)
    (slot_octets_back (take slot_size l) (length-take-le slot_size l k) (octets_take slot_size l k o) (and_left (in_range (take slot_size l)) (all_in_range n (drop slot_size l)) h))
    (slots_octets_back n (drop slot_size l) r (octets_drop slot_size l o) (and_right (in_range (take slot_size l)) (all_in_range n (drop slot_size l)) h))
    ∙ take-append-drop slot_size l

pub slots_length : (slots : List Slot) → length (slots_octets slots) ≡ length slots * slot_size
unfolding slots_octets
slots_length [] = refl
slots_length (slot ∷ rest) =
    length-append (slot_octets slot) (slots_octets rest) ∙ omega (arith, slot_length slot, slots_length rest)

pub slots_count : (n : ℕ) (l : List ℕ) → length (slots_in n l) ≡ n
unfolding slots_in
slots_count zero l = refl
slots_count (suc n) l = ap suc (slots_count n (drop slot_size l))

-- ---- slot i

-- the slot of this index
pub slots_get : (n : ℕ) (l : List ℕ) (i : ℕ) (d : Slot) → i < n → get_or (slots_in n l) i d ≡ slot_in (take slot_size (drop (i * slot_size) l))
unfolding slots_in
slots_get zero l i d h = absurd (omega (arith, h))
slots_get (suc n) l zero d h = refl
slots_get (suc n) l (suc i) d h =
    slots_get n (drop slot_size l) i d (omega (arith, h))
    ∙ ap (λ (x : List ℕ). slot_in (take slot_size x)) (drop-drop (i * slot_size) slot_size l ∙ ap (λ (k : ℕ). drop k l) (sym (slot_more i)))

-- stored behind a front
set_behind : (xs l : List ℕ) (i v : ℕ) → set (xs ++ l) (length xs + i) v ≡ xs ++ set l i v
set_behind [] l i v = ap (λ (k : ℕ). set l k v) (zero-add i)
set_behind (x ∷ xs) l i v =
    let e : suc (length xs) + i ≡ suc (length xs + i) = omega arith in
    rw e (ap (λ (r : List ℕ). x ∷ r) (set_behind xs l i v))

pub sets_behind : (xs l : List ℕ) (i : ℕ) (vs : List ℕ) → sets (xs ++ l) (length xs + i) vs ≡ xs ++ sets l i vs
sets_behind xs l i [] = refl
sets_behind xs l i (v ∷ vs) =
    let e : suc (length xs + i) ≡ length xs + suc i = omega arith in
    rw (set_behind xs l i v, e) (sets_behind xs (set l i v) (suc i) vs)

-- another slot: its octets alone change
pub slots_set : (slots : List Slot) (i : ℕ) (slot : Slot) → i < length slots
    → slots_octets (set slots i slot) ≡ sets (slots_octets slots) (i * slot_size) (slot_octets slot)
unfolding slots_octets
slots_set [] i slot h = absurd (omega (arith, h))
slots_set (x ∷ rest) zero slot h =
    let k : 0 + length (slot_octets slot) ≤ length (slot_octets x ++ slots_octets rest)
    = rw (length-append (slot_octets x) (slots_octets rest)) (omega (arith, slot_length slot, slot_length x)) in
    sym (sets-eq (slot_octets slot) (slot_octets x ++ slots_octets rest) 0 k
    ∙ ap (λ (r : List ℕ). slot_octets slot ++ r)
    (drop_at (slot_octets x) (slots_octets rest) (0 + length (slot_octets slot)) (omega (arith, slot_length slot, slot_length x))))
slots_set (x ∷ rest) (suc i) slot h =
    let e : suc i * slot_size ≡ length (slot_octets x) + i * slot_size = omega (arith, slot_length x) in
    ap (λ (r : List ℕ). slot_octets x ++ r) (slots_set rest i slot (omega (arith, h)))
    ∙ sym (ap (λ (k : ℕ). sets (slot_octets x ++ slots_octets rest) k (slot_octets slot)) e
    ∙ sets_behind (slot_octets x) (slots_octets rest) (i * slot_size) (slot_octets slot))

-- ---- the addresses

pub address_part : (l : List ℕ) → address_of (slot_in (take slot_size l)) ≡ address_of (slot_in l)
unfolding slot_in slot_of numbers_at
address_part l = rw (get_or-take slot_size l 0 0 (omega arith), get_or-take slot_size l 1 0 (omega arith), get_or-take slot_size l 2 0 (omega arith), get_or-take slot_size l 3 0 (omega arith))

-- ---- check 1, slot by slot

swap : (a b c d : Bool) → ((a && b) && (c && d)) ≡ ((a && c) && (b && d))
swap true true c d = refl
swap true false true d = refl
swap true false false d = refl
swap false b c d = refl

pub parts_are : (g : Settings) (n : ℕ) (l : List ℕ) → parts_formed g n l ≡ (all_in_range n l && every (slot_formed g) (slots_in n l))
unfolding parts_formed part_formed all_in_range slots_in every
parts_are g zero l = refl
parts_are g (suc n) l =
    rw (parts_are g n (drop slot_size l))
    (swap (in_range (take slot_size l)) (slot_formed g (slot_in (take slot_size l))) (all_in_range n (drop slot_size l)) (every (slot_formed g) (slots_in n (drop slot_size l))))
